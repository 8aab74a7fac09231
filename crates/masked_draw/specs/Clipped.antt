-- How far a sprite is seen by the clips that were taken, and what the masked columns of a fragment have in common.
use Rattle.std.specs.Prelude.{◌≡◌, ◌<◌, ◌⊎◌, ◌+◌, ◌-◌, ◌≤ℤ◌, ◌==◌, ◌&&◌, ℕ, ℤ, pos, bit_and, int_lt, not, Bool, cond, List, length, ⊤, Option, Some, None, unwrap_or, slice_index_or}
use Rattle.masked_draw.specs.Rules.{Absent, Clip, Constant, Drawseg, FragmentNote, SIL_BOTTOM, SIL_TOP, Saved, SpriteEntry, gives_bottom, gives_top, greatest_clip, least_clip, minus_one, sprite_bottom, sprite_top}
use Rattle.masked_draw.specs.declared.clips.SpriteClips.{SpriteClips}
use Rattle.masked_draw.specs.declared.middles.Middle.{Middle}
use Rattle.masked_draw.specs.{declared.scene.MaskScene.MaskScene, Lists.middle_by}
use Rattle.masked_draw.specs.Scenes.{scene_drawseg, scene_lists}

-- the clip of a fragment has its row at column x among the openings
abbrev pub HasRow : List ℤ → ℕ → Clip → ℕ → Type 0
HasRow openings first Absent x = ⊤
HasRow openings first (Constant row) x = ⊤
HasRow openings first (Saved place) x = place + (x - first) < length openings

-- the note clips the sprite at its bottom, or at its top
abbrev pub clips_bottom : FragmentNote → SpriteEntry → Bool
clips_bottom d e = not (bit_and d.silhouette SIL_BOTTOM == 0) && int_lt e.gz d.bottom_height

abbrev pub clips_top : FragmentNote → SpriteEntry → Bool
clips_top d e = not (bit_and d.silhouette SIL_TOP == 0) && int_lt d.top_height e.gzt

-- the row that was taken in column x, if any
abbrev pub row_in : List (Option ℤ) → ℕ → Option ℤ
row_in rows x = slice_index_or rows x None

-- a column to the left of these, or to the right
abbrev pub IsBeside : ℕ → ℕ → ℕ → Type 0
IsBeside first last x = (x < first) ⊎ (last < x)

-- a row is taken where none was and the test holds
abbrev pub row_after : Bool → ℤ → Option ℤ → Option ℤ
row_after gives row None = cond gives (Some row) None
row_after gives row (Some before) = Some before

-- the rows between which a sprite is seen in column x
abbrev pub top_at : SpriteClips → ℕ → ℤ
top_at clips x = unwrap_or (row_in clips.tops x) minus_one

abbrev pub bottom_at : SpriteClips → ℕ → ℕ → ℤ
bottom_at clips height x = unwrap_or (row_in clips.bottoms x) (pos height)

-- they keep to the view in column x
pub record AreRowsAt (clips : SpriteClips) (height x : ℕ) : Type 0 where
  pub least_top : minus_one ≤ℤ top_at clips x
  pub greatest_top : top_at clips x ≤ℤ greatest_clip
  pub least_bottom : least_clip ≤ℤ bottom_at clips height x
  pub greatest_bottom : bottom_at clips height x ≤ℤ pos height

-- they are the sprite's among these fragments, in column x
pub record AreSpriteRows (s : MaskScene) (ds : List Drawseg) (e : SpriteEntry) (clips : SpriteClips) (x : ℕ) : Type 0 where
  pub top : top_at clips x ≡ sprite_top ds e x
  pub bottom : bottom_at clips s.view.now.shape.height x ≡ sprite_bottom s.view.now.shape.height ds e x
  pub rows : AreRowsAt clips s.view.now.shape.height x

-- the clips of a fragment are taken in column x, where it gives them and none were taken
pub record TakesRows (e : SpriteEntry) (d : Drawseg) (old new : SpriteClips) (x : ℕ) : Type 0 where
  pub top : row_in new.tops x ≡ row_after (gives_top e x d) (d.top_clip x) (row_in old.tops x)
  pub bottom : row_in new.bottoms x ≡ row_after (gives_bottom e x d) (d.bottom_clip x) (row_in old.bottoms x)

-- what the masked columns of fragment `number` have in common
pub record IsMiddleOf (s : MaskScene) (d : FragmentNote) (number : ℕ) (middle : Middle) : Type 0 where
  pub number_is : middle.number ≡ number
  pub tex : middle.tex.0 ≡ middle_by (scene_lists s) d
  pub mid : middle.mid ≡ (scene_drawseg s d).mid
  pub light : middle.light ≡ (scene_drawseg s d).light
  pub place : d.masked ≡ Some middle.place
