-- How far a sprite is seen in a column: the clips of the last fragments in front of it (R_DrawSprite, r_things.c).
use Rattle.std.specs.Prelude.{ℕ, ◌&&◌, int_lt, ℤ, pos, Bool, false, not, List, length, Option, Some, None, slice_get, position}
use Rattle.picture_rules.specs.Rules.{greatest, minus_one}
use Rattle.picture_rules.specs.declared.sprite.SpriteEntry.{SpriteEntry}
use Rattle.picture_rules.specs.sprite.Drawsegs.{Drawseg, drawseg_has, entry_has, is_behind}

-- fragment d gives the sprite its bottom clip in column x, where no later one does
unfoldable pub gives_bottom : SpriteEntry → ℕ → Drawseg → Bool
gives_bottom e x d = drawseg_has d x && (not (is_behind d e) && (d.has_bottom && int_lt e.gz d.bottom_height))

unfoldable pub gives_top : SpriteEntry → ℕ → Drawseg → Bool
gives_top e x d = drawseg_has d x && (not (is_behind d e) && (d.has_top && int_lt d.top_height e.gzt))

-- the fragment of this number passes the test
unfoldable pub passes_at : (Drawseg → Bool) → Option Drawseg → Bool
passes_at test None = false
passes_at test (Some d) = test d

-- the greatest fragment that passes
unfoldable pub greatest_that : (Drawseg → Bool) → List Drawseg → Option ℕ
greatest_that test ds = greatest (λ k. passes_at test (slice_get ds k)) (length ds)

unfoldable pub clip_of_some : (Drawseg → ℤ) → ℤ → Option Drawseg → ℤ
clip_of_some clip without None = without
clip_of_some clip without (Some d) = clip d

unfoldable pub clip_of_number : (Drawseg → ℤ) → ℤ → List Drawseg → Option ℕ → ℤ
clip_of_number clip without ds None = without
clip_of_number clip without ds (Some k) = clip_of_some clip without (slice_get ds k)

unfoldable pub sprite_bottom : ℕ → List Drawseg → SpriteEntry → ℕ → ℤ
sprite_bottom height ds e x = clip_of_number (λ d. d.bottom_clip x) (pos height) ds (greatest_that (gives_bottom e x) ds)

unfoldable pub sprite_top : List Drawseg → SpriteEntry → ℕ → ℤ
sprite_top ds e x = clip_of_number (λ d. d.top_clip x) minus_one ds (greatest_that (gives_top e x) ds)

-- of the sprites in drawing order, the first that has column x and that the fragment is behind: its masked column is drawn just before it
unfoldable pub sprite_in_front : List SpriteEntry → Drawseg → ℕ → Option ℕ
sprite_in_front sprites d x = position (λ e. entry_has e x && is_behind d e) sprites

-- that sprite is the least that stands in front of the column, by the theorem in proofs/ClipLemmas
unfoldable pub stands_in_front : Drawseg → ℕ → Option SpriteEntry → Bool
stands_in_front d x None = false
stands_in_front d x (Some e) = entry_has e x && is_behind d e
