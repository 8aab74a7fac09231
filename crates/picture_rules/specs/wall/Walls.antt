-- The drawn fragments of a view, and what is open of a column before and after each (ceilingclip, floorclip, r_segs.c).
use Rattle.std.specs.Prelude.{ℕ, zero, suc, ◌-◌, ◌&&◌, nat_le, Bool, false, cond, List, Option, Some, None, slice_get}
use Rattle.picture_rules.specs.Rules.{ViewShape, ViewValue, greatest}
use Rattle.picture_rules.specs.declared.wall.WallFacts.{WallFacts}
use Rattle.picture_rules.specs.{declared.wall.ColumnClip.ColumnClip, declared.wall.Edges.Edges}
use Rattle.picture_rules.specs.declared.wall.FragmentNumbers.{FragmentNumbers}
use Rattle.picture_rules.specs.{wall.Numbers.fragment_numbers, wall.Edges.edges_at}
use Rattle.picture_rules.specs.wall.Clips.{open_clip, clip_after}

-- a drawn fragment: what it is drawn from, its columns, its numbers
pub record Wall : Type 0 where
  pub facts : WallFacts
  pub first : ℕ
  pub last : ℕ
  pub numbers : FragmentNumbers

unfoldable pub wall_of : ViewValue → WallFacts → ℕ → ℕ → Wall
wall_of v facts first last = record { facts = facts; first = first; last = last; numbers = fragment_numbers v facts first last }

unfoldable pub has_column : Wall → ℕ → Bool
has_column w x = nat_le w.first x && nat_le x w.last

unfoldable pub wall_edges : ViewShape → Wall → ℕ → Edges
wall_edges shape w x = edges_at shape w.numbers (x - w.first)

-- one fragment: the clip of column x before it, and after it
unfoldable pub past_wall : ViewShape → ℕ → Wall → ColumnClip → ColumnClip
past_wall shape x w clip = cond (has_column w x) (clip_after shape.height w.numbers clip (wall_edges shape w x)) clip

unfoldable pub past_some : ViewShape → ℕ → Option Wall → ColumnClip → ColumnClip
past_some shape x None clip = clip
past_some shape x (Some w) clip = past_wall shape x w clip

-- the clip of column x before fragment k: the window
unfoldable pub clip_before : ViewShape → List Wall → ℕ → ℕ → ColumnClip
clip_before shape walls zero x = open_clip shape.height
clip_before shape walls (suc k) x = past_some shape x (slice_get walls k) (clip_before shape walls k x)

-- the clip of column x when fragments 0 to k are there
unfoldable pub clip_past : ViewShape → List Wall → ℕ → ℕ → ColumnClip
clip_past shape walls k x = clip_before shape walls (suc k) x

-- fragment k is there and has column x
unfoldable pub some_has : ℕ → Option Wall → Bool
some_has x None = false
some_has x (Some w) = has_column w x

unfoldable pub wall_has : List Wall → ℕ → ℕ → Bool
wall_has walls x k = some_has x (slice_get walls k)

-- the greatest fragment before number k that has column x
unfoldable pub last_wall : List Wall → ℕ → ℕ → Option ℕ
last_wall walls x k = greatest (wall_has walls x) k

-- the clip that it leaves, or the whole column where there is none: what `clip_before` is, by the theorem in proofs/WallLemmas
unfoldable pub clip_by : ViewShape → List Wall → ℕ → Option ℕ → ColumnClip
clip_by shape walls x None = open_clip shape.height
clip_by shape walls x (Some j) = clip_past shape walls j x
