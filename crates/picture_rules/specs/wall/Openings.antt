-- What a drawn fragment keeps for sprites and masked middles: clips, and how many openings they take (R_StoreWallRange, r_segs.c).
use Rattle.std.specs.Prelude.{ℕ, ◌+◌, ◌-◌, ◌*◌, ◌||◌, ◌&&◌, ℤ, pos, Bool, not, cond, List}
use Rattle.std.specs.Int.{from_bool}
use Rattle.picture_rules.specs.Rules.{ViewShape, minus_one}
use Rattle.picture_rules.specs.declared.wall.FragmentNumbers.{FragmentNumbers}
use Rattle.picture_rules.specs.wall.Walls.{Wall, clip_past}

-- the clip list is saved: what is behind needs it, and it is not the same in each column
unfoldable pub saves_top : FragmentNumbers → Bool
saves_top n = (n.top.is_there || n.masked) && not n.top_is_constant

unfoldable pub saves_bottom : FragmentNumbers → Bool
saves_bottom n = (n.bottom.is_there || n.masked) && not n.bottom_is_constant

-- the columns of the fragment, once if it is masked and once for each saved clip
unfoldable pub openings_of : Wall → ℕ
openings_of w =
    (w.last + 1 - w.first) * (from_bool w.numbers.masked + from_bool (saves_top w.numbers) + from_bool (saves_bottom w.numbers))

-- the clips that a sprite behind fragment k takes in column x
unfoldable pub top_clip : ViewShape → List Wall → ℕ → Wall → ℕ → ℤ
top_clip shape walls k w x = cond w.numbers.top_is_constant (pos shape.height) (clip_past shape walls k x).ceiling_clip

unfoldable pub bottom_clip : ViewShape → List Wall → ℕ → Wall → ℕ → ℤ
bottom_clip shape walls k w x = cond w.numbers.bottom_is_constant minus_one (clip_past shape walls k x).floor_clip
