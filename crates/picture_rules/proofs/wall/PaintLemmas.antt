-- Laws of the dots of walls: fragments that come later change nothing of them.
use Rattle.word_rules.proofs.Common.{[], ap, flat_map, length, List, refl, ℕ, ◌++◌, ◌∙◌, ◌∷◌, ◌≡◌, ◌≤◌}
use Rattle.picture_rules.specs.Rules.{Art, Dot, ViewValue, joined_lists, listed_from}
use Rattle.picture_rules.specs.declared.wall.ColumnClip.{ColumnClip}
use Rattle.picture_rules.specs.wall.Clips.{ceiling_rows, floor_rows}
use Rattle.picture_rules.specs.wall.Walls.{Wall, wall_edges}
use Rattle.picture_rules.specs.wall.Strips.{wall_column_by, wall_column, wall_dots, marked_rows, ceiling_marks, floor_marks}
use Rattle.picture_rules.proofs.wall.WallLemmas.{clip_before-front}

-- fragments that come later change nothing of what fragment k paints and marks
pub wall_column-front : (v : ViewValue) (art : Art) (walls more : List Wall) (k : ℕ) (w : Wall) (x : ℕ) → k ≤ length walls →
    wall_column v art (walls ++ more) k w x ≡ wall_column v art walls k w x
unfolding wall_column
wall_column-front v art walls more k w x l =
    ap (λ (c : ColumnClip). wall_column_by v art k x w c (wall_edges v.shape w x)) (clip_before-front v.shape walls more k x l)

columns_front : (v : ViewValue) (art : Art) (walls more : List Wall) (k : ℕ) (w : Wall) (xs : List ℕ) → k ≤ length walls →
    flat_map (wall_column v art (walls ++ more) k w) xs ≡ flat_map (wall_column v art walls k w) xs
columns_front v art walls more k w [] l = refl
columns_front v art walls more k w (x ∷ xs) l =
    ap (λ (ds : List Dot). ds ++ flat_map (wall_column v art (walls ++ more) k w) xs) (wall_column-front v art walls more k w x l)
    ∙ ap (λ (ds : List Dot). wall_column v art walls k w x ++ ds) (columns_front v art walls more k w xs l)

pub wall_dots-front : (v : ViewValue) (art : Art) (walls more : List Wall) (k : ℕ) (w : Wall) → k ≤ length walls →
    wall_dots v art (walls ++ more) k w ≡ wall_dots v art walls k w
unfolding wall_dots joined_lists
wall_dots-front v art walls more k w l = columns_front v art walls more k w (listed_from (λ x. x) w.first w.last) l

pub ceiling_marks-front : (v : ViewValue) (walls more : List Wall) (k : ℕ) (w : Wall) (x : ℕ) → k ≤ length walls → ceiling_marks v (walls ++ more) k w x ≡ ceiling_marks v walls k w x
unfolding ceiling_marks
ceiling_marks-front v walls more k w x l =
    ap (λ (c : ColumnClip). marked_rows w.numbers.ceiling_mark (ceiling_rows c (wall_edges v.shape w x))) (clip_before-front v.shape walls more k x l)

pub floor_marks-front : (v : ViewValue) (walls more : List Wall) (k : ℕ) (w : Wall) (x : ℕ) → k ≤ length walls → floor_marks v (walls ++ more) k w x ≡ floor_marks v walls k w x
unfolding floor_marks
floor_marks-front v walls more k w x l =
    ap (λ (c : ColumnClip). marked_rows w.numbers.floor_mark (floor_rows c (wall_edges v.shape w x))) (clip_before-front v.shape walls more k x l)
