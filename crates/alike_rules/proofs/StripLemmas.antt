-- Drawn fragments of sectors whose flats have other numbers: the same columns, and the same dots of walls.
use Rattle.picture_rules.proofs.Common.{ap, List, map, None, Option, option_map, refl, slice_get, slice_get-map, Some, suc, zero, ℕ, ℤ, ◌∙◌, ◌≡◌}
use Rattle.alike_rules.specs.Rules.{Art, ColumnClip, Edges, Part, ViewShape, ViewValue, WALL, Wall, WallFacts, WallStrip, bottom_clip, ceiling_marks, clip_before, clip_past, floor_marks, has_column, listed_from, openings_of, past_some, past_wall, strip_dots, texture_column, texture_offset, top_clip, wall_colour, wall_column, wall_column_by, wall_dots, wall_edges, wall_strips}
use Rattle.alike_rules.proofs.DotLemmas.{IsMovedArt, column_dots-moved, joined-moved, moved_dot, painter-moved}
use Rattle.alike_rules.proofs.NumberLemmas.{moved_facts}

-- the same fragment, drawn from sectors whose flats have other numbers
abbrev pub moved_wall : (ℕ → ℕ) → Wall → Wall
moved_wall σ w = record { facts = moved_facts σ w.facts; first = w.first; last = w.last; numbers = w.numbers }

module _ (σ : ℕ → ℕ) where
  pub column-same : (v : ViewValue) (f : WallFacts) (x : ℕ) → texture_column v (moved_facts σ f) x ≡ texture_column v f x
  unfolding texture_column texture_offset
  column-same v f x = refl

  edges-same : (shape : ViewShape) (w : Wall) (x : ℕ) → wall_edges shape (moved_wall σ w) x ≡ wall_edges shape w x
  unfolding wall_edges
  edges-same shape w x = refl

  past-same : (shape : ViewShape) (x : ℕ) (o : Option Wall) (clip : ColumnClip) → past_some shape x (option_map (moved_wall σ) o) clip ≡ past_some shape x o clip
  unfolding past_some past_wall has_column wall_edges
  past-same shape x None clip = refl
  past-same shape x (Some w) clip = refl

  -- what is open of a column
  pub clip-same : (shape : ViewShape) (walls : List Wall) (k x : ℕ) → clip_before shape (map (moved_wall σ) walls) k x ≡ clip_before shape walls k x
  unfolding clip_before
  clip-same shape walls zero x = refl
  clip-same shape walls (suc k) x =
      rw (slice_get-map (moved_wall σ) walls k, clip-same shape walls k x) (past-same shape x (slice_get walls k) (clip_before shape walls k x))

  pub past_clip-same : (shape : ViewShape) (walls : List Wall) (k x : ℕ) → clip_past shape (map (moved_wall σ) walls) k x ≡ clip_past shape walls k x
  unfolding clip_past
  past_clip-same shape walls k x = clip-same shape walls (suc k) x

  -- what sprites behind it are cut by, and what it takes of the openings
  pub top_clip-same : (shape : ViewShape) (walls : List Wall) (k : ℕ) (w : Wall) (x : ℕ) → top_clip shape (map (moved_wall σ) walls) k (moved_wall σ w) x ≡ top_clip shape walls k w x
  unfolding top_clip
  top_clip-same shape walls k w x = rw (past_clip-same shape walls k x) refl

  pub bottom_clip-same : (shape : ViewShape) (walls : List Wall) (k : ℕ) (w : Wall) (x : ℕ) → bottom_clip shape (map (moved_wall σ) walls) k (moved_wall σ w) x ≡ bottom_clip shape walls k w x
  unfolding bottom_clip
  bottom_clip-same shape walls k w x = rw (past_clip-same shape walls k x) refl

  pub openings-same : (w : Wall) → openings_of (moved_wall σ w) ≡ openings_of w
  unfolding openings_of
  openings-same w = refl

  -- the rows that it marks in planes
  pub ceiling_marks-same : (v : ViewValue) (walls : List Wall) (k : ℕ) (w : Wall) (x : ℕ) → ceiling_marks v (map (moved_wall σ) walls) k (moved_wall σ w) x ≡ ceiling_marks v walls k w x
  unfolding ceiling_marks
  ceiling_marks-same v walls k w x = rw (clip-same v.shape walls k x, edges-same v.shape w x) refl

  pub floor_marks-same : (v : ViewValue) (walls : List Wall) (k : ℕ) (w : Wall) (x : ℕ) → floor_marks v (map (moved_wall σ) walls) k (moved_wall σ w) x ≡ floor_marks v walls k w x
  unfolding floor_marks
  floor_marks-same v walls k w x = rw (clip-same v.shape walls k x, edges-same v.shape w x) refl

module _ (σ : ℕ → ℕ) (art other : Art) (moved : IsMovedArt σ art other) (v : ViewValue) where
  wall_colour-moved : (part : Part) (light : ℕ) (column scale : ℤ) (y : ℕ) → wall_colour v other part light column scale y ≡ wall_colour v art part light column scale y
  unfolding wall_colour
  wall_colour-moved part light column scale y = ap (other.shade _) (moved.texel _ _ _) ∙ moved.shade _ _

  strip-moved : (k x light : ℕ) (column scale : ℤ) (s : WallStrip) → strip_dots v other k x light column scale s ≡ map (moved_dot σ) (strip_dots v art k x light column scale s)
  unfolding strip_dots
  strip-moved k x light column scale s =
      rw (moved.texture_source s.part.number column, painter-moved σ WALL k (art.texture_source s.part.number column))
      (column_dots-moved σ _ x (wall_colour v art s.part light column scale) (wall_colour v other s.part light column scale)
      (λ y. wall_colour-moved s.part light column scale y) _)

  column_by-moved : (k x : ℕ) (w : Wall) (clip : ColumnClip) (e : Edges) → wall_column_by v other k x (moved_wall σ w) clip e ≡ map (moved_dot σ) (wall_column_by v art k x w clip e)
  unfolding wall_column_by
  column_by-moved k x w clip e =
      rw (column-same σ v w.facts x)
      (joined-moved (moved_dot σ) (strip_dots v art k x w.numbers.light (texture_column v w.facts x) e.scale)
      (strip_dots v other k x w.numbers.light (texture_column v w.facts x) e.scale)
      (λ s. strip-moved k x w.numbers.light (texture_column v w.facts x) e.scale s) (wall_strips w.numbers clip e))

  column-moved : (walls : List Wall) (k : ℕ) (w : Wall) (x : ℕ) → wall_column v other (map (moved_wall σ) walls) k (moved_wall σ w) x ≡ map (moved_dot σ) (wall_column v art walls k w x)
  unfolding wall_column
  column-moved walls k w x =
      rw (clip-same σ v.shape walls k x, edges-same σ v.shape w x) (column_by-moved k x w (clip_before v.shape walls k x) (wall_edges v.shape w x))

  -- the dots of a fragment
  pub wall_dots-moved : (walls : List Wall) (k : ℕ) (w : Wall) → wall_dots v other (map (moved_wall σ) walls) k (moved_wall σ w) ≡ map (moved_dot σ) (wall_dots v art walls k w)
  unfolding wall_dots
  wall_dots-moved walls k w =
      joined-moved (moved_dot σ) (wall_column v art walls k w) (wall_column v other (map (moved_wall σ) walls) k (moved_wall σ w))
      (λ x. column-moved walls k w x) (listed_from (λ x. x) w.first w.last)
