-- Laws of a property of all planes after a leaf and after a fragment, and of the rows that a plane holds after one run more.
use Rattle.picture_rules.proofs.Common.{[], All, All-push, All-set, ap, arith, Bool, cond, false, get_or, IfSome, inl, inr, int_lt, ints, length, List, nat_le, nat_tests, negsuc, None, Option, pos, refl, slice_get, slice_index_or, slice_set, Some, subst, suc, sym, true, zero, ℕ, ℤ, ◌&&◌, ◌+◌, ◌-◌, ◌<ℤ◌, ◌<◌, ◌∙◌, ◌∷◌, ◌≡◌, ◌≤ℤ◌, ◌≤◌, ◌⊎◌}
use Rattle.frame_core.specs.Rules.{Draws, Finds, Plane, PlaneKey, PlaneWall, PlanesNow, RowRange, add, after_event, ceiling_checked, ceiling_found, check, check_plane, check_some, checked_plane, column, column_marked, columns_marked, empty_plane, find, floor_checked, floor_found, holds, holds_row, is_free, mark, mark_some, marked_rows, natural, number_of, number_or_add, set_run, wall_marked, with_ceiling, with_floor, with_run}
use Rattle.picture_rules.proofs.plane.PlaneLemmas.{column-empty_plane}

-- a plane that is there is one of the planes
get_is : (planes : List Plane) (i : ℕ) (p : Plane) → slice_get planes i ≡ Some p → (i < length planes) × (get_or planes i p ≡ p)
get_is [] i p e = cc
get_is (q ∷ qs) zero p e = (omega arith, (let options_same : Some q ≡ Some p = e in cc))
get_is (q ∷ qs) (suc i) p e = let in_rest = get_is qs i p e in (omega (arith, in_rest.0), in_rest.1)

all_at : (P : Plane → Type 0) (planes : List Plane) (i : ℕ) (p : Plane) → slice_get planes i ≡ Some p → All P planes → P p
all_at P planes i p e all = let plane_there = get_is planes i p e in subst P plane_there.1 (all i p plane_there.0)

module _ (P : Plane → Type 0) where
  all_add : (planes : List Plane) (key : PlaneKey) → P (empty_plane key) → All P planes → All P (add planes key).planes
  unfolding add
  all_add planes key e all = All-push P planes (empty_plane key) all e

  all_or_add : (planes : List Plane) (key : PlaneKey) (r : Option ℕ) → P (empty_plane key) → All P planes → All P (number_or_add planes key r).planes
  unfolding number_or_add
  all_or_add planes key None e all = all_add planes key e all
  all_or_add planes key (Some i) e all = all

  all_find : (planes : List Plane) (key : PlaneKey) → P (empty_plane key) → All P planes → All P (find planes key).planes
  unfolding find
  all_find planes key e all = all_or_add planes key (number_of planes key) e all

  all_floor : (o : Option PlaneKey) (s : PlanesNow) → IfSome o (λ key. P (empty_plane key)) → All P s.planes → All P (floor_found o s).planes
  unfolding floor_found
  all_floor None s e all = all
  all_floor (Some key) s e all = all_find s.planes key e all

  all_ceiling : (o : Option PlaneKey) (s : PlanesNow) → IfSome o (λ key. P (empty_plane key)) → All P s.planes → All P (ceiling_found o s).planes
  unfolding ceiling_found
  all_ceiling None s e all = all
  all_ceiling (Some key) s e all = all_find s.planes key e all

  -- what holds of all planes holds after a leaf, where it holds of the empty planes of its keys
  pub all-finds : (floor ceiling : Option PlaneKey) (s : PlanesNow) → IfSome floor (λ key. P (empty_plane key)) → IfSome ceiling (λ key. P (empty_plane key)) → All P s.planes →
      All P (after_event s (Finds floor ceiling)).planes
  unfolding after_event
  all-finds floor ceiling s f c all = all_ceiling ceiling (floor_found floor s) c (all_floor floor s f all)

  all_free : (planes : List Plane) (i : ℕ) (p : Plane) (b : Bool) → P (empty_plane p.key) → All P planes → All P (cond b (record { number = i; planes = planes }) (add planes p.key)).planes
  all_free planes i p true e all = all
  all_free planes i p false e all = all_add planes p.key e all

  all_check_some : (planes : List Plane) (i : ℕ) (o : Option Plane) (first last : ℕ) → slice_get planes i ≡ o → ((p : Plane) → P p → P (empty_plane p.key)) → All P planes →
      All P (check_some planes i o first last).planes
  unfolding check_some check_plane
  all_check_some planes i None first last is new all = all
  all_check_some planes i (Some p) first last is new all = all_free planes i p (is_free p.runs first last) (new p (all_at P planes i p is all)) all

  all_check : (planes : List Plane) (i first last : ℕ) → ((p : Plane) → P p → P (empty_plane p.key)) → All P planes → All P (check planes i first last).planes
  unfolding check
  all_check planes i first last new all = all_check_some planes i (slice_get planes i) first last refl new all

  all_checked : (m : Bool) (o : Option ℕ) (first last : ℕ) (s : PlanesNow) → ((p : Plane) → P p → P (empty_plane p.key)) → All P s.planes →
      All P (with_ceiling (checked_plane m s.planes o first last) s).planes × All P (with_floor (checked_plane m s.planes o first last) s).planes
  unfolding with_ceiling with_floor checked_plane
  all_checked false o first last s new all = (all, all)
  all_checked true None first last s new all = (all, all)
  all_checked true (Some i) first last s new all = let all1 = all_check s.planes i first last new all in (all1, all1)

  all_mark_some : (planes : List Plane) (i : ℕ) (o : Option Plane) (x : ℕ) (rows : ℕ × ℕ) → slice_get planes i ≡ o → ((p : Plane) → P p → P (with_run p x rows)) → All P planes →
      All P (mark_some planes i o x rows)
  unfolding mark_some
  all_mark_some planes i None x rows is run all = all
  all_mark_some planes i (Some p) x rows is run all = All-set P planes i (with_run p x rows) (run p (all_at P planes i p is all)) all

  all_set : (planes : List Plane) (o : Option ℕ) (x : ℕ) (rows : Option (ℕ × ℕ)) → IfSome rows (λ r. (p : Plane) → P p → P (with_run p x r)) → All P planes → All P (set_run planes o x rows)
  unfolding set_run mark
  all_set planes None x rows run all = all
  all_set planes (Some i) x None run all = all
  all_set planes (Some i) x (Some rows) run all = all_mark_some planes i (slice_get planes i) x rows refl run all

  all_columns : (w : PlaneWall) (ceiling floor : Option ℕ) (n : ℕ) (planes : List Plane) → w.first + n ≤ w.last + 1 →
      ((x : ℕ) → w.first ≤ x → x ≤ w.last → IfSome (w.ceiling_rows x) (λ r. (p : Plane) → P p → P (with_run p x r))) →
      ((x : ℕ) → w.first ≤ x → x ≤ w.last → IfSome (w.floor_rows x) (λ r. (p : Plane) → P p → P (with_run p x r))) →
      All P planes → All P (columns_marked w ceiling floor n planes)
  unfolding columns_marked column_marked
  all_columns w ceiling floor zero planes l c f all = all
  all_columns w ceiling floor (suc n) planes l c f all =
      let so_far = columns_marked w ceiling floor n planes in
      all_set (set_run so_far ceiling (w.first + n) (w.ceiling_rows (w.first + n))) floor (w.first + n) (w.floor_rows (w.first + n)) (f (w.first + n) (omega arith) (omega arith))
      (all_set so_far ceiling (w.first + n) (w.ceiling_rows (w.first + n)) (c (w.first + n) (omega arith) (omega arith)) (all_columns w ceiling floor n planes (omega arith) c f all))

  -- and after a fragment, where it holds of planes with its runs
  pub all-draws : (w : PlaneWall) (s : PlanesNow) → w.first ≤ w.last → ((p : Plane) → P p → P (empty_plane p.key)) →
      ((x : ℕ) → w.first ≤ x → x ≤ w.last → IfSome (w.ceiling_rows x) (λ r. (p : Plane) → P p → P (with_run p x r))) →
      ((x : ℕ) → w.first ≤ x → x ≤ w.last → IfSome (w.floor_rows x) (λ r. (p : Plane) → P p → P (with_run p x r))) →
      All P s.planes → All P (after_event s (Draws w)).planes
  unfolding after_event wall_marked ceiling_checked floor_checked
  all-draws w s l new c f all =
      let after_ceiling = ceiling_checked w s in
      let after_floor = floor_checked w after_ceiling in
      all_columns w after_floor.ceiling after_floor.floor (w.last + 1 - w.first) after_floor.planes (omega arith) c f
      (all_checked w.floor_mark after_ceiling.floor w.first w.last after_ceiling new (all_checked w.ceiling_mark s.ceiling w.first w.last s new all).0).1

-- the run of a column of a plane with one run more: the new one at its own column, else that of before
set_column : (runs : List (Option (ℕ × ℕ))) (x k : ℕ) (r : Option (ℕ × ℕ)) →
    (slice_index_or (slice_set runs x r) k None ≡ slice_index_or runs k None) ⊎ ((k ≡ x) × (slice_index_or (slice_set runs x r) k None ≡ r))
set_column [] x k r = inl refl
set_column (q ∷ qs) zero zero r = inr (refl, refl)
set_column (q ∷ qs) zero (suc k) r = inl refl
set_column (q ∷ qs) (suc x) zero r = inl refl
set_column (q ∷ qs) (suc x) (suc k) r = elim (set_column qs x k r) [ inl e ↦ inl e | inr e ↦ inr (ap suc e.0, e.1) ]

-- a row that is held is held of before, or is one of the run's
pub holds-with_run : (p : Plane) (x : ℕ) (rows : ℕ × ℕ) (y k : ℕ) → holds (with_run p x rows) y k ≡ true → (holds p y k ≡ true) ⊎ ((k ≡ x) × (y ≤ rows.1))
unfolding holds holds_row column with_run
holds-with_run p x rows y k h =
    elim (set_column p.runs x k (Some rows)) [
      | inl e ↦ inl (ap (λ (r : Option (ℕ × ℕ)). holds_row r y) (sym e) ∙ h)
      | inr e ↦ (let row_between : (nat_le rows.0 y && nat_le y rows.1) ≡ true = ap (λ (r : Option (ℕ × ℕ)). holds_row r y) (sym e.1) ∙ h in inr (e.0, grind (arith, nat_tests)))
    ]

-- an empty plane holds nothing
pub holds-empty_plane : (key : PlaneKey) (y k : ℕ) → holds (empty_plane key) y k ≡ true → ⊥
unfolding holds holds_row
holds-empty_plane key y k h = let false_is_true : false ≡ true = ap (λ (r : Option (ℕ × ℕ)). holds_row r y) (sym (column-empty_plane key k)) ∙ h in absurd (cc)

natural_below : (z : ℤ) (height : ℕ) → pos 0 ≤ℤ z → z <ℤ pos height → natural z < height
unfolding natural
natural_below (pos n) height l h = omega (arith, ints)
natural_below (negsuc n) height l h = absurd (omega (arith, ints))

not_less : (a b : ℤ) → int_lt a b ≡ false → b ≤ℤ a
not_less a b e = grind (arith, ints)

-- the last row of a run, where there is one, is one of the view
abbrev pub IsRunIn : ℕ → Option (ℕ × ℕ) → Type 0
IsRunIn height run = IfSome run (λ (r : ℕ × ℕ). r.1 < height)

some_rows : (height : ℕ) (rows : RowRange) (mark less : Bool) → int_lt rows.last rows.first ≡ less → (rows.first ≤ℤ rows.last → (pos 0 ≤ℤ rows.first) × (rows.last <ℤ pos height)) →
    (let none : Option (ℕ × ℕ) = None in IsRunIn height (cond mark (cond less none (Some (natural rows.first, natural rows.last))) none))
some_rows height rows false less e within = tt
some_rows height rows true true e within = tt
some_rows height rows true false e within =
    let last_not_less = not_less rows.last rows.first e in
    let rows_inside = within last_not_less in
    let first_not_negative = rows_inside.0 in
    let last_not_negative : pos 0 ≤ℤ rows.last = omega (arith, ints) in
    natural_below rows.last height last_not_negative rows_inside.1

-- the rows that a fragment marks are rows of the view
pub marked_rows-in : (height : ℕ) (rows : RowRange) (mark : Bool) → (rows.first ≤ℤ rows.last → (pos 0 ≤ℤ rows.first) × (rows.last <ℤ pos height)) → IsRunIn height (marked_rows mark rows)
unfolding marked_rows
marked_rows-in height rows mark within = some_rows height rows mark (int_lt rows.last rows.first) refl within
