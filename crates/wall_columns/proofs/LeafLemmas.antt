-- Laws of the planes of a leaf: what finding and checking them one after the other comes to, and what
-- is told where one passes its room.
use Rattle.picture_rules.proofs.Common.{ap, arith, Bool, Err, false, IfErr, IsErr, IsErrAnd, length, List, lt-true, nat_lt, nat_tests, None, Ok, Option, refl, Result, Some, sym, true, ℕ, ◌<◌, ◌∙◌, ◌≡◌, ◌≤◌}
use Rattle.wall_columns.specs.Rules.{FragmentNumbers, IsAmongPlanes, OverLimit, Plane, PlaneChoice, PlaneKey, PlanesNow, ceiling_found, checked_plane, find, floor_found, planes_count, with_ceiling, with_floor}
use Rattle.picture_rules.proofs.plane.PlaneLemmas.{length-find}
use Rattle.visplanes.specs.Planes.{PlanesView, with_planes}
use Rattle.wall_columns.specs.Faults.{over_of}
use Rattle.picture_rules.specs.declared.LimitKind.TheVariants.{Planes}
use Rattle.wall_columns.specs.Leaves.{planes_found, number_found, planes_checked, number_checked, ceiling_check, floor_check, over_room, planes_over, leaf_over, checks_over}

within_test : (room count : ℕ) (t : Bool) → nat_lt room count ≡ t → (room < count → false ≡ true) → t ≡ false
within_test room count true e h = let room_below_count : room < count = grind (arith, nat_tests) in sym (h room_below_count)
within_test room count false e h = refl

within : (room count : ℕ) → (room < count → false ≡ true) → nat_lt room count ≡ false
within room count h = within_test room count (nat_lt room count) refl h

-- an answer that passes on a count tells it
pub limit-passed_on : {A : Type 0} (r : Result A OverLimit) (over : OverLimit) → IsErr r → IsErrAnd r (λ e. e ≡ over) → over_of r ≡ Some over
limit-passed_on (Ok value) over h g = absurd (let false_is_true : false ≡ true = h in cc)
limit-passed_on (Err other) over h g = ap (λ (o : OverLimit). Some o) g

-- and so what its call tells, where that is what the count is
pub limit-told : {A : Type 0} {found : Option OverLimit} {told : OverLimit} (r : Result A OverLimit) (over : OverLimit) → IsErr r →
    IsErrAnd r (λ e. e ≡ over) → over ≡ told → found ≡ Some told → over_of r ≡ found
limit-told r over failed is e h = limit-passed_on r over failed is ∙ ap (λ (o : OverLimit). Some o) e ∙ sym h

-- a count of planes is one of planes
pub planes-told : {A : Type 0} (r : Result A OverLimit) (over : OverLimit) (count : ℕ) → IsErrAnd r (λ e. e ≡ over) → over ≡ planes_count count → IfErr r (λ told. told.kind ≡ Planes)
unfolding planes_count
planes-told (Ok value) over count is e = tt
planes-told (Err told) over count is e = ap (λ (o : OverLimit). o.kind) (is ∙ e)

-- a count past the room is told, and no other
pub over_room-passed : (limit : ℕ → OverLimit) (room count : ℕ) (next : Option OverLimit) → room < count → over_room limit room count next ≡ Some (limit count)
unfolding over_room
over_room-passed limit room count next l = rw (lt-true room count l) refl

pub over_room-within : (limit : ℕ → OverLimit) (room count : ℕ) (next : Option OverLimit) → (room < count → false ≡ true) → over_room limit room count next ≡ next
unfolding over_room
over_room-within limit room count next h = rw (within room count h) refl

-- the current planes, one after the other
abbrev now : List Plane → Option ℕ → Option ℕ → PlanesNow
now planes floor ceiling = record { planes = planes; floor = floor; ceiling = ceiling }

floor_found-is : (o : Option PlaneKey) (planes : List Plane) (floor ceiling : Option ℕ) →
    floor_found o (now planes floor ceiling) ≡ now (planes_found planes o) (number_found planes o) ceiling
unfolding floor_found planes_found number_found
floor_found-is None planes floor ceiling = refl
floor_found-is (Some key) planes floor ceiling = refl

ceiling_found-is : (o : Option PlaneKey) (planes : List Plane) (floor ceiling : Option ℕ) →
    ceiling_found o (now planes floor ceiling) ≡ now (planes_found planes o) floor (number_found planes o)
unfolding ceiling_found planes_found number_found
ceiling_found-is None planes floor ceiling = refl
ceiling_found-is (Some key) planes floor ceiling = refl

with_ceiling-is : (c : Option PlaneChoice) (planes : List Plane) (floor ceiling : Option ℕ) →
    with_ceiling c (now planes floor ceiling) ≡ now (planes_checked planes c) floor (number_checked ceiling c)
unfolding with_ceiling planes_checked number_checked
with_ceiling-is None planes floor ceiling = refl
with_ceiling-is (Some c) planes floor ceiling = refl

with_floor-is : (c : Option PlaneChoice) (planes : List Plane) (floor ceiling : Option ℕ) →
    with_floor c (now planes floor ceiling) ≡ now (planes_checked planes c) (number_checked floor c) ceiling
unfolding with_floor planes_checked number_checked
with_floor-is None planes floor ceiling = refl
with_floor-is (Some c) planes floor ceiling = refl

-- a step that leaves the planes of b, with the number that it found
stepped : {s t : PlanesNow} {found number : Option ℕ} (step : PlanesNow → PlanesNow) (of : List Plane → Option ℕ → PlanesNow) (planes : List Plane) (a b : PlanesView) →
    s ≡ t → step t ≡ of planes found → b ≡ with_planes planes a → number ≡ found → step s ≡ of b.planes number
stepped {found = found} step of planes a b e is f g =
    ap step e ∙ is ∙ ap (λ (ps : List Plane). of ps found) (sym (ap (λ (v : PlanesView). v.planes) f)) ∙ ap (of b.planes) (sym g)

-- the floor is found
pub enter-floor : (s : PlanesNow) (a b : PlanesView) (key : Option PlaneKey) (floor ceiling number : Option ℕ) → s ≡ now a.planes floor ceiling →
    b ≡ with_planes (planes_found a.planes key) a → number ≡ number_found a.planes key → floor_found key s ≡ now b.planes number ceiling
enter-floor s a b key floor ceiling number e f g = stepped (floor_found key) (λ ps o. now ps o ceiling) _ a b e (floor_found-is key a.planes floor ceiling) f g

-- the ceiling is found
pub enter-ceiling : (s : PlanesNow) (a b : PlanesView) (key : Option PlaneKey) (floor ceiling number : Option ℕ) → s ≡ now a.planes floor ceiling →
    b ≡ with_planes (planes_found a.planes key) a → number ≡ number_found a.planes key → ceiling_found key s ≡ now b.planes floor number
enter-ceiling s a b key floor ceiling number e f g = stepped (ceiling_found key) (λ ps o. now ps floor o) _ a b e (ceiling_found-is key a.planes floor ceiling) f g

-- a plane is checked
pub check-ceiling : (s : PlanesNow) (a b : PlanesView) (n : FragmentNumbers) (first last : ℕ) (floor ceiling number : Option ℕ) → s ≡ now a.planes floor ceiling →
    b ≡ with_planes (planes_checked a.planes (checked_plane n.ceiling_mark a.planes ceiling first last)) a →
    number ≡ number_checked ceiling (checked_plane n.ceiling_mark a.planes ceiling first last) → ceiling_check n first last s ≡ now b.planes floor number
unfolding ceiling_check
check-ceiling s a b n first last floor ceiling number e f g = stepped (ceiling_check n first last) (λ ps o. now ps floor o) _ a b e (with_ceiling-is _ a.planes floor ceiling) f g

pub check-floor : (s : PlanesNow) (a b : PlanesView) (n : FragmentNumbers) (first last : ℕ) (floor ceiling number : Option ℕ) → s ≡ now a.planes floor ceiling →
    b ≡ with_planes (planes_checked a.planes (checked_plane n.floor_mark a.planes floor first last)) a →
    number ≡ number_checked floor (checked_plane n.floor_mark a.planes floor first last) → floor_check n first last s ≡ now b.planes number ceiling
unfolding floor_check
check-floor s a b n first last floor ceiling number e f g = stepped (floor_check n first last) (λ ps o. now ps o ceiling) _ a b e (with_floor-is _ a.planes floor ceiling) f g

-- the counts of a leaf, by the planes before each step
leaf_counts : (room : ℕ) (s : PlanesNow) (floor ceiling : Option PlaneKey) →
    leaf_over room s floor ceiling ≡ planes_over room (length (planes_found s.planes floor)) (planes_over room (length (planes_found (floor_found floor s).planes ceiling)) None)
unfolding leaf_over
leaf_counts room s floor ceiling =
    let after_floor : PlanesNow = floor_found floor s in
    ap (λ (u : PlanesNow). planes_over room (length u.planes) (planes_over room (length (ceiling_found ceiling after_floor).planes) None)) (floor_found-is floor s.planes s.floor s.ceiling)
    ∙ ap (λ (u : PlanesNow). planes_over room (length (planes_found s.planes floor)) (planes_over room (length u.planes) None)) (ceiling_found-is ceiling after_floor.planes after_floor.floor after_floor.ceiling)

check_counts : (room : ℕ) (n : FragmentNumbers) (first last : ℕ) (s : PlanesNow) →
    checks_over room n first last s
    ≡ planes_over room (length (planes_checked s.planes (checked_plane n.ceiling_mark s.planes s.ceiling first last)))
    (planes_over room (length (planes_checked (ceiling_check n first last s).planes
    (checked_plane n.floor_mark (ceiling_check n first last s).planes (ceiling_check n first last s).floor first last))) None)
unfolding checks_over ceiling_check floor_check
check_counts room n first last s =
    let past_ceiling : PlanesNow = with_ceiling (checked_plane n.ceiling_mark s.planes s.ceiling first last) s in
    ap (λ (u : PlanesNow). planes_over room (length u.planes) (planes_over room (length (with_floor (checked_plane n.floor_mark past_ceiling.planes past_ceiling.floor first last) past_ceiling).planes) None))
    (with_ceiling-is (checked_plane n.ceiling_mark s.planes s.ceiling first last) s.planes s.floor s.ceiling)
    ∙ ap (λ (u : PlanesNow). planes_over room (length (planes_checked s.planes (checked_plane n.ceiling_mark s.planes s.ceiling first last))) (planes_over room (length u.planes) None))
    (with_floor-is (checked_plane n.floor_mark past_ceiling.planes past_ceiling.floor first last) past_ceiling.planes past_ceiling.floor past_ceiling.ceiling)

-- two counts: the first passes the room, or the second, or neither
pub record Counts (over : Option OverLimit) (room m n : ℕ) : Type 0 where
  pub first : room < m → over ≡ Some (planes_count m)
  pub second : (room < m → false ≡ true) → room < n → over ≡ Some (planes_count n)
  pub none : (room < m → false ≡ true) → (room < n → false ≡ true) → over ≡ None

two_counts : (over : Option OverLimit) (room m n : ℕ) → over ≡ planes_over room m (planes_over room n None) → Counts over room m n
two_counts over room m n e = record {
  first = λ l. e ∙ over_room-passed planes_count room m (planes_over room n None) l;
  second = λ h l. e ∙ over_room-within planes_count room m (planes_over room n None) h ∙ over_room-passed planes_count room n None l;
  none = λ h i. e ∙ over_room-within planes_count room m (planes_over room n None) h ∙ over_room-within planes_count room n None i;
}

-- a leaf's counts, where the floor left the planes b
pub leaf_over-counts : (room : ℕ) (s : PlanesNow) (a : PlanesView) (floor ceiling : Option PlaneKey) (f c : Option ℕ) → s ≡ now a.planes f c →
    (b : PlanesView) → b ≡ with_planes (planes_found a.planes floor) a →
    Counts (leaf_over room s floor ceiling) room (length (planes_found a.planes floor)) (length (planes_found b.planes ceiling))
leaf_over-counts room s a floor ceiling f c e b g =
    let planes_are : (floor_found floor s).planes ≡ b.planes = ap (λ (t : PlanesNow). t.planes)
    (enter-floor s a b floor f c (number_found a.planes floor) e g refl) in two_counts _ _ _ _
    (leaf_counts room s floor ceiling
    ∙ ap (λ (t : PlanesNow). planes_over room (length (planes_found t.planes floor)) (planes_over room (length (planes_found (floor_found floor s).planes ceiling)) None)) e
    ∙ ap (λ (ps : List Plane). planes_over room (length (planes_found a.planes floor)) (planes_over room (length (planes_found ps ceiling)) None)) planes_are)

-- a fragment's counts, where the ceiling's check left the planes b
pub checks_over-counts : (room : ℕ) (s : PlanesNow) (a : PlanesView) (n : FragmentNumbers) (first last : ℕ) (f c : Option ℕ) → s ≡ now a.planes f c →
    (b : PlanesView) → b ≡ with_planes (planes_checked a.planes (checked_plane n.ceiling_mark a.planes c first last)) a →
    Counts (checks_over room n first last s) room (length (planes_checked a.planes (checked_plane n.ceiling_mark a.planes c first last)))
    (length (planes_checked b.planes (checked_plane n.floor_mark b.planes f first last)))
checks_over-counts room s a n first last f c e b g =
    let ceiling_checked = check-ceiling s a b n first last f c (number_checked c (checked_plane n.ceiling_mark a.planes c first last)) e g refl in
    two_counts _ _ _ _
    (check_counts room n first last s
    ∙ ap (λ (t : PlanesNow). planes_over room (length (planes_checked t.planes (checked_plane n.ceiling_mark t.planes t.ceiling first last)))
    (planes_over room (length (planes_checked (ceiling_check n first last s).planes (checked_plane n.floor_mark (ceiling_check n first last s).planes (ceiling_check n first last s).floor first last))) None)) e
    ∙ ap (λ (t : PlanesNow). planes_over room (length (planes_checked a.planes (checked_plane n.ceiling_mark a.planes c first last)))
    (planes_over room (length (planes_checked t.planes (checked_plane n.floor_mark t.planes t.floor first last))) None)) ceiling_checked)

-- what is among the planes stays so where there are more
pub among-longer : (o : Option ℕ) (xs ys : List Plane) → IsAmongPlanes xs o → length xs ≤ length ys → IsAmongPlanes ys o
among-longer None xs ys h l = tt
among-longer (Some i) xs ys h l = omega arith

longer_find : (planes : List Plane) (key : PlaneKey) → length planes ≤ length (find planes key).planes
longer_find planes key = omega (arith, length-find planes key)

pub longer_found : (planes : List Plane) (o : Option PlaneKey) → length planes ≤ length (planes_found planes o)
unfolding planes_found
longer_found planes None = omega arith
longer_found planes (Some key) = longer_find planes key
