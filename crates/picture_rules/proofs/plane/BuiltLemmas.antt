-- Laws of the planes that events build: one event more, one column more, and that equal rows mark equally.
use Rattle.std.proofs.Common.{◌≡◌, ◌<◌, ℕ, zero, suc, ◌+◌, ◌-◌, ◌≤◌, Bool, true, false, List, [], ◌∷◌, ◌++◌, Option, Some, None, length, refl, ap, ◌∙◌, arith}
use Rattle.picture_rules.specs.declared.plane.PlaneKey.{PlaneKey}
use Rattle.picture_rules.specs.plane.Planes.{Plane, PlaneChoice, find, AreWide}
use Rattle.picture_rules.specs.plane.Built.{PlaneWall, PlaneEvent, PlanesNow, floor_found, ceiling_found, checked_plane, with_ceiling, with_floor, ceiling_checked, floor_checked, set_run, column_marked, columns_marked, wall_marked, after_event, after_events, MarkAlike, IsAmongPlanes, IsSoundNow}
use Rattle.picture_rules.specs.plane.Built.PlaneEvent.{Finds, Draws}
use Rattle.picture_rules.proofs.plane.PlaneLemmas.{wide-find, wide-check, wide-mark, find-within, check-within, length-find, length-check, length-mark}

-- first the one list of events, then the other
pub after_events-append : (s : PlanesNow) (xs ys : List PlaneEvent) → after_events s (xs ++ ys) ≡ after_events (after_events s xs) ys
unfolding after_events
after_events-append s [] ys = refl
after_events-append s (e ∷ es) ys = after_events-append (after_event s e) es ys

-- one event more
pub after_events-more : (s : PlanesNow) (es : List PlaneEvent) (e : PlaneEvent) → after_events s (es ++ e ∷ []) ≡ after_event (after_events s es) e
unfolding after_events
after_events-more s [] e = refl
after_events-more s (f ∷ fs) e = after_events-more (after_event s f) fs e

-- no column, and one column more
pub columns_marked-none : (w : PlaneWall) (ceiling floor : Option ℕ) (n : ℕ) (planes : List Plane) → n ≡ 0 → planes ≡ columns_marked w ceiling floor n planes
unfolding columns_marked
columns_marked-none w ceiling floor n planes e = rw e

pub columns_marked-more : (w : PlaneWall) (ceiling floor : Option ℕ) (k n : ℕ) (planes : List Plane) → k + 1 ≡ n →
    column_marked w ceiling floor (w.first + k) (columns_marked w ceiling floor k planes) ≡ columns_marked w ceiling floor n planes
unfolding columns_marked
columns_marked-more w ceiling floor k n planes e = let is_suc : suc k ≡ n = omega arith in ap (λ (m : ℕ). columns_marked w ceiling floor m planes) is_suc

column_alike : (a b : PlaneWall) → MarkAlike a b → (ceiling floor : Option ℕ) (x : ℕ) (planes : List Plane) → a.first ≤ x → x ≤ a.last → column_marked a ceiling floor x planes ≡ column_marked b ceiling floor x planes
unfolding column_marked
column_alike a b h ceiling floor x planes l m =
    ap (λ (r : Option (ℕ × ℕ)). set_run (set_run planes ceiling x r) floor x (a.floor_rows x)) (h.ceiling_rows x l m)
    ∙ ap (set_run (set_run planes ceiling x (b.ceiling_rows x)) floor x) (h.floor_rows x l m)

columns_alike : (a b : PlaneWall) → MarkAlike a b → (ceiling floor : Option ℕ) (n : ℕ) (planes : List Plane) → a.first + n ≤ a.last + 1 → columns_marked a ceiling floor n planes ≡ columns_marked b ceiling floor n planes
unfolding columns_marked
columns_alike a b h ceiling floor zero planes l = refl
columns_alike a b h ceiling floor (suc n) planes l =
    column_alike a b h ceiling floor (a.first + n) (columns_marked a ceiling floor n planes) (omega arith) (omega arith)
    ∙ ap (column_marked b ceiling floor (a.first + n)) (columns_alike a b h ceiling floor n planes (omega arith))
    ∙ ap (λ (f : ℕ). column_marked b ceiling floor (f + n) (columns_marked b ceiling floor n planes)) h.first

marked_alike : (a b : PlaneWall) → MarkAlike a b → a.first ≤ a.last + 1 → (s : PlanesNow) → wall_marked a s ≡ wall_marked b s
unfolding wall_marked
marked_alike a b h l s =
    ap (λ (p : List Plane). record { planes = p; floor = s.floor; ceiling = s.ceiling })
    (columns_alike a b h s.ceiling s.floor (a.last + 1 - a.first) s.planes (omega arith)
    ∙ (let same_count : a.last + 1 - a.first ≡ b.last + 1 - b.first = (let same_first = h.first in let same_last = h.last in omega arith) in ap (λ (n : ℕ). columns_marked b s.ceiling s.floor n s.planes) same_count))

ceiling_alike : (a b : PlaneWall) → MarkAlike a b → (s : PlanesNow) → ceiling_checked a s ≡ ceiling_checked b s
unfolding ceiling_checked
ceiling_alike a b h s = let same_marks = h.ceiling_mark in let same_first = h.first in let same_last = h.last in cc

floor_alike : (a b : PlaneWall) → MarkAlike a b → (s : PlanesNow) → floor_checked a s ≡ floor_checked b s
unfolding floor_checked
floor_alike a b h s = let same_marks = h.floor_mark in let same_first = h.first in let same_last = h.last in cc

pub after_event-alike : (s : PlanesNow) (a b : PlaneWall) → MarkAlike a b → a.first ≤ a.last + 1 → after_event s (Draws a) ≡ after_event s (Draws b)
unfolding after_event
after_event-alike s a b h l =
    marked_alike a b h l (floor_checked a (ceiling_checked a s))
    ∙ ap (wall_marked b) (floor_alike a b h (ceiling_checked a s) ∙ ap (floor_checked b) (ceiling_alike a b h s))

more_planes : (ps qs : List Plane) (o : Option ℕ) → length ps ≤ length qs → IsAmongPlanes ps o → IsAmongPlanes qs o
more_planes ps qs None l h = tt
more_planes ps qs (Some i) l h = omega arith

longer_find : (planes : List Plane) (key : PlaneKey) → length planes ≤ length (find planes key).planes
longer_find planes key = omega (arith, length-find planes key)

sound-floor_found : (o : Option PlaneKey) (s : PlanesNow) → IsSoundNow s → IsSoundNow (floor_found o s)
unfolding floor_found
sound-floor_found None s h = record { wide = h.wide; floor = tt; ceiling = h.ceiling }
sound-floor_found (Some key) s h = record {
  wide = wide-find s.planes key h.wide;
  floor = find-within s.planes key;
  ceiling = more_planes s.planes (find s.planes key).planes s.ceiling (longer_find s.planes key) h.ceiling;
}

sound-ceiling_found : (o : Option PlaneKey) (s : PlanesNow) → IsSoundNow s → IsSoundNow (ceiling_found o s)
unfolding ceiling_found
sound-ceiling_found None s h = record { wide = h.wide; floor = h.floor; ceiling = tt }
sound-ceiling_found (Some key) s h = record {
  wide = wide-find s.planes key h.wide;
  floor = more_planes s.planes (find s.planes key).planes s.floor (longer_find s.planes key) h.floor;
  ceiling = find-within s.planes key;
}

-- what the choice of a plane keeps: the planes are as wide, none is lost, and the chosen one is among them
abbrev IsSoundChoice : List Plane → Option PlaneChoice → Type 0
IsSoundChoice planes None = Unit {0}
IsSoundChoice planes (Some c) = AreWide c.planes × (length planes ≤ length c.planes) × (c.number < length c.planes)

sound_checked : (m : Bool) (planes : List Plane) (o : Option ℕ) (first last : ℕ) → IsAmongPlanes planes o → AreWide planes → IsSoundChoice planes (checked_plane m planes o first last)
unfolding checked_plane
sound_checked false planes o first last a w = tt
sound_checked true planes None first last a w = tt
sound_checked true planes (Some i) first last a w = (wide-check planes i first last w, length-check planes i first last, check-within planes i first last a)

sound-with_ceiling : (c : Option PlaneChoice) (s : PlanesNow) → IsSoundChoice s.planes c → IsSoundNow s → IsSoundNow (with_ceiling c s)
unfolding with_ceiling
sound-with_ceiling None s k h = h
sound-with_ceiling (Some c) s k h = record { wide = k.0; floor = more_planes s.planes c.planes s.floor k.1 h.floor; ceiling = k.2 }

sound-with_floor : (c : Option PlaneChoice) (s : PlanesNow) → IsSoundChoice s.planes c → IsSoundNow s → IsSoundNow (with_floor c s)
unfolding with_floor
sound-with_floor None s k h = h
sound-with_floor (Some c) s k h = record { wide = k.0; floor = k.2; ceiling = more_planes s.planes c.planes s.ceiling k.1 h.ceiling }

wide_set : (planes : List Plane) (o : Option ℕ) (x : ℕ) (rows : Option (ℕ × ℕ)) → AreWide planes → AreWide (set_run planes o x rows)
unfolding set_run
wide_set planes None x rows w = w
wide_set planes (Some i) x None w = w
wide_set planes (Some i) x (Some rows) w = wide-mark planes i x rows w

length_set : (planes : List Plane) (o : Option ℕ) (x : ℕ) (rows : Option (ℕ × ℕ)) → length (set_run planes o x rows) ≡ length planes
unfolding set_run
length_set planes None x rows = refl
length_set planes (Some i) x None = refl
length_set planes (Some i) x (Some rows) = length-mark planes i x rows

wide_columns : (w : PlaneWall) (ceiling floor : Option ℕ) (n : ℕ) (planes : List Plane) → AreWide planes → AreWide (columns_marked w ceiling floor n planes)
unfolding columns_marked column_marked
wide_columns w ceiling floor zero planes h = h
wide_columns w ceiling floor (suc n) planes h =
    wide_set (set_run (columns_marked w ceiling floor n planes) ceiling (w.first + n) (w.ceiling_rows (w.first + n))) floor (w.first + n) (w.floor_rows (w.first + n))
    (wide_set (columns_marked w ceiling floor n planes) ceiling (w.first + n) (w.ceiling_rows (w.first + n)) (wide_columns w ceiling floor n planes h))

length_columns : (w : PlaneWall) (ceiling floor : Option ℕ) (n : ℕ) (planes : List Plane) → length (columns_marked w ceiling floor n planes) ≡ length planes
unfolding columns_marked column_marked
length_columns w ceiling floor zero planes = refl
length_columns w ceiling floor (suc n) planes =
    length_set (set_run (columns_marked w ceiling floor n planes) ceiling (w.first + n) (w.ceiling_rows (w.first + n))) floor (w.first + n) (w.floor_rows (w.first + n))
    ∙ length_set (columns_marked w ceiling floor n planes) ceiling (w.first + n) (w.ceiling_rows (w.first + n)) ∙ length_columns w ceiling floor n planes

sound-wall_marked : (w : PlaneWall) (s : PlanesNow) → IsSoundNow s → IsSoundNow (wall_marked w s)
unfolding wall_marked
sound-wall_marked w s h = record {
  wide = wide_columns w s.ceiling s.floor (w.last + 1 - w.first) s.planes h.wide;
  floor = more_planes s.planes (columns_marked w s.ceiling s.floor (w.last + 1 - w.first) s.planes) s.floor (omega (arith, length_columns w s.ceiling s.floor (w.last + 1 - w.first) s.planes)) h.floor;
  ceiling = more_planes s.planes (columns_marked w s.ceiling s.floor (w.last + 1 - w.first) s.planes) s.ceiling (omega (arith, length_columns w s.ceiling s.floor (w.last + 1 - w.first) s.planes)) h.ceiling;
}

pub sound-after_event : (s : PlanesNow) (e : PlaneEvent) → IsSoundNow s → IsSoundNow (after_event s e)
unfolding after_event ceiling_checked floor_checked
sound-after_event s (Finds floor ceiling) h = sound-ceiling_found ceiling (floor_found floor s) (sound-floor_found floor s h)
sound-after_event s (Draws w) h =
    let ceiling_sound : IsSoundNow (ceiling_checked w s) =
    sound-with_ceiling _ s (sound_checked w.ceiling_mark s.planes s.ceiling w.first w.last h.ceiling h.wide) h in
    let now : PlanesNow = ceiling_checked w s in
    sound-wall_marked w (floor_checked w now)
    (sound-with_floor _ now (sound_checked w.floor_mark now.planes now.floor w.first w.last ceiling_sound.floor ceiling_sound.wide) ceiling_sound)

pub sound-after_events : (s : PlanesNow) (es : List PlaneEvent) → IsSoundNow s → IsSoundNow (after_events s es)
unfolding after_events
sound-after_events s [] h = h
sound-after_events s (e ∷ es) h = sound-after_events (after_event s e) es (sound-after_event s e h)

-- an event takes no plane away
longer_floor : (o : Option PlaneKey) (s : PlanesNow) → length s.planes ≤ length (floor_found o s).planes
unfolding floor_found
longer_floor None s = omega arith
longer_floor (Some key) s = longer_find s.planes key

longer_ceiling : (o : Option PlaneKey) (s : PlanesNow) → length s.planes ≤ length (ceiling_found o s).planes
unfolding ceiling_found
longer_ceiling None s = omega arith
longer_ceiling (Some key) s = longer_find s.planes key

longer_ceiling_checked : (marks : Bool) (o : Option ℕ) (s : PlanesNow) (first last : ℕ) → length s.planes ≤ length (with_ceiling (checked_plane marks s.planes o first last) s).planes
unfolding with_ceiling checked_plane
longer_ceiling_checked false o s first last = omega arith
longer_ceiling_checked true None s first last = omega arith
longer_ceiling_checked true (Some i) s first last = length-check s.planes i first last

longer_floor_checked : (marks : Bool) (o : Option ℕ) (s : PlanesNow) (first last : ℕ) → length s.planes ≤ length (with_floor (checked_plane marks s.planes o first last) s).planes
unfolding with_floor checked_plane
longer_floor_checked false o s first last = omega arith
longer_floor_checked true None s first last = omega arith
longer_floor_checked true (Some i) s first last = length-check s.planes i first last

longer_marked : (w : PlaneWall) (s : PlanesNow) → length s.planes ≤ length (wall_marked w s).planes
unfolding wall_marked
longer_marked w s = omega (arith, length_columns w s.ceiling s.floor (w.last + 1 - w.first) s.planes)

pub after_event-longer : (s : PlanesNow) (e : PlaneEvent) → length s.planes ≤ length (after_event s e).planes
unfolding after_event ceiling_checked floor_checked
after_event-longer s (Finds floor ceiling) =
    let floor_longer = longer_floor floor s in
    let ceiling_longer = longer_ceiling ceiling (floor_found floor s) in
    omega (arith, floor_longer, ceiling_longer)
after_event-longer s (Draws w) =
    let ceiling_longer = longer_ceiling_checked w.ceiling_mark s.ceiling s w.first w.last in
    let now : PlanesNow = ceiling_checked w s in
    let floor_longer = longer_floor_checked w.floor_mark now.floor now w.first w.last in
    let marked_longer = longer_marked w (floor_checked w now) in
    omega (arith, ceiling_longer, floor_longer, marked_longer)
