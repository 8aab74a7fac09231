-- Laws of the list of planes: what find, check and mark give, how many planes there are, and what a column holds.
use Rattle.word_rules.proofs.Common.{[], All-push, All-set, arith, Bool, cond, false, get_or, is_none, length, length-replicate, length-set, length_push, List, None, Option, position-Some, refl, replicate, slice_get, slice_index_or, slice_set, Some, subst, suc, true, zero, ℕ, ◌+◌, ◌<◌, ◌∙◌, ◌∷◌, ◌≡◌, ◌≤◌}
use Rattle.view_rules.specs.declared.TheConstants.{FRAME_WIDTH}
use Rattle.picture_rules.specs.{declared.plane.PlaneKey.PlaneKey, plane.Keys.same_key}
use Rattle.picture_rules.specs.plane.Planes.{Plane, empty_plane, add, number_or_add, number_of, find, is_free, check_plane, check_some, check, with_run, mark_some, mark, column, AreWide}

-- the first plane of equal key, or a new one behind the others
pub find-some : (planes : List Plane) (key : PlaneKey) (i : ℕ) → number_of planes key ≡ Some i → find planes key ≡ record { number = i; planes = planes }
unfolding find number_or_add
find-some planes key i e = rw e refl

pub find-none : (planes : List Plane) (key : PlaneKey) → number_of planes key ≡ None → find planes key ≡ add planes key
unfolding find number_or_add
find-none planes key e = rw e refl

-- a plane that is there
pub check-some : (planes : List Plane) (i first last : ℕ) (p : Plane) → slice_get planes i ≡ Some p → check planes i first last ≡ check_plane planes i p first last
unfolding check check_some
check-some planes i first last p e = rw e refl

pub mark-some : (planes : List Plane) (i x : ℕ) (rows : ℕ × ℕ) (p : Plane) → slice_get planes i ≡ Some p → mark planes i x rows ≡ slice_set planes i (with_run p x rows)
unfolding mark mark_some
mark-some planes i x rows p e = rw e refl

same_at : (n x : ℕ) (d : Option (ℕ × ℕ)) → slice_index_or (replicate n d) x d ≡ d
same_at zero x d = refl
same_at (suc n) zero d = refl
same_at (suc n) (suc x) d = same_at n x d

pub column-empty_plane : (key : PlaneKey) (x : ℕ) → column (empty_plane key) x ≡ None
unfolding column empty_plane
column-empty_plane key x = same_at FRAME_WIDTH x None

-- how many planes there are
pub length-add : (planes : List Plane) (key : PlaneKey) → length (add planes key).planes ≡ length planes + 1
unfolding add
length-add planes key = length_push planes (empty_plane key)

length_or_add : (planes : List Plane) (key : PlaneKey) (r : Option ℕ) → length (number_or_add planes key r).planes ≡ length planes + cond (is_none r) 1 0
unfolding number_or_add
length_or_add planes key None = length-add planes key
length_or_add planes key (Some i) = omega arith

pub length-find : (planes : List Plane) (key : PlaneKey) → length (find planes key).planes ≡ length planes + cond (is_none (number_of planes key)) 1 0
unfolding find
length-find planes key = length_or_add planes key (number_of planes key)

length_mark_some : (planes : List Plane) (i : ℕ) (o : Option Plane) (x : ℕ) (rows : ℕ × ℕ) → length (mark_some planes i o x rows) ≡ length planes
unfolding mark_some
length_mark_some planes i None x rows = refl
length_mark_some planes i (Some p) x rows = length-set planes i (with_run p x rows)

pub length-mark : (planes : List Plane) (i x : ℕ) (rows : ℕ × ℕ) → length (mark planes i x rows) ≡ length planes
unfolding mark
length-mark planes i x rows = length_mark_some planes i (slice_get planes i) x rows

-- the number that is found is one of the planes
within_or_add : (planes : List Plane) (key : PlaneKey) (r : Option ℕ) → number_of planes key ≡ r → (number_or_add planes key r).number < length (number_or_add planes key r).planes
unfolding number_or_add add number_of
within_or_add planes key None e = omega (arith, length_push planes (empty_plane key))
within_or_add planes key (Some i) e = (position-Some (λ p. same_key p.key key) planes i (empty_plane key) e).0

pub find-within : (planes : List Plane) (key : PlaneKey) → (find planes key).number < length (find planes key).planes
unfolding find
find-within planes key = within_or_add planes key (number_of planes key) refl

within_check_plane : (planes : List Plane) (i : ℕ) (p : Plane) (b : Bool) → i < length planes → (cond b (record { number = i; planes = planes }) (add planes p.key)).number < length (cond b (record { number = i; planes = planes }) (add planes p.key)).planes
unfolding add
within_check_plane planes i p true l = l
within_check_plane planes i p false l = omega (arith, length_push planes (empty_plane p.key))

within_check_some : (planes : List Plane) (i : ℕ) (o : Option Plane) (first last : ℕ) → i < length planes → (check_some planes i o first last).number < length (check_some planes i o first last).planes
unfolding check_some check_plane
within_check_some planes i None first last l = l
within_check_some planes i (Some p) first last l = within_check_plane planes i p (is_free p.runs first last) l

longer_check_plane : (planes : List Plane) (i : ℕ) (p : Plane) (b : Bool) → length planes ≤ length (cond b (record { number = i; planes = planes }) (add planes p.key)).planes
unfolding add
longer_check_plane planes i p true = omega arith
longer_check_plane planes i p false = omega (arith, length_push planes (empty_plane p.key))

longer_check_some : (planes : List Plane) (i : ℕ) (o : Option Plane) (first last : ℕ) → length planes ≤ length (check_some planes i o first last).planes
unfolding check_some check_plane
longer_check_some planes i None first last = omega arith
longer_check_some planes i (Some p) first last = longer_check_plane planes i p (is_free p.runs first last)

pub check-within : (planes : List Plane) (i first last : ℕ) → i < length planes → (check planes i first last).number < length (check planes i first last).planes
unfolding check
check-within planes i first last l = within_check_some planes i (slice_get planes i) first last l

pub length-check : (planes : List Plane) (i first last : ℕ) → length planes ≤ length (check planes i first last).planes
unfolding check
length-check planes i first last = longer_check_some planes i (slice_get planes i) first last

-- each plane stays as wide as a frame
pub wide-add : (planes : List Plane) (key : PlaneKey) → AreWide planes → AreWide (add planes key).planes
unfolding add empty_plane
wide-add planes key w = All-push (λ p. length p.runs ≡ FRAME_WIDTH) planes (empty_plane key) w (length-replicate {A = Option (ℕ × ℕ)} FRAME_WIDTH None)

wide_or_add : (planes : List Plane) (key : PlaneKey) (r : Option ℕ) → AreWide planes → AreWide (number_or_add planes key r).planes
unfolding number_or_add
wide_or_add planes key None w = wide-add planes key w
wide_or_add planes key (Some i) w = w

pub wide-find : (planes : List Plane) (key : PlaneKey) → AreWide planes → AreWide (find planes key).planes
unfolding find
wide-find planes key w = wide_or_add planes key (number_of planes key) w

wide_check_plane : (planes : List Plane) (i : ℕ) (p : Plane) (b : Bool) → AreWide planes → AreWide (cond b (record { number = i; planes = planes }) (add planes p.key)).planes
wide_check_plane planes i p true w = w
wide_check_plane planes i p false w = wide-add planes p.key w

wide_check_some : (planes : List Plane) (i : ℕ) (o : Option Plane) (first last : ℕ) → AreWide planes → AreWide (check_some planes i o first last).planes
unfolding check_some check_plane
wide_check_some planes i None first last w = w
wide_check_some planes i (Some p) first last w = wide_check_plane planes i p (is_free p.runs first last) w

pub wide-check : (planes : List Plane) (i first last : ℕ) → AreWide planes → AreWide (check planes i first last).planes
unfolding check
wide-check planes i first last w = wide_check_some planes i (slice_get planes i) first last w

get_is : (planes : List Plane) (i : ℕ) (p : Plane) → slice_get planes i ≡ Some p → (i < length planes) × (get_or planes i p ≡ p)
get_is [] i p e = cc
get_is (q ∷ qs) zero p e = (omega arith, (let same_some : Some q ≡ Some p = e in cc))
get_is (q ∷ qs) (suc i) p e = let is_rest = get_is qs i p e in (omega (arith, is_rest.0), is_rest.1)

wide_mark_some : (planes : List Plane) (i : ℕ) (o : Option Plane) → slice_get planes i ≡ o → (x : ℕ) (rows : ℕ × ℕ) → AreWide planes → AreWide (mark_some planes i o x rows)
unfolding mark_some with_run
wide_mark_some planes i None e x rows w = w
wide_mark_some planes i (Some p) e x rows w =
    let is_there = get_is planes i p e in
    let is_wide : length p.runs ≡ FRAME_WIDTH = subst (λ (q : Plane). length q.runs ≡ FRAME_WIDTH) is_there.1 (w i p is_there.0) in
    All-set (λ q. length q.runs ≡ FRAME_WIDTH) planes i (with_run p x rows) (length-set p.runs x (Some rows) ∙ is_wide) w

pub wide-mark : (planes : List Plane) (i x : ℕ) (rows : ℕ × ℕ) → AreWide planes → AreWide (mark planes i x rows)
unfolding mark
wide-mark planes i x rows w = wide_mark_some planes i (slice_get planes i) refl x rows w
