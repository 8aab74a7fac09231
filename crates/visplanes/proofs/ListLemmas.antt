-- Laws of a list of planes of which the first ones count: what is changed, added and found there.
use Rattle.picture_rules.proofs.Common.{[], All-push, All-set, ap, arith, Bool, false, get_or, get_or-take, length, length-replicate, length-set, length-take, List, None, Option, refl, slice_get, Some, suc, sym, take, true, zero, ℕ, ◌++◌, ◌<◌, ◌∙◌, ◌∷◌, ◌≡◌, ◌≤◌, set}
use Rattle.visplanes.specs.Rules.{AreWide, FRAME_WIDTH, Plane, PlaneKey, add, check, check_plane, empty_plane, is_free, mark, with_run}
use Rattle.picture_rules.proofs.plane.PlaneLemmas.{check-some, mark-some}
use Rattle.visplanes.specs.Planes.{PlanesView}

pub length-empty_plane : (key : PlaneKey) → length (empty_plane key).runs ≡ FRAME_WIDTH
unfolding empty_plane
length-empty_plane key = length-replicate {A = Option (ℕ × ℕ)} FRAME_WIDTH None

-- all planes stay as wide as a frame
pub wide-put : (planes : List Plane) (i : ℕ) (p : Plane) → length p.runs ≡ FRAME_WIDTH → AreWide planes → AreWide (set planes i p)
wide-put planes i p l w = All-set (λ q. length q.runs ≡ FRAME_WIDTH) planes i p l w

pub wide-push : (planes : List Plane) (p : Plane) → length p.runs ≡ FRAME_WIDTH → AreWide planes → AreWide (planes ++ p ∷ [])
wide-push planes p l w = All-push (λ q. length q.runs ≡ FRAME_WIDTH) planes p w l

-- a change of one of the first planes
pub take-put : (n : ℕ) (planes : List Plane) (i : ℕ) (p : Plane) → take n (set planes i p) ≡ set (take n planes) i p
take-put zero planes i p = refl
take-put (suc n) [] i p = refl
take-put (suc n) (q ∷ qs) zero p = refl
take-put (suc n) (q ∷ qs) (suc i) p = ap (λ (ps : List Plane). q ∷ ps) (take-put n qs i p)

-- the plane that is read at a number
pub get-read : (planes : List Plane) (i : ℕ) (p : Plane) → i < length planes → p ≡ get_or planes i p → slice_get planes i ≡ Some p
get-read [] i p l e = absurd (omega arith)
get-read (q ∷ qs) zero p l e = ap (λ (o : Plane). Some o) (sym e)
get-read (q ∷ qs) (suc i) p l e = get-read qs i p (omega arith) e

pub get-taken : (planes : List Plane) (n i : ℕ) (p : Plane) → i < n → n ≤ length planes → p ≡ get_or planes i p → slice_get (take n planes) i ≡ Some p
get-taken planes n i p l m e = get-read (take n planes) i p (omega (arith, length-take n planes)) (e ∙ sym (get_or-take n planes i p l))

pub mark-taken : (planes : List Plane) (n i x : ℕ) (rows : ℕ × ℕ) (p marked : Plane) → i < n → n ≤ length planes → p ≡ get_or planes i p → marked ≡ with_run p x rows →
    take n (set planes i marked) ≡ mark (take n planes) i x rows
mark-taken planes n i x rows p marked l m e f =
    take-put n planes i marked ∙ ap (set (take n planes) i) f ∙ sym (mark-some (take n planes) i x rows p (get-taken planes n i p l m e))

-- a plane whose columns are free is kept, and else there is a new one
pub check-free : (planes : List Plane) (i first last : ℕ) (p : Plane) → slice_get planes i ≡ Some p → is_free p.runs first last ≡ true → check planes i first last ≡ record { number = i; planes = planes }
unfolding check_plane
check-free planes i first last p e f = check-some planes i first last p e ∙ rw f refl

pub check-taken : (planes : List Plane) (i first last : ℕ) (p : Plane) → slice_get planes i ≡ Some p → is_free p.runs first last ≡ false → check planes i first last ≡ add planes p.key
unfolding check_plane
check-taken planes i first last p e f = check-some planes i first last p e ∙ rw f refl

pub wide-marked : (planes : List Plane) (i x : ℕ) (rows : ℕ × ℕ) (p marked : Plane) → i < length planes → p ≡ get_or planes i p → marked ≡ with_run p x rows → AreWide planes → length marked.runs ≡ FRAME_WIDTH
unfolding with_run
wide-marked planes i x rows p marked l e f w =
    ap (λ (q : Plane). length q.runs) f ∙ length-set p.runs x (Some rows) ∙ ap (λ (q : Plane). length q.runs) e ∙ w i p l

-- the same of the planes that a contract sees
pub read_plane : (s : PlanesView) (items : List Plane) (count n : ℕ) (p : Plane) → record { planes = take count items; room = length items } ≡ s → n < length s.planes → count ≤ length items → p ≡ get_or items n p →
    slice_get s.planes n ≡ Some p
read_plane s items count n p e l m r =
    ap (λ (t : PlanesView). slice_get t.planes n) (sym e) ∙ get-taken items count n p (omega (arith, ap (λ (t : PlanesView). length t.planes) e, length-take count items)) m r

-- the plane that is read is kept where its columns are free, and else there is a new one of its key
pub check-read : (s : PlanesView) (items : List Plane) (count n first last : ℕ) (p : Plane) (free : Bool) → record { planes = take count items; room = length items } ≡ s →
    n < length s.planes → count ≤ length items → p ≡ get_or items n p → free ≡ is_free p.runs first last → free ≡ true →
    check s.planes n first last ≡ record { number = n; planes = s.planes }
check-read s items count n first last p free e l m r is it =
    check-free s.planes n first last p (read_plane s items count n p e l m r) (sym is ∙ it)

pub check-added : (s : PlanesView) (items : List Plane) (count n first last : ℕ) (p : Plane) (free : Bool) (key : PlaneKey) → record { planes = take count items; room = length items } ≡ s →
    n < length s.planes → count ≤ length items → p ≡ get_or items n p → free ≡ is_free p.runs first last → free ≡ false → key ≡ p.key →
    check s.planes n first last ≡ add s.planes key
check-added s items count n first last p free key e l m r is no_more same =
    check-taken s.planes n first last p (read_plane s items count n p e l m r) (sym is ∙ no_more) ∙ ap (add s.planes) (sym same)

pub within_room : (s : PlanesView) (items : List Plane) (count : ℕ) → record { planes = take count items; room = length items } ≡ s → count ≤ length items → length s.planes ≤ s.room
within_room s items count e m = omega (arith, ap (λ (t : PlanesView). length t.planes) e, ap (λ (t : PlanesView). t.room) e, length-take count items)
