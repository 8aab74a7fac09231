-- Laws of the first plane of a key: which it is, and that it stays the first while planes are added and marked.
use Rattle.picture_rules.proofs.Common.{[], and_from, and_parts, ap, arith, Bool, common_steps, eq-eqb, eqb-true, get_or, get_or-take, get_or_append_left, get_or_default, length, length-set, length-take, length_push, List, None, not, Option, position, position-Some, prefix_len-le-length, refl, Some, subst, suc, sym, take, take_more_set, true, zero, ℕ, ◌&&◌, ◌++◌, ◌+◌, ◌<◌, ◌==◌, ◌∙◌, ◌∷◌, ◌≡◌, ◌≤◌, set}
use Rattle.visplanes.specs.Rules.{Flat4, Lump, Plane, PlaneKey, Sky, add, bits_of, empty_plane, find, number_of, same_flat, same_key, same_word, with_run}
use Rattle.picture_rules.proofs.plane.PlaneLemmas.{find-some, find-none}
use Rattle.visplanes.specs.Planes.{IsFirst, plane_at, no_plane}
use Rattle.visplanes.proofs.ListLemmas.{take-put}

-- a flat is equal to itself and to no other
flat_is : (a b : Flat4) → same_flat a b ≡ true → a ≡ b
unfolding same_flat
flat_is Sky Sky e = refl
flat_is Sky (Lump m) e = cc
flat_is (Lump n) Sky e = cc
flat_is (Lump n) (Lump m) e = ap Lump (eqb-true n m e)

flat_refl : (a : Flat4) → same_flat a a ≡ true
unfolding same_flat
flat_refl Sky = refl
flat_refl (Lump n) = eq-eqb n n refl

same_key-refl : (a : PlaneKey) → same_key a a ≡ true
unfolding same_key same_word
same_key-refl a =
    and_from _ _ (eq-eqb (bits_of a.height) (bits_of a.height) refl) (and_from _ _ (flat_refl a.flat) (eq-eqb (bits_of a.light) (bits_of a.light) refl))

-- equal keys are equal to the same keys
same_key-right : (a b c : PlaneKey) → same_key b c ≡ true → same_key a b ≡ same_key a c
unfolding same_key same_word
same_key-right a b c e =
    let outer = and_parts _ _ e in
    let inner = and_parts _ _ outer.1 in
    let height : bits_of b.height ≡ bits_of c.height = eqb-true _ _ outer.0 in
    let flat : b.flat ≡ c.flat = flat_is b.flat c.flat inner.0 in
    let light : bits_of b.light ≡ bits_of c.light = eqb-true _ _ inner.1 in
    ap (λ (n : ℕ). (bits_of a.height == n) && (same_flat a.flat b.flat && bits_of a.light == bits_of b.light)) height
    ∙ ap (λ (f : Flat4). (bits_of a.height == bits_of c.height) && (same_flat a.flat f && bits_of a.light == bits_of b.light)) flat
    ∙ ap (λ (n : ℕ). (bits_of a.height == bits_of c.height) && (same_flat a.flat c.flat && bits_of a.light == n)) light

number_of-same : (planes : List Plane) (b c : PlaneKey) → same_key b c ≡ true → number_of planes b ≡ number_of planes c
unfolding number_of
number_of-same planes b c e =
    let tests : (λ (p : Plane). same_key p.key b) ≡ (λ (p : Plane). same_key p.key c) = (λ i p. same_key-right p.key b c e i) in
    ap (λ (test : Plane → Bool). position test planes) tests

-- what is found is the first of its key
pub first-found : (planes : List Plane) (key : PlaneKey) (n : ℕ) → number_of planes key ≡ Some n → IsFirst planes n
unfolding number_of
first-found planes key n e =
    let plane_is_there = position-Some (λ p. same_key p.key key) planes n no_plane e in
    record {
      within = (let is_there = plane_is_there.0 in omega arith);
      first = λ l. number_of-same planes (plane_at planes n).key key plane_is_there.1 ∙ e;
    }

-- a plane with a key that is the first of its own is the first of that key
pub recent-number : (planes : List Plane) (n : ℕ) (key : PlaneKey) → IsFirst planes n → n < length planes → same_key (plane_at planes n).key key ≡ true → number_of planes key ≡ Some n
recent-number planes n key f l e = sym (number_of-same planes (plane_at planes n).key key e) ∙ f.first l

-- a plane behind the others: the first that passes stays it, and where none does it is the new one
position_push_some : (test : Plane → Bool) (planes : List Plane) (p : Plane) (i : ℕ) → position test planes ≡ Some i → position test (planes ++ p ∷ []) ≡ Some i
position_push_some test planes p i e = grind (arith, common_steps)

position_push_none : (test : Plane → Bool) (planes : List Plane) (p : Plane) → position test planes ≡ None → test p ≡ true → position test (planes ++ p ∷ []) ≡ Some (length planes)
position_push_none test planes p e t =
    grind (arith, common_steps, prefix_len-le-length (λ x. not (test x)) planes)

pub first-push : (planes : List Plane) (p : Plane) (n : ℕ) → IsFirst planes n → IsFirst (planes ++ p ∷ []) n
unfolding number_of
first-push [] p n f =
    let number_is_zero : n ≡ 0 = (let was_within = f.within in omega arith) in
    subst (λ (m : ℕ). IsFirst (p ∷ []) m) (sym number_is_zero) (record {
      within = omega arith;
      first = λ l. position_push_none (λ q. same_key q.key p.key) [] p refl (same_key-refl p.key);
    })
first-push (q ∷ qs) p n f =
    let inside : n < length (q ∷ qs) = (let was_within = f.within in omega arith) in
    let plane_same : get_or ((q ∷ qs) ++ p ∷ []) n no_plane ≡ get_or (q ∷ qs) n no_plane = get_or_append_left (q ∷ qs) (p ∷ []) no_plane n inside in
    record {
      within = omega (arith, length_push (q ∷ qs) p);
      first = λ l.
          ap (λ (r : Plane). number_of ((q ∷ qs) ++ p ∷ []) r.key) plane_same
          ∙ position_push_some (λ r. same_key r.key (plane_at (q ∷ qs) n).key) (q ∷ qs) p n (f.first inside);
    }

-- what find gives is the first of its key
first_by : (planes : List Plane) (key : PlaneKey) (o : Option ℕ) → number_of planes key ≡ o → IsFirst (find planes key).planes (find planes key).number
unfolding number_of add empty_plane
first_by planes key (Some n) e = rw (find-some planes key n e) (first-found planes key n e)
first_by planes key None e =
    rw (find-none planes key e) (first-found (planes ++ empty_plane key ∷ []) key (length planes)
    (position_push_none (λ p. same_key p.key key) planes (empty_plane key) e (same_key-refl key)))

pub first-find : (planes : List Plane) (key : PlaneKey) → IsFirst (find planes key).planes (find planes key).number
first-find planes key = first_by planes key (number_of planes key) refl

-- a plane that changes and keeps its key
keys_put : (planes : List Plane) (i n : ℕ) (p : Plane) → p.key ≡ (plane_at planes i).key → i < length planes → (plane_at (set planes i p) n).key ≡ (plane_at planes n).key
keys_put [] i n p e l = refl
keys_put (q ∷ qs) zero zero p e l = e
keys_put (q ∷ qs) zero (suc n) p e l = refl
keys_put (q ∷ qs) (suc i) zero p e l = refl
keys_put (q ∷ qs) (suc i) (suc n) p e l = keys_put qs i n p e (omega arith)

position_put : (test : Plane → Bool) (planes : List Plane) (i : ℕ) (p : Plane) → test p ≡ test (plane_at planes i) → position test (set planes i p) ≡ position test planes
position_put test planes i p e = grind (arith, common_steps)

pub first-put : (planes : List Plane) (i n : ℕ) (p : Plane) → p.key ≡ (plane_at planes i).key → i < length planes → IsFirst planes n → IsFirst (set planes i p) n
unfolding number_of
first-put planes i n p e l f = record {
  within = (let was_within = f.within in omega (arith, length-set planes i p));
  first = λ inside.
      ap (number_of (set planes i p)) (keys_put planes i n p e l)
      ∙ position_put (λ q. same_key q.key (plane_at planes n).key) planes i p (ap (λ (k : PlaneKey). same_key k (plane_at planes n).key) e)
      ∙ f.first (omega (arith, length-set planes i p));
}

-- the same of a list of which the first planes count
pub first-put_next : (planes : List Plane) (count n : ℕ) (p : Plane) → count < length planes → IsFirst (take count planes) n → IsFirst (take (count + 1) (set planes count p)) n
first-put_next planes count n p l f =
    subst (λ (ps : List Plane). IsFirst ps n) (sym (take_more_set planes count p l)) (first-push (take count planes) p n f)

pub first-marked : (planes : List Plane) (count i n x : ℕ) (rows : ℕ × ℕ) (p marked : Plane) → i < count → count ≤ length planes → p ≡ get_or planes i p →
    marked ≡ with_run p x rows → IsFirst (take count planes) n → IsFirst (take count (set planes i marked)) n
unfolding with_run
first-marked planes count i n x rows p marked l m e g f =
    let read : p ≡ plane_at (take count planes) i = e ∙ get_or_default planes i p no_plane (omega arith) ∙ sym (get_or-take count planes i no_plane l) in
    let key : marked.key ≡ (plane_at (take count planes) i).key = ap (λ (q : Plane). q.key) g ∙ ap (λ (q : Plane). q.key) read in
    subst (λ (ps : List Plane). IsFirst ps n) (sym (take-put count planes i marked))
    (first-put (take count planes) i n marked key (omega (arith, length-take count planes)) f)
