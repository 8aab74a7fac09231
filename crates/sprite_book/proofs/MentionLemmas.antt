-- The last mention of a list, and an index of mentions as it grows.
use Rattle.art_rules.proofs.Common.{[], All, All-filter, All-from_get_or, All-get_or, ap, append-nil, arith, Bool, bytes_eq, cases_eq, cases_lt, cond, eq-eqb, Equal, false, get, get_or, get_or-range_with_len, Greater, inl, inr, is_at, is_eq, is_eq-slice_cmp, IsEmpty, length, length-map, length-range_with_len, Less, List, lookup, map, nat_cmp, nat_cmp_is, ne_eqb, None, Option, Ordering, ordering_then, range_with_len, refl, slice_cmp, Some, subst, sym, take, take-length, take_more, true, Updates, ℕ, ◌&&◌, ◌++◌, ◌+◌, ◌<◌, ◌==◌, ◌∙◌, ◌∷◌, ◌≡◌}
use Rattle.std.proofs.Math.ListN.{get_or-map}
use Rattle.sprite_book.specs.Rules.{Lump, LumpNo, Mention, Sprites, is_member, is_of_frame, is_of_rotation, is_of_sprite, joined_lists, last_that, lump_at, lump_mentions, members, mentions, name_mentions, or_else}
use Rattle.art_rules.proofs.Laws.{joined_lists-append}
use Rattle.sprite_book.specs.declared.mentions.Mentions.{Mentions}
use Rattle.sprite_book.specs.Indexes.{IsIndexOf, frame_cmp, turned_cmp}

or_else_none : (r : Option Mention) → or_else r None ≡ r
or_else_none None = refl
or_else_none (Some m) = refl

or_else_assoc : (r s t : Option Mention) → or_else (or_else r s) t ≡ or_else r (or_else s t)
or_else_assoc None s t = refl
or_else_assoc (Some m) s t = refl

-- of two lists the last of the second, or else of the first
last_that-append : (p : Mention → Bool) (xs ys : List Mention) → last_that p (xs ++ ys) ≡ or_else (last_that p ys) (last_that p xs)
unfolding last_that
last_that-append p [] ys = sym (or_else_none (last_that p ys))
last_that-append p (x ∷ xs) ys =
    ap (λ r. or_else r (cond (p x) (Some x) None)) (last_that-append p xs ys) ∙ or_else_assoc (last_that p ys) (last_that p xs) (cond (p x) (Some x) None)

-- one mention more, where t holds
last_that-more : (p : Mention → Bool) (m : Mention) (xs : List Mention) (t u : Bool) → p m ≡ u → last_that p (xs ++ cond t (m ∷ []) []) ≡ cond (t && u) (Some m) (last_that p xs)
unfolding last_that
last_that-more p m xs false u e = ap (last_that p) (append-nil xs)
last_that-more p m xs true true e = last_that-append p xs (m ∷ []) ∙ rw e refl
last_that-more p m xs true false e = last_that-append p xs (m ∷ []) ∙ rw e refl

is_eq-then : (a b : Ordering) → is_eq (ordering_then a b) ≡ (is_eq a && is_eq b)
is_eq-then Less b = refl
is_eq-then Equal b = refl
is_eq-then Greater b = refl

is_eq-nat : (a b : ℕ) → is_eq (nat_cmp a b) ≡ (a == b)
is_eq-nat a b =
    elim (cases_eq a b) [
      | inl e ↦ ap is_eq (sym (nat_cmp_is a b Equal e)) ∙ sym (eq-eqb a b e)
      | inr h ↦ elim (cases_lt a b) [
        | inl l ↦ ap is_eq (sym (nat_cmp_is a b Less l)) ∙ sym (ne_eqb a b h)
        | inr g ↦ ap is_eq (sym (nat_cmp_is a b Greater (omega (arith, h)))) ∙ sym (ne_eqb a b h)
      ]
    ]

-- two keys are one where letters and frame are
pub same_key : (s q : List ℕ) (a b : ℕ) → is_eq (frame_cmp (s, a) (q, b)) ≡ (bytes_eq s q && a == b)
same_key s q a b =
    is_eq-then (slice_cmp nat_cmp s q) (nat_cmp a b) ∙ ap (λ t. t && is_eq (nat_cmp a b)) (is_eq-slice_cmp s q) ∙ ap (λ t. bytes_eq s q && t) (is_eq-nat a b)

and_assoc : (a b c : Bool) → ((a && b) && c) ≡ (a && (b && c))
and_assoc true b c = refl
and_assoc false b c = refl

same_turned : (s q : List ℕ) (a b x y : ℕ) → is_eq (turned_cmp (s, a, x) (q, b, y)) ≡ (bytes_eq s q && (a == b && x == y))
same_turned s q a b x y =
    is_eq-then (frame_cmp (s, a) (q, b)) (nat_cmp x y) ∙ ap (λ t. t && is_eq (nat_cmp x y)) (same_key s q a b) ∙ ap (λ t. (bytes_eq s q && a == b) && t) (is_eq-nat x y) ∙ and_assoc (bytes_eq s q) (a == b) (x == y)

-- a mention was put into the index
pub index_more : (letters : List ℕ) (m : Mention) (old new : Mentions) (all : List ℕ → List Mention) → Updates frame_cmp old.frames new.frames (letters, m.frame) (Some m) → Updates turned_cmp old.turned new.turned (letters, m.frame, m.rotation) (Some m) →
    IsIndexOf old all → IsIndexOf new (λ sprite. all sprite ++ cond (bytes_eq letters sprite) (m ∷ []) [])
unfolding is_of_frame is_of_rotation
index_more letters m old new all first second is = record {
  frames = λ sprite frame.
      first.0 (sprite, frame)
      ∙ ap (λ t. cond t (Some m) (get frame_cmp old.frames (sprite, frame))) (same_key letters sprite m.frame frame)
      ∙ ap (cond (bytes_eq letters sprite && m.frame == frame) (Some m)) (is.frames sprite frame)
      ∙ sym (last_that-more (is_of_frame frame) m (all sprite) (bytes_eq letters sprite) (m.frame == frame) refl);
  turned = λ sprite frame rotation.
      second.0 (sprite, frame, rotation)
      ∙ ap (λ t. cond t (Some m) (get turned_cmp old.turned (sprite, frame, rotation))) (same_turned letters sprite m.frame frame m.rotation rotation)
      ∙ ap (cond (bytes_eq letters sprite && (m.frame == frame && m.rotation == rotation)) (Some m)) (is.turned sprite frame rotation)
      ∙ sym (last_that-more (is_of_rotation frame rotation) m (all sprite) (bytes_eq letters sprite) (m.frame == frame && m.rotation == rotation) refl);
}

-- the same mentions of each sprite
pub index_alike : (index : Mentions) (all other : List ℕ → List Mention) → IsIndexOf index all → ((sprite : List ℕ) → all sprite ≡ other sprite) → IsIndexOf index other
index_alike index all other is same = record {
  frames = λ sprite frame. is.frames sprite frame ∙ ap (last_that (is_of_frame frame)) (same sprite);
  turned = λ sprite frame rotation. is.turned sprite frame rotation ∙ ap (last_that (is_of_rotation frame rotation)) (same sprite);
}

-- each sprite lump is one of the directory's
pub members_below : (lumps : List Lump) → All (λ n. n < length lumps) (members Sprites lumps)
unfolding members
members_below lumps =
    All-filter (is_member Sprites lumps) (λ n. n < length lumps) (range_with_len 0 (length lumps))
    (All-from_get_or (λ n. n < length lumps) (range_with_len 0 (length lumps)) 0 (λ i h.
    let range_length = length-range_with_len 0 (length lumps) in
    let index_below_lumps : i < length lumps = omega arith in
    let item_is_index = get_or-range_with_len 0 (length lumps) i 0 index_below_lumps in
    omega arith))

-- the numbers of some lumps
abbrev numbers_of : List LumpNo → List ℕ
numbers_of lumps = map (λ (lump : LumpNo). lump.0) lumps

-- an index of no lump
pub index_none : (index : Mentions) → IsEmpty index.frames → IsEmpty index.turned → (lumps : List Lump) (numbers : List ℕ) → IsIndexOf index (λ sprite. joined_lists (lump_mentions lumps sprite) (take 0 numbers))
unfolding joined_lists last_that
index_none index e f lumps numbers = record {
  frames = λ sprite frame. ap (lookup (is_at (frame_cmp (sprite, frame)))) e;
  turned = λ sprite frame rotation. ap (lookup (is_at (turned_cmp (sprite, frame, rotation)))) f;
}

pub entry_below : (entries : List LumpNo) (lumps : List Lump) (i : ℕ) (d : LumpNo) → numbers_of entries ≡ members Sprites lumps → i < length entries → (get_or entries i d).0 < length lumps
entry_below entries lumps i d e h =
    let numbers_length = length-map entries (λ (lump : LumpNo). lump.0) in
    let numbers_below : All (λ n. n < length lumps) (numbers_of entries) = subst (All (λ n. n < length lumps)) (sym e) (members_below lumps) in
    let number_below = All-get_or (λ n. n < length lumps) (numbers_of entries) i d.0 (omega arith) numbers_below in
    subst (λ n. n < length lumps) (get_or-map (λ (lump : LumpNo). lump.0) entries i d) number_below

-- the mentions of one lump more
more_mentions : (lumps : List Lump) (entries : List LumpNo) (i : ℕ) (d : LumpNo) (name : List ℕ) (sprite : List ℕ) → i < length entries → name ≡ (lump_at lumps (get_or entries i d).0).name →
    joined_lists (lump_mentions lumps sprite) (take i (numbers_of entries)) ++ cond (is_of_sprite sprite name) (name_mentions (get_or entries i d).0 name) [] ≡ joined_lists (lump_mentions lumps sprite) (take (i + 1) (numbers_of entries))
unfolding lump_mentions joined_lists
more_mentions lumps entries i d name sprite h e =
    let numbers_length = length-map entries (λ (lump : LumpNo). lump.0) in
    let sprite_mentions = lump_mentions lumps sprite in
    let index_inside : i < length (numbers_of entries) = omega arith in
    let one_number_more : take (i + 1) (numbers_of entries) ≡ take i (numbers_of entries) ++ (get_or entries i d).0 ∷ [] =
    take_more (numbers_of entries) i d.0 index_inside ∙ ap (λ m. take i (numbers_of entries) ++ m ∷ []) (get_or-map (λ (lump : LumpNo). lump.0) entries i d) in
    sym (ap (joined_lists sprite_mentions) one_number_more ∙ joined_lists-append sprite_mentions (take i (numbers_of entries)) ((get_or entries i d).0 ∷ []) ∙ ap (λ v. joined_lists sprite_mentions (take i (numbers_of entries)) ++ v) (append-nil (sprite_mentions (get_or entries i d).0))
    ∙ ap (λ v. joined_lists sprite_mentions (take i (numbers_of entries)) ++ cond (is_of_sprite sprite v) (name_mentions (get_or entries i d).0 v) []) (sym e))

pub index_step : (index : Mentions) (lumps : List Lump) (entries : List LumpNo) (i : ℕ) (d : LumpNo) (name : List ℕ) → i < length entries → name ≡ (lump_at lumps (get_or entries i d).0).name →
    IsIndexOf index (λ sprite. joined_lists (lump_mentions lumps sprite) (take i (numbers_of entries)) ++ cond (is_of_sprite sprite name) (name_mentions (get_or entries i d).0 name) []) →
    IsIndexOf index (λ sprite. joined_lists (lump_mentions lumps sprite) (take (i + 1) (numbers_of entries)))
index_step index lumps entries i d name h e is = index_alike index _ _ is (λ sprite. more_mentions lumps entries i d name sprite h e)

-- an index of all sprite lumps
pub index_whole : (index : Mentions) (lumps : List Lump) (entries : List LumpNo) (i : ℕ) → i ≡ length entries → numbers_of entries ≡ members Sprites lumps →
    IsIndexOf index (λ sprite. joined_lists (lump_mentions lumps sprite) (take i (numbers_of entries))) → IsIndexOf index (mentions lumps)
unfolding mentions
index_whole index lumps entries i h e is =
    let index_is_length : i ≡ length (numbers_of entries) = h ∙ sym (length-map entries (λ (lump : LumpNo). lump.0)) in
    index_alike index _ _ is (λ sprite. ap (joined_lists (lump_mentions lumps sprite)) (ap (λ k. take k (numbers_of entries)) index_is_length ∙ take-length (numbers_of entries) ∙ e))
