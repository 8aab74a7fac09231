-- Two lists of textures, by what is kept of each.
use Rattle.art_rules.proofs.Common.{[], ap, arith, Bool, cast_signed, Err, false, false≢true, int_lt, length, List, nat_tests, None, Ok, Option, option_map, pos, refl, Result, Some, suc, sym, true, w16, zero, ℕ, ◌++◌, ◌+◌, ◌<◌, ◌||◌, ◌∙◌, ◌≡◌, ◌≤◌}
use Rattle.texture_lists.specs.Rules.{TEXTURE_HEAD_SIZE, TEXTURE_WIDTH_AT, TexRefusal, Texture, TextureLists, and_then, both_lists, first_list, first_wrong, half_at, is_wrong, joined_textures, later_textures, later_wrong, list_count, or_else, patch_names, second_list, signed_half_at, texture_lists, texture_place, textures_in, unless_wrong, wrong_record}
use Rattle.art_rules.proofs.Laws.{least-some, none-below}
use Rattle.texture_lists.specs.Parts.{ListPart, list_part, second_list_part, if_sound, first_part, second_part, joined_parts}

-- the parts give the textures of the lists
joined_of : (count : ℕ) (w v : Option ℕ) (xs ys : List Texture) → unless_wrong (or_else w (option_map (λ i. count + i) v)) (xs ++ ys) ≡ unless_wrong (or_else w (option_map (λ i. count + i) v)) (if_sound w xs ++ if_sound v ys)
unfolding unless_wrong if_sound
joined_of count None None xs ys = refl
joined_of count None (Some j) xs ys = refl
joined_of count (Some i) v xs ys = refl

sound_none : (w : Option ℕ) (xs : List Texture) → unless_wrong (or_else w None) (xs ++ []) ≡ unless_wrong (or_else w None) (if_sound w xs ++ [])
unfolding unless_wrong if_sound
sound_none None xs = refl
sound_none (Some i) xs = refl

joined_as : (first : List ℕ) (second : Option (List ℕ)) → joined_textures first second ≡ joined_parts (list_part first) (second_list_part second)
unfolding joined_textures joined_parts list_part second_list_part first_wrong later_wrong later_textures
joined_as first None = sound_none (wrong_record first) (textures_in first)
joined_as first (Some second) = joined_of (list_count first) (wrong_record first) (wrong_record second) (textures_in first) (textures_in second)

second_as : (first : List ℕ) (r : Result (Option (List ℕ)) TexRefusal) → and_then r (λ second. joined_textures first second) ≡ and_then (and_then r (λ bytes. Ok (second_list_part bytes))) (λ q. joined_parts (list_part first) q)
second_as first (Ok second) = joined_as first second
second_as first (Err reason) = refl

first_as : (t2 : Option (List ℕ)) (r : Result (List ℕ) TexRefusal) → and_then r (λ first. and_then (second_list (list_count first) t2) (λ second. joined_textures first second)) ≡ and_then (and_then r (λ bytes. Ok (list_part bytes))) (λ p. and_then (second_part p.count t2) (λ q. joined_parts p q))
unfolding second_part list_part
first_as t2 (Ok first) = second_as first (second_list (list_count first) t2)
first_as t2 (Err reason) = refl

-- what follows the first list
abbrev pub then_second : Option (List ℕ) → ListPart → Result (List Texture) TexRefusal
then_second t2 p = and_then (second_part p.count t2) (λ q. joined_parts p q)

both_lists-parts : (t1 t2 : Option (List ℕ)) → both_lists t1 t2 ≡ and_then (first_part t1) (then_second t2)
unfolding both_lists first_part
both_lists-parts t1 t2 = first_as t2 (first_list t1)

-- after the parts, in turn
pub both_lists-stop : (t1 t2 : Option (List ℕ)) (refusal : TexRefusal) → first_part t1 ≡ Err refusal → both_lists t1 t2 ≡ Err refusal
both_lists-stop t1 t2 refusal e = both_lists-parts t1 t2 ∙ ap (λ r. and_then r (then_second t2)) e

pub both_lists-more : (t1 t2 : Option (List ℕ)) (p : ListPart) → first_part t1 ≡ Ok p → both_lists t1 t2 ≡ then_second t2 p
both_lists-more t1 t2 p e = both_lists-parts t1 t2 ∙ ap (λ r. and_then r (then_second t2)) e

within : (bytes : List ℕ) (place : ℕ) → is_wrong bytes place ≡ false → place + TEXTURE_HEAD_SIZE ≤ length bytes
unfolding is_wrong
within bytes place e = grind (arith, nat_tests)

-- where no record is wrong, each record's head lies within the list
pub head_within : (bytes : List ℕ) (i : ℕ) → wrong_record bytes ≡ None → i < list_count bytes → texture_place bytes i + TEXTURE_HEAD_SIZE ≤ length bytes
unfolding wrong_record
head_within bytes i none lt = within bytes (texture_place bytes i) (none-below (λ i. is_wrong bytes (texture_place bytes i)) (list_count bytes) none i lt)

or_false : (b c : Bool) → b || c ≡ false → (b ≡ false) × (c ≡ false)
or_false true c e = absurd (false≢true (sym e))
or_false false c e = (refl, e)

some_width : (n : ℕ) → int_lt (cast_signed w16 n) (pos 1) ≡ false → 0 < n
some_width zero e = absurd (false≢true (sym e))
some_width (suc n) e = omega arith

wide : (bytes : List ℕ) (place : ℕ) → is_wrong bytes place ≡ false → int_lt (signed_half_at bytes (place + TEXTURE_WIDTH_AT)) (pos 1) ≡ false
unfolding is_wrong
wide bytes place e = (or_false _ _ (or_false _ _ e).0).1

at_half : (bytes : List ℕ) (place : ℕ) → int_lt (signed_half_at bytes place) (pos 1) ≡ false → 0 < half_at bytes place
unfolding signed_half_at
at_half bytes place e = some_width (half_at bytes place) e

-- and each texture has a column
pub width_within : (bytes : List ℕ) (i : ℕ) → wrong_record bytes ≡ None → i < list_count bytes → 0 < half_at bytes (texture_place bytes i + TEXTURE_WIDTH_AT)
unfolding wrong_record
width_within bytes i none lt =
    at_half bytes (texture_place bytes i + TEXTURE_WIDTH_AT) (wide bytes (texture_place bytes i) (none-below (λ i. is_wrong bytes (texture_place bytes i)) (list_count bytes) none i lt))

-- a wrong record behind right ones is the first
pub wrong_found : (bytes : List ℕ) (i place count : ℕ) (r : Bool) → count ≡ list_count bytes → i < count → place ≡ texture_place bytes i → r ≡ is_wrong bytes place → r ≡ true →
    ((k : ℕ) → k < i → is_wrong bytes (texture_place bytes k) ≡ false) → Some i ≡ wrong_record bytes
unfolding wrong_record
wrong_found bytes i place count r many lt at is wrong before =
    sym (least-some (λ k. is_wrong bytes (texture_place bytes k)) (list_count bytes) i (omega arith) (sym (is ∙ ap (is_wrong bytes) at) ∙ wrong) before)

-- what follows the names of patches
abbrev pub with_names : List (List ℕ) → List Texture → Result TextureLists TexRefusal
with_names names textures = Ok (record { names = names; textures = textures })

abbrev pub then_lists : Option (List ℕ) → Option (List ℕ) → List (List ℕ) → Result TextureLists TexRefusal
then_lists t1 t2 names = and_then (both_lists t1 t2) (with_names names)

pub texture_lists-stop : (p t1 t2 : Option (List ℕ)) (refusal : TexRefusal) → patch_names p ≡ Err refusal → texture_lists p t1 t2 ≡ Err refusal
unfolding texture_lists
texture_lists-stop p t1 t2 refusal e = ap (λ r. and_then r (then_lists t1 t2)) e

pub texture_lists-more : (p t1 t2 : Option (List ℕ)) (names : List (List ℕ)) → patch_names p ≡ Ok names → texture_lists p t1 t2 ≡ then_lists t1 t2 names
unfolding texture_lists
texture_lists-more p t1 t2 names e = ap (λ r. and_then r (then_lists t1 t2)) e
