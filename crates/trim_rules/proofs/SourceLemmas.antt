-- What an accepted level finds by its name is found by the trimmed directory too, as the lump that was copied from it.
use Rattle.art_rules.proofs.Common.{[], AllByRecursion, ap, arith, Bool, false, filter, length, length-map, List, list_any, map, None, not, Option, option_map, range_with_len, refl, Some, suc, sym, true, zero, ℕ, ◌+◌, ◌<◌, ◌==◌, ◌∙◌, ◌∷◌, ◌≡◌}
use Rattle.trim_rules.specs.Rules.{HEAD_SIZE, Lump, PreparedTexture, SceneArt, greatest, has_name, is_patch_of_any, last_of, map_of, patch_lumps}
use Rattle.trim_rules.specs.declared.part.TrimPart.{TrimPart}
use Rattle.trim_rules.specs.declared.part.TrimPart.TheVariants.{Mark, Label, Copy}
use Rattle.trim_rules.specs.Parts.{called_lumps, fixed_lumps, trim_parts}
use Rattle.trim_rules.specs.Files.{part_bytes, part_lump, stored_from, stored_lumps, trimmed_lumps}
use Rattle.trim_rules.proofs.{BytesLemmas.put_part, CalledLemmas.IsLastOfName}
use Rattle.trim_rules.proofs.{MapLemmas.stored-length, MovedFlatLemmas.range-any}
use Rattle.trim_rules.proofs.NameLemmas.{last_of-stored}
use Rattle.trim_rules.proofs.NamedLemmas.{any_kept, any_left, any_right, called-bytes}
use Rattle.trim_rules.proofs.PlaceLemmas.{part_at, part_source, source_of}

-- the names of the trimmed directory do not depend on the bytes of the lumps
name-same : (b c : ℕ → List ℕ) (lumps : List Lump) (place other : ℕ) (parts : List TrimPart) (wanted : List ℕ) (k : ℕ)
    → has_name (stored_from place (map (part_lump b lumps) parts)) wanted k ≡ has_name (stored_from other (map (part_lump c lumps) parts)) wanted k
unfolding stored_from part_lump
name-same b c lumps place other [] wanted k = refl
name-same b c lumps place other (p ∷ parts) wanted zero = refl
name-same b c lumps place other (p ∷ parts) wanted (suc k) =
    name-same b c lumps (place + length (part_lump b lumps p).bytes) (other + length (part_lump c lumps p).bytes) parts wanted k

greatest-same : (p q : ℕ → Bool) (n : ℕ) → ((k : ℕ) → p k ≡ q k) → greatest p n ≡ greatest q n
greatest-same p q n same = ap (λ f. greatest f n) (λ i k. same k i)

last-same : (b c : ℕ → List ℕ) (lumps : List Lump) (place other : ℕ) (parts : List TrimPart) (wanted : List ℕ)
    → last_of (stored_from place (map (part_lump b lumps) parts)) wanted ≡ last_of (stored_from other (map (part_lump c lumps) parts)) wanted
last-same b c lumps place other parts wanted =
    greatest-same (has_name (stored_from place (map (part_lump b lumps) parts)) wanted) (has_name (stored_from other (map (part_lump c lumps) parts)) wanted)
    (length (stored_from place (map (part_lump b lumps) parts))) (λ k. name-same b c lumps place other parts wanted k)
    ∙ ap (greatest (has_name (stored_from other (map (part_lump c lumps) parts)) wanted))
    (stored-length b lumps place parts ∙ sym (stored-length c lumps other parts))

-- with its own number as the bytes of each lump, the bytes of a part tell the lump that it was copied from
abbrev own_number : ℕ → List ℕ
own_number n = n ∷ []

source_step : (p : TrimPart) (n : ℕ) → part_bytes own_number p ≡ n ∷ [] → part_source p ≡ n
unfolding part_bytes
source_step (Mark name) n e = absurd (cc)
source_step (Label lump) n e = absurd (cc)
source_step (Copy lump) n e = cc

named_step : (b : ℕ → List ℕ) (o : Option ℕ) (v : List ℕ) → option_map b o ≡ Some v → (c : ℕ) × (o ≡ Some c) × (b c ≡ v)
named_step b None v e = absurd (cc)
named_step b (Some c) v e = (c, refl, cc)

module _ (bytes : ℕ → List ℕ) (lumps : List Lump) (art : SceneArt) (name : List ℕ) (label : ℕ) (is : map_of lumps name ≡ Some label)
    (all : AllByRecursion (IsLastOfName lumps) (filter (λ m. not (has_name lumps name m)) (called_lumps lumps art.prepared))) where
  -- a lump that is called is found by its name as its copy
  pub called-source : (wanted : List ℕ) (n : ℕ) → last_of lumps wanted ≡ Some n → list_any (λ m. m == n) (called_lumps lumps art.prepared) ≡ true
      → (k : ℕ) × (last_of (trimmed_lumps bytes lumps (trim_parts lumps art name)) wanted ≡ Some k) × (source_of (trim_parts lumps art name) k ≡ n)
  unfolding trimmed_lumps stored_lumps
  called-source wanted n e any =
      let all_parts = trim_parts lumps art name in
      let put = last_of-stored (λ k. part_bytes own_number (part_at all_parts k)) HEAD_SIZE (map (part_lump own_number lumps) all_parts) wanted
      (λ d k lt. let inside : k < length all_parts = omega (arith, length-map all_parts (part_lump own_number lumps)) in
      sym (put_part own_number lumps all_parts d k inside)) in
      let found_at = named_step (λ k. part_bytes own_number (part_at all_parts k)) (last_of (stored_from HEAD_SIZE (map (part_lump own_number lumps) all_parts)) wanted) (n ∷ [])
      (put ∙ called-bytes own_number lumps art name label is all wanted n e any) in
      (found_at.0, last-same bytes own_number lumps HEAD_SIZE HEAD_SIZE all_parts wanted ∙ found_at.1, source_step (part_at all_parts found_at.0) n found_at.2)

-- a patch of a prepared texture is called
called_step : (lumps : List Lump) (prepared : List (Option PreparedTexture)) (n : ℕ) (b : Bool) → list_any (λ m. m == n) (fixed_lumps lumps) ≡ b
    → n < length lumps → is_patch_of_any prepared n ≡ true → list_any (λ m. m == n) (called_lumps lumps prepared) ≡ true
unfolding called_lumps patch_lumps
called_step lumps prepared n true fixed lt is = any_left (λ m. m == n) (fixed_lumps lumps) _ fixed
called_step lumps prepared n false fixed lt is =
    any_right (λ m. m == n) (fixed_lumps lumps) _
    (any_kept (λ k. not (list_any (λ m. m == k) (fixed_lumps lumps))) n (filter (is_patch_of_any prepared) (range_with_len 0 (length lumps))) (ap not fixed)
    (any_kept (is_patch_of_any prepared) n (range_with_len 0 (length lumps)) is (range-any 0 (length lumps) n (omega arith) (omega arith))))

pub patch-called : (lumps : List Lump) (prepared : List (Option PreparedTexture)) (n : ℕ) → n < length lumps → is_patch_of_any prepared n ≡ true
    → list_any (λ m. m == n) (called_lumps lumps prepared) ≡ true
patch-called lumps prepared n lt is = called_step lumps prepared n (list_any (λ m. m == n) (fixed_lumps lumps)) refl lt is
