-- What is found by its name in the trimmed file has the bytes that it has in the given files.
use Rattle.art_rules.proofs.Common.{[], AllByRecursion, ap, Bool, bytes_eq, bytes_eq-Decides, cond, Decides-eqb, false, filter, inl, inr, List, list_any, map, map-append, None, not, Option, refl, Some, some-injective, sym, true, ℕ, ◌++◌, ◌==◌, ◌||◌, ◌∙◌, ◌∷◌, ◌≡◌, ◌⊎◌}
use Rattle.trim_rules.specs.Rules.{F_END, F_START, Lump, S_END, S_START, SceneArt, has_name, last_of, lump_at, map_of, or_else}
use Rattle.made_rules.specs.Wads as made
use Rattle.trim_rules.specs.Parts.{called_lumps, copy_part, flat_lumps, group_parts, map_parts, part_name, picture_lumps, trim_parts}
use Rattle.trim_rules.specs.Files.{part_bytes, part_lump}
use Rattle.trim_rules.proofs.NameLemmas.{last_bytes, last_bytes-append}

-- a lump is the last of its name
abbrev pub IsLastOfName : List Lump → ℕ → Type 0
IsLastOfName lumps n = last_of lumps (lump_at lumps n).name ≡ Some n

-- these lumps, copied
unfoldable pub copies : (ℕ → List ℕ) → List Lump → List ℕ → List made.Lump
copies bytes lumps ns = map (part_lump bytes lumps) (map copy_part ns)

module _ (bytes : ℕ → List ℕ) (lumps : List Lump) where
  -- of lumps that are the last of their names, one alone has a name, if any
  only_step : (name : List ℕ) (n m : ℕ) → last_of lumps name ≡ Some n → IsLastOfName lumps m
      → (o : Option (List ℕ)) → (o ≡ None) ⊎ (o ≡ Some (bytes n))
      → (b : Bool) → bytes_eq (lump_at lumps m).name name ≡ b
      → (or_else o (cond b (Some (bytes m)) None) ≡ None) ⊎ (or_else o (cond b (Some (bytes m)) None) ≡ Some (bytes n))
  only_step name n m is last (Some v) (inl e) b d = absurd (cc)
  only_step name n m is last (Some v) (inr e) b d = inr e
  only_step name n m is last None h false d = inl refl
  only_step name n m is last None h true d =
      let name_is : (lump_at lumps m).name ≡ name = (bytes_eq-Decides (lump_at lumps m).name name).0 d in
      let numbers_same : m ≡ n = some-injective m n (sym last ∙ ap (last_of lumps) name_is ∙ is) in
      inr (ap (λ k. Some (bytes k)) numbers_same)

  pub last_bytes-only : (name : List ℕ) (n : ℕ) → last_of lumps name ≡ Some n → (ns : List ℕ) → AllByRecursion (IsLastOfName lumps) ns
      → (last_bytes (copies bytes lumps ns) name ≡ None) ⊎ (last_bytes (copies bytes lumps ns) name ≡ Some (bytes n))
  unfolding last_bytes copies part_lump part_name part_bytes
  last_bytes-only name n is [] all = inl refl
  last_bytes-only name n is (m ∷ rest) all =
      only_step name n m is all.0 (last_bytes (copies bytes lumps rest) name) (last_bytes-only name n is rest all.1)
      (bytes_eq (lump_at lumps m).name name) refl

  found_step : (n m : ℕ) (o : Option (List ℕ)) → (o ≡ None) ⊎ (o ≡ Some (bytes n))
      → (b : Bool) → (m == n) ≡ b → (c : Bool) → (c ≡ true → o ≡ Some (bytes n)) → (b || c) ≡ true
      → (d : Bool) → (m ≡ n → d ≡ true) → or_else o (cond d (Some (bytes m)) None) ≡ Some (bytes n)
  found_step n m (Some v) (inl e) b is c later any d same = absurd (cc)
  found_step n m (Some v) (inr e) b is c later any d same = e
  found_step n m None h true is c later any d same =
      let numbers_same : m ≡ n = (Decides-eqb m n).0 is in
      rw (same numbers_same) (ap (λ k. Some (bytes k)) numbers_same)
  found_step n m None h false is true later any d same = let impossible : None ≡ Some (bytes n) = later refl in absurd (cc)
  found_step n m None h false is false later any d same = absurd (cc)

  -- a lump among these that are the last of their names is found by its name
  pub last_bytes-found : (n : ℕ) (ns : List ℕ) → IsLastOfName lumps n → AllByRecursion (IsLastOfName lumps) ns → list_any (λ m. m == n) ns ≡ true
      → last_bytes (copies bytes lumps ns) (lump_at lumps n).name ≡ Some (bytes n)
  unfolding last_bytes copies part_lump part_name part_bytes
  last_bytes-found n [] last all any = absurd (cc)
  last_bytes-found n (m ∷ rest) last all any =
      found_step n m (last_bytes (copies bytes lumps rest) (lump_at lumps n).name)
      (last_bytes-only (lump_at lumps n).name n last rest all.1)
      (m == n) refl (list_any (λ k. k == n) rest) (last_bytes-found n rest last all.1) any
      (bytes_eq (lump_at lumps m).name (lump_at lumps n).name)
      (λ e. (bytes_eq-Decides (lump_at lumps m).name (lump_at lumps n).name).1 (ap (λ k. (lump_at lumps k).name) e))

  -- the last part of the file counts before the parts in front of it
  pub trimmed_last : (art : SceneArt) (name : List ℕ) (n : ℕ)
      → AllByRecursion (IsLastOfName lumps) (filter (λ m. not (has_name lumps name m)) (called_lumps lumps art.prepared))
      → IsLastOfName lumps n
      → list_any (λ m. m == n) (filter (λ m. not (has_name lumps name m)) (called_lumps lumps art.prepared)) ≡ true
      → last_bytes (map (part_lump bytes lumps) (trim_parts lumps art name)) (lump_at lumps n).name ≡ Some (bytes n)
  unfolding trim_parts copies
  trimmed_last art name n all last any =
      let flats = group_parts F_START (flat_lumps lumps art.flats) F_END in
      let pictures = group_parts S_START (picture_lumps lumps art.pictures) S_END in
      let level = map_parts (list_any (has_name lumps name) (called_lumps lumps art.prepared)) (map_of lumps name) in
      let called_unnamed = filter (λ m. not (has_name lumps name m)) (called_lumps lumps art.prepared) in
      let wanted = (lump_at lumps n).name in
      let lump = part_lump bytes lumps in
      let bytes_among_called : last_bytes (map lump (map copy_part called_unnamed)) wanted ≡ Some (bytes n) = last_bytes-found n called_unnamed last all any in
      ap (λ ls. last_bytes ls wanted)
      (map-append lump flats (pictures ++ (level ++ map copy_part called_unnamed))
      ∙ ap (λ ls. map lump flats ++ ls)
      (map-append lump pictures (level ++ map copy_part called_unnamed)
      ∙ ap (λ ls. map lump pictures ++ ls) (map-append lump level (map copy_part called_unnamed))))
      ∙ last_bytes-append (map lump flats) (map lump pictures ++ (map lump level ++ map lump (map copy_part called_unnamed))) wanted
      ∙ ap (λ o. or_else o (last_bytes (map lump flats) wanted))
      (last_bytes-append (map lump pictures) (map lump level ++ map lump (map copy_part called_unnamed)) wanted
      ∙ ap (λ o. or_else o (last_bytes (map lump pictures) wanted))
      (last_bytes-append (map lump level) (map lump (map copy_part called_unnamed)) wanted
      ∙ ap (λ o. or_else o (last_bytes (map lump level) wanted)) bytes_among_called))
