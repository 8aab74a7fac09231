-- The parts of a file: that they are those of the definition, are there, and are few.
use Rattle.art_rules.proofs.Common.{[], All, AllByRecursion, ap, append_assoc, arith, Bool, count_by-le-length, filter, get_or, length, length-append, length-filter, length-map, length-range_with_len, List, list_any, map, map-range_with_len_more, None, not, Option, range_with_len, refl, Some, subst, suc, sym, zero, ℕ, ◌++◌, ◌+◌, ◌<◌, ◌==◌, ◌^◌, ◌∙◌, ◌∷◌, ◌≡◌, ◌≤◌}
use Rattle.wad_trim.specs.Rules.{COLORMAP, Copy, F_END, F_START, Label, Lump, MAP_LUMPS, Mark, PLAYPAL, PNAMES, PreparedTexture, S_END, S_START, SceneArt, SectorFlats, TEXTURE1, TEXTURE2, TrimPart, called_lumps, copy_part, filled, fixed_lumps, flat_lumps, group_parts, has_flat, has_name, is_patch_of_any, last_list, last_of, listed_last, map_of, map_parts, name_of, patch_lumps, picture_lumps, trim_parts}
use Rattle.trim_rules.proofs.{ThereLemmas.parts-there, TrimmedLemmas.IsThere}
use Rattle.wad_trim.specs.Writes.{IsPartThere}

-- the parts of a file are there
parts_below : (lumps : List Lump) (parts : List TrimPart) → AllByRecursion (IsThere lumps) parts → (i : ℕ) (d : TrimPart) → i < length parts → IsPartThere (length lumps) (get_or parts i d)
parts_below lumps [] all i d l = absurd (omega (arith, l))
parts_below lumps (part ∷ rest) all zero d l = part_below part all.0 where
  part_below : (p : TrimPart) → IsThere lumps p → IsPartThere (length lumps) p
  part_below (Mark name) there = tt
  part_below (Label lump) there = there
  part_below (Copy lump) there = there
parts_below lumps (part ∷ rest) all (suc i) d l = parts_below lumps rest all.1 i d (omega (arith, l))

pub all-there : (lumps : List Lump) (art : SceneArt) (name : List ℕ) (parts : List TrimPart) → parts ≡ trim_parts lumps art name → All (IsPartThere (length lumps)) parts
all-there lumps art name parts e = parts_below lumps parts (subst (AllByRecursion (IsThere lumps)) (sym e) (parts-there lumps art name))

-- a lump more of those behind a label
pub behind-more : (old now new : List TrimPart) (label i : ℕ) (part : TrimPart) → part ≡ copy_part (label + 1 + i) → now ≡ old ++ map copy_part (range_with_len (suc label) i) → new ≡ now ++ part ∷ [] →
    new ≡ old ++ map copy_part (range_with_len (suc label) (i + 1))
behind-more old now new label i part is before push =
    let next_lump_is : suc label + i ≡ label + 1 + i = omega arith in
    let copies = map copy_part (range_with_len (suc label) i) in
    push
    ∙ ap (λ (v : List TrimPart). v ++ part ∷ []) before
    ∙ append_assoc old copies (part ∷ [])
    ∙ ap (λ (p : TrimPart). old ++ (copies ++ p ∷ [])) is
    ∙ ap (λ (v : List TrimPart). old ++ v) (sym (map-range_with_len_more copy_part (suc label) i (label + 1 + i) next_lump_is))

regroup_parts : (a b c d : List TrimPart) → ((a ++ b) ++ c) ++ d ≡ a ++ (b ++ (c ++ d))
regroup_parts a b c d = simp append_assoc

-- flats, pictures, the map and what is called, one after the other
pub parts-are : (lumps : List Lump) (art : SceneArt) (name : List ℕ) (flats pictures called more : List ℕ) (a b c d e : List TrimPart) →
    flats ≡ flat_lumps lumps art.flats → pictures ≡ picture_lumps lumps art.pictures → called ≡ called_lumps lumps art.prepared → more ≡ called_lumps lumps art.prepared →
    a ≡ [] → b ≡ a ++ group_parts (name_of F_START) flats (name_of F_END) → c ≡ b ++ group_parts (name_of S_START) pictures (name_of S_END) →
    d ≡ c ++ map_parts (list_any (has_name lumps name) called) (map_of lumps name) → e ≡ d ++ map copy_part (filter (λ n. not (has_name lumps name n)) more) →
    e ≡ trim_parts lumps art name
unfolding trim_parts filled
parts-are lumps art name flats pictures called more a b c d e f g h i none p q r s =
    let called_numbers = called_lumps lumps art.prepared in
    let flat_parts = group_parts F_START (flat_lumps lumps art.flats) F_END in
    let picture_parts = group_parts S_START (picture_lumps lumps art.pictures) S_END in
    let level_parts = map_parts (list_any (has_name lumps name) called_numbers) (map_of lumps name) in
    let called_parts = map copy_part (filter (λ n. not (has_name lumps name n)) called_numbers) in
    let flats_added = p ∙ ap (λ (n : List ℕ). a ++ group_parts F_START n F_END) f in
    let pictures_added = q ∙ ap (λ (n : List ℕ). b ++ group_parts S_START n S_END) g in
    let level_added = r ∙ ap (λ (n : List ℕ). c ++ map_parts (list_any (has_name lumps name) n) (map_of lumps name)) h in
    s ∙ ap (λ (n : List ℕ). d ++ map copy_part (filter (λ k. not (has_name lumps name k)) n)) i
    ∙ ap (λ (v : List TrimPart). v ++ called_parts) (level_added ∙ ap (λ (v : List TrimPart). v ++ level_parts) (pictures_added ∙ ap (λ (v : List TrimPart). v ++ picture_parts) (flats_added ∙ ap (λ (v : List TrimPart). v ++ flat_parts) none)))
    ∙ regroup_parts flat_parts picture_parts level_parts called_parts

-- no more lumps pass than there are
few_kept : (p : ℕ → Bool) (n : ℕ) → length (filter p (range_with_len 0 n)) ≤ n
few_kept p n = omega (arith, length-filter p (range_with_len 0 n), count_by-le-length p (range_with_len 0 n), length-range_with_len 0 n)

few_filtered : (p : ℕ → Bool) (ns : List ℕ) → length (filter p ns) ≤ length ns
few_filtered p ns = omega (arith, length-filter p ns, count_by-le-length p ns)

few_flats : (lumps : List Lump) (flats : List SectorFlats) → length (flat_lumps lumps flats) ≤ length lumps
unfolding flat_lumps
few_flats lumps flats = few_kept (λ n. list_any (has_flat n) flats) (length lumps)

few_pictures : (lumps : List Lump) (pictures : List ℕ) → length (picture_lumps lumps pictures) ≤ length lumps
unfolding picture_lumps
few_pictures lumps pictures = few_kept (λ n. list_any (λ m. m == n) pictures) (length lumps)

few_last : (o : Option ℕ) → length (last_list o) ≤ 1
few_last None = omega arith
few_last (Some n) = omega arith

few_listed : (lumps : List Lump) (name : List ℕ) → length (listed_last lumps name) ≤ 1
unfolding listed_last
few_listed lumps name = few_last (last_of lumps name)

few_fixed : (lumps : List Lump) → length (fixed_lumps lumps) ≤ 5
unfolding fixed_lumps
few_fixed lumps =
    let palette_lumps = listed_last lumps PLAYPAL in
    let colormap_lumps = listed_last lumps COLORMAP in
    let patch_name_lumps = listed_last lumps PNAMES in
    let texture1_lumps = listed_last lumps TEXTURE1 in
    let texture2_lumps = listed_last lumps TEXTURE2 in
    omega (
      arith,
      length-append palette_lumps (colormap_lumps ++ (patch_name_lumps ++ (texture1_lumps ++ texture2_lumps))),
      length-append colormap_lumps (patch_name_lumps ++ (texture1_lumps ++ texture2_lumps)),
      length-append patch_name_lumps (texture1_lumps ++ texture2_lumps),
      length-append texture1_lumps texture2_lumps,
      few_listed lumps PLAYPAL,
      few_listed lumps COLORMAP,
      few_listed lumps PNAMES,
      few_listed lumps TEXTURE1,
      few_listed lumps TEXTURE2,
    )

few_patches : (prepared : List (Option PreparedTexture)) (n : ℕ) → length (patch_lumps prepared n) ≤ n
unfolding patch_lumps
few_patches prepared n = few_kept (is_patch_of_any prepared) n

few_called : (lumps : List Lump) (prepared : List (Option PreparedTexture)) → length (called_lumps lumps prepared) ≤ 5 + length lumps
unfolding called_lumps
few_called lumps prepared =
    let not_fixed : ℕ → Bool = λ n. not (list_any (λ m. m == n) (fixed_lumps lumps)) in
    let patches_not_fixed = filter not_fixed (patch_lumps prepared (length lumps)) in
    omega (arith, length-append (fixed_lumps lumps) patches_not_fixed, few_fixed lumps, few_filtered not_fixed (patch_lumps prepared (length lumps)), few_patches prepared (length lumps))

few_group : (start end : List ℕ) (ns : List ℕ) → length (group_parts start ns end) ≡ length ns + 2
unfolding group_parts
few_group start end ns = omega (arith, length-append (map copy_part ns) (Mark end ∷ []), length-map ns copy_part)

few_map : (called : Bool) (o : Option ℕ) → length (map_parts called o) ≤ 9
unfolding map_parts
few_map called None = omega arith
few_map called (Some label) =
    let map_lump_count : length MAP_LUMPS ≡ 8 = refl in
    omega (arith, length-map (range_with_len (suc label) (length MAP_LUMPS)) copy_part, length-range_with_len (suc label) (length MAP_LUMPS))

-- how many parts there are at most
parts-few : (lumps : List Lump) (art : SceneArt) (name : List ℕ) → length lumps < 2 ^ 16 → length (trim_parts lumps art name) ≤ 2 ^ 18
unfolding trim_parts
parts-few lumps art name l =
    let called_numbers = called_lumps lumps art.prepared in
    let not_named : ℕ → Bool = λ n. not (has_name lumps name n) in
    let flat_parts = group_parts F_START (flat_lumps lumps art.flats) F_END in
    let picture_parts = group_parts S_START (picture_lumps lumps art.pictures) S_END in
    let level_parts = map_parts (list_any (has_name lumps name) called_numbers) (map_of lumps name) in
    let called_parts = map copy_part (filter not_named called_numbers) in
    omega (
      arith,
      l,
      length-append flat_parts (picture_parts ++ (level_parts ++ called_parts)),
      length-append picture_parts (level_parts ++ called_parts),
      length-append level_parts called_parts,
      few_group F_START F_END (flat_lumps lumps art.flats),
      few_flats lumps art.flats,
      few_group S_START S_END (picture_lumps lumps art.pictures),
      few_pictures lumps art.pictures,
      few_map (list_any (has_name lumps name) called_numbers) (map_of lumps name),
      length-map (filter not_named called_numbers) copy_part,
      few_filtered not_named called_numbers,
      few_called lumps art.prepared,
    )

pub listed-few : (lumps : List Lump) (art : SceneArt) (name : List ℕ) (parts : List TrimPart) → parts ≡ trim_parts lumps art name → length lumps < 2 ^ 16 → length parts ≤ 2 ^ 18
listed-few lumps art name parts e l = subst (λ (some : List TrimPart). length some ≤ 2 ^ 18) (sym e) (parts-few lumps art name l)
