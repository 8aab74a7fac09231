-- The trimmed file gives the base of the level again: its map, its lists of textures and its palette.
use Rattle.art_rules.proofs.Common.{[], ap, arith, Bool, cond, false, filter, length, List, map, nat_le, None, not, Ok, ok_or, Option, option_and_then, option_map, refl, Some, subst, suc, sym, take, true, zero, ℕ, ◌++◌, ◌+◌, ◌<◌, ◌∙◌, ◌∷◌, ◌≡◌}
use Rattle.trim_rules.specs.Rules.{Art, COLORMAP, COLORMAP_SIZE, Colormap, HEAD_SIZE, LevelBase, LiesWithin, Lump, Map, NoMap, PALETTE_SIZE, PLAYPAL, PNAMES, Playpal, SceneArt, TEXTURE1, TEXTURE2, TextureLists, base_in, base_over, both_lists, colormap_of, directory, first_list, from_below, has_name, if_long, label_of, last_of, level_in, level_of, lists_in, long_lump, lump_at, lump_bytes, map_bytes, map_of, named_bytes, no_lump, patch_names, playpal_of, prepared_textures, texture_lists}
use Rattle.art_rules.specs.Words.{Texture as ListedTexture}
use Rattle.art_rules.proofs.Laws.{and_then-ok, directory_within, greatest-is, lump_bytes-length}
use Rattle.scene_rules.specs.declared.refusal.AuditRefusal.TheVariants.{Texture}
use Rattle.trim_rules.specs.declared.part.TrimPart.{TrimPart}
use Rattle.trim_rules.specs.Parts.{called_lumps, copy_part, label_or_copy, trim_parts}
use Rattle.trim_rules.specs.Files.{part_bytes, part_lump, stored_from, stored_lumps, trimmed_file, trimmed_lumps}
use Rattle.trim_rules.proofs.AnswerLemmas.{below, some_value}
use Rattle.trim_rules.proofs.BaseLemmas.{ServesBase, base-made, base-served}
use Rattle.trim_rules.proofs.{BytesLemmas.part-bytes, LastLemmas.called-last, PlaceLemmas.part_at}
use Rattle.trim_rules.proofs.MapLemmas.{HasFixed, behind_map, front_parts, is_called, map_place, parts-by-map, row-at, trimmed-map}
use Rattle.trim_rules.proofs.NamedLemmas.{colormap-fixed, named-same, playpal-fixed, pnames-fixed, texture1-fixed, texture2-fixed}

-- what the directory tells of a base
pub record IsFoundBy (lumps : List Lump) (name : List ℕ) (base : LevelBase) : Type 0 where
  pub colormap : colormap_of lumps ≡ Ok base.colormap
  pub playpal : playpal_of lumps ≡ Ok base.playpal
  pub label : label_of lumps name ≡ Ok base.label

pub base-found : (bytes : ℕ → List ℕ) (lumps : List Lump) (name : List ℕ) (base : LevelBase) → base_in bytes lumps name ≡ Ok base → IsFoundBy lumps name base
unfolding base_in base_over level_in
base-found bytes lumps name base e =
    let colormap_found = and_then-ok (from_below Art (colormap_of lumps)) _ base e in
    let playpal_found = and_then-ok (from_below Art (playpal_of lumps)) _ base colormap_found.2 in
    let map_found = and_then-ok (from_below Map (level_in bytes lumps name)) _ base playpal_found.2 in
    let lists_found = and_then-ok (from_below Texture (lists_in bytes lumps)) _ base map_found.2 in
    let label_found = and_then-ok (label_of lumps name) _ map_found.0 (below Map (level_in bytes lumps name) map_found.0 map_found.1) in
    let level = and_then-ok (level_of _) _ map_found.0 label_found.2 in
    let base_is : ◌≡◌ {A = LevelBase} (record { colormap = colormap_found.0; playpal = playpal_found.0; palette = take PALETTE_SIZE (bytes playpal_found.0); label = map_found.0.0; level = map_found.0.1; lists = lists_found.0 }) base = cc in
    let pair : (label_found.0, level.0) ≡ map_found.0 = cc in
    subst (IsFoundBy lumps name) base_is (record { colormap = below Art (colormap_of lumps) colormap_found.0 colormap_found.1; playpal = below Art (playpal_of lumps) playpal_found.0 playpal_found.1; label = label_found.1 ∙ ap (λ (x : ℕ × _). Ok x.0) pair })

-- a lump that is long enough
long_step : (lumps : List Lump) (size n number : ℕ) (b : Bool) → nat_le size (lump_at lumps n).size ≡ b → cond b (Some n) None ≡ Some number → (n ≡ number) × (nat_le size (lump_at lumps number).size ≡ true)
long_step lumps size n number true is e = let number_is : n ≡ number = cc in (number_is, ap (λ k. nat_le size (lump_at lumps k).size) (sym number_is) ∙ is)
long_step lumps size n number false is e = absurd (cc)

long_found : (lumps : List Lump) (name : List ℕ) (size number : ℕ) (o : Option ℕ) → last_of lumps name ≡ o
    → option_and_then (if_long lumps size) o ≡ Some number → (last_of lumps name ≡ Some number) × (nat_le size (lump_at lumps number).size ≡ true)
long_found lumps name size number None is e = absurd (cc)
long_found lumps name size number (Some n) is e =
    let number_and_length = long_step lumps size n number (nat_le size (lump_at lumps n).size) refl e in
    (is ∙ ap Some number_and_length.0, number_and_length.1)

long-is : (lumps : List Lump) (name : List ℕ) (size number : ℕ) → long_lump lumps name size ≡ Some number → (last_of lumps name ≡ Some number) × (nat_le size (lump_at lumps number).size ≡ true)
long-is lumps name size number e = long_found lumps name size number (last_of lumps name) refl e

long-made : (lumps : List Lump) (name : List ℕ) (size number : ℕ) → last_of lumps name ≡ Some number → nat_le size (lump_at lumps number).size ≡ true → long_lump lumps name size ≡ Some number
long-made lumps name size number is long = rw (is, long) refl

-- the size of a lump of the trimmed file
stored-size : (bytes : ℕ → List ℕ) (lumps : List Lump) (place : ℕ) (parts : List TrimPart) (k : ℕ)
    → (lump_at (stored_from place (map (part_lump bytes lumps) parts)) k).size ≡ length (part_bytes bytes (part_at parts k))
unfolding stored_from part_lump part_bytes
stored-size bytes lumps place [] k = refl
stored-size bytes lumps place (p ∷ parts) zero = refl
stored-size bytes lumps place (p ∷ parts) (suc k) = stored-size bytes lumps (place + length (part_lump bytes lumps p).bytes) parts k

trimmed-size : (bytes : ℕ → List ℕ) (lumps : List Lump) (parts : List TrimPart) (k : ℕ)
    → (lump_at (trimmed_lumps bytes lumps parts) k).size ≡ length (lump_bytes (trimmed_file bytes lumps parts ∷ []) (trimmed_lumps bytes lumps parts) k)
unfolding trimmed_lumps stored_lumps
trimmed-size bytes lumps parts k = stored-size bytes lumps HEAD_SIZE parts k ∙ ap length (sym (part-bytes bytes lumps parts k))

named_step : (b : ℕ → List ℕ) (o : Option ℕ) (v : List ℕ) → option_map b o ≡ Some v → (c : ℕ) × (o ≡ Some c) × (b c ≡ v)
named_step b None v e = absurd (cc)
named_step b (Some c) v e = (c, refl, cc)

-- a long lump of the given directory is one of the trimmed
module _ (contents : List (List ℕ)) (lumps : List Lump) (parts : List TrimPart) (listed : directory contents ≡ Ok lumps) where
  long-kept : (wanted : List ℕ) (size n : ℕ) → long_lump lumps wanted size ≡ Some n
      → named_bytes (lump_bytes (trimmed_file (lump_bytes contents lumps) lumps parts ∷ []) (trimmed_lumps (lump_bytes contents lumps) lumps parts))
      (trimmed_lumps (lump_bytes contents lumps) lumps parts) wanted ≡ named_bytes (lump_bytes contents lumps) lumps wanted
      → (c : ℕ) × (long_lump (trimmed_lumps (lump_bytes contents lumps) lumps parts) wanted size ≡ Some c) × (lump_bytes (trimmed_file (lump_bytes contents lumps) lumps parts ∷ []) (trimmed_lumps (lump_bytes contents lumps) lumps parts) c ≡ lump_bytes contents lumps n)
  long-kept wanted size n e same =
      let bytes = lump_bytes contents lumps in
      let trimmed = trimmed_lumps bytes lumps parts in
      let bytes' = lump_bytes (trimmed_file bytes lumps parts ∷ []) trimmed in
      let long_lump_found = long-is lumps wanted size n e in
      let inside = (greatest-is (has_name lumps wanted) (length lumps) n long_lump_found.0).0 in
      let last_bytes_same : option_map bytes' (last_of trimmed wanted) ≡ Some (bytes n) = same ∙ ap (option_map bytes) long_lump_found.0 in
      let trimmed_lump = named_step bytes' (last_of trimmed wanted) (bytes n) last_bytes_same in
      let lies_in_file : LiesWithin contents (lump_at lumps n) = directory_within contents lumps listed n no_lump inside in
      let sizes : (lump_at trimmed trimmed_lump.0).size ≡ (lump_at lumps n).size =
      trimmed-size bytes lumps parts trimmed_lump.0 ∙ ap length trimmed_lump.2 ∙ lump_bytes-length contents lumps n lies_in_file in
      (trimmed_lump.0, long-made trimmed wanted size trimmed_lump.0 trimmed_lump.1 (ap (nat_le size) sizes ∙ long_lump_found.1), trimmed_lump.2)

-- lists of textures are of lumps that are there
names_there : (o : Option (List ℕ)) (names : List (List ℕ)) → patch_names o ≡ Ok names → (v : List ℕ) × (o ≡ Some v)
unfolding patch_names
names_there None names e = absurd (cc)
names_there (Some v) names e = (v, refl)

first_there : (o : Option (List ℕ)) (first : List ℕ) → first_list o ≡ Ok first → (v : List ℕ) × (o ≡ Some v)
unfolding first_list
first_there None first e = absurd (cc)
first_there (Some v) first e = (v, refl)

both_there : (a b : Option (List ℕ)) (textures : List ListedTexture) → both_lists a b ≡ Ok textures → (v : List ℕ) × (a ≡ Some v)
unfolding both_lists
both_there a b textures e = let list_found = and_then-ok (first_list a) _ textures e in first_there a list_found.0 list_found.1

lists_there : (a b c : Option (List ℕ)) (lists : TextureLists) → texture_lists a b c ≡ Ok lists → ((v : List ℕ) × (a ≡ Some v)) × ((w : List ℕ) × (b ≡ Some w))
unfolding texture_lists
lists_there a b c lists e =
    let names_found = and_then-ok (patch_names a) _ lists e in
    let both_found = and_then-ok (both_lists b c) _ lists names_found.2 in
    (names_there a names_found.0 names_found.1, both_there b c both_found.0 both_found.1)

list-lumps : (bytes : ℕ → List ℕ) (lumps : List Lump) (lists : TextureLists) → lists_in bytes lumps ≡ Ok lists
    → ((n : ℕ) × (last_of lumps PNAMES ≡ Some n)) × ((t : ℕ) × (last_of lumps TEXTURE1 ≡ Some t))
unfolding lists_in
list-lumps bytes lumps lists e =
    let lists_found = lists_there (named_bytes bytes lumps PNAMES) (named_bytes bytes lumps TEXTURE1) (named_bytes bytes lumps TEXTURE2) lists e in
    let pnames_found = named_step bytes (last_of lumps PNAMES) lists_found.0.0 lists_found.0.1 in
    let texture_found = named_step bytes (last_of lumps TEXTURE1) lists_found.1.0 lists_found.1.1 in
    ((pnames_found.0, pnames_found.1), (texture_found.0, texture_found.1))

-- the eight lumps of the map
copy_bytes : (bytes : ℕ → List ℕ) (n : ℕ) → part_bytes bytes (copy_part n) ≡ bytes n
unfolding part_bytes
copy_bytes bytes n = refl

module _ (bytes : ℕ → List ℕ) (lumps : List Lump) (art : SceneArt) (name : List ℕ) (label : ℕ) (is : map_of lumps name ≡ Some label) where
  behind-label : (k : ℕ) → k < 8 → lump_bytes (trimmed_file bytes lumps (trim_parts lumps art name) ∷ []) (trimmed_lumps bytes lumps (trim_parts lumps art name)) (map_place lumps art + suc k) ≡ bytes (label + suc k)
  behind-label k lt =
      let all_parts = trim_parts lumps art name in
      let called_copies = map copy_part (filter (λ n. not (has_name lumps name n)) (called_lumps lumps art.prepared)) in
      let part_is_copy : part_at all_parts (map_place lumps art + suc k) ≡ copy_part (label + suc k) =
      ap (λ ps. part_at ps (map_place lumps art + suc k)) (parts-by-map lumps art name label is)
      ∙ (let same_place : map_place lumps art + suc k ≡ suc (map_place lumps art) + k = omega arith in
      ap (part_at (front_parts lumps art ++ label_or_copy (is_called lumps art name) label ∷ behind_map lumps art.prepared name label)) same_place)
      ∙ row-at bytes lumps (front_parts lumps art) label (label_or_copy (is_called lumps art name) label) called_copies k lt
      ∙ (let same_number : suc label + k ≡ label + suc k = omega arith in ap copy_part same_number) in
      part-bytes bytes lumps all_parts (map_place lumps art + suc k) ∙ ap (part_bytes bytes) part_is_copy ∙ copy_bytes bytes (label + suc k)

  map-kept : map_bytes (lump_bytes (trimmed_file bytes lumps (trim_parts lumps art name) ∷ []) (trimmed_lumps bytes lumps (trim_parts lumps art name))) (map_place lumps art) ≡ map_bytes bytes label
  unfolding map_bytes
  map-kept =
      rw (
        behind-label 0 (omega arith),
        behind-label 1 (omega arith),
        behind-label 2 (omega arith),
        behind-label 3 (omega arith),
        behind-label 4 (omega arith),
        behind-label 5 (omega arith),
        behind-label 6 (omega arith),
        behind-label 7 (omega arith),
      ) refl

ok_some : {X E : Type 0} (o : Option X) (e : E) (x : X) → o ≡ Some x → ok_or o e ≡ Ok x
ok_some o e x is = rw is refl

module _ (lumps : List Lump) where
  pub label_map : (name : List ℕ) (l : ℕ) → label_of lumps name ≡ Ok l → map_of lumps name ≡ Some l
  unfolding label_of
  label_map name l e = some_value (map_of lumps name) NoMap l e

  map_label : (name : List ℕ) (l : ℕ) → map_of lumps name ≡ Some l → label_of lumps name ≡ Ok l
  unfolding label_of
  map_label name l e = ok_some (map_of lumps name) NoMap l e

-- The trimmed file serves the base.
pub trimmed-serves : (contents : List (List ℕ)) (lumps : List Lump) (art : SceneArt) (name : List ℕ) (base : LevelBase) (wanted : ℕ → Bool)
    → directory contents ≡ Ok lumps → base_in (lump_bytes contents lumps) lumps name ≡ Ok base
    → prepared_textures (last_of lumps) (lump_bytes contents lumps) base.lists wanted ≡ Ok art.prepared
    → (c : ℕ) × (p : ℕ) × (lump_bytes (trimmed_file (lump_bytes contents lumps) lumps (trim_parts lumps art name) ∷ []) (trimmed_lumps (lump_bytes contents lumps) lumps (trim_parts lumps art name)) c ≡ lump_bytes contents lumps base.colormap) × ServesBase (lump_bytes contents lumps) (lump_bytes (trimmed_file (lump_bytes contents lumps) lumps (trim_parts lumps art name) ∷ []) (trimmed_lumps (lump_bytes contents lumps) lumps (trim_parts lumps art name))) lumps (trimmed_lumps (lump_bytes contents lumps) lumps (trim_parts lumps art name)) name base c p (map_place lumps art)
unfolding colormap_of playpal_of
trimmed-serves contents lumps art name base wanted listed is prepared =
    let bytes = lump_bytes contents lumps in
    let all_parts = trim_parts lumps art name in
    let trimmed = trimmed_lumps bytes lumps all_parts in
    let base_found_by = base-found bytes lumps name base is in
    let made_of_lumps = base-made bytes lumps name base is in
    let lists = list-lumps bytes lumps base.lists made_of_lumps.lists in
    let label = label_map lumps name base.label base_found_by.label in
    let called_are_last = called-last lumps bytes base.lists wanted art.prepared name prepared in
    let colormap = named-same bytes lumps art name base.label label called_are_last COLORMAP (colormap-fixed lumps) (record { f_start = refl; f_end = refl; s_start = refl; s_end = refl }) in
    let playpal = named-same bytes lumps art name base.label label called_are_last PLAYPAL (playpal-fixed lumps) (record { f_start = refl; f_end = refl; s_start = refl; s_end = refl }) in
    let colours = some_value (long_lump lumps COLORMAP COLORMAP_SIZE) Colormap base.colormap base_found_by.colormap in
    let palette = some_value (long_lump lumps PLAYPAL PALETTE_SIZE) Playpal base.playpal base_found_by.playpal in
    let colormap_kept = long-kept contents lumps all_parts listed COLORMAP COLORMAP_SIZE base.colormap colours colormap in
    let playpal_kept = long-kept contents lumps all_parts listed PLAYPAL PALETTE_SIZE base.playpal palette playpal in
    let fixed_lumps_there : HasFixed lumps base.playpal base.colormap lists.0.0 lists.1.0 = record {
      playpal = (long-is lumps PLAYPAL PALETTE_SIZE base.playpal palette).0;
      colormap = (long-is lumps COLORMAP COLORMAP_SIZE base.colormap colours).0;
      pnames = lists.0.1;
      texture1 = lists.1.1;
    } in (
      colormap_kept.0,
      playpal_kept.0,
      colormap_kept.2,
      record {
        is = is;
        colormap = ok_some (long_lump trimmed COLORMAP COLORMAP_SIZE) Colormap colormap_kept.0 colormap_kept.1;
        playpal = ok_some (long_lump trimmed PLAYPAL PALETTE_SIZE) Playpal playpal_kept.0 playpal_kept.1;
        palette = playpal_kept.2;
        label = map_label trimmed name (map_place lumps art) (trimmed-map bytes lumps art name base.label base.playpal base.colormap lists.0.0 lists.1.0 label fixed_lumps_there);
        level = map-kept bytes lumps art name base.label label;
        pnames = named-same bytes lumps art name base.label label called_are_last PNAMES (pnames-fixed lumps) (record { f_start = refl; f_end = refl; s_start = refl; s_end = refl });
        texture1 = named-same bytes lumps art name base.label label called_are_last TEXTURE1 (texture1-fixed lumps) (record { f_start = refl; f_end = refl; s_start = refl; s_end = refl });
        texture2 = named-same bytes lumps art name base.label label called_are_last TEXTURE2 (texture2-fixed lumps) (record { f_start = refl; f_end = refl; s_start = refl; s_end = refl });
      },
    )
