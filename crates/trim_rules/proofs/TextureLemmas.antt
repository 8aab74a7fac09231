-- The prepared textures of an accepted level by the trimmed directory: the same, with their patches moved.
use Rattle.art_rules.proofs.Common.{[], AllByRecursion, Bool, Decides-eqb, length, List, list_any, map, None, Ok, Option, option_map, or-true_left, or-true_right, refl, Some, true, ℕ, ◌==◌, ◌∷◌, ◌≡◌, ◌≤◌}
use Rattle.art_rules.proofs.Laws.{greatest-is}
use Rattle.trim_rules.specs.Rules.{LevelBase, Lump, PlacedPatch, PreparedTexture, SKY_FLAT, SceneArt, base_in, has_name, is_patch_of, is_patch_of_any, last_of, lump_bytes, prepared_textures}
use Rattle.trim_rules.specs.{declared.part.TrimPart.TrimPart, Parts.trim_parts}
use Rattle.trim_rules.specs.Files.{trimmed_file, trimmed_lumps}
use Rattle.trim_rules.proofs.{BytesLemmas.trimmed-bytes, LastLemmas.called-last}
use Rattle.trim_rules.proofs.PlaceLemmas.{source_of}
use Rattle.trim_rules.proofs.PreparedLemmas.{PatchIs, PatchesAre, move_texture, prepared-moved}
use Rattle.trim_rules.proofs.ServedLemmas.{base-found, label_map}
use Rattle.trim_rules.proofs.SourceLemmas.{called-source, patch-called}

-- each patch of the textures is one of their patches
module _ (Q : ℕ → Type 0) where
  texture_own : (ps : List PlacedPatch) → ((n : ℕ) → list_any (λ (patch : PlacedPatch). patch.lump == n) ps ≡ true → Q n) → AllByRecursion (PatchIs Q) ps
  texture_own [] gives = tt
  texture_own (p ∷ ps) gives =
      (gives p.lump (or-true_left (p.lump == p.lump) _ ((Decides-eqb p.lump p.lump).1 refl)), texture_own ps (λ n any. gives n (or-true_right (p.lump == n) _ any)))

  textures_own : (ts : List (Option PreparedTexture)) → ((n : ℕ) → list_any (is_patch_of n) ts ≡ true → Q n) → AllByRecursion (PatchesAre Q) ts
  unfolding is_patch_of
  textures_own [] gives = tt
  textures_own (None ∷ ts) gives = (tt, textures_own ts (λ n any. gives n any))
  textures_own (Some t ∷ ts) gives = (
    texture_own t.patches (λ n any. gives n (or-true_left (list_any (λ (patch : PlacedPatch). patch.lump == n) t.patches) _ any)),
    textures_own ts (λ n any. gives n (or-true_right (is_patch_of n (Some t)) _ any)),
  )

abbrev IsOwn : List (Option PreparedTexture) → ℕ → Type 0
IsOwn ts n = is_patch_of_any ts n ≡ true

patches-own : (ts : List (Option PreparedTexture)) → AllByRecursion (PatchesAre (IsOwn ts)) ts
unfolding is_patch_of_any
patches-own ts = textures_own (IsOwn ts) ts (λ n any. any)

-- the bytes of the trimmed lumps, as a function
pub bytes-moved : (contents : List (List ℕ)) (lumps : List Lump) (parts : List TrimPart) → length lumps ≤ SKY_FLAT
    → lump_bytes (trimmed_file (lump_bytes contents lumps) lumps parts ∷ []) (trimmed_lumps (lump_bytes contents lumps) lumps parts)
    ≡ (λ k. lump_bytes contents lumps (source_of parts k))
bytes-moved contents lumps parts few = λ i k. trimmed-bytes contents lumps parts few k i

-- The prepared textures of an accepted level.
pub trimmed-prepared : (contents : List (List ℕ)) (lumps : List Lump) (art : SceneArt) (name : List ℕ) (base : LevelBase) (wanted : ℕ → Bool)
    → length lumps ≤ SKY_FLAT → base_in (lump_bytes contents lumps) lumps name ≡ Ok base
    → prepared_textures (last_of lumps) (lump_bytes contents lumps) base.lists wanted ≡ Ok art.prepared
    → (textures : List (Option PreparedTexture))
    × (prepared_textures (last_of (trimmed_lumps (lump_bytes contents lumps) lumps (trim_parts lumps art name)))
    (λ k. lump_bytes contents lumps (source_of (trim_parts lumps art name) k)) base.lists wanted ≡ Ok textures)
    × (map (option_map (move_texture (source_of (trim_parts lumps art name)))) textures ≡ art.prepared)
trimmed-prepared contents lumps art name base wanted few is prepared =
    let bytes = lump_bytes contents lumps in
    let all_parts = trim_parts lumps art name in
    let trimmed = trimmed_lumps bytes lumps all_parts in
    let label = label_map lumps name base.label (base-found bytes lumps name base is).label in
    let called_are_last = called-last lumps bytes base.lists wanted art.prepared name prepared in
    prepared-moved (source_of all_parts) bytes (last_of lumps) (last_of trimmed) (IsOwn art.prepared)
    (λ wanted n e own. called-source bytes lumps art name base.label label called_are_last wanted n e
    (patch-called lumps art.prepared n (greatest-is (has_name lumps wanted) (length lumps) n e).0 own))
    base.lists wanted art.prepared prepared (patches-own art.prepared)
