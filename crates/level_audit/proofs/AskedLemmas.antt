-- Each lump that an audit reads is needed by its scene, and a zone that was full for one is smaller
-- than `enough`.
use Rattle.level_audit.specs.Rules.{AuditRefusal, Faces, Fault, Heap, LevelBase, Lump, MIN_FRAGMENT, PNAMES, SceneValue, ShelfView, TEXTURE1, TEXTURE2, ThingLine, art_of, block_size, book_in, colormap_of, enough, greatest_by, is_last, is_list, is_map_lump, is_needed, is_wanted_texture, itself, lump_at, lump_block, lump_bytes, needed_lumps, scene_in, sizes_of, zone_sizes}
use Rattle.art_rules.proofs.Common.{ap, arith, cases_lt, eq-eqb, Err, false, IfErr, inl, inr, length, List, Ok, Option, option_map_or, or-true, refl, Result, subst, true, ℕ, ◌+◌, ◌<◌, ◌==◌, ◌∙◌, ◌≡◌, ◌≤◌}
use Rattle.texture_build.specs.{DirectoryView.DirectoryView, Caches.IsAtRest}
use Rattle.texture_build.specs.{Calls.IfFull, Calls.IsFullFor, Calls.HoldContents, Named.IsLast}
use Rattle.texture_build.proofs.CallLemmas.{full_at, full_room}
use Rattle.texture_lists.specs.Asked.{IsListLump}
use Rattle.level_scene.specs.Asked.{IsLumpOfMap}
use Rattle.level_audit.specs.{Asked.IsOfBase, Asked.IsOfArt, Asked.IsOfScene}
use Rattle.level_audit.specs.Reads.{IsAfterColormap, IsOverBase, IsReadLater}
use Rattle.sound_scene.specs.Sound.{SoundValue}
use Rattle.level_audit.proofs.{NeededPatchLemmas.wanted_patch, NeededPictureLemmas.needed_picture}
use Rattle.sound_scene.proofs.SceneLemmas.{IsBaseOf, IsSceneOf, colormap_there, base_parts, same_value, scene_parts}
use Rattle.sound_scene.proofs.NeededLemmas.{for_colormap, for_list, for_map, for_palette, for_patch, for_picture, needed_there, past_block}

-- one of the lists of textures
last_is : (lumps : List Lump) (name : List ℕ) (lump : ℕ) → IsLast lumps name lump → is_last lumps name lump ≡ true
unfolding is_last
last_is lumps name lump last = ap (λ (o : Option ℕ). option_map_or (λ n. n == lump) o false) last ∙ eq-eqb lump lump refl

list_lump : (lumps : List Lump) (lump : ℕ) → IsListLump lumps lump → is_list lumps lump ≡ true
unfolding is_list
list_lump lumps lump (inl names) = rw (last_is lumps PNAMES lump names) refl
list_lump lumps lump (inr (inl first)) = rw (last_is lumps TEXTURE1 lump first, or-true) refl
list_lump lumps lump (inr (inr second)) = rw (last_is lumps TEXTURE2 lump second, or-true) refl

module _ (bytes : ℕ → List ℕ) (lumps : List Lump) (lines : List ThingLine) (name : List ℕ) (skill : ℕ) (scene : SceneValue) (parts : IsSceneOf bytes lumps lines name skill scene) (lump : ℕ) where
  base_facts : IsBaseOf lumps name scene.base
  base_facts = base_parts bytes lumps name scene.base parts.base

  -- a lump of the map, of the base
  needed_map : IsLumpOfMap lumps name lump → is_needed lumps (art_of scene) lump ≡ true
  unfolding art_of
  needed_map asked = for_map lumps (art_of scene) lump (ap (λ (label : ℕ). is_map_lump label lump) (same_value scene.base.label asked.label base_facts.label asked.is) ∙ asked.among)

  needed_base : IsOfBase lumps name lump → is_needed lumps (art_of scene) lump ≡ true
  unfolding art_of
  needed_base (inl playpal) = for_palette lumps (art_of scene) lump (eq-eqb scene.base.playpal lump (same_value scene.base.playpal lump base_facts.playpal playpal))
  needed_base (inr (inl map)) = needed_map map
  needed_base (inr (inr list)) = for_list lumps (art_of scene) lump (list_lump lumps lump list)

  -- a patch or a picture
  needed_art : IsOfArt lumps lines skill scene.base scene.faces lump → is_needed lumps (art_of scene) lump ≡ true
  unfolding art_of book_in
  needed_art (inl patch) = for_patch lumps (art_of scene) lump (wanted_patch bytes lumps scene.base.lists (is_wanted_texture scene.faces.sides scene.faces.sky) scene.prepared lump parts.prepared patch)
  needed_art (inr picture) = for_picture lumps (art_of scene) lump (needed_picture bytes lumps _ scene.book lump parts.book picture)

  -- the faces of the level, and the base, are those of the scene
  needed_scene : IsOfScene lumps lines skill name scene.base lump → is_needed lumps (art_of scene) lump ≡ true
  needed_scene asked = needed_art (subst (λ (faces : Faces). IsOfArt lumps lines skill scene.base faces lump) (same_value asked.faces scene.faces asked.are parts.faces) asked.asked)

  needed_over : IsOverBase bytes lumps lines name skill lump → is_needed lumps (art_of scene) lump ≡ true
  needed_over asked = needed_scene (subst (λ (base : LevelBase). IsOfScene lumps lines skill name base lump) (same_value asked.base scene.base asked.is parts.base) asked.asked)

  -- all that is read after COLORMAP
  pub needed_later : IsAfterColormap bytes lumps lines name skill lump → is_needed lumps (art_of scene) lump ≡ true
  needed_later (inl asked) = needed_base asked
  needed_later (inr asked) = needed_over asked

-- COLORMAP itself
needed_colormap : (lumps : List Lump) (scene : SceneValue) → is_needed lumps (art_of scene) scene.base.colormap ≡ true
unfolding art_of
needed_colormap lumps scene = for_colormap lumps (art_of scene) scene.base.colormap (eq-eqb scene.base.colormap scene.base.colormap refl)

-- nor has one of any number, since COLORMAP is there
needed_block : (lumps : List Lump) (scene : SceneValue) (lump : ℕ) → scene.base.colormap < length lumps → is_needed lumps (art_of scene) lump ≡ true → lump_block lumps lump ≤ greatest_by (lump_block lumps) (needed_lumps lumps (art_of scene))
needed_block lumps scene lump l needed = elim (cases_lt lump (length lumps)) [
  | inl there ↦ needed_there lumps (art_of scene) lump needed there
  | inr past ↦ omega (arith, past_block lumps lump scene.base.colormap past, needed_there lumps (art_of scene) scene.base.colormap (needed_colormap lumps scene) l)
]

-- what `enough` is no smaller than
enough_colormap : (lumps : List Lump) (scene : SceneValue) → block_size (lump_at lumps scene.base.colormap).size ≤ (sizes_of lumps scene).enough
unfolding sizes_of zone_sizes enough lump_block art_of
enough_colormap lumps scene = omega arith

enough_beside : (lumps : List Lump) (scene : SceneValue) (block : ℕ) → block ≤ greatest_by (lump_block lumps) (needed_lumps lumps (art_of scene)) → block_size (lump_at lumps scene.base.colormap).size + block + MIN_FRAGMENT ≤ (sizes_of lumps scene).enough
unfolding sizes_of zone_sizes enough lump_block art_of
enough_beside lumps scene block l = omega (arith, l)

module _ (bytes : ℕ → List ℕ) (lumps : List Lump) (lines : List ThingLine) (name : List ℕ) (skill : ℕ) (scene : SceneValue) (accepted : scene_in bytes lumps lines name skill ≡ Ok scene) (colormap : ℕ) (is : colormap_of lumps ≡ Ok colormap) where
  -- the scene's colormap is COLORMAP
  parts_of : IsSceneOf bytes lumps lines name skill scene
  parts_of = scene_parts bytes lumps lines name skill scene accepted

  colormap_is : scene.base.colormap ≡ colormap
  colormap_is = same_value scene.base.colormap colormap (base_parts bytes lumps name scene.base parts_of.base).colormap is

  -- a zone that does not hold COLORMAP, or COLORMAP and a further lump
  pub small_first : (size wanted : ℕ) → wanted ≡ block_size (lump_at lumps colormap).size → size < wanted → size < (sizes_of lumps scene).enough
  small_first size wanted e l =
      let block_size_same : block_size (lump_at lumps scene.base.colormap).size ≡ block_size (lump_at lumps colormap).size = ap (λ (n : ℕ). block_size (lump_at lumps n).size) colormap_is in
      omega (arith, e, l, block_size_same, enough_colormap lumps scene)

  pub small_later : (size wanted lump : ℕ) → IsAfterColormap bytes lumps lines name skill lump → wanted ≡ block_size (lump_at lumps lump).size → size < block_size (lump_at lumps colormap).size + wanted + MIN_FRAGMENT → size < (sizes_of lumps scene).enough
  unfolding lump_block
  small_later size wanted lump asked e l =
      let colormap_in_lumps : scene.base.colormap < length lumps = colormap_there lumps scene.base.colormap (base_parts bytes lumps name scene.base parts_of.base).colormap in
      let block : wanted ≤ greatest_by (λ number. block_size (lump_at lumps number).size) (needed_lumps lumps (art_of scene)) = omega (arith, e, needed_block lumps scene lump colormap_in_lumps (needed_later bytes lumps lines name skill scene parts_of lump asked)) in
      let block_size_same : block_size (lump_at lumps scene.base.colormap).size ≡ block_size (lump_at lumps colormap).size = ap (λ (n : ℕ). block_size (lump_at lumps n).size) colormap_is in
      omega (arith, l, block_size_same, enough_beside lumps scene wanted block)

-- no room for a later lump, from a zone at rest
pub enough_after : {w : ShelfView} (dir : DirectoryView) (a b : Heap) (contents : List (List ℕ)) (lines : List ThingLine) (name : List ℕ) (skill : ℕ) (scene : SceneValue) (colormap : ℕ) (result : Result SoundValue (Fault AuditRefusal)) → colormap_of dir.lumps ≡ Ok colormap → scene_in (lump_bytes contents dir.lumps) dir.lumps lines name skill ≡ Ok scene → HoldContents w dir b contents →
    IsAtRest colormap (lump_at dir.lumps colormap).size b → b.size ≡ a.size → IfErr result (λ f. IfFull (itself f) (IsFullFor (IsReadLater w dir b lines name skill) dir b)) → IfErr result (λ f. IfFull (itself f) (λ wanted widest'. a.size < (sizes_of dir.lumps scene).enough))
enough_after dir a b contents lines name skill scene colormap (Ok sound) is accepted told rest size full = tt
enough_after dir a b contents lines name skill scene colormap (Err fault) is accepted told rest size full =
    full_at (itself fault) (λ wanted widest' k.
    small_later (lump_bytes contents dir.lumps) dir.lumps lines name skill scene accepted colormap is a.size wanted k.lump (k.asked contents told) k.wanted_is
    (subst (λ n. n < block_size (lump_at dir.lumps colormap).size + wanted + MIN_FRAGMENT) size (full_room k colormap (lump_at dir.lumps colormap).size rest))) full
