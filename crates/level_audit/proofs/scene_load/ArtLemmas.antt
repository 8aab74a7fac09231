-- What the cache and the textures hold once all is loaded.
use Rattle.art_rules.proofs.Common.{ap, IfSome, List, None, Ok, Option, option_and_then, option_map, refl, Some, subst, sym, ℕ, ◌∙◌, ◌≡◌}
use Rattle.level_audit.specs.Rules.{Art, Block, Heap, Holding, LevelBase, LevelJobValue, Lump, Map, PreparedTexture, SceneValue, ShelfView, Texture, ThingLine, base_in, base_over, bytes_of, colormap_of, from_below, is_wanted_texture, level_in, lists_in, lump_bytes, playpal_of, scene_in}
use Rattle.art_rules.proofs.Laws.{and_then-ok}
use Rattle.texture_build.specs.DirectoryView.{DirectoryView}
use Rattle.texture_build.specs.Caches.{IsAtRest, IsEmpty, composite_owner}
use Rattle.texture_build.specs.Calls.{HoldContents, PreservesCache}
use Rattle.texture_build.specs.{Composites.AreComposites, Composites.composite_of, Draws.HoldsArt}
use Rattle.texture_build.specs.Views.{TexturesView, AreTexturesOf, prepared_at}
use Rattle.refusals.specs.declared.refusal.Refusal.TheVariants.{Level}
use Rattle.sound_scene.specs.Sound.{textures_view}
use Rattle.sound_scene.proofs.SceneLemmas.{from_below-ok, scene_parts}
use Rattle.job_files.specs.Files.{FilesValue}
use Rattle.level_audit.specs.scene_load.Loads.{LoadedValue, audited_in}
use Rattle.level_audit.proofs.scene_load.AuditedLemmas.{audited_by}

-- no composite is live
abbrev pub HasNoComposites : Heap → Type 0
HasNoComposites z = (number : ℕ) → bytes_of (composite_owner number) z.blocks ≡ None

-- no bytes that were not there are kept
none_kept : {A : Type 0} (before after : Option A) → before ≡ None → IfSome after (λ value. before ≡ Some value) → after ≡ None
none_kept before None e kept = refl
none_kept before (Some value) e kept = absurd (cc)

-- an empty cache has none
empty_has_none : (z : Heap) → IsEmpty z → HasNoComposites z
empty_has_none z empty = λ number.
    ap (λ (b : Option Block). option_map (λ (h : Holding). h.bytes) (option_and_then (λ (b : Block). b.holding) b)) (empty (composite_owner number))

-- where no composite is made, none is live that was not
kept_none : (old new : Heap) → ((number : ℕ) → IfSome (bytes_of (composite_owner number) new.blocks) (λ bytes. bytes_of (composite_owner number) old.blocks ≡ Some bytes)) → HasNoComposites old → HasNoComposites new
kept_none old new keeps none = λ number. none_kept (bytes_of (composite_owner number) old.blocks) (bytes_of (composite_owner number) new.blocks) (none number) (keeps number)

-- from an empty cache on none is
pub no_composites_first : (old new : Heap) → IsEmpty old → ((number : ℕ) → IfSome (bytes_of (composite_owner number) new.blocks) (λ bytes. bytes_of (composite_owner number) old.blocks ≡ Some bytes)) → HasNoComposites new
no_composites_first old new empty keeps = kept_none old new keeps (empty_has_none old empty)

-- and a call that reads lumps makes none
pub no_composites_then : {v w : ShelfView} {dir : DirectoryView} {old new : Heap} → PreservesCache v w dir old new → HasNoComposites old → HasNoComposites new
no_composites_then {v} {w} {dir} {old} {new} keeps none = kept_none old new keeps.composites none

-- of a texture nothing is live
none_is : (t : Option PreparedTexture) (bytes : ℕ → List ℕ) (live : Option (List ℕ)) → live ≡ None → IfSome t (λ t. IfSome live (λ xs. xs ≡ composite_of bytes t))
none_is None bytes live none = tt
none_is (Some t) bytes live none = subst (λ (x : Option (List ℕ)). IfSome x (λ xs. xs ≡ composite_of bytes t)) (sym none) tt

-- where none is live, each that is live has its bytes
composites_none : (bytes : ℕ → List ℕ) (textures : TexturesView) (z : Heap) → HasNoComposites z → AreComposites bytes textures z
composites_none bytes textures z none = record { at = λ number. none_is (prepared_at textures.prepared number) bytes (bytes_of (composite_owner number) z.blocks) (none number) }

-- the lists of a base are those of the bytes
base_lists : (bytes : ℕ → List ℕ) (lumps : List Lump) (name : List ℕ) (base : LevelBase) → base_in bytes lumps name ≡ Ok base → lists_in bytes lumps ≡ Ok base.lists
unfolding base_in base_over
base_lists bytes lumps name base e =
    let colormap_ok = and_then-ok (from_below Art (colormap_of lumps)) _ base e in
    let playpal_ok = and_then-ok (from_below Art (playpal_of lumps)) _ base colormap_ok.2 in
    let level_ok = and_then-ok (from_below Map (level_in bytes lumps name)) _ base playpal_ok.2 in
    let lists_ok = and_then-ok (from_below Texture (lists_in bytes lumps)) _ base level_ok.2 in
    let lists_same : lists_ok.0 ≡ base.lists = cc (lists_ok.2) in
    from_below-ok Texture (lists_in bytes lumps) lists_ok.0 lists_ok.1 ∙ ap Ok lists_same

-- the textures of an accepted scene are those of the files that have these contents
pub scene_textures : (contents : List (List ℕ)) (lumps : List Lump) (lines : List ThingLine) (name : List ℕ) (skill : ℕ) (scene : SceneValue) → scene_in (lump_bytes contents lumps) lumps lines name skill ≡ Ok scene → AreTexturesOf contents lumps (textures_view scene)
unfolding lists_in
scene_textures contents lumps lines name skill scene e =
    let scene_is_read = scene_parts (lump_bytes contents lumps) lumps lines name skill scene e in
    record {
      wanted = is_wanted_texture scene.faces.sides scene.faces.sky;
      lists = base_lists (lump_bytes contents lumps) lumps name scene.base scene_is_read.base;
      prepared = scene_is_read.prepared;
    }

-- what is audited has an accepted scene
scene_audited : (bytes : ℕ → List ℕ) (level : LevelJobValue) (found : FilesValue) (loaded : LoadedValue) → from_below Level (audited_in bytes level found) ≡ Ok loaded →
    scene_in bytes found.lumps found.things level.map_name level.settings.skill ≡ Ok loaded.scene
scene_audited bytes level found loaded e =
    audited_by (λ (l : LoadedValue). scene_in bytes found.lumps found.things level.map_name level.settings.skill ≡ Ok l.scene) bytes level found loaded
    (from_below-ok Level (audited_in bytes level found) loaded e) (λ scene weapons accepted layers. accepted)

-- the cache, at rest, holds what the files give, and the textures of what is audited are theirs
pub all_held : {w : ShelfView} {dir : DirectoryView} {z : Heap} (contents : List (List ℕ)) (level : LevelJobValue) (found : FilesValue) (loaded : LoadedValue) (count : ℕ) → dir.lumps ≡ found.lumps → from_below Level (audited_in (lump_bytes contents found.lumps) level found) ≡ Ok loaded →
    IsAtRest loaded.scene.base.colormap count z → HoldContents w dir z contents → HasNoComposites z → HoldsArt w dir (textures_view loaded.scene) contents loaded.scene.base.colormap count z
all_held {w} {dir} {z} contents level found loaded count same accepted rest held none = record {
  rest = rest;
  files = held;
  prepared = subst (λ (lumps : List Lump). AreTexturesOf contents lumps (textures_view loaded.scene)) (sym same)
      (scene_textures contents found.lumps found.things level.map_name level.settings.skill loaded.scene (scene_audited (lump_bytes contents found.lumps) level found loaded accepted));
  composites = composites_none (lump_bytes contents dir.lumps) (textures_view loaded.scene) z none;
}
