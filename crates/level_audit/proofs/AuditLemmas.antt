-- What is told of the steps after COLORMAP, one after the other.
use Rattle.level_audit.specs.Rules.{AuditRefusal, Fault, Heap, OutOfMemory, ShelfView, ThingLine, base_in, itself, scene_in, scene_on}
use Rattle.std.proofs.Common.{◌≡◌, ℕ, List, Result, Ok, Err, refl, sym, ap, ◌∙◌, inl, inr, IsErrAnd}
use Rattle.texture_build.specs.{DirectoryView.DirectoryView, Calls.ReadsLumps}
use Rattle.texture_build.proofs.CallLemmas.{reads_as, reads_more, reads_same, reads_short, reads_stop, reads_stop_first}
use Rattle.sound_scene.specs.{declared.parts.ReadBase.ReadBase, Bases.base_of}
use Rattle.level_audit.specs.{Asked.IsOfBase, Asked.IsOfScene, Reads.IsReadLater}
use Rattle.sound_scene.specs.{declared.parts.ReadScene.ReadScene, Scenes.scene_value}
use Rattle.sound_scene.specs.Sound.{SoundValue}
use Rattle.sound_scene.proofs.SceneLemmas.{scene_in-more, scene_in-stop}

module _ {v : ShelfView} {dir : DirectoryView} {a : Heap} (lines : List ThingLine) (name : List ℕ) (skill : ℕ) where
  -- the base was not read
  pub base_stopped : {w : ShelfView} {b : Heap} (one : Result ReadBase (Fault AuditRefusal)) (fault : (Fault AuditRefusal)) (result : Result SoundValue (Fault AuditRefusal)) → ReadsLumps itself v w dir a b (IsOfBase dir.lumps name) base_of (λ bytes. base_in bytes dir.lumps name) one → one ≡ Err fault → IsErrAnd result (λ e. e ≡ fault) →
      ReadsLumps itself v w dir a b (IsReadLater v dir a lines name skill) (λ (sound : SoundValue). sound.scene) (λ bytes. scene_in bytes dir.lumps lines name skill) result
  base_stopped one fault result tells was is =
      reads_stop_first (λ bytes. scene_in bytes dir.lumps lines name skill) one fault result tells was is
      (λ lump asked contents told. inl asked) (λ bytes refusal. scene_in-stop bytes dir.lumps lines name skill refusal)

  -- it was, and the scene is read over it
  module _ {w : ShelfView} {b : Heap} (base : ReadBase) (one : ReadsLumps itself v w dir a b (IsOfBase dir.lumps name) base_of (λ bytes. base_in bytes dir.lumps name) (Ok base)) where
    -- a lump of the scene over that base is read whatever contents are told
    of_scene : (lump : ℕ) → IsOfScene dir.lumps lines skill name (base_of base) lump → IsReadLater v dir a lines name skill lump
    of_scene lump asked = λ contents told.
        inr (record { base = base_of base; is = (one.answers contents told).ok; asked = asked })

    base_passed : ReadsLumps itself v w dir a b (IsReadLater v dir a lines name skill) base_of (λ bytes. base_in bytes dir.lumps name) (Ok base)
    base_passed = reads_as {value = base_of} {expected = λ bytes. base_in bytes dir.lumps name} base base one (λ lump asked contents told. inl asked) (λ bytes is. is)

    -- the scene was not read
    pub scene_stopped : {x : ShelfView} {c : Heap} (two : Result ReadScene (Fault AuditRefusal)) (fault : (Fault AuditRefusal)) (result : Result SoundValue (Fault AuditRefusal)) →
        ReadsLumps itself w x dir b c (IsOfScene dir.lumps lines skill name (base_of base)) scene_value (λ bytes. scene_on bytes dir.lumps lines skill name (base_of base)) two → two ≡ Err fault → IsErrAnd result (λ e. e ≡ fault) →
        ReadsLumps itself v x dir a c (IsReadLater v dir a lines name skill) (λ (sound : SoundValue). sound.scene) (λ bytes. scene_in bytes dir.lumps lines name skill) result
    scene_stopped two fault result tells was is =
        reads_same result fault (λ bytes. scene_in bytes dir.lumps lines name skill) is
        (reads_stop (λ bytes. scene_in bytes dir.lumps lines name skill) fault base_passed two tells was of_scene
        (λ bytes refusal found stopped. scene_in-more bytes dir.lumps lines name skill (base_of base) found ∙ stopped))

    -- it was read
    module _ {x : ShelfView} {c : Heap} (scene : ReadScene)
        (two : ReadsLumps itself w x dir b c (IsOfScene dir.lumps lines skill name (base_of base)) scene_value (λ bytes. scene_on bytes dir.lumps lines skill name (base_of base)) (Ok scene)) where
      scene_passed : ReadsLumps itself v x dir a c (IsReadLater v dir a lines name skill) scene_value (λ bytes. scene_in bytes dir.lumps lines name skill) (Ok scene)
      scene_passed =
          reads_more (λ bytes. scene_in bytes dir.lumps lines name skill) scene scene base_passed (Ok scene) two refl of_scene
          (λ bytes found read. scene_in-more bytes dir.lumps lines name skill (base_of base) found ∙ read)

      -- memory ran out for what is made of it
      pub sound_stopped : (result : Result SoundValue (Fault AuditRefusal)) → IsErrAnd result (λ e. e ≡ OutOfMemory) → ReadsLumps itself v x dir a c (IsReadLater v dir a lines name skill) (λ (sound : SoundValue). sound.scene) (λ bytes. scene_in bytes dir.lumps lines name skill) result
      sound_stopped result is = reads_same result OutOfMemory (λ bytes. scene_in bytes dir.lumps lines name skill) is (reads_short OutOfMemory refl (λ lump asked. asked) scene_passed)

      pub sound_passed : (sound : SoundValue) → sound.scene ≡ scene_value scene → ReadsLumps itself v x dir a c (IsReadLater v dir a lines name skill) (λ (sound : SoundValue). sound.scene) (λ bytes. scene_in bytes dir.lumps lines name skill) (Ok sound)
      sound_passed sound is = reads_as scene sound scene_passed (λ lump asked. asked) (λ bytes read. read ∙ ap Ok (sym is))
