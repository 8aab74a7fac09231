-- What is told of a part that reads no lump.
use Rattle.art_rules.proofs.Common.{ap, Err, err_from_is_err_and, List, Ok, Option, refl, Result, subst, sym, true, ℕ, ◌∙◌, ◌≡◌}
use Rattle.level_audit.specs.Rules.{AuditRefusal, Faces, Fault, Heap, LevelBase, LevelValue, Placed, PreparedTexture, ResultIs, Scene, SceneRefusal, SceneValue, Seg, ShelfView, SideTextures, TextureLists, ThingLine, bad_middle, checked, faces_in, fault_above, from_below, itself, scene_on, scene_with, texture_by}
use Rattle.texture_build.specs.{DirectoryView.DirectoryView, Calls.ReadsLumps}
use Rattle.texture_build.proofs.CallLemmas.{result_above, reads_above, reads_known, reads_memory, reads_refused, reads_wider}
use Rattle.level_scene.specs.{declared.fault.SceneFault.SceneFault, Faults.scene_fault}
use Rattle.level_scene.specs.declared.fault.SceneFault.TheVariants.{Refused, OutOfMemory}
use Rattle.level_audit.specs.{Asked.IsOfArt, Asked.IsOfScene, Faults.above_scene}
use Rattle.art_rules.proofs.Laws.{IsThrough}
use Rattle.sound_scene.specs.{declared.parts.ReadFaces.ReadFaces, Scenes.faces_of}
use Rattle.level_audit.proofs.StepLemmas.{scene_on-more}

-- a call of a layer below whose refusal is named here
through_above : {B R Q : Type 0} (lift : R → Q) (one : Result B (Fault R)) (result : Result B (Fault Q)) → IsThrough (λ e f. f ≡ fault_above lift e) one result → result ≡ result_above (fault_above lift) one
through_above lift (Ok x) result is = is
through_above lift (Err e) result is = let error_is = err_from_is_err_and result is in error_is.1 ∙ ap Err error_is.2

pub above_reads : {A B R Q : Type 0} {v w : ShelfView} {dir : DirectoryView} {a b : Heap} {wants : ℕ → Type 0} {value : B → A} {expected : (ℕ → List ℕ) → Result A R} (lift : R → Q) (one : Result B (Fault R)) (result : Result B (Fault Q)) →
    IsThrough (λ e f. f ≡ fault_above lift e) one result → ReadsLumps itself v w dir a b wants value expected one → ReadsLumps itself v w dir a b wants value (λ bytes. from_below lift (expected bytes)) result
above_reads {v} {w} {dir} {a} {b} {wants} {value} {expected} lift one result is reads =
    subst (λ r. ReadsLumps itself v w dir a b wants value (λ bytes. from_below lift (expected bytes)) r) (sym (through_above lift one result is)) (reads_above lift (fault_above lift) (λ fault. refl) one reads)

module _ {A B : Type 0} {value : B → A} {expected : Result A SceneRefusal} (view : ShelfView) (dir : DirectoryView) (z : Heap) (wants : ℕ → Type 0) where
  -- the shelf and the cache are as before
  tells_answered : (result : Result B SceneFault) → ResultIs scene_fault true value expected result → ReadsLumps scene_fault view view dir z z wants value (λ bytes. expected) result
  tells_answered (Ok found) answers = reads_known view dir z found (λ contents told. answers.ok)
  tells_answered (Err (Refused refusal)) answers = reads_refused view dir z (Refused refusal) refusal refl (λ contents told. answers.err)
  tells_answered (Err OutOfMemory) answers = reads_memory view dir z OutOfMemory refl

  -- in the words of an audit
  pub tells_part : (result : Result B SceneFault) → ResultIs scene_fault true value expected result → ReadsLumps itself view view dir z z wants value (λ bytes. from_below Scene expected) (result_above above_scene result)
  tells_part result answers = reads_above Scene above_scene (λ fault. refl) result (tells_answered result answers)

-- the last checks, over segs and sides that are lent
pub checks_told : (view : ShelfView) (dir : DirectoryView) (z : Heap) (wants : ℕ → Type 0) (placed : List Placed) (prepared : List (Option PreparedTexture)) (segs lent : List Seg) (sides seen : List SideTextures) (result : Result (Unit {0}) SceneFault) → lent ≡ segs → seen ≡ sides →
    ResultIs scene_fault true (λ (done : Unit {0}). done) (checked placed (bad_middle (texture_by prepared) lent seen)) result →
    ReadsLumps itself view view dir z z wants (λ (done : Unit {0}). done) (λ bytes. from_below Scene (checked placed (bad_middle (texture_by prepared) segs sides))) (result_above above_scene result)
checks_told view dir z wants placed prepared segs lent sides seen result e f answers =
    tells_part view dir z wants result
    (subst (λ (s : List SideTextures). ResultIs scene_fault true (λ (done : Unit {0}). done) (checked placed (bad_middle (texture_by prepared) segs s)) result) f
    (subst (λ (s : List Seg). ResultIs scene_fault true (λ (done : Unit {0}). done) (checked placed (bad_middle (texture_by prepared) s seen)) result) e answers))

-- the faces, over lists that are lent
pub faces_told : (view : ShelfView) (dir : DirectoryView) (z : Heap) (wants : ℕ → Type 0) (name : List ℕ) (level : LevelValue) (lists lent : TextureLists) (result : Result ReadFaces SceneFault) → lent ≡ lists →
    ResultIs scene_fault true faces_of (faces_in dir.lumps name level lent) result → ReadsLumps itself view view dir z z wants faces_of (λ bytes. from_below Scene (faces_in dir.lumps name level lists)) (result_above above_scene result)
faces_told view dir z wants name level lists lent result e answers =
    tells_part view dir z wants result (subst (λ (l : TextureLists). ResultIs scene_fault true faces_of (faces_in dir.lumps name level l) result) e answers)

-- the art, where the names in the level mean something, is the scene
pub of_scene : {B : Type 0} {v w : ShelfView} {dir : DirectoryView} {a b : Heap} {value : B → SceneValue} {lines : List ThingLine} {skill : ℕ} {name : List ℕ} {base : LevelBase} {faces : Faces} {lent : TextureLists} {result : Result B (Fault AuditRefusal)} →
    lent ≡ base.lists → faces_in dir.lumps name base.level lent ≡ Ok faces → ReadsLumps itself v w dir a b (IsOfArt dir.lumps lines skill base faces) value (λ bytes. scene_with bytes dir.lumps lines skill base faces) result →
    ReadsLumps itself v w dir a b (IsOfScene dir.lumps lines skill name base) value (λ bytes. scene_on bytes dir.lumps lines skill name base) result
of_scene {dir} {lines} {skill} {name} {base} {faces} {result} same meant art =
    let faces_ok : faces_in dir.lumps name base.level base.lists ≡ Ok faces = subst (λ (lists : TextureLists). faces_in dir.lumps name base.level lists ≡ Ok faces) same meant in
    reads_wider result (λ lump asked. record { faces = faces; are = faces_ok; asked = asked }) (λ bytes. sym (scene_on-more bytes dir.lumps lines skill name base faces (ap (from_below Scene) faces_ok))) art
