-- What is told of an audit of the scene, and then of the weapon layers.
use Rattle.level_audit.specs.Rules.{AuditRefusal, Fault, FaultFits, Frame, LevelJobValue, Lump, OutOfMemory, ReadFault, Refused, ResultIs, SceneValue, ZoneFull, and_then, itself, scene_in}
use Rattle.art_rules.proofs.Common.{Bool, Err, err_from_is_err_and, IfOk, IsErrAnd, List, None, Ok, Option, refl, Result, Some, subst, ℕ, ◌≡◌}
use Rattle.art_rules.proofs.Laws.{and_then-ok, step}
use Rattle.job_files.specs.Files.{FilesValue}
use Rattle.sound_scene.specs.Sound.{SoundValue, with_book}
use Rattle.level_audit.specs.scene_load.Loads.{LoadedValue, audited_in, audited_value, weapons_of, with_layers}

-- what is told of a step that stops is told of all steps
stops : {A C R : Type 0} (steady : Bool) (first : Result C R) (next : C → Result A R) (fault : Fault R) → FaultFits steady first fault → FaultFits steady (and_then first next) fault
stops steady first next (Refused reason) h = rw h refl
stops steady first next ReadFault h = h
stops steady first next (ZoneFull wanted widest) h = tt
stops steady first next OutOfMemory h = tt

-- a step has stopped the call
step_stopped : {A B C D R E : Type 0} {told : E → Fault R} {steady later : Bool} {v : D → C} {value : B → A} {first : Result C R} {r : Result D E} (next : C → Result A R) (fault : E) (result : Result B E) →
    ResultIs told later v first r → r ≡ Err fault → later ≡ steady → IsErrAnd result (λ e. e ≡ fault) → ResultIs told steady value (and_then first next) result
step_stopped {A} {B} {C} {D} {R} {E} {told} {steady} {later} {v} {value} {first} {r} next fault result answers was same is =
    let error_is : (y : E) × (result ≡ Err y) × (y ≡ fault) = err_from_is_err_and result is in
    let fault_fits : FaultFits steady (and_then first next) (told error_is.0)
    = rw (error_is.2, ← same) (stops later first next (told fault) (rw was at answers.err)) in rw error_is.1 (record { ok = tt; err = fault_fits })

module _ (bytes : ℕ → List ℕ) (level : LevelJobValue) (found : FilesValue) where
  -- the scene was not accepted
  pub scene_stopped : {steady : Bool} {r : Result SoundValue (Fault AuditRefusal)} (fault : (Fault AuditRefusal)) (result : Result (SoundValue × Option (List Frame)) (Fault AuditRefusal)) → ResultIs itself steady (λ (sound : SoundValue). sound.scene) (scene_in bytes found.lumps found.things level.map_name level.settings.skill) r → r ≡ Err fault → IsErrAnd result (λ e. e ≡ fault) →
      ResultIs itself steady (audited_value found) (audited_in bytes level found) result
  unfolding audited_in
  scene_stopped fault result answers was is = step_stopped _ fault result answers was refl is

  -- it was, and the layers were not
  pub layers_stopped : {steady later : Bool} {r : Result (Option (List Frame)) (Fault AuditRefusal)} (scene : SceneValue) (fault : (Fault AuditRefusal)) (result : Result (SoundValue × Option (List Frame)) (Fault AuditRefusal)) → scene_in bytes found.lumps found.things level.map_name level.settings.skill ≡ Ok scene →
      later ≡ steady → ResultIs itself later (λ (weapons : Option (List Frame)). weapons) (weapons_of bytes found.lumps found.weapons) r → r ≡ Err fault → IsErrAnd result (λ e. e ≡ fault) → ResultIs itself steady (audited_value found) (audited_in bytes level found) result
  unfolding audited_in
  layers_stopped scene fault result accepted same answers was is = step _ _ scene accepted refl (step_stopped _ fault result answers was same is)

  -- both were
  pub both_accepted : (scene : SceneValue) (weapons : Option (List Frame)) → scene_in bytes found.lumps found.things level.map_name level.settings.skill ≡ Ok scene → weapons_of bytes found.lumps found.weapons ≡ Ok weapons →
      audited_in bytes level found ≡ Ok (record { files = found; scene = scene; weapons = weapons })
  unfolding audited_in
  both_accepted scene weapons accepted layers = rw (accepted, layers) refl

-- what holds of each accepted scene with its layers holds of what is audited
pub audited_by : (P : LoadedValue → Type 0) (bytes : ℕ → List ℕ) (level : LevelJobValue) (found : FilesValue) (loaded : LoadedValue) → audited_in bytes level found ≡ Ok loaded →
    ((scene : SceneValue) (weapons : Option (List Frame)) → scene_in bytes found.lumps found.things level.map_name level.settings.skill ≡ Ok scene → weapons_of bytes found.lumps found.weapons ≡ Ok weapons → P (record { files = found; scene = scene; weapons = weapons })) → P loaded
unfolding audited_in
audited_by P bytes level found loaded e each =
    let scene_ok = and_then-ok (scene_in bytes found.lumps found.things level.map_name level.settings.skill) _ loaded e in
    let weapons_ok = and_then-ok (weapons_of bytes found.lumps found.weapons) _ loaded scene_ok.2 in
    let loaded_is : ◌≡◌ {A = LoadedValue} (record { files = found; scene = scene_ok.0; weapons = weapons_ok.0 }) loaded = cc (weapons_ok.2) in
    subst P loaded_is (each scene_ok.0 weapons_ok.0 scene_ok.1 weapons_ok.1)

-- a call that stopped gives no value of which anything has to hold
pub none_given : {B E : Type 0} (P : B → Type 0) (fault : E) (result : Result B E) → IsErrAnd result (λ e. e ≡ fault) → IfOk result P
none_given P fault (Ok value) is = absurd is
none_given P fault (Err found) is = tt

-- the layers leave the scene as it is
pub scene_kept : (lumps : List Lump) (weapons : Option (List Frame)) (sound : SoundValue) → (with_layers lumps weapons sound).scene ≡ sound.scene
unfolding with_book
scene_kept lumps None sound = refl
scene_kept lumps (Some book) sound = refl
