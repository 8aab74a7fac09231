-- What is told of a job's loading, step after step.
use Rattle.art_rules.proofs.Common.{ap, Bool, Err, err_from_is_err_and, IfErr, IsErrAnd, List, Ok, refl, Result, Some, sym, ℕ, ◌∙◌, ◌≡◌}
use Rattle.level_audit.specs.Rules.{AllWithin, AuditRefusal, Fault, FaultFits, FaultFitsOrAbsent, File, Heap, LevelJobValue, NameFiles, OutOfMemory, ResultIs, ResultIsOrAbsent, ShelfView, Stop, from_below, itself, no_file}
use Rattle.texture_build.specs.{DirectoryView.DirectoryView, Caches.IsFaithful}
use Rattle.texture_build.specs.Calls.{IfFull, HoldContents}
use Rattle.job_files.specs.{Files.FilesValue, Files.files_in, Files.files_named, Sizes.wad_contents}
use Rattle.job_files.proofs.AcceptedLemmas.{wads_accepted}
use Rattle.art_rules.proofs.Laws.{all_passed, no_file_agrees, step_stops}
use Rattle.refusals.specs.declared.refusal.Refusal.{Refusal}
use Rattle.refusals.specs.declared.refusal.Refusal.TheVariants.{Level}
use Rattle.level_audit.specs.scene_load.Loads.{LoadedValue, audited_in, load_in, stops_of_audit, wad_bytes}

-- memory ran out, which no step decides
pub memory_agrees : {A B : Type 0} {steady : Bool} {value : B → A} (expected : Result A (Stop Refusal)) (fault : (Fault Refusal)) (result : Result B (Fault Refusal)) → itself fault ≡ OutOfMemory → IsErrAnd result (λ e. e ≡ fault) → ResultIsOrAbsent itself steady value expected result
memory_agrees {steady} expected fault result tells is =
    let error_is = err_from_is_err_and result is in
    let fault_fits : FaultFitsOrAbsent steady expected (itself error_is.0) = rw (error_is.2, tells) tt in
    rw error_is.1 (record { ok = tt; err = fault_fits })

-- memory ran out, which says nothing of the zone
pub memory_full : {B : Type 0} (P : ℕ → ℕ → Type 0) (fault : (Fault Refusal)) (result : Result B (Fault Refusal)) → itself fault ≡ OutOfMemory → IsErrAnd result (λ e. e ≡ fault) → IfErr result (λ f. IfFull (itself f) P)
memory_full P fault result tells is =
    let error_is = err_from_is_err_and result is in
    let fault_full : IfFull (itself error_is.0) P = rw (error_is.2, tells) tt in
    rw error_is.1 fault_full

-- what no refusal of the lumps has stopped is audited
unstopped : {A : Type 0} (expected : Result A AuditRefusal) (value : A) → stops_of_audit expected ≡ Ok value → expected ≡ Ok value
unstopped (Ok found) value e = let value_same : found ≡ value = cc in ap Ok value_same
unstopped (Err refusal) value e = absurd (cc)

module _ (level : LevelJobValue) (wads : List (List ℕ)) (held : List File) where
  -- the files stopped the loading
  pub files_stopped : {B D : Type 0} {steady : Bool} {value : B → LoadedValue} {v : D → FilesValue} {r : Result D (Fault Refusal)} (fault : (Fault Refusal)) (result : Result B (Fault Refusal)) →
      ResultIsOrAbsent itself steady v (files_in level.files wads level.settings held) r → r ≡ Err fault → IsErrAnd result (λ e. e ≡ fault) → ResultIsOrAbsent itself steady value (load_in level wads held) result
  unfolding load_in
  files_stopped fault result agrees was is = step_stops _ fault result agrees was refl is

  module _ (found : FilesValue) where
    -- the files were accepted, and the lumps decide
    files_passed : files_in level.files wads level.settings held ≡ Ok found → load_in level wads held ≡ stops_of_audit (audited_in (wad_bytes wads held found.lumps) level found)
    unfolding load_in
    files_passed are = rw are refl

    -- what is loaded is what is audited over their lumps
    pub audited_of : (loaded : LoadedValue) → files_in level.files wads level.settings held ≡ Ok found → load_in level wads held ≡ Ok loaded → audited_in (wad_bytes wads held found.lumps) level found ≡ Ok loaded
    audited_of loaded are e = unstopped (audited_in (wad_bytes wads held found.lumps) level found) loaded (sym (files_passed are) ∙ e)

    -- the audit stopped the loading
    pub audit_stopped : {B D : Type 0} {steady later : Bool} {value : B → LoadedValue} {v : D → LoadedValue} {r : Result D (Fault Refusal)} (fault : Fault Refusal) (result : Result B (Fault Refusal)) → files_in level.files wads level.settings held ≡ Ok found → later ≡ steady →
        ResultIs itself later v (from_below Level (audited_in (wad_bytes wads held found.lumps) level found)) r → r ≡ Err fault → IsErrAnd result (λ e. e ≡ fault) → ResultIsOrAbsent itself steady value (load_in level wads held) result
    audit_stopped {B} {D} {steady} {later} {value} {v} {r} fault result are same answers was is =
        let error_is = err_from_is_err_and result is in
        let audit_fault_fits : FaultFits later (from_below Level (audited_in (wad_bytes wads held found.lumps) level found)) fault = rw was at answers.err in
        let fault_fits : FaultFits steady (from_below Level (audited_in (wad_bytes wads held found.lumps) level found)) (itself error_is.0)
        = rw (error_is.2, ← same) audit_fault_fits in
        rw (files_passed are) (no_file_agrees (from_below Level (audited_in (wad_bytes wads held found.lumps) level found)) result (rw error_is.1 (record { ok = tt; err = fault_fits })))

    -- all is loaded
    pub all_loaded : {B : Type 0} {steady : Bool} {value : B → LoadedValue} (loaded : B) → files_in level.files wads level.settings held ≡ Ok found → from_below Level (audited_in (wad_bytes wads held found.lumps) level found) ≡ Ok (value loaded) →
        ResultIsOrAbsent {E = (Fault Refusal)} itself steady value (load_in level wads held) (Ok loaded)
    all_loaded {value} loaded are accepted = all_passed _ loaded (files_passed are ∙ ap (λ (r : Result LoadedValue Refusal). no_file r) accepted)

    -- the shelf and the cache tell the WADs' bytes
    pub told_wads : {w : ShelfView} {dir : DirectoryView} {z : Heap} → files_in level.files wads level.settings held ≡ Ok found →
        ((contents : List (List ℕ)) → files_named wads held ≡ Some contents → NameFiles w dir.files contents × AllWithin contents dir.lumps) → ((contents : List (List ℕ)) → IsFaithful contents dir.lumps z) → HoldContents w dir z (wad_contents wads held)
    told_wads are stand faithful =
        let files_listed = wads_accepted level.files wads level.settings held found are in
        let both_stand = stand files_listed.contents files_listed.named in
        rw files_listed.named (record { stand = both_stand.0; within = both_stand.1; faithful = faithful files_listed.contents })
