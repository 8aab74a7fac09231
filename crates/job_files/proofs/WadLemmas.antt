-- The lumps of WADs that were asked for.
use Rattle.picture_rules.proofs.Common.{Bool, Err, err_from_is_err_and, IfOk, IsErrAnd, List, Ok, Option, refl, Result, Some, ℕ, ◌≡◌}
use Rattle.art_rules.specs.Words.{AllWithin, else_absent, Fault, FaultFitsOrAbsent, File, FileNo, itself, Lump, NameFiles, no_file, ResultIsOrAbsent, ShelfView}
use Rattle.lump_cache.specs.DirectoryView.{DirectoryView}
use Rattle.refusals.specs.declared.refusal.Refusal.{Refusal}
use Rattle.job_files.specs.Files.{files_named, lumps_in, wad_files}
use Rattle.job_files.specs.Found.{AllStandForNamed}
use Rattle.art_rules.proofs.Laws.{stops_all}

-- a file was not found
pub wads_unfound : {B : Type 0} {steady : Bool} {value : B → List Lump} (names : List (List ℕ)) (files : List File) (fault : (Fault Refusal)) (result : Result B (Fault Refusal)) →
    FaultFitsOrAbsent {R = Refusal} steady (else_absent (files_named names files)) (itself fault) → IsErrAnd result (λ e. e ≡ fault) →
    ResultIsOrAbsent itself steady value (lumps_in names files) result
unfolding lumps_in
wads_unfound {B} {steady} names files fault result stops is =
    let result_is_error : (y : (Fault Refusal)) × (result ≡ Err y) × (y ≡ fault) = err_from_is_err_and result is in
    let fault_fits : FaultFitsOrAbsent steady (lumps_in names files) (itself result_is_error.0) = rw result_is_error.2 (stops_all steady (else_absent (files_named names files)) (λ contents. no_file (wad_files contents)) (itself fault) stops) in
    rw result_is_error.1 (record { ok = tt; err = fault_fits })

-- all files were found
pub lumps_found : (names : List (List ℕ)) (files : List File) (contents : List (List ℕ)) → files_named names files ≡ Some contents → lumps_in names files ≡ no_file (wad_files contents)
unfolding lumps_in
lumps_found names files contents e = rw e refl

same_found : {A : Type 0} (found : Option A) (one other : A) → found ≡ Some one → found ≡ Some other → one ≡ other
same_found found one other e f = cc

-- the numbers stand for the bytes of the files that have these names
pub stand_named : (view : ShelfView) (numbers given : List FileNo) (names : List (List ℕ)) (files : List File) (contents : List (List ℕ)) →
    AllStandForNamed view numbers names files → given ≡ numbers → files_named names files ≡ Some contents → NameFiles view given contents
stand_named view numbers given names files contents found same named =
    let found_contents_same : found.contents ≡ contents = same_found (files_named names files) found.contents contents found.lookup named in
    rw (same, ← found_contents_same) found.stand

-- a directory of the files of these numbers
pub wads_stand : {E : Type 0} (view : ShelfView) (numbers : List FileNo) (contents : List (List ℕ)) (result : Result DirectoryView E) →
    NameFiles view numbers contents → IfOk result (λ dir. dir.files ≡ numbers) → IfOk result (λ dir. AllWithin contents dir.lumps) →
    IfOk result (λ dir. NameFiles view dir.files contents × AllWithin contents dir.lumps)
wads_stand view numbers contents (Ok dir) stand files within = (rw files stand, within)
wads_stand view numbers contents (Err fault) stand files within = tt
