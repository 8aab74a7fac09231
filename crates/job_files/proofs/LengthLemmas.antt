-- A file's length and its bytes.
use Rattle.std.proofs.Common.{◌≡◌, ℕ, List, length, Option, Some, None, Ok, Err, refl, sym, ap}
use Rattle.job_files.specs.{declared.whole_files.FileKind.FileKind, Files.value_unless}
use Rattle.refusals.specs.declared.refusal.Refusal.{Refusal}
use Rattle.job_files.specs.Lengths.{length_refusal, bytes_in}

-- a value was refused, and so is another
refused_too : {A B R : Type 0} (refusal : Option R) (value : A) (other : B) (reason : R) → value_unless refusal value ≡ Err reason → value_unless refusal other ≡ Err reason
refused_too None value other reason e = absurd (cc)
refused_too (Some first) value other reason e = let reasons_same : first ≡ reason = cc in ap Err reasons_same

-- a value was not refused
pub not_refused : {A R : Type 0} (refusal : Option R) (value found : A) → value_unless refusal value ≡ Ok found → (refusal ≡ None) × (found ≡ value)
not_refused None value found e = let values_same : value ≡ found = cc in (refl, sym values_same)
not_refused (Some first) value found e = absurd (cc)

-- a file whose length is refused
pub bytes_refused : (kind : FileKind) (size : ℕ) (bytes : List ℕ) (reason : Refusal) → size ≡ length bytes →
    value_unless (length_refusal kind size) size ≡ Err reason → bytes_in kind bytes ≡ Err reason
unfolding bytes_in
bytes_refused kind size bytes reason e h = refused_too (length_refusal kind (length bytes)) (length bytes) bytes reason (rw e at h)

-- a file whose length is not refused
pub bytes_whole : (kind : FileKind) (size count : ℕ) (bytes : List ℕ) → size ≡ length bytes →
    value_unless (length_refusal kind size) size ≡ Ok count → (bytes_in kind bytes ≡ Ok bytes) × (length bytes ≡ count)
unfolding bytes_in
bytes_whole kind size count bytes e h =
    let length_passes : value_unless (length_refusal kind (length bytes)) (length bytes) ≡ Ok count = rw e at h in
    let no_refusal = not_refused (length_refusal kind (length bytes)) (length bytes) count length_passes in
    (rw no_refusal.0 refl, sym no_refusal.1)
