-- The lumps of a directory lie within their files.
use Rattle.word_rules.proofs.Common.{[], add-zero, All, All-append, All-nil, ap, arith, false, length, length-drop, length-take, List, min, nat_lt, nat_tests, None, not, Ok, or_else-none, subst, suc, sym, zero, zero-add, ℕ, ◌&&◌, ◌+◌, ◌-◌, ◌<◌, ◌==◌, ◌∙◌, ◌∷◌, ◌≡◌, ◌≤◌}
use Rattle.lump_rules.specs.{declared.wad.Lump.Lump, Lookups.lump_at}
use Rattle.lump_rules.specs.Wads.{passes_end, file_lumps, header_refusal, header, entry_count, entries_in, entry_refusal, file_refusal, refusal_from, lumps_from, directory}
use Rattle.lump_rules.specs.Contents.{file_bytes, lump_bytes, LiesWithin, AllWithin}
use Rattle.lump_rules.proofs.WadLemmas.{unless_refused_ok, lumps_in-file, entry_refusal_none}

not_past : (size place end : ℕ) → (not (size == 0) && nat_lt end (place + size)) ≡ false → 0 < size → place + size ≤ end
not_past size place end e some = grind (arith, nat_tests)

-- a lump that does not pass the end of its file lies within it
lies : (contents : List (List ℕ)) (file : ℕ) (bytes : List ℕ) (lump : Lump) → lump.file ≡ file → file < length contents → file_bytes contents file ≡ bytes →
    passes_end (length bytes) lump ≡ false → LiesWithin contents lump
lies contents file bytes lump is lt e off =
    let file_length : length (file_bytes contents lump.file) ≡ length bytes = ap (λ k. length (file_bytes contents k)) is ∙ ap length e in
    record {
      file = omega arith;
      bytes = λ some. let lump_fits_file : lump.place + lump.size ≤ length bytes = not_past lump.size lump.place (length bytes) off some in omega arith;
    }

file_within : (contents : List (List ℕ)) (file : ℕ) (bytes : List ℕ) → file < length contents → file_bytes contents file ≡ bytes →
    entry_refusal file (length bytes) (file_lumps file bytes) ≡ None → All (LiesWithin contents) (file_lumps file bytes)
unfolding file_lumps
file_within contents file bytes lt e none k d inside =
    lies contents file bytes _ (lumps_in-file file (entry_count (header bytes)) (entries_in (header bytes) bytes) k d inside) lt e
    (entry_refusal_none file (length bytes) (file_lumps file bytes) none k d inside)

-- the lumps of the files that are left
within_from : (contents : List (List ℕ)) (file before : ℕ) (rest : List (List ℕ)) → ((k : ℕ) → k < length rest → file_bytes contents (file + k) ≡ file_bytes rest k) →
    file + length rest ≤ length contents → refusal_from file before rest ≡ None → All (LiesWithin contents) (lumps_from file rest)
unfolding refusal_from lumps_from
within_from contents file before [] same le none = All-nil (LiesWithin contents)
within_from contents file before (bytes ∷ rest) same le none =
    let neither_refused = or_else-none (file_refusal file before bytes) (refusal_from (suc file) (before + entry_count (header bytes)) rest) none in
    let entries = or_else-none (header_refusal file before bytes) (entry_refusal file (length bytes) (file_lumps file bytes)) neither_refused.0 in
    let file_has_bytes : file_bytes contents file ≡ bytes = ap (file_bytes contents) (sym (add-zero file)) ∙ same 0 (omega arith) in
    All-append (LiesWithin contents) (file_lumps file bytes) (lumps_from (suc file) rest)
    (file_within contents file bytes (omega arith) file_has_bytes entries.1)
    (within_from contents (suc file) (before + entry_count (header bytes)) rest
    (λ k lt. let file_number_same : suc file + k ≡ file + suc k = omega arith in ap (file_bytes contents) file_number_same ∙ same (suc k) (omega arith))
    (omega arith) neither_refused.1)

-- each lump of a directory lies within its file
pub directory_within : (contents : List (List ℕ)) (lumps : List Lump) → directory contents ≡ Ok lumps → AllWithin contents lumps
directory_within contents lumps e =
    let fine = unless_refused_ok (refusal_from 0 0 contents) (lumps_from 0 contents) lumps e in
    subst (AllWithin contents) fine.1 (within_from contents 0 0 contents (λ k lt. ap (file_bytes contents) (zero-add k)) (omega arith) fine.0)

fits : (size place n : ℕ) → (0 < size → place + size ≤ n) → min size (n - place) ≡ size
fits zero place n within = omega arith
fits (suc size) place n within = let end_within : place + suc size ≤ n = within (omega arith) in omega arith

-- a lump that lies within its file has as many bytes as its entry says
pub lump_bytes-length : (contents : List (List ℕ)) (lumps : List Lump) (number : ℕ) → LiesWithin contents (lump_at lumps number) →
    length (lump_bytes contents lumps number) ≡ (lump_at lumps number).size
unfolding lump_bytes
lump_bytes-length contents lumps number within =
    simp (length-take, length-drop) (fits (lump_at lumps number).size (lump_at lumps number).place _ within.bytes)
