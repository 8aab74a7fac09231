-- The lumps of a file, and of files one after the other.
use Rattle.word_rules.proofs.Common.{[], add-one, ap, append-nil, append_assoc, arith, Bool, drop, drop-cons, drop_all, Err, err_from_is_err_and, false, get_or, IsErrAnd, length, List, nat_lt, nat_tests, Ok, refl, Result, suc, sum_by, sum_by-cons, sym, take, true, ℕ, ◌*◌, ◌++◌, ◌+◌, ◌<◌, ◌∙◌, ◌≡◌, ◌≤◌}
use Rattle.wad_dir.specs.Rules.{DirRefusal, Fault, FaultFits, FileNo, HEADER_SIZE, Header, IsLaterShelf, IsPieceAt, Lump, NameFiles, ResultIs, ShelfView, Stands, directory, entry_count, entry_refusal, file_lumps, file_refusal, header, header_in, header_refusal, listing_size, listing_sizes, lumps_from, lumps_in, refusal_from, unless_refused, whole_header_refusal}
use Rattle.outside.proofs.ShelfLemmas.{as_many, stands_at}
use Rattle.lump_rules.proofs.WadLemmas.{unless_refused_ok, file_lumps-length}
use Rattle.wad_dir.specs.{declared.fault.DirFault.DirFault, Faults.dir_fault}
use Rattle.wad_dir.proofs.AnswerLemmas.{answers_whatever, first_stands}

-- the lumps of a file whose header was passed
pub file_answers : {B : Type 0} {value : B → List Lump} {result : Result B DirFault} (steady : Bool) (file before : ℕ) (bytes : List ℕ) (head : Header) (piece given : List ℕ) →
    unless_refused (header_refusal file before bytes) (header_in (length bytes) (header bytes)) ≡ Ok head →
    ◌≡◌ {A = Result (List ℕ) DirRefusal} (Ok (take (16 * head.count) (drop head.place bytes))) (Ok piece) → given ≡ piece →
    ResultIs dir_fault true value (unless_refused (entry_refusal file head.size (lumps_in file head.count given)) (lumps_in file head.count given)) result →
    ResultIs dir_fault steady value (unless_refused (file_refusal file before bytes) (file_lumps file bytes)) result
unfolding file_lumps
file_answers {value} {result} steady file before bytes head piece given e p q answers =
    let nothing_refused = unless_refused_ok (header_refusal file before bytes) (header_in (length bytes) (header bytes)) head e in
    let head_is : head ≡ header_in (length bytes) (header bytes) = sym nothing_refused.1 in
    let given_is : given ≡ take (16 * head.count) (drop head.place bytes) = cc in
    rw nothing_refused.0 (rw (given_is, head_is) at (answers_whatever steady result answers))

-- Some files were read, without a refusal and with these lumps.
pub record IsReadTo (contents : List (List ℕ)) (i : ℕ) (lumps : List Lump) : Type 0 where
  pub refusals : refusal_from 0 0 contents ≡ refusal_from i (length lumps) (drop i contents)
  pub listed : lumps_from 0 contents ≡ lumps ++ lumps_from i (drop i contents)

-- one file more
pub file_more : (contents : List (List ℕ)) (i : ℕ) (old new found : List Lump) → i < length contents → new ≡ old ++ found → length new ≡ length old + length found →
    unless_refused (file_refusal i (length old) (get_or contents i [])) (file_lumps i (get_or contents i [])) ≡ Ok found →
    IsReadTo contents i old → IsReadTo contents (i + 1) new
unfolding refusal_from lumps_from
file_more contents i old new found lt e n ok so_far =
    let bytes : List ℕ = get_or contents i [] in let nothing_refused = unless_refused_ok (file_refusal i (length old) bytes) (file_lumps i bytes) found ok in
    let count_is : length old + entry_count (header bytes) ≡ length new = omega (arith, file_lumps-length i bytes, ap length nothing_refused.1) in
    record {
      refusals = so_far.refusals ∙ rw (drop-cons contents i [] lt, nothing_refused.0, count_is, add-one) refl;
      listed = so_far.listed ∙ rw (drop-cons contents i [] lt, nothing_refused.1, e, add-one)
          (sym (append_assoc old found (lumps_from (suc i) (drop (suc i) contents))));
    }

first_stop : (contents : List (List ℕ)) (i : ℕ) (lumps : List Lump) (steady : Bool) (told : Fault DirRefusal) → i < length contents → IsReadTo contents i lumps →
    FaultFits steady (unless_refused (file_refusal i (length lumps) (get_or contents i [])) (file_lumps i (get_or contents i []))) told → FaultFits steady (directory contents) told
unfolding refusal_from
first_stop contents i lumps steady told lt so_far h =
    rw (so_far.refusals, drop-cons contents i [] lt) (first_stands _ _ _ (lumps_from 0 contents) steady told h)

-- a file has stopped the walk
pub file_stops : {B D : Type 0} {later : Bool} {v : D → List Lump} {part : Result D DirFault} {value : B → List Lump} (steady : Bool) (contents : List (List ℕ)) (i : ℕ) (lumps : List Lump) (fault : DirFault) (result : Result B DirFault) →
    i < length contents → IsReadTo contents i lumps → later ≡ steady →
    ResultIs dir_fault later v (unless_refused (file_refusal i (length lumps) (get_or contents i [])) (file_lumps i (get_or contents i []))) part → part ≡ Err fault →
    IsErrAnd result (λ e. e ≡ fault) → ResultIs dir_fault steady value (directory contents) result
file_stops {B} {D} {later} {v} {part} {value} steady contents i lumps fault result lt so_far s answers was is =
    let error_is : (y : DirFault) × (result ≡ Err y) × (y ≡ fault) = err_from_is_err_and result is in
    let fault_fits : FaultFits later (unless_refused (file_refusal i (length lumps) (get_or contents i [])) (file_lumps i (get_or contents i []))) (dir_fault fault) = rw was at answers.err in
    let stop_fits : FaultFits later (directory contents) (dir_fault error_is.0) = rw error_is.2
    (first_stop contents i lumps later (dir_fault fault) lt so_far fault_fits) in rw (error_is.1, ← s) (record { ok = tt; err = stop_fits })

-- all files were read
pub all_read : {B : Type 0} {value : B → List Lump} (steady : Bool) (contents : List (List ℕ)) (i : ℕ) (found : B) → length contents ≤ i →
    IsReadTo contents i (value found) → ResultIs dir_fault steady value (directory contents) (Ok found)
unfolding refusal_from lumps_from
all_read {B} {value} steady contents i found le so_far = record {
  ok = rw (so_far.refusals, so_far.listed, drop_all i contents le, append-nil) refl;
  err = tt;
}

-- what the files that are left list
pub listing_left : (contents : List (List ℕ)) (i : ℕ) → i < length contents →
    listing_sizes (drop i contents) ≡ listing_size (get_or contents i []) + listing_sizes (drop (i + 1) contents)
unfolding listing_sizes
listing_left contents i lt =
    ap (λ rest. sum_by listing_size rest) (drop-cons contents i [] lt)
    ∙ sum_by-cons listing_size (get_or contents i []) (drop (suc i) contents)
    ∙ ap (λ k. listing_size (get_or contents i []) + sum_by listing_size (drop k contents)) (sym (add-one i))

-- what the file at i takes of the shelf is what it lists, so that the files that are left have theirs
pub file_taken : (first now later : ShelfView) (files : List FileNo) (contents : List (List ℕ)) (i : ℕ) (d : FileNo) → NameFiles first files contents → i < length files → IsLaterShelf first now →
    now.taken + listing_sizes (drop i contents) ≤ first.taken + listing_sizes contents →
    ((bytes : List ℕ) → Stands now (get_or files i d).0 bytes → later.taken ≤ now.taken + listing_size bytes) →
    later.taken + listing_sizes (drop (i + 1) contents) ≤ first.taken + listing_sizes contents
file_taken first now later files contents i d stand lt follows taken more =
    let as_many_files = as_many first files contents stand in
    omega (arith, taken, listing_left contents i (omega (arith, as_many_files)), more _ (follows.file _ _ (stands_at first files contents i d stand lt)))

-- what a whole header gives that was read is what the bytes of its file give
pub header-read : (number before size : ℕ) (bytes head : List ℕ) (found : Result Header DirRefusal) → size ≡ length bytes → HEADER_SIZE ≤ size → length head ≡ HEADER_SIZE → IsPieceAt bytes 0 head →
    found ≡ unless_refused (whole_header_refusal number before size head) (header_in size head) → unless_refused (header_refusal number before bytes) (header_in (length bytes) (header bytes)) ≡ found
header-read number before size bytes head found same long whole piece is =
    let not_too_short : nat_lt (length bytes) HEADER_SIZE ≡ false = grind (arith, nat_tests) in
    let head_is : head ≡ header bytes = rw whole at piece.bytes in
    rw (not_too_short, ← same, ← head_is) (sym is)
