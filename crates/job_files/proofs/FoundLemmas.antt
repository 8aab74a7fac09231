-- The numbers of files that were asked for one after the other.
use Rattle.picture_rules.proofs.Common.{[], ap, arith, Bor, Err, get_or, IsOk, IsSome, length, length-map, List, map, None, Option, option_and_then, option_map, refl, Result, Some, suc, sym, zero, ℕ, ◌++◌, ◌<◌, ◌∙◌, ◌∷◌, ◌≡◌, get_or-map}
use Rattle.art_rules.specs.Words.{absent, else_absent, File, file_named, FileNo, IsLaterShelf, NameFiles, ShelfView, Stands, StandsForNamed}
use Rattle.art_rules.proofs.Laws.{all_stand_later, not_held}
use Rattle.job_files.specs.{Files.files_named, Found.AllStandForNamed}

-- the first file and the others, where all are held
record AreBoth (first : Option (List ℕ)) (others : Option (List (List ℕ))) (contents : List (List ℕ)) : Type 0 where
  bytes : List ℕ
  rest : List (List ℕ)
  first_is : first ≡ Some bytes
  others_are : others ≡ Some rest
  both : contents ≡ bytes ∷ rest

both_parts : (first : Option (List ℕ)) (others : Option (List (List ℕ))) (contents : List (List ℕ)) →
    option_and_then (λ bytes. option_map (λ rest. bytes ∷ rest) others) first ≡ Some contents → AreBoth first others contents
both_parts None others contents e = absurd (cc)
both_parts (Some bytes) None contents e = absurd (cc)
both_parts (Some bytes) (Some rest) contents e = record { bytes = bytes; rest = rest; first_is = refl; others_are = refl; both = let contents_are : bytes ∷ rest ≡ contents = cc in sym contents_are }

-- a name more
named_more : (names : List (List ℕ)) (name : List ℕ) (files : List File) (contents : List (List ℕ)) (bytes : List ℕ) →
    files_named names files ≡ Some contents → file_named name files ≡ Some bytes → files_named (names ++ name ∷ []) files ≡ Some (contents ++ bytes ∷ [])
unfolding files_named
named_more [] name files contents bytes e f = let contents_empty : [] ≡ contents = cc in rw (f, ← contents_empty) refl
named_more (first ∷ names) name files contents bytes e f =
    let both_files = both_parts (file_named first files) (files_named names files) contents e in
    rw (both_files.first_is, named_more names name files both_files.rest bytes both_files.others_are f) (ap (λ v. Some (v ++ bytes ∷ [])) (sym both_files.both))

lacks_others : (first : Option (List ℕ)) (others : Option (List (List ℕ))) → others ≡ None → option_and_then (λ bytes. option_map (λ rest. bytes ∷ rest) others) first ≡ None
lacks_others None others e = refl
lacks_others (Some bytes) others e = rw e refl

-- a file of one of the names is not held
pub named_lacks : (names : List (List ℕ)) (i : ℕ) (d : List ℕ) (files : List File) → i < length names → file_named (get_or names i d) files ≡ None → files_named names files ≡ None
unfolding files_named
named_lacks [] i d files lt e = absurd (omega arith)
named_lacks (first ∷ names) zero d files lt e = rw e refl
named_lacks (first ∷ names) (suc i) d files lt e = lacks_others (file_named first files) (files_named names files) (named_lacks names i d files (omega arith) e)

-- the call that asked for one of the files failed
pub lacking_stops : {D F R : Type 0} (names : List (Bor (List ℕ))) (i : ℕ) (d : Bor (List ℕ)) (files : List File) (r : Result D F) (failed : F) →
    i < length names → (IsSome (file_named (get_or names i d).now files) → IsOk r) → r ≡ Err failed →
    else_absent {R = R} (files_named (map (λ name. name.now) names) files) ≡ Err absent
lacking_stops names i d files r failed lt there was =
    let lacks : file_named (get_or (map (λ (name : Bor (List ℕ)). name.now) names) i []) files ≡ None =
    rw (get_or-map (λ (name : Bor (List ℕ)). name.now) names i d [] lt) (not_held (file_named (get_or names i d).now files) r failed there was) in
    rw (named_lacks (map (λ (name : Bor (List ℕ)). name.now) names) i [] files (rw length-map lt) lacks) refl

stand_more : (view : ShelfView) (numbers : List FileNo) (contents : List (List ℕ)) (number : FileNo) (bytes : List ℕ) →
    NameFiles view numbers contents → Stands view number.0 bytes → NameFiles view (numbers ++ number ∷ []) (contents ++ bytes ∷ [])
stand_more view [] [] number bytes stand stands = (stands, tt)
stand_more view [] (file ∷ contents) number bytes stand stands = absurd stand
stand_more view (first ∷ numbers) [] number bytes stand stands = absurd stand
stand_more view (first ∷ numbers) (file ∷ contents) number bytes stand stands = (stand.0, stand_more view numbers contents number bytes stand.1 stands)

-- no name yet
pub none_found : (view : ShelfView) (numbers : List FileNo) (files : List File) → numbers ≡ [] → AllStandForNamed view numbers [] files
unfolding files_named
none_found view numbers files e = rw e (record { contents = []; lookup = refl; stand = tt })

held_bytes : (file : Option (List ℕ)) → IsSome file → (bytes : List ℕ) × (file ≡ Some bytes)
held_bytes None there = absurd (cc)
held_bytes (Some bytes) there = (bytes, refl)

-- one name more
pub found_more : (old new : ShelfView) (numbers more : List FileNo) (number : FileNo) (before all : List (List ℕ)) (name : List ℕ) (files : List File) →
    StandsForNamed new number.0 name files → more ≡ numbers ++ number ∷ [] → all ≡ before ++ name ∷ [] → IsLaterShelf old new →
    AllStandForNamed old numbers before files → AllStandForNamed new more all files
found_more old new numbers more number before all name files found pushed longer follows so_far =
    let file_bytes = held_bytes (file_named name files) found.is_held in
    rw (pushed, longer) (record {
      contents = so_far.contents ++ file_bytes.0 ∷ [];
      lookup = named_more before name files so_far.contents file_bytes.0 so_far.lookup file_bytes.1;
      stand = stand_more new numbers so_far.contents number file_bytes.0 (all_stand_later old new numbers so_far.contents follows so_far.stand) (found.stands ∙ file_bytes.1);
    })
