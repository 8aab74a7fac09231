-- Lumps in the files where they stand.
use Rattle.picture_rules.proofs.Common.{[], All-get_or, ap, arith, drop, get_or, get_or_from_slice_get, IfSome, length, List, Option, refl, slice_get, slice_get_within, Some, suc, sym, take, zero, ℕ, ◌+◌, ◌<◌, ◌∙◌, ◌∷◌, ◌≡◌, ◌≤◌}
use Rattle.art_rules.specs.Words.{AllWithin, file_bytes, FileNo, IsPieceAt, LiesWithin, Lump, lump_at, lump_bytes, NameFiles, no_lump, ShelfView, Stands}
use Rattle.art_rules.proofs.Laws.{stands_at}

-- the number of a lump's file stands for the bytes of that file
pub file_stands : (view : ShelfView) (numbers : List FileNo) (contents : List (List ℕ)) (i : ℕ) (number : FileNo) →
    NameFiles view numbers contents → slice_get numbers i ≡ Some number → Stands view number.0 (file_bytes contents i)
file_stands view numbers contents i number stand e =
    let number_is : get_or numbers i number ≡ number = get_or_from_slice_get numbers i number number e in
    rw number_is at (stands_at view numbers contents i number stand (slice_get_within numbers i number e))

-- a lump of a directory lies within its file
pub lump_within : (contents : List (List ℕ)) (lumps : List Lump) (n : ℕ) → AllWithin contents lumps → n < length lumps → LiesWithin contents (lump_at lumps n)
lump_within contents lumps n within lt = All-get_or (LiesWithin contents) lumps n no_lump lt within

take_shorter : {X : Type 0} (n m : ℕ) (xs : List X) → n ≤ m → take n (take m xs) ≡ take n xs
take_shorter zero m xs le = refl
take_shorter (suc n) zero xs le = absurd (omega arith)
take_shorter (suc n) (suc m) [] le = refl
take_shorter (suc n) (suc m) (x ∷ xs) le = ap (λ v. x ∷ v) (take_shorter n m xs (omega arith))

-- the first bytes from a lump's offset on are those of the lump
pub front_of_lump : (contents : List (List ℕ)) (lumps : List Lump) (n size : ℕ) → size ≤ (lump_at lumps n).size →
    take size (drop (lump_at lumps n).place (file_bytes contents (lump_at lumps n).file)) ≡ take size (lump_bytes contents lumps n)
unfolding lump_bytes
front_of_lump contents lumps n size le = sym (take_shorter size (lump_at lumps n).size _ le)

-- what was read of a file from a lump's offset on is the front of that lump
pub piece_of_lump : (contents : List (List ℕ)) (lumps : List Lump) (n place size : ℕ) (file : Option (List ℕ)) (piece : List ℕ) →
    file ≡ Some (file_bytes contents (lump_at lumps n).file) → place ≡ (lump_at lumps n).place → size ≤ (lump_at lumps n).size → length piece ≡ size →
    IfSome file (λ bytes. IsPieceAt bytes place piece) → piece ≡ take size (lump_bytes contents lumps n)
piece_of_lump contents lumps n place size file piece stands at le all is =
    let piece_is_there : IsPieceAt (file_bytes contents (lump_at lumps n).file) place piece = rw stands at is in
    let fronts_same : take (length piece) (drop place (file_bytes contents (lump_at lumps n).file)) ≡ take size (drop (lump_at lumps n).place (file_bytes contents (lump_at lumps n).file)) = rw (all, at) refl in
    piece_is_there.bytes ∙ (fronts_same ∙ front_of_lump contents lumps n size le)

-- what may be asked for inside a file may be asked for inside a lump
pub front_is_there : {P : Type 0} (contents : List (List ℕ)) (lumps : List Lump) (n place size : ℕ) (file : Option (List ℕ)) →
    file ≡ Some (file_bytes contents (lump_at lumps n).file) → place ≡ (lump_at lumps n).place → size ≤ (lump_at lumps n).size → 0 < size →
    LiesWithin contents (lump_at lumps n) → IfSome file (λ bytes. place + size ≤ length bytes → P) → P
front_is_there {P} contents lumps n place size file stands at le some lies is =
    let asked_inside : place + size ≤ length (file_bytes contents (lump_at lumps n).file) → P = rw stands at is in
    let lump_inside_file : (lump_at lumps n).place + (lump_at lumps n).size ≤ length (file_bytes contents (lump_at lumps n).file) = lies.bytes (omega arith) in
    asked_inside (omega arith)

-- all bytes of a lump
pub all_of_lump : (contents : List (List ℕ)) (lumps : List Lump) (n size : ℕ) → size ≡ (lump_at lumps n).size →
    take size (lump_bytes contents lumps n) ≡ lump_bytes contents lumps n
unfolding lump_bytes
all_of_lump contents lumps n size e = rw e (take_shorter (lump_at lumps n).size (lump_at lumps n).size _ (omega arith))
