-- Laws of a directory.
use Rattle.word_rules.proofs.Common.{All, ap, arith, Bool, cond, Decides, Decides-ltb, fails_before_first, false, length, List, ltb-false, nat_lt, None, Ok, Option, option_map, position_or_len, refl, Some, true, ℕ, ◌<◌, ◌≡◌, ◌≤◌}
use Rattle.word_rules.proofs.ListedLemmas.{length-listed, get_or-listed}
use Rattle.lump_rules.specs.declared.wad.DirRefusal.{DirRefusal}
use Rattle.lump_rules.specs.{declared.wad.DirRefusal.TheVariants.Entry, declared.wad.Lump.Lump}
use Rattle.lump_rules.specs.Wads.{lump_in, lumps_in, entry_at, entry_count, entries_in, header, file_lumps, passes_end, entry_refusal, unless_refused}

-- there was no refusal, and the value is this
pub unless_refused_ok : {A : Type 0} (refusal : Option DirRefusal) (value found : A) → unless_refused refusal value ≡ Ok found → (refusal ≡ None) × (value ≡ found)
unless_refused_ok None value found e = (refl, cc)
unless_refused_ok (Some reason) value found e = absurd (cc)

-- there are as many lumps as entries
pub lumps_in-length : (file count : ℕ) (entries : List ℕ) → length (lumps_in file count entries) ≡ count
unfolding lumps_in
lumps_in-length file count entries = length-listed (λ (index : ℕ). lump_in file (entry_at entries index)) count

-- there are as many lumps as the header counts
pub file_lumps-length : (file : ℕ) (bytes : List ℕ) → length (file_lumps file bytes) ≡ entry_count (header bytes)
unfolding file_lumps
file_lumps-length file bytes = lumps_in-length file (entry_count (header bytes)) (entries_in (header bytes) bytes)

-- the lumps of a file are its own
pub lumps_in-file : (file count : ℕ) (entries : List ℕ) → All (λ (lump : Lump). lump.file ≡ file) (lumps_in file count entries)
unfolding lumps_in
lumps_in-file file count entries k d lt =
    let inside : k < count = omega (arith, lumps_in-length file count entries) in
    ap (λ (lump : Lump). lump.file) (get_or-listed (λ (index : ℕ). lump_in file (entry_at entries index)) count k d inside)

unpassed : (file n : ℕ) (b : Bool) → option_map (λ index. Entry file index) (cond b (Some n) None) ≡ None → b ≡ false
unpassed file n true e = absurd (cc)
unpassed file n false e = refl

-- where no entry is refused, no lump passes the end
pub entry_refusal_none : (file size : ℕ) (lumps : List Lump) → entry_refusal file size lumps ≡ None → All (λ lump. passes_end size lump ≡ false) lumps
unfolding entry_refusal
entry_refusal_none file size lumps e k d lt =
    let first_passing : ℕ = position_or_len (passes_end size) lumps in
    let no_lump_passes : nat_lt first_passing (length lumps) ≡ false = unpassed file first_passing (nat_lt first_passing (length lumps)) e in
    let decides : Decides (nat_lt first_passing (length lumps)) (first_passing < length lumps) = Decides-ltb first_passing (length lumps) in
    let none_passes_within : length lumps ≤ first_passing = omega (arith, no_lump_passes, ltb-false) in
    fails_before_first (passes_end size) lumps k d (omega arith)
