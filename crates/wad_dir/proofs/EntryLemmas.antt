-- The lumps of a file's entries as they are read.
use Rattle.word_rules.proofs.Common.{[], All, All-append, All-nil, ap, arith, drop, get_or, List, subst, suc, sym, take, zero, ℕ, ◌*◌, ◌++◌, ◌+◌, ◌<◌, ◌∙◌, ◌∷◌, ◌≡◌}
use Rattle.word_rules.proofs.ListedLemmas.{listed-zero, listed-more}
use Rattle.wad_dir.specs.Rules.{ENTRY_SIZE, Lump, entry_at, lump_in, lumps_in}

-- one entry more
pub more_lumps : (file i m : ℕ) (entries : List ℕ) (old new : List Lump) (lump : Lump) → new ≡ old ++ lump ∷ [] →
    lump ≡ lump_in file (take m (drop (ENTRY_SIZE * i) entries)) → m ≡ ENTRY_SIZE → old ≡ lumps_in file i entries → new ≡ lumps_in file (i + 1) entries
unfolding lumps_in
more_lumps file i m entries old new lump pushed is whole so_far =
    rw (pushed, so_far, is, whole) (sym (listed-more (λ (index : ℕ). lump_in file (entry_at entries index)) i))

one_lump : (P : Lump → Type 0) (lump : Lump) → P lump → All P (lump ∷ [])
one_lump P lump h zero d lt = h
one_lump P lump h (suc k) d lt = absurd (omega arith)

-- the lumps so far have a property, and so does one more
pub all_more : (P : Lump → Type 0) (old new : List Lump) (lump : Lump) → new ≡ old ++ lump ∷ [] → P lump → All P old → All P new
all_more P old new lump pushed is all = subst (All P) (sym pushed) (All-append P old (lump ∷ []) all (one_lump P lump is))

-- no entry was read
pub no_lumps : (file : ℕ) (entries : List ℕ) (lumps : List Lump) → lumps ≡ [] → lumps ≡ lumps_in file 0 entries
unfolding lumps_in
no_lumps file entries lumps e = e ∙ listed-zero (λ (index : ℕ). lump_in file (entry_at entries index))

pub all_none : (P : Lump → Type 0) (lumps : List Lump) → lumps ≡ [] → All P lumps
all_none P lumps e = subst (All P) (sym e) (All-nil P)

-- the lumps of one file after those of others
pub all_joined : (number n : ℕ) (old found new : List Lump) → new ≡ old ++ found → number < n →
    All (λ (lump : Lump). lump.file < n) old → All (λ (lump : Lump). lump.file ≡ number) found → All (λ (lump : Lump). lump.file < n) new
all_joined number n old found new e lt before all =
    let OwnedBelow : Lump → Type 0 = λ lump. lump.file < n in
    subst (All OwnedBelow) (sym e) (All-append OwnedBelow old found before (λ k d h. let file_is : (get_or found k d).file ≡ number = all k d h in omega arith))

-- the lumps that were given are those that were found
pub grown_by : (old given found new : List Lump) → new ≡ old ++ given → given ≡ found → new ≡ old ++ found
grown_by old given found new grown is = grown ∙ ap (λ v. old ++ v) is
