-- The first palette, as it is read.
use Rattle.art_rules.proofs.Common.{All-get_or, ap, append-nil, arith, length, length-take, List, min, take, take_all, ℕ, ◌++◌, ◌-◌, ◌<◌, ◌∙◌, ◌≡◌, ◌≤◌}
use lib.ListN.{replicate}
use Rattle.art_rules.specs.Words.{AllWithin, filled, LiesWithin, Lump, lump_at, lump_bytes, no_lump}
use Rattle.art_rules.proofs.Laws.{lump_bytes-length}

-- where a list has the first so many, filling up adds nothing to them
pub filled_first : (n count held left : ℕ) (bytes part filled : List ℕ) → count ≡ min n (length bytes) → part ≡ take count bytes → held ≡ length (take count bytes) → left ≡ n - held → filled ≡ take n part ++ replicate left 0 → n ≤ length bytes → filled ≡ take n bytes
filled_first n count held left bytes part filled counted is holds rest fills long =
    let count_is : count ≡ n = omega (arith, counted, long) in
    let part_is : part ≡ take n bytes = is ∙ ap (λ k. take k bytes) count_is in
    let length_is : length (take n bytes) ≡ n = length-take n bytes ∙ omega (arith, long) in
    let no_rest : left ≡ 0 = omega (arith, rest, holds, ap (λ k. length (take k bytes)) count_is, length_is) in
    fills ∙ ap (λ k. take n part ++ replicate k 0) no_rest ∙ append-nil (take n part) ∙ take_all n part (omega (arith, ap length part_is, length_is)) ∙ part_is

-- a live lump that is long enough by the directory has the first so many bytes, where contents are held
pub live_long : (contents : List (List ℕ)) (lumps : List Lump) (number n : ℕ) (bytes : List ℕ) → number < length lumps → AllWithin contents lumps → bytes ≡ lump_bytes contents lumps number → n ≤ (lump_at lumps number).size → n ≤ length bytes
live_long contents lumps number n bytes there within is long =
    let bytes_length = ap length is ∙ lump_bytes-length contents lumps number (All-get_or (LiesWithin contents) lumps number no_lump there within) in
    omega (arith, bytes_length, long)
