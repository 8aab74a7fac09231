-- The lumps of a new file have the bytes that were put.
use Rattle.art_rules.proofs.Common.{[], ap, append_assoc, arith, drop, drop-append_seam, length, length-append, List, refl, slice_index_or, suc, sym, take, take-append_seam, zero, ℕ, ◌++◌, ◌+◌, ◌<◌, ◌∙◌, ◌∷◌, ◌≡◌}
use Rattle.trim_rules.specs.{Rules.bytes_of, Rules.contents, Rules.lump_at, Files.stored_from}
use Rattle.made_rules.specs.Wads as made

-- a lump of a file that begins with `front` and then has the bytes of these lumps
pub stored_bytes : (front behind : List ℕ) (lumps : List made.Lump) (d : made.Lump) (k place : ℕ) → place ≡ length front → k < length lumps
    → bytes_of ((front ++ (contents lumps ++ behind)) ∷ []) (lump_at (stored_from place lumps) k) ≡ (slice_index_or lumps k d).bytes
unfolding contents stored_from
stored_bytes front behind [] d k place is lt = absurd (omega arith)
stored_bytes front behind (lump ∷ rest) d zero place is lt =
    let file = front ++ ((lump.bytes ++ contents rest) ++ behind) in
    ap (λ n. take (length lump.bytes) (drop n file)) is
    ∙ ap (take (length lump.bytes)) (drop-append_seam front ((lump.bytes ++ contents rest) ++ behind) ∙ append_assoc lump.bytes (contents rest) behind)
    ∙ take-append_seam lump.bytes (contents rest ++ behind)
stored_bytes front behind (lump ∷ rest) d (suc k) place is lt =
    let next : place + length lump.bytes ≡ length (front ++ lump.bytes) = rw (length-append, is) refl in
    let bytes_of_rest = stored_bytes (front ++ lump.bytes) behind rest d k (place + length lump.bytes) next (omega arith) in
    ap (λ file. bytes_of (file ∷ []) (lump_at (stored_from (place + length lump.bytes) rest) k))
    (ap (λ xs. front ++ xs) (append_assoc lump.bytes (contents rest) behind) ∙ sym (append_assoc front lump.bytes (contents rest ++ behind)))
    ∙ bytes_of_rest
