-- Laws of lumps that stand one after the other.
use Rattle.word_rules.proofs.Common.{[], add-zero, ap, append_assoc, arith, common_steps, flat_map-append, length, List, refl, sym, ℕ, ◌*◌, ◌++◌, ◌+◌, ◌∙◌, ◌∷◌, ◌≡◌}
use Rattle.word_rules.specs.Listed.{listed}
use Rattle.word_rules.proofs.ListedLemmas.{listed-zero, listed-more}
use Rattle.made_rules.specs.{declared.map.TheConstants.CELLS_PER_NUMBER, Bytes.word_bytes}
use Rattle.made_rules.specs.Wads.{Lump, lump_of, contents, entries, WadParts, parts_of, no_lumps, with_lumps, table_lumps, patch_lumps, flat_lumps, sprite_lumps, thing_lumps, wall_lumps, tree_lumps, art_lumps, level_lumps, made_lumps, file_of, wad_file, made_wad}
use Rattle.made_rules.specs.declared.wad.TheConstants.{HEAD_SIZE, LUMPS}

pub contents-append : (xs ys : List Lump) → contents (xs ++ ys) ≡ contents xs ++ contents ys
unfolding contents
contents-append xs ys = flat_map-append (λ lump. lump.bytes) xs ys

pub entries-append : (place : ℕ) (xs ys : List Lump) → entries place (xs ++ ys) ≡ entries place xs ++ entries (place + length (contents xs)) ys
unfolding entries contents
entries-append place [] ys = rw add-zero refl
entries-append place (x ∷ xs) ys =
    let rest_entries = entries-append (place + length x.bytes) xs ys in
    let place_behind_all : place + length x.bytes + length (contents xs) ≡ place + length (x.bytes ++ contents xs) = grind (arith, common_steps) in
    rw (rest_entries, place_behind_all) (simp append_assoc)

same_parts : (lumps lumps' directory directory' : List ℕ) → lumps ≡ lumps' → directory ≡ directory' → parts_of lumps directory ≡ parts_of lumps' directory'
same_parts lumps lumps' directory directory' e f = cc

-- lumps put behind the lumps that are there, and then more of them
pub with_lumps-append : (wad : WadParts) (xs ys : List Lump) → with_lumps (with_lumps wad xs) ys ≡ with_lumps wad (xs ++ ys)
unfolding with_lumps
with_lumps-append wad xs ys =
    let start = HEAD_SIZE + length wad.lumps in
    let content : wad.lumps ++ contents xs ++ contents ys ≡ wad.lumps ++ contents (xs ++ ys) = grind (arith, common_steps, contents-append xs ys) in
    let end_is_same : HEAD_SIZE + length (wad.lumps ++ contents xs) ≡ start + length (contents xs) = grind (arith, common_steps) in
    let directory : wad.directory ++ entries start xs ++ entries (HEAD_SIZE + length (wad.lumps ++ contents xs)) ys ≡ wad.directory ++ entries start (xs ++ ys)
    = rw (end_is_same, entries-append start xs ys) (append_assoc wad.directory (entries start xs) (entries (start + length (contents xs)) ys)) in
    same_parts _ _ _ _ content directory

-- one lump more
pub with_lumps-one :
    (lumps directory name bytes : List ℕ)
    → parts_of (lumps ++ bytes) (((directory ++ word_bytes (HEAD_SIZE + length lumps)) ++ word_bytes (length bytes)) ++ name)
    ≡ with_lumps (parts_of lumps directory) (lump_of name bytes ∷ [])
unfolding with_lumps contents entries
with_lumps-one lumps directory name bytes =
    same_parts _ _ _ _ (grind (arith, common_steps)) (grind (arith, common_steps))

made_lumps-count : (side : ℕ) → length (made_lumps side) ≡ LUMPS
unfolding made_lumps table_lumps patch_lumps flat_lumps sprite_lumps thing_lumps wall_lumps tree_lumps listed
made_lumps-count side = refl

file_of-lumps : (lumps : List Lump) → file_of (length lumps) (with_lumps no_lumps lumps) ≡ wad_file lumps
unfolding wad_file with_lumps
file_of-lumps lumps = refl

-- no lump put
pub with_lumps-none : (wad : WadParts) → wad ≡ with_lumps wad []
unfolding with_lumps contents entries
with_lumps-none wad = same_parts _ _ _ _ (grind (arith, common_steps)) (grind (arith, common_steps))

-- lumps by number, one more
pub with_lumps-listed_none : (wad : WadParts) (f : ℕ → Lump) → wad ≡ with_lumps wad (listed f 0)
with_lumps-listed_none wad f = with_lumps-none wad ∙ ap (with_lumps wad) (listed-zero f)

pub with_lumps-listed : (wad : WadParts) (f : ℕ → Lump) (n : ℕ) → with_lumps (with_lumps wad (listed f n)) (f n ∷ []) ≡ with_lumps wad (listed f (n + 1))
with_lumps-listed wad f n = with_lumps-append wad (listed f n) (f n ∷ []) ∙ ap (with_lumps wad) (sym (listed-more f n))

-- the file of all lumps
pub made_wad-parts :
    (n side : ℕ) → side ≡ CELLS_PER_NUMBER * n → file_of LUMPS (with_lumps (with_lumps no_lumps art_lumps) (level_lumps side)) ≡ made_wad n
unfolding made_wad made_lumps
made_wad-parts n side e =
    ap (file_of LUMPS) (with_lumps-append no_lumps art_lumps (level_lumps side))
    ∙ ap (λ (count : ℕ). file_of count (with_lumps no_lumps (made_lumps side))) (sym (made_lumps-count side))
    ∙ file_of-lumps (made_lumps side)
    ∙ ap (λ (s : ℕ). wad_file (made_lumps s)) e

-- for `grind`: lumps that are put one after the other
pub ruleset lump_steps = (with_lumps-append, with_lumps-one)

-- for `grind`: lumps by number
pub ruleset listed_lumps = (with_lumps-listed_none, with_lumps-listed)

-- for `grind`: the whole file
pub ruleset wad_steps = (made_wad-parts)
