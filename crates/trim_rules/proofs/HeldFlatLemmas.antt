-- The flats of the trimmed file are those of the level's sectors: each by its name, ascending.
use Rattle.art_rules.proofs.Common.{[], AllByRecursion, and_parts, ap, append_assoc, arith, Bool, bytes_eq, bytes_eq-Decides, cond, Decides-eqb, Err, false, get_or, length, length-map, List, list_any, map, None, Ok, ok_or, Option, option_and_then, option_map, or-cases, range_with_len, refl, Result, Some, some-injective, subst, suc, sym, true, ℕ, ◌&&◌, ◌<◌, ◌==◌, ◌∙◌, ◌∷◌, ◌≡◌, ◌≤◌}
use Rattle.trim_rules.specs.Rules.{F_END, Flat, Flats, HEAD_SIZE, Lump, SKY_FLAT, SceneArt, SceneRefusal, Sector, SectorFlat, SectorFlats, Sky, and_then, both_flats, each_from, each_or, flat_named, flat_number, flat_of, flats_of, has_flat, has_name, is_member, is_sky_name, lump_at, lump_flat, sector_flats}
use Rattle.art_rules.proofs.Laws.{greatest-is}
use Rattle.scene_rules.specs.declared.Flat.TheVariants.{Lump as LumpFlat}
use Rattle.trim_rules.specs.declared.part.TrimPart.TheVariants.{Mark}
use Rattle.trim_rules.specs.Parts.{copy_part, flat_lumps, group_parts, part_name, trim_parts}
use Rattle.trim_rules.specs.Files.{part_lump, stored_lumps, trimmed_lumps}
use Rattle.trim_rules.proofs.{AnswerLemmas.ok_of, FlatLemmas.HasFlats}
use Rattle.trim_rules.proofs.MemberLemmas.{HasGroup, is_lump-at}
use Rattle.trim_rules.proofs.TrimmedLemmas.{IsUnmarked, trimmed-flats}
use Rattle.trim_rules.proofs.PlaceLemmas.{part_at, part_at-copied, stored-name}
use Rattle.trim_rules.proofs.OrderLemmas.{AreAscending, all-at, kept-ascending, kept-passing}
use Rattle.trim_rules.proofs.ThereLemmas.{flats-there}

-- a flat that its own name finds
abbrev pub IsOwnFlat : List Lump → ℕ → Type 0
IsOwnFlat lumps n = flat_of lumps (lump_at lumps n).name ≡ Some n

flat_of-own : (lumps : List Lump) (name : List ℕ) (n : ℕ) → flat_of lumps name ≡ Some n → IsOwnFlat lumps n
flat_of-own lumps name n e =
    let found_flat = greatest-is (λ number. is_member Flats lumps number && has_name lumps name number) (length lumps) n e in
    let flat_has_name : has_name lumps name n ≡ true = (and_parts (is_member Flats lumps n) (has_name lumps name n) found_flat.1).1 in
    let name_is : (lump_at lumps n).name ≡ name = (bytes_eq-Decides (lump_at lumps n).name name).0 (sym (is_lump-at (λ lump. bytes_eq lump.name name) lumps n found_flat.0) ∙ flat_has_name) in
    ap (flat_of lumps) name_is ∙ e

named_step : (f : Flat) (n : ℕ) (b : Bool) (o : Option ℕ) → n < SKY_FLAT → cond b (Some Sky) (option_map lump_flat o) ≡ Some f → flat_number f ≡ n → o ≡ Some n
unfolding lump_flat flat_number
named_step f n true o lt e is =
    let flat_is_sky : Sky ≡ f = cc in let number_is_sky : SKY_FLAT ≡ n = ap flat_number flat_is_sky ∙ is in absurd (omega arith)
named_step f n false None lt e is = absurd (cc)
named_step f n false (Some m) lt e is =
    let flat_is_lump : LumpFlat (record { 0 = m }) ≡ f = cc in let numbers_same : m ≡ n = ap flat_number flat_is_lump ∙ is in ap Some numbers_same

named_own : (lumps : List Lump) (name : List ℕ) (f : Flat) (n : ℕ) → n < SKY_FLAT → flat_named lumps name ≡ Some f → flat_number f ≡ n → IsOwnFlat lumps n
unfolding flat_named
named_own lumps name f n lt e is = flat_of-own lumps name n (named_step f n (is_sky_name name) (flat_of lumps name) lt e is)

-- the flats of a sector are found by their own names, if they are lumps
abbrev AreOwn : List Lump → SectorFlats → Type 0
AreOwn lumps both = (n : ℕ) → n < SKY_FLAT → has_flat n both ≡ true → IsOwnFlat lumps n

both_step : (lumps : List Lump) (floor ceiling : List ℕ) (f c : Option Flat) (both : SectorFlats) → flat_named lumps floor ≡ f → flat_named lumps ceiling ≡ c
    → option_and_then (λ g. option_map (both_flats g) c) f ≡ Some both → AreOwn lumps both
unfolding both_flats has_flat
both_step lumps floor ceiling None c both is js e = absurd (cc)
both_step lumps floor ceiling (Some f) None both is js e = absurd (cc)
both_step lumps floor ceiling (Some f) (Some c) both is js e = λ n lt any.
    let flats_are : record { floor = f; ceiling = c } ≡ both = some-injective _ both e in
    or-cases (flat_number both.floor == n) (flat_number both.ceiling == n) (IsOwnFlat lumps n)
    (λ t. named_own lumps floor f n lt is (ap (λ (b : SectorFlats). flat_number b.floor) flats_are ∙ (Decides-eqb (flat_number both.floor) n).0 t))
    (λ t. named_own lumps ceiling c n lt js (ap (λ (b : SectorFlats). flat_number b.ceiling) flats_are ∙ (Decides-eqb (flat_number both.ceiling) n).0 t)) any

sector_own : (lumps : List Lump) (sector : Sector) (both : SectorFlats) → flats_of lumps sector ≡ Some both → AreOwn lumps both
unfolding flats_of
sector_own lumps sector both e = both_step lumps sector.floor_name sector.ceiling_name (flat_named lumps sector.floor_name) (flat_named lumps sector.ceiling_name) both refl refl e

each_step : (lumps : List Lump) (number : ℕ) (o : Option SectorFlats) (r : Result (List SectorFlats) SceneRefusal) (flats : List SectorFlats)
    → ((both : SectorFlats) → o ≡ Some both → AreOwn lumps both)
    → ((more : List SectorFlats) → r ≡ Ok more → AllByRecursion (AreOwn lumps) more)
    → and_then (ok_or o (SectorFlat number)) (λ y. and_then r (λ ys. Ok (y ∷ ys))) ≡ Ok flats → AllByRecursion (AreOwn lumps) flats
each_step lumps number None r flats one more e = absurd (cc)
each_step lumps number (Some both) (Err refusal) flats one more e = absurd (cc)
each_step lumps number (Some both) (Ok ys) flats one more e = subst (AllByRecursion (AreOwn lumps)) (ok_of (both ∷ ys) flats e) (one both refl, more ys refl)

each_own : (lumps : List Lump) (number : ℕ) (sectors : List Sector) (flats : List SectorFlats) → each_from (flats_of lumps) SectorFlat number sectors ≡ Ok flats → AllByRecursion (AreOwn lumps) flats
unfolding each_from
each_own lumps number [] flats e = subst (AllByRecursion (AreOwn lumps)) (ok_of [] flats e) tt
each_own lumps number (sector ∷ sectors) flats e =
    each_step lumps number (flats_of lumps sector) (each_from (flats_of lumps) SectorFlat (suc number) sectors) flats
    (λ both is. sector_own lumps sector both is) (λ more is. each_own lumps (suc number) sectors more is) e

among : (lumps : List Lump) (n : ℕ) (flats : List SectorFlats) → n < SKY_FLAT → AllByRecursion (AreOwn lumps) flats → list_any (has_flat n) flats ≡ true → IsOwnFlat lumps n
among lumps n [] lt all any = absurd (cc)
among lumps n (both ∷ flats) lt all any =
    or-cases (has_flat n both) (list_any (has_flat n) flats) (IsOwnFlat lumps n) (λ is. all.0 n lt is) (λ later. among lumps n flats lt all.1 later) any

-- a lump that is a flat of an accepted level's sectors is found by its own name
pub sector-own : (lumps : List Lump) (sectors : List Sector) (flats : List SectorFlats) (n : ℕ) → sector_flats lumps sectors ≡ Ok flats
    → n < SKY_FLAT → list_any (has_flat n) flats ≡ true → IsOwnFlat lumps n
unfolding sector_flats each_or
sector-own lumps sectors flats n e lt any = among lumps n flats lt (each_own lumps 0 sectors flats e) any

-- the flats that are listed
kept_own : (lumps : List Lump) (sectors : List Sector) (flats : List SectorFlats) → length lumps ≤ SKY_FLAT → sector_flats lumps sectors ≡ Ok flats
    → (k : ℕ) → k < length (flat_lumps lumps flats) → get_or (flat_lumps lumps flats) k 0 < length lumps → IsOwnFlat lumps (get_or (flat_lumps lumps flats) k 0)
unfolding flat_lumps
kept_own lumps sectors flats few e k lt inside =
    sector-own lumps sectors flats (get_or (flat_lumps lumps flats) k 0) e (omega arith)
    (all-at (λ n. list_any (has_flat n) flats ≡ true) (flat_lumps lumps flats) k 0 (kept-passing (λ n. list_any (has_flat n) flats) (range_with_len 0 (length lumps))) lt)

kept_ascending : (lumps : List Lump) (flats : List SectorFlats) → AreAscending (flat_lumps lumps flats)
unfolding flat_lumps
kept_ascending lumps flats = kept-ascending (λ n. list_any (has_flat n) flats) 0 (length lumps)

pub flat_part : (lumps : List Lump) (art : SceneArt) (name : List ℕ) (k : ℕ) → k < length (flat_lumps lumps art.flats)
    → part_at (trim_parts lumps art name) (suc k) ≡ copy_part (get_or (flat_lumps lumps art.flats) k 0)
unfolding trim_parts group_parts
flat_part lumps art name k lt =
    ap (λ parts. part_at parts k) (append_assoc (map copy_part (flat_lumps lumps art.flats)) (Mark F_END ∷ []) _)
    ∙ part_at-copied (flat_lumps lumps art.flats) _ k lt

flat_name : (bytes : ℕ → List ℕ) (lumps : List Lump) (art : SceneArt) (name : List ℕ) (k : ℕ) → k < length (flat_lumps lumps art.flats)
    → (lump_at (trimmed_lumps bytes lumps (trim_parts lumps art name)) (suc k)).name ≡ (lump_at lumps (get_or (flat_lumps lumps art.flats) k 0)).name
unfolding trimmed_lumps stored_lumps part_name
flat_name bytes lumps art name k lt =
    stored-name bytes lumps HEAD_SIZE (trim_parts lumps art name) (suc k) ∙ ap (part_name lumps) (flat_part lumps art name k lt)

-- The trimmed file holds the flats of the level, where no part has the name of a mark.
pub flats-held : (bytes : ℕ → List ℕ) (lumps : List Lump) (art : SceneArt) (name : List ℕ) (sectors : List Sector)
    → length lumps ≤ SKY_FLAT → sector_flats lumps sectors ≡ Ok art.flats
    → AllByRecursion (IsUnmarked lumps) (trim_parts lumps art name)
    → HasFlats (trimmed_lumps bytes lumps (trim_parts lumps art name)) lumps (flat_lumps lumps art.flats)
flats-held bytes lumps art name sectors few e unmarked =
    let flats = flat_lumps lumps art.flats in
    let count : length (map (part_lump bytes lumps) (map copy_part flats)) ≡ length flats =
    length-map (map copy_part flats) (part_lump bytes lumps) ∙ length-map flats copy_part in
    record {
      group = subst (HasGroup Flats (trimmed_lumps bytes lumps (trim_parts lumps art name)) 0) count (trimmed-flats bytes lumps art name unmarked);
      names = λ k lt. flat_name bytes lumps art name k lt;
      last = λ k lt. kept_own lumps sectors art.flats few e k lt (all-at (λ n. n < length lumps) flats k 0 (flats-there lumps art) lt);
      ascending = kept_ascending lumps art.flats;
    }
