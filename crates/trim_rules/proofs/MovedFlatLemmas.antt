-- The flats of the sectors by the trimmed directory are those by the given one under other numbers.
use Rattle.art_rules.proofs.Common.{[], and_parts, ap, arith, Bool, bytes_eq, bytes_eq-Decides, cases_lt, cond, Decides-eqb, false, filter, get_or, inl, inr, length, List, list_any, map, None, Ok, ok_or, Option, option_and_then, option_map, or-cases, or-true_left, or-true_right, range_with_len, refl, Some, some-injective, suc, sym, true, zero, ℕ, ◌&&◌, ◌+◌, ◌<◌, ◌==◌, ◌∙◌, ◌∷◌, ◌≡◌, ◌≤◌}
use Rattle.trim_rules.specs.Rules.{Flat, Flats, Lump, Sector, SectorFlat, SectorFlats, Sky, both_flats, each_from, each_or, flat_named, flat_number, flat_of, flats_of, has_flat, has_name, is_member, is_sky_name, lump_at, lump_flat, sector_flats}
use Rattle.art_rules.proofs.Laws.{and_then-ok, greatest-is}
use Rattle.scene_rules.specs.declared.Flat.TheVariants.{Lump as LumpFlat}
use Rattle.trim_rules.specs.Parts.{flat_lumps}
use Rattle.trim_rules.proofs.AnswerLemmas.{ok_of, some_value}
use Rattle.trim_rules.proofs.{FlatLemmas.HasFlats, FlatLemmas.trimmed_flat, MemberLemmas.is_lump-at}
use Rattle.trim_rules.proofs.NamedLemmas.{any_kept}

-- a flat under other numbers
abbrev pub move_flat : (ℕ → ℕ) → Flat → Flat
move_flat σ Sky = Sky
move_flat σ (LumpFlat lump) = LumpFlat (record { 0 = σ lump.0 })

abbrev pub move_both : (ℕ → ℕ) → SectorFlats → SectorFlats
move_both σ both = record { floor = move_flat σ both.floor; ceiling = move_flat σ both.ceiling }

-- a number has a place in a list
abbrev pub IsListed : List ℕ → ℕ → Type 0
IsListed ns n = (k : ℕ) × (k < length ns) × (get_or ns k 0 ≡ n)

later_place : (m : ℕ) (ns : List ℕ) (n : ℕ) → IsListed ns n → IsListed (m ∷ ns) n
later_place m ns n at = let place_inside : at.0 < length ns = at.1 in (suc at.0, omega arith, at.2)

first_place : (m : ℕ) (ns : List ℕ) (n : ℕ) → m ≡ n → IsListed (m ∷ ns) n
first_place m ns n e = (0, omega arith, e)

place-of : (ns : List ℕ) (n : ℕ) → list_any (λ m. m == n) ns ≡ true → IsListed ns n
place-of [] n any = absurd (cc)
place-of (m ∷ ns) n any =
    or-cases (m == n) (list_any (λ k. k == n) ns) (IsListed (m ∷ ns) n) (λ e. first_place m ns n ((Decides-eqb m n).0 e)) (λ more. later_place m ns n (place-of ns n more)) any

pub range-any : (a c n : ℕ) → a ≤ n → n < a + c → list_any (λ m. m == n) (range_with_len a c) ≡ true
range-any a zero n le lt = absurd (omega arith)
range-any a (suc c) n le lt = elim (cases_lt a n) [
  | inl below ↦ or-true_right (a == n) _ (range-any (a + 1) c n (omega arith) (omega arith))
  | inr same ↦ let is_here : a ≡ n = omega arith in or-true_left (a == n) _ ((Decides-eqb a n).1 is_here)
]

-- a lump that a sector has is one of the flats
pub flat-listed : (lumps : List Lump) (flats : List SectorFlats) (n : ℕ) → n < length lumps → list_any (has_flat n) flats ≡ true → IsListed (flat_lumps lumps flats) n
unfolding flat_lumps
flat-listed lumps flats n lt any =
    place-of (filter (λ k. list_any (has_flat k) flats) (range_with_len 0 (length lumps))) n
    (any_kept (λ k. list_any (has_flat k) flats) n (range_with_len 0 (length lumps)) any (range-any 0 (length lumps) n (omega arith) (omega arith)))

each-made : (lumps : List Lump) (number : ℕ) (sector : Sector) (sectors : List Sector) (both : SectorFlats) (more : List SectorFlats)
    → flats_of lumps sector ≡ Some both → each_from (flats_of lumps) SectorFlat (suc number) sectors ≡ Ok more → each_from (flats_of lumps) SectorFlat number (sector ∷ sectors) ≡ Ok (both ∷ more)
unfolding each_from
each-made lumps number sector sectors both more one rest = rw (one, rest) refl

module _ (trimmed lumps : List Lump) (σ : ℕ → ℕ) (flats : List ℕ) (has : HasFlats trimmed lumps flats)
    (sources : (k : ℕ) → k < length flats → σ (suc k) ≡ get_or flats k 0) where
  -- a flat that is found by a name
  found : (name : List ℕ) (n : ℕ) → flat_of lumps name ≡ Some n → (k : ℕ) → k < length flats → get_or flats k 0 ≡ n → flat_of trimmed name ≡ Some (suc k)
  found name n e k lt same =
      let last_flat = greatest-is (λ number. is_member Flats lumps number && has_name lumps name number) (length lumps) n e in
      let name_is : (lump_at lumps n).name ≡ name = (bytes_eq-Decides (lump_at lumps n).name name).0
      (sym (is_lump-at (λ lump. bytes_eq lump.name name) lumps n last_flat.0) ∙ (and_parts (is_member Flats lumps n) (has_name lumps name n) last_flat.1).1) in
      ap (flat_of trimmed) (sym name_is ∙ ap (λ m. (lump_at lumps m).name) (sym same)) ∙ trimmed_flat trimmed lumps flats has k lt

  named_step : (name : List ℕ) (f : Flat) (b : Bool) (o : Option ℕ) → is_sky_name name ≡ b → flat_of lumps name ≡ o
      → cond b (Some Sky) (option_map lump_flat o) ≡ Some f → ((n : ℕ) → n < length lumps → flat_number f ≡ n → IsListed flats n)
      → (g : Flat) × (cond b (Some Sky) (option_map lump_flat (flat_of trimmed name)) ≡ Some g) × (move_flat σ g ≡ f)
  unfolding lump_flat flat_number
  named_step name f true o sky is e listed = (Sky, refl, some-injective Sky f e)
  named_step name f false None sky is e listed = absurd (cc)
  named_step name f false (Some n) sky is e listed =
      let flat_is_lump : LumpFlat (record { 0 = n }) ≡ f = some-injective (LumpFlat (record { 0 = n })) f e in
      let inside = (greatest-is (λ number. is_member Flats lumps number && has_name lumps name number) (length lumps) n is).0 in
      let place_listed = listed n inside (ap flat_number (sym flat_is_lump)) in (
        LumpFlat (record { 0 = suc place_listed.0 }),
        ap (option_map lump_flat) (found name n is place_listed.0 place_listed.1 place_listed.2),
        ap (λ m. LumpFlat (record { 0 = m })) (sources place_listed.0 place_listed.1 ∙ place_listed.2) ∙ flat_is_lump,
      )

  flat-moved : (name : List ℕ) (f : Flat) → flat_named lumps name ≡ Some f → ((n : ℕ) → n < length lumps → flat_number f ≡ n → IsListed flats n)
      → (g : Flat) × (flat_named trimmed name ≡ Some g) × (move_flat σ g ≡ f)
  unfolding flat_named
  flat-moved name f e listed = named_step name f (is_sky_name name) (flat_of lumps name) refl refl e listed

  both_step : (sector : Sector) (both : SectorFlats) (f c : Option Flat) → flat_named lumps sector.floor_name ≡ f → flat_named lumps sector.ceiling_name ≡ c
      → option_and_then (λ g. option_map (both_flats g) c) f ≡ Some both → ((n : ℕ) → n < length lumps → has_flat n both ≡ true → IsListed flats n)
      → (moved : SectorFlats) × (option_and_then (λ g. option_map (both_flats g) (flat_named trimmed sector.ceiling_name)) (flat_named trimmed sector.floor_name) ≡ Some moved) × (move_both σ moved ≡ both)
  unfolding both_flats has_flat
  both_step sector both None c is js e listed = absurd (cc)
  both_step sector both (Some f) None is js e listed = absurd (cc)
  both_step sector both (Some f) (Some c) is js e listed =
      let flats_are : record { floor = f; ceiling = c } ≡ both = some-injective _ both e in
      let floor = flat-moved sector.floor_name f is (λ n lt number. listed n lt
      (or-true_left (flat_number both.floor == n) _ ((Decides-eqb (flat_number both.floor) n).1 (ap (λ (b : SectorFlats). flat_number b.floor) (sym flats_are) ∙ number)))) in
      let ceiling = flat-moved sector.ceiling_name c js (λ n lt number. listed n lt
      (or-true_right (flat_number both.floor == n) _ ((Decides-eqb (flat_number both.ceiling) n).1 (ap (λ (b : SectorFlats). flat_number b.ceiling) (sym flats_are) ∙ number)))) in (
        record { floor = floor.0; ceiling = ceiling.0 },
        rw (floor.1, ceiling.1) refl,
        ap (λ (g : Flat). record { floor = g; ceiling = move_flat σ ceiling.0 }) floor.2 ∙ ap (λ (g : Flat). record { floor = f; ceiling = g }) ceiling.2 ∙ flats_are,
      )

  sector-moved : (sector : Sector) (both : SectorFlats) → flats_of lumps sector ≡ Some both → ((n : ℕ) → n < length lumps → has_flat n both ≡ true → IsListed flats n)
      → (moved : SectorFlats) × (flats_of trimmed sector ≡ Some moved) × (move_both σ moved ≡ both)
  unfolding flats_of
  sector-moved sector both e listed = both_step sector both (flat_named lumps sector.floor_name) (flat_named lumps sector.ceiling_name) refl refl e listed

  each-moved : (number : ℕ) (sectors : List Sector) (all : List SectorFlats) → each_from (flats_of lumps) SectorFlat number sectors ≡ Ok all
      → ((n : ℕ) → n < length lumps → list_any (has_flat n) all ≡ true → IsListed flats n)
      → (moved : List SectorFlats) × (each_from (flats_of trimmed) SectorFlat number sectors ≡ Ok moved) × (map (move_both σ) moved ≡ all)
  unfolding each_from
  each-moved number [] all e listed = let list_is : [] ≡ all = cc in ([], refl, list_is)
  each-moved number (sector ∷ sectors) all e listed =
      let first_flats = and_then-ok (ok_or (flats_of lumps sector) (SectorFlat number)) _ all e in
      let flats_of_rest = and_then-ok (each_from (flats_of lumps) SectorFlat (suc number) sectors) _ all first_flats.2 in
      let list_is : first_flats.0 ∷ flats_of_rest.0 ≡ all = ok_of (first_flats.0 ∷ flats_of_rest.0) all flats_of_rest.2 in
      let moved_flats = sector-moved sector first_flats.0 (some_value (flats_of lumps sector) (SectorFlat number) first_flats.0 first_flats.1)
      (λ n lt is. listed n lt (ap (list_any (has_flat n)) (sym list_is) ∙ or-true_left (has_flat n first_flats.0) _ is)) in
      let rest_moved = each-moved (suc number) sectors flats_of_rest.0 flats_of_rest.1 (λ n lt any. listed n lt (ap (list_any (has_flat n)) (sym list_is) ∙ or-true_right (has_flat n first_flats.0) _ any)) in
      (moved_flats.0 ∷ rest_moved.0, each-made trimmed number sector sectors moved_flats.0 rest_moved.0 moved_flats.1 rest_moved.1, ap (λ (b : SectorFlats). b ∷ map (move_both σ) rest_moved.0) moved_flats.2 ∙ ap (λ bs. first_flats.0 ∷ bs) rest_moved.2 ∙ list_is)

-- The flats of an accepted level's sectors, by a directory that has its flats.
pub sectors-moved : (trimmed lumps : List Lump) (σ : ℕ → ℕ) (sectors : List Sector) (all : List SectorFlats) → HasFlats trimmed lumps (flat_lumps lumps all)
    → ((k : ℕ) → k < length (flat_lumps lumps all) → σ (suc k) ≡ get_or (flat_lumps lumps all) k 0) → sector_flats lumps sectors ≡ Ok all
    → (moved : List SectorFlats) × (sector_flats trimmed sectors ≡ Ok moved) × (map (move_both σ) moved ≡ all)
unfolding sector_flats each_or
sectors-moved trimmed lumps σ sectors all has sources e =
    each-moved trimmed lumps σ (flat_lumps lumps all) has sources 0 sectors all e (λ n lt any. flat-listed lumps all n lt any)
