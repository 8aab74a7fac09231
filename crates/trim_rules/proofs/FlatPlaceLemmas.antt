-- The numbers of flats in the trimmed file are those of part 1 and that of the sky, and stand for their sources one to
-- one.
use Rattle.art_rules.proofs.Common.{[], AllByRecursion, and_parts, ap, arith, Bool, cases_lt, cond, Decides-eqb, false, get_or, inl, inr, length, List, list_any, None, Ok, ok_or, Option, option_and_then, option_map, or-cases, range_with_len, refl, Some, some-injective, subst, suc, sym, true, zero, ℕ, ◌&&◌, ◌+◌, ◌<◌, ◌==◌, ◌∙◌, ◌∷◌, ◌≡◌, ◌≤◌, ◌⊎◌}
use Rattle.trim_rules.specs.Rules.{Flat, Flats, Lump, SKY_FLAT, Sector, SectorFlat, SectorFlats, Sky, both_flats, each_from, each_or, flat_named, flat_number, flat_of, flats_of, has_name, is_member, is_sky_name, lump_flat, members, sector_flats}
use Rattle.art_rules.proofs.Laws.{and_then-ok, greatest-is}
use Rattle.scene_rules.specs.declared.Flat.TheVariants.{Lump as LumpFlat}
use Rattle.trim_rules.specs.declared.part.TrimPart.{TrimPart}
use Rattle.trim_rules.specs.declared.part.TrimPart.TheVariants.{Mark}
use Rattle.trim_rules.proofs.AnswerLemmas.{ok_of, some_value}
use Rattle.trim_rules.proofs.MemberLemmas.{HasGroup, group-members}
use Rattle.trim_rules.proofs.{MovedFlatLemmas.range-any, NamedLemmas.any_kept}
use Rattle.trim_rules.proofs.OrderLemmas.{AreAscending}
use Rattle.trim_rules.proofs.PlaceLemmas.{part_at, part_source, source_of}

-- the number of a flat of part 1, whose first lump is the mark, or that of the sky
abbrev pub IsFlatPlace : ℕ → ℕ → Type 0
IsFlatPlace count n = (n ≡ SKY_FLAT) ⊎ ((k : ℕ) × (n ≡ suc k) × (k < count))

-- two tests of numbers that mean the same
eq_step : (a b c d : ℕ) (x y : Bool) → (a == b) ≡ x → (c == d) ≡ y → (a ≡ b → c ≡ d) → (c ≡ d → a ≡ b) → x ≡ y
eq_step a b c d true true is js one two = refl
eq_step a b c d true false is js one two = sym ((Decides-eqb c d).1 (one ((Decides-eqb a b).0 is))) ∙ js
eq_step a b c d false true is js one two = sym is ∙ (Decides-eqb a b).1 (two ((Decides-eqb c d).0 js))
eq_step a b c d false false is js one two = refl

-- a place past the end has no source
past_end : (parts : List TrimPart) (k : ℕ) → length parts ≤ k → part_at parts k ≡ Mark []
past_end [] k le = refl
past_end (p ∷ parts) zero le = absurd (omega arith)
past_end (p ∷ parts) (suc k) le = past_end parts k (omega arith)

pub source-past : (parts : List TrimPart) (k : ℕ) → length parts ≤ k → source_of parts k ≡ SKY_FLAT
source-past parts k le = ap part_source (past_end parts k le)

-- One to one, where the sources ascend and are lumps.
module _ (σ : ℕ → ℕ) (flats : List ℕ) (keeps : σ SKY_FLAT ≡ SKY_FLAT) (few : length flats < SKY_FLAT)
    (sources : (k : ℕ) → k < length flats → σ (suc k) ≡ get_or flats k 0)
    (below : (k : ℕ) → k < length flats → get_or flats k 0 < SKY_FLAT) (ascending : AreAscending flats) where
  place_of : (j k : ℕ) → j < length flats → k < length flats → get_or flats j 0 ≡ get_or flats k 0 → j ≡ k
  place_of j k lj lk e = elim (cases_lt j k) [
    | inl lt ↦ let flats_ascend : get_or flats j 0 < get_or flats k 0 = ascending j k lt lk in absurd (omega arith)
    | inr le ↦ elim (cases_lt k j) [
      | inl lt ↦ let flats_ascend : get_or flats k 0 < get_or flats j 0 = ascending k j lt lj in absurd (omega arith)
      | inr ge ↦ omega arith
    ]
  ]

  injective : (a b : ℕ) → IsFlatPlace (length flats) a → IsFlatPlace (length flats) b → σ a ≡ σ b → a ≡ b
  injective a b (inl is) (inl js) e = is ∙ sym js
  injective a b (inl is) (inr (k, js, lt)) e =
      let sky : σ a ≡ SKY_FLAT = ap σ is ∙ keeps in
      let lump : σ b ≡ get_or flats k 0 = ap σ js ∙ sources k lt in
      let below_sky : get_or flats k 0 < SKY_FLAT = below k lt in
      absurd (omega arith)
  injective a b (inr (k, is, lt)) (inl js) e =
      let sky : σ b ≡ SKY_FLAT = ap σ js ∙ keeps in
      let lump : σ a ≡ get_or flats k 0 = ap σ is ∙ sources k lt in
      let below_sky : get_or flats k 0 < SKY_FLAT = below k lt in
      absurd (omega arith)
  injective a b (inr (j, is, lj)) (inr (k, js, lk)) e =
      let places_same : j ≡ k = place_of j k lj lk (sym (sources j lj) ∙ ap σ (sym is) ∙ e ∙ ap σ js ∙ sources k lk) in
      is ∙ ap suc places_same ∙ sym js

  pub one-to-one : (a b : ℕ) → IsFlatPlace (length flats) a → IsFlatPlace (length flats) b → (σ a == σ b) ≡ (a == b)
  one-to-one a b p q = eq_step (σ a) (σ b) a b (σ a == σ b) (a == b) refl refl (injective a b p q) (ap σ)

range_place : (a c n : ℕ) → list_any (λ m. m == n) (range_with_len a c) ≡ true → (k : ℕ) × (n ≡ a + k) × (k < c)
range_place a zero n any = absurd (cc)
range_place a (suc c) n any =
    or-cases (a == n) (list_any (λ m. m == n) (range_with_len (a + 1) c)) ((k : ℕ) × (n ≡ a + k) × (k < suc c))
    (λ is. let number_is_first : a ≡ n = (Decides-eqb a n).0 is in (0, omega arith, omega arith))
    (λ later. let in_rest = range_place (a + 1) c n later in
    let place_is : n ≡ (a + 1) + in_rest.0 = in_rest.1 in let place_inside : in_rest.0 < c = in_rest.2 in (suc in_rest.0, omega arith, omega arith)) any

-- both flats of a sector are such numbers
pub record AreFlatPlaces (count : ℕ) (both : SectorFlats) : Type 0 where
  pub floor : IsFlatPlace count (flat_number both.floor)
  pub ceiling : IsFlatPlace count (flat_number both.ceiling)

module _ (trimmed : List Lump) (count : ℕ) (has : HasGroup Flats trimmed 0 count) where
  member_place : (n : ℕ) → n < length trimmed → is_member Flats trimmed n ≡ true → (k : ℕ) × (n ≡ suc k) × (k < count)
  unfolding members
  member_place n lt is =
      let place_in_range = range_place 1 count n (ap (list_any (λ m. m == n)) (sym (group-members Flats trimmed 0 count has))
      ∙ any_kept (is_member Flats trimmed) n (range_with_len 0 (length trimmed)) is (range-any 0 (length trimmed) n (omega arith) (omega arith))) in
      let is_place : n ≡ 1 + place_in_range.0 = place_in_range.1 in (place_in_range.0, omega arith, place_in_range.2)

  named_step : (name : List ℕ) (f : Flat) (b : Bool) (o : Option ℕ) → flat_of trimmed name ≡ o → cond b (Some Sky) (option_map lump_flat o) ≡ Some f → IsFlatPlace count (flat_number f)
  unfolding flat_number lump_flat
  named_step name f true o is e = inl (ap flat_number (sym (some-injective Sky f e)))
  named_step name f false None is e = absurd (cc)
  named_step name f false (Some n) is e =
      let found_flat = greatest-is (λ number. is_member Flats trimmed number && has_name trimmed name number) (length trimmed) n is in
      let place_in_group = member_place n found_flat.0 (and_parts (is_member Flats trimmed n) (has_name trimmed name n) found_flat.1).0 in
      inr (place_in_group.0, ap flat_number (sym (some-injective (LumpFlat (record { 0 = n })) f e)) ∙ place_in_group.1, place_in_group.2)

  named_place : (name : List ℕ) (f : Flat) → flat_named trimmed name ≡ Some f → IsFlatPlace count (flat_number f)
  unfolding flat_named
  named_place name f e = named_step name f (is_sky_name name) (flat_of trimmed name) refl e

  both_step : (sector : Sector) (both : SectorFlats) (f c : Option Flat) → flat_named trimmed sector.floor_name ≡ f → flat_named trimmed sector.ceiling_name ≡ c
      → option_and_then (λ g. option_map (both_flats g) c) f ≡ Some both → AreFlatPlaces count both
  unfolding both_flats
  both_step sector both None c is js e = absurd (cc)
  both_step sector both (Some f) None is js e = absurd (cc)
  both_step sector both (Some f) (Some c) is js e =
      let flats_are : record { floor = f; ceiling = c } ≡ both = some-injective _ both e in
      subst (AreFlatPlaces count) flats_are (record { floor = named_place sector.floor_name f is; ceiling = named_place sector.ceiling_name c js })

  sector_places : (sector : Sector) (both : SectorFlats) → flats_of trimmed sector ≡ Some both → AreFlatPlaces count both
  unfolding flats_of
  sector_places sector both e = both_step sector both (flat_named trimmed sector.floor_name) (flat_named trimmed sector.ceiling_name) refl refl e

  each_places : (number : ℕ) (sectors : List Sector) (all : List SectorFlats) → each_from (flats_of trimmed) SectorFlat number sectors ≡ Ok all → AllByRecursion (AreFlatPlaces count) all
  unfolding each_from
  each_places number [] all e = subst (AllByRecursion (AreFlatPlaces count)) (ok_of [] all e) tt
  each_places number (sector ∷ sectors) all e =
      let first_flats = and_then-ok (ok_or (flats_of trimmed sector) (SectorFlat number)) _ all e in
      let flats_of_rest = and_then-ok (each_from (flats_of trimmed) SectorFlat (suc number) sectors) _ all first_flats.2 in
      subst (AllByRecursion (AreFlatPlaces count)) (ok_of (first_flats.0 ∷ flats_of_rest.0) all flats_of_rest.2) (
        sector_places sector first_flats.0 (some_value (flats_of trimmed sector) (SectorFlat number) first_flats.0 first_flats.1),
        each_places (suc number) sectors flats_of_rest.0 flats_of_rest.1,
      )

  -- the flats of all sectors
  pub places-flats : (sectors : List Sector) (all : List SectorFlats) → sector_flats trimmed sectors ≡ Ok all → AllByRecursion (AreFlatPlaces count) all
  unfolding sector_flats each_or
  places-flats sectors all e = each_places 0 sectors all e
