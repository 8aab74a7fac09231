-- Laws of the lists of things by sector.
use Rattle.art_rules.proofs.Common.{[], All, ap, arith, Bool, cases_eq, cases_lt, cond, drop, drop_more, eq-eqb, false, filter, get_or, get_or-replicate, get_or-reverse, get_or-set_other, get_or-set_same, get_or_past, Global, inl, inr, length, length-map, length-replicate, List, map, map-set, ne_eqb, refl, replicate, reverse, reverse-append, subst, sym, true, ℕ, ◌++◌, ◌+◌, ◌-◌, ◌<◌, ◌∙◌, ◌∷◌, ◌≡◌, set, Vec, get_or-map}
use Rattle.level_scene.specs.Rules.{Placed, PlacedThing, is_in_sector, things_of}
use Rattle.level_scene.specs.Groups.{AreGroupsOf, IsIn, group_at}

things_by : (b : Bool) (placed : Placed) (rest : List Placed) → reverse (map (λ (p : Placed). p.thing) (cond b (placed ∷ rest) rest)) ≡ cond b (reverse (map (λ (p : Placed). p.thing) rest) ++ placed.thing ∷ []) (reverse (map (λ (p : Placed). p.thing) rest))
things_by true placed rest = reverse-append (placed.thing ∷ []) (map (λ (p : Placed). p.thing) rest)
things_by false placed rest = refl

-- one thing before others: it is the last of its sector
things_of-here : (placed : Placed) (rest : List Placed) → things_of (placed ∷ rest) placed.sector ≡ things_of rest placed.sector ++ placed.thing ∷ []
unfolding things_of is_in_sector
things_of-here placed rest =
    things_by (is_in_sector placed.sector placed) placed (filter (is_in_sector placed.sector) rest)
    ∙ ap (λ (b : Bool). cond b (things_of rest placed.sector ++ placed.thing ∷ []) (things_of rest placed.sector)) (eq-eqb placed.sector placed.sector refl)

-- and changes no other sector's
things_of-other : (placed : Placed) (rest : List Placed) (sector : ℕ) → (placed.sector ≡ sector → ⊥) → things_of (placed ∷ rest) sector ≡ things_of rest sector
unfolding things_of is_in_sector
things_of-other placed rest sector other =
    things_by (is_in_sector sector placed) placed (filter (is_in_sector sector) rest)
    ∙ ap (λ (b : Bool). cond b (things_of rest sector ++ placed.thing ∷ []) (things_of rest sector)) (ne_eqb placed.sector sector other)

module _ (groups : List (Vec PlacedThing Global)) where
  -- the list of a sector as it is read
  group_at-read : (sector : ℕ) (group : Vec PlacedThing Global) → sector < length groups → group ≡ get_or groups sector group → group_at groups sector ≡ group.items
  group_at-read sector group low read =
      get_or-map (λ (g : Vec PlacedThing Global). g.items) groups sector group [] low ∙ ap (λ (g : Vec PlacedThing Global). g.items) (sym read)

  -- and as it is written
  group_at-same : (sector : ℕ) (group : Vec PlacedThing Global) → sector < length groups → group_at (set groups sector group) sector ≡ group.items
  group_at-same sector group low =
      let items = λ (g : Vec PlacedThing Global). g.items in
      ap (λ (lists : List (List PlacedThing)). get_or lists sector []) (map-set items groups sector group)
      ∙ get_or-set_same (map items groups) sector group.items [] (omega (arith, length-map groups items))

  group_at-other : (sector other : ℕ) (group : Vec PlacedThing Global) → (sector ≡ other → ⊥) → group_at (set groups sector group) other ≡ group_at groups other
  group_at-other sector other group differ =
      let items = λ (g : Vec PlacedThing Global). g.items in
      ap (λ (lists : List (List PlacedThing)). get_or lists other []) (map-set items groups sector group)
      ∙ get_or-set_other (map items groups) sector other group.items [] (λ same. differ (sym same))

  -- empty lists are those of no thing
  pub groups-none : (count : ℕ) → map (λ (g : Vec PlacedThing Global). g.items) groups ≡ replicate count [] → AreGroupsOf [] groups
  unfolding things_of
  groups-none count empty = record {
    group = λ sector.
        ap (λ (lists : List (List PlacedThing)). get_or lists sector []) empty
        ∙ elim (cases_lt sector count) [
          | inl low ↦ get_or-replicate count sector [] [] low
          | inr past ↦ get_or_past (replicate count []) sector [] (omega (arith, length-replicate {A = List PlacedThing} count []))
        ];
  }

  -- as many as were asked for
  pub groups-count : (count : ℕ) → map (λ (g : Vec PlacedThing Global). g.items) groups ≡ replicate count [] → length groups ≡ count
  groups-count count empty = sym (length-map groups (λ (g : Vec PlacedThing Global). g.items)) ∙ ap length empty ∙ length-replicate count []

  -- a thing before others goes behind those of its sector
  groups-cons : (placed : Placed) (rest : List Placed) (was now : Vec PlacedThing Global) → placed.sector < length groups → was ≡ get_or groups placed.sector was → now.items ≡ was.items ++ placed.thing ∷ [] →
      AreGroupsOf rest groups → AreGroupsOf (placed ∷ rest) (set groups placed.sector now)
  groups-cons placed rest was now low read pushed before = record {
    group = λ sector. elim (cases_eq placed.sector sector) [
      | inl same ↦ subst (λ (s : ℕ). group_at (set groups placed.sector now) s ≡ things_of (placed ∷ rest) s) same
          (group_at-same placed.sector now low ∙ pushed
          ∙ ap (λ (things : List PlacedThing). things ++ placed.thing ∷ []) (sym (group_at-read placed.sector was low read) ∙ before.group placed.sector)
          ∙ sym (things_of-here placed rest))
      | inr other ↦ group_at-other placed.sector sector now other ∙ before.group sector ∙ sym (things_of-other placed rest sector other)
    ];
  }

  -- one step of a loop from the last thing to the first
  pub groups-more : (all : List Placed) (n : ℕ) (placed : Placed) (was now : Vec PlacedThing Global) → All (IsIn (length groups)) all → n < length all → placed ≡ get_or (reverse all) n placed → was ≡ get_or groups placed.sector was → now.items ≡ was.items ++ placed.thing ∷ [] →
      AreGroupsOf (drop (length all - n) all) groups → AreGroupsOf (drop (length all - (n + 1)) all) (set groups placed.sector now)
  groups-more all n placed was now within inside at read pushed before =
      let place = length all - 1 - n in
      let placed_is : placed ≡ get_or all place placed = at ∙ get_or-reverse all n placed inside in
      let low : placed.sector < length groups = subst (IsIn (length groups)) (sym placed_is) (within place placed (omega arith)) in
      let place_is : place ≡ length all - (n + 1) = omega arith in
      let next : place + 1 ≡ length all - n = omega arith in
      let split : drop (length all - (n + 1)) all ≡ placed ∷ drop (length all - n) all =
      ap (λ (k : ℕ). drop k all) (sym place_is) ∙ drop_more all place placed (omega arith)
      ∙ ap (λ (p : Placed). p ∷ drop (place + 1) all) (sym placed_is)
      ∙ ap (λ (k : ℕ). placed ∷ drop k all) next in
      subst (λ (things : List Placed). AreGroupsOf things (set groups placed.sector now)) (sym split) (groups-cons placed (drop (length all - n) all) was now low read pushed before)
