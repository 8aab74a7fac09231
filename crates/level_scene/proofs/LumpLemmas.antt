-- Laws of `lumps_from`, and what a builder has whose lumps come in the order of their numbers.
use Rattle.art_rules.proofs.Common.{[], ap, arith, Bool, cases_eq, Err, false, get_or, get_or-range_with_len, inl, inr, length, length-map, length-range_with_len, List, map, nat_tests, Ok, range_with_len, refl, replicate, Result, subst, suc, sym, take, true, zero, ℕ, ◌++◌, ◌+◌, ◌-◌, ◌<◌, ◌∙◌, ◌∷◌, ◌≡◌, ◌≢◌, ◌≤◌, ◌⊎◌, set, get_or-map}
use Rattle.level_scene.specs.Rules.{MapLump, MapRefusal, and_then, is_map_lump, lump_no}
use Rattle.map_lumps.specs.Builders.{BuilderValue, is_added}
use Rattle.level_scene.specs.Lumps.{lump_added, lumps_from}

-- before the first lump
pub lumps_from-none : (bytes : ℕ → List ℕ) (label place : ℕ) (lumps : List MapLump) (b : BuilderValue) → lumps_from bytes label place (take 0 lumps) b ≡ Ok b
unfolding lumps_from
lumps_from-none bytes label place lumps b = refl

ends_ok : {A R : Type 0} (r : Result A R) (a : A) → r ≡ Ok a → and_then r (λ x. Ok x) ≡ Ok a
ends_ok (Ok x) a e = e
ends_ok (Err x) a e = e

next_after : (bytes : ℕ → List ℕ) (label place : ℕ) (lumps : List MapLump) (i number : ℕ) (d : MapLump) (b c e : BuilderValue) → i < length lumps → number ≡ label + (place + i) →
    lumps_from bytes label place (take i lumps) b ≡ Ok c → lump_added c (get_or lumps i d) (bytes number) ≡ Ok e → lumps_from bytes label place (take (suc i) lumps) b ≡ Ok e
unfolding lumps_from
next_after bytes label place [] i number d b c e inside at before added = let impossible : ⊥ = omega (arith, inside) in absurd impossible
next_after bytes label place (lump ∷ lumps) zero number d b c e inside at before added =
    let start : b ≡ c = cc in
    let number_is : number ≡ label + place = omega arith in
    ends_ok (lump_added b lump (bytes (label + place))) e (ap (λ x. lump_added x lump (bytes (label + place))) start ∙ ap (λ n. lump_added c lump (bytes n)) (sym number_is) ∙ added)
next_after bytes label place (lump ∷ lumps) (suc i) number d b c e inside at before added =
    go (lump_added b lump (bytes (label + place))) before (λ x h. next_after bytes label (suc place) lumps i number d x c e (omega arith) (omega arith) h added) where
      go : (r : Result BuilderValue MapRefusal) → and_then r (lumps_from bytes label (suc place) (take i lumps)) ≡ Ok c →
          ((x : BuilderValue) → lumps_from bytes label (suc place) (take i lumps) x ≡ Ok c → lumps_from bytes label (suc place) (take (suc i) lumps) x ≡ Ok e) → and_then r (lumps_from bytes label (suc place) (take (suc i) lumps)) ≡ Ok e
      go (Ok x) h later = later x h
      go (Err x) h later = cc

-- one lump more
pub lumps_from-next : (bytes : ℕ → List ℕ) (label place : ℕ) (lumps : List MapLump) (i k number : ℕ) (d : MapLump) (b c e : BuilderValue) → i + 1 ≡ k → i < length lumps → number ≡ label + (place + i) →
    lumps_from bytes label place (take i lumps) b ≡ Ok c → lump_added c (get_or lumps i d) (bytes number) ≡ Ok e → lumps_from bytes label place (take k lumps) b ≡ Ok e
lumps_from-next bytes label place lumps i k number d b c e next inside at before added =
    let next_is : suc i ≡ k = omega arith in
    ap (λ n. lumps_from bytes label place (take n lumps) b) (sym next_is) ∙ next_after bytes label place lumps i number d b c e inside at before added

-- the first lump that is too large
pub lumps_from-stop : (bytes : ℕ → List ℕ) (label place : ℕ) (lumps : List MapLump) (i number : ℕ) (d : MapLump) (b c : BuilderValue) (refusal : MapRefusal) → i < length lumps → number ≡ label + (place + i) →
    lumps_from bytes label place (take i lumps) b ≡ Ok c → lump_added c (get_or lumps i d) (bytes number) ≡ Err refusal → lumps_from bytes label place lumps b ≡ Err refusal
unfolding lumps_from
lumps_from-stop bytes label place [] i number d b c refusal inside at before added = let impossible : ⊥ = omega (arith, inside) in absurd impossible
lumps_from-stop bytes label place (lump ∷ lumps) zero number d b c refusal inside at before added =
    let start : b ≡ c = cc in
    let number_is : number ≡ label + place = omega arith in
    ap (λ r. and_then r (lumps_from bytes label (suc place) lumps)) (ap (λ x. lump_added x lump (bytes (label + place))) start ∙ ap (λ n. lump_added c lump (bytes n)) (sym number_is) ∙ added)
lumps_from-stop bytes label place (lump ∷ lumps) (suc i) number d b c refusal inside at before added =
    go (lump_added b lump (bytes (label + place))) before (λ x h. lumps_from-stop bytes label (suc place) lumps i number d x c refusal (omega arith) (omega arith) h added) where
      go : (r : Result BuilderValue MapRefusal) → and_then r (lumps_from bytes label (suc place) (take i lumps)) ≡ Ok c →
          ((x : BuilderValue) → lumps_from bytes label (suc place) (take i lumps) x ≡ Ok c → lumps_from bytes label (suc place) lumps x ≡ Err refusal) → and_then r (lumps_from bytes label (suc place) lumps) ≡ Err refusal
      go (Ok x) h later = later x h
      go (Err x) h later = cc

-- the lumps that are added, where the first so many of the eight are
abbrev pub added_first : ℕ → List Bool
added_first i = replicate i true ++ replicate (8 - i) false

next_off : (i n : ℕ) → get_or (replicate i true ++ replicate n false) i false ≡ false
next_off zero zero = refl
next_off zero (suc n) = refl
next_off (suc i) n = next_off i n

next_on : (i n : ℕ) → set (replicate i true ++ replicate (suc n) false) i true ≡ replicate (suc i) true ++ replicate n false
next_on zero n = refl
next_on (suc i) n = ap (λ xs. true ∷ xs) (next_on i n)

-- the next one is not added yet
pub next_absent : (b : BuilderValue) (lump : MapLump) (i : ℕ) → b.added ≡ added_first i → lump_no lump ≡ i → is_added b lump ≡ false
unfolding is_added
next_absent b lump i e at = rw (e, at) (next_off i (8 - i))

-- and then it is
pub next_added : (added : List Bool) (number i k : ℕ) → i + 1 ≡ k → added ≡ added_first i → number ≡ i → i < 8 → set added number true ≡ added_first k
next_added added number i k next e at few =
    let rest_is_suc : 8 - i ≡ suc (8 - k) = omega arith in
    let next_is : suc i ≡ k = omega arith in
    rw (e, at, rest_is_suc) (next_on i (8 - k) ∙ ap (λ n. replicate n true ++ replicate (8 - k) false) next_is)

-- lumps in the order of their numbers
module _ (lumps : List MapLump) (n : ℕ) (are : map lump_no lumps ≡ range_with_len 0 n) where
  pub lumps_count : length lumps ≡ n
  lumps_count = sym (length-map lumps lump_no) ∙ ap length are ∙ length-range_with_len 0 n

  pub lump_numbered : (i : ℕ) (d : MapLump) → i < n → lump_no (get_or lumps i d) ≡ i
  lump_numbered i d h =
      let count = lumps_count in
      let item_is_index = get_or-range_with_len 0 n i 0 h in
      sym (get_or-map lump_no lumps i d 0 (omega arith)) ∙ ap (λ xs. get_or xs i 0) are ∙ item_is_index ∙ omega arith

-- the lumps behind a label are those of the map
pub behind_label : (label number i : ℕ) → number ≡ label + (1 + i) → i < 8 → is_map_lump label number ≡ true
unfolding is_map_lump
behind_label label number i at few = grind (arith, nat_tests)

-- and the other way round
pub is_behind_label : (label lump count : ℕ) → count ≡ 8 → is_map_lump label lump ≡ true → (label < lump) × (lump ≤ label + count)
unfolding is_map_lump
is_behind_label label lump count all among = (grind (arith, nat_tests), grind (arith, nat_tests))

-- what holds of the lumps up to one and of the next
pub up_to_more : (P : ℕ → Type 0) (label i k next : ℕ) → i + 1 ≡ k → next ≡ label + k → ((lump : ℕ) → label < lump → lump ≤ label + i → P lump) → P next → (lump : ℕ) → label < lump → lump ≤ label + k → P lump
up_to_more P label i k next one at before here lump above below = go (cases_eq lump next) where
  go : (lump ≡ next) ⊎ (lump ≡ next → ⊥) → P lump
  go (inl e) = subst P (sym e) here
  go (inr h) = let lumps_differ : lump ≢ next = h in before lump above (omega arith)
