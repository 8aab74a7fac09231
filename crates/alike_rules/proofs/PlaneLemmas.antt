-- Planes whose flats have other numbers: they are found, checked and marked alike, where the numbers are one to one.
use Rattle.picture_rules.proofs.Common.{[], AllByRecursion, ap, Bool, cond, false, length, List, map, map-append, None, Option, option_map, position_or_len, refl, slice_get, slice_get-map, slice_set, Some, suc, true, zero, ℕ, ⊤, ◌==◌, ◌∙◌, ◌∷◌, ◌≡◌}
use Rattle.alike_rules.specs.Rules.{Flat4, Lump, Plane, PlaneChoice, PlaneKey, Sky, add, check, check_plane, check_some, empty_plane, find, is_free, mark, mark_some, number_of, number_or_add, same_flat, same_key, with_run}

abbrev pub moved_flat : (ℕ → ℕ) → Flat4 → Flat4
moved_flat σ Sky = Sky
moved_flat σ (Lump n) = Lump (σ n)

abbrev pub moved_key : (ℕ → ℕ) → PlaneKey → PlaneKey
moved_key σ k = record { height = k.height; flat = moved_flat σ k.flat; light = k.light }

abbrev pub moved_plane : (ℕ → ℕ) → Plane → Plane
moved_plane σ p = record { key = moved_key σ p.key; runs = p.runs }

abbrev pub moved_choice : (ℕ → ℕ) → PlaneChoice → PlaneChoice
moved_choice σ c = record { number = c.number; planes = map (moved_plane σ) c.planes }

-- the flats that pass are renumbered one to one
abbrev pub IsOneToOne : (ℕ → Type 0) → (ℕ → ℕ) → Type 0
IsOneToOne P σ = (a b : ℕ) → P a → P b → (σ a == σ b) ≡ (a == b)

abbrev pub IsFlatOf : (ℕ → Type 0) → Flat4 → Type 0
IsFlatOf P Sky = ⊤
IsFlatOf P (Lump n) = P n

abbrev pub IsPlaneOf : (ℕ → Type 0) → Plane → Type 0
IsPlaneOf P p = IsFlatOf P p.key.flat

module _ (P : ℕ → Type 0) (σ : ℕ → ℕ) (one : IsOneToOne P σ) where
  flats_same : (a b : Flat4) → IsFlatOf P a → IsFlatOf P b → same_flat (moved_flat σ a) (moved_flat σ b) ≡ same_flat a b
  unfolding same_flat
  flats_same Sky Sky p q = refl
  flats_same Sky (Lump m) p q = refl
  flats_same (Lump n) Sky p q = refl
  flats_same (Lump n) (Lump m) p q = one n m p q

  keys_same : (a b : PlaneKey) → IsFlatOf P a.flat → IsFlatOf P b.flat → same_key (moved_key σ a) (moved_key σ b) ≡ same_key a b
  unfolding same_key
  keys_same a b p q = rw (flats_same a.flat b.flat p q) refl

  places_same : (planes : List Plane) (key : PlaneKey) → AllByRecursion (IsPlaneOf P) planes → IsFlatOf P key.flat
      → position_or_len (λ p. same_key p.key (moved_key σ key)) (map (moved_plane σ) planes) ≡ position_or_len (λ p. same_key p.key key) planes
  places_same [] key all k = refl
  places_same (p ∷ ps) key all k = rw (keys_same p.key key all.0 k, places_same ps key all.1 k) refl

  length_same : (planes : List Plane) → length (map (moved_plane σ) planes) ≡ length planes
  length_same [] = refl
  length_same (p ∷ ps) = ap suc (length_same ps)

  numbers_same : (planes : List Plane) (key : PlaneKey) → AllByRecursion (IsPlaneOf P) planes → IsFlatOf P key.flat
      → number_of (map (moved_plane σ) planes) (moved_key σ key) ≡ number_of planes key
  unfolding number_of
  numbers_same planes key all k = rw (places_same planes key all k, length_same planes) refl

  add_same : (planes : List Plane) (key : PlaneKey) → add (map (moved_plane σ) planes) (moved_key σ key) ≡ moved_choice σ (add planes key)
  unfolding add empty_plane
  add_same planes key = rw (length_same planes, map-append (moved_plane σ) planes (empty_plane key ∷ [])) refl

  number_step : (planes : List Plane) (key : PlaneKey) (o : Option ℕ)
      → number_or_add (map (moved_plane σ) planes) (moved_key σ key) o ≡ moved_choice σ (number_or_add planes key o)
  unfolding number_or_add
  number_step planes key None = add_same planes key
  number_step planes key (Some i) = refl

  -- a plane is found alike
  pub find-moved : (planes : List Plane) (key : PlaneKey) → AllByRecursion (IsPlaneOf P) planes → IsFlatOf P key.flat
      → find (map (moved_plane σ) planes) (moved_key σ key) ≡ moved_choice σ (find planes key)
  unfolding find
  find-moved planes key all k =
      ap (number_or_add (map (moved_plane σ) planes) (moved_key σ key)) (numbers_same planes key all k)
      ∙ number_step planes key (number_of planes key)

  check_step : (planes : List Plane) (i : ℕ) (p : Plane) (b : Bool)
      → cond b (record { number = i; planes = map (moved_plane σ) planes }) (add (map (moved_plane σ) planes) (moved_key σ p.key))
      ≡ moved_choice σ (cond b (record { number = i; planes = planes }) (add planes p.key))
  check_step planes i p true = refl
  check_step planes i p false = add_same planes p.key

  check_found : (planes : List Plane) (i : ℕ) (o : Option Plane) (first last : ℕ)
      → check_some (map (moved_plane σ) planes) i (option_map (moved_plane σ) o) first last ≡ moved_choice σ (check_some planes i o first last)
  unfolding check_some check_plane
  check_found planes i None first last = refl
  check_found planes i (Some p) first last = check_step planes i p (is_free p.runs first last)

  -- and checked
  pub check-moved : (planes : List Plane) (i first last : ℕ) → check (map (moved_plane σ) planes) i first last ≡ moved_choice σ (check planes i first last)
  unfolding check
  check-moved planes i first last =
      ap (λ o. check_some (map (moved_plane σ) planes) i o first last) (slice_get-map (moved_plane σ) planes i)
      ∙ check_found planes i (slice_get planes i) first last

  set_same : (planes : List Plane) (i : ℕ) (p : Plane) → slice_set (map (moved_plane σ) planes) i (moved_plane σ p) ≡ map (moved_plane σ) (slice_set planes i p)
  set_same [] i p = refl
  set_same (q ∷ qs) zero p = refl
  set_same (q ∷ qs) (suc i) p = ap (λ rest. moved_plane σ q ∷ rest) (set_same qs i p)

  mark_found : (planes : List Plane) (i : ℕ) (o : Option Plane) (x : ℕ) (rows : ℕ × ℕ)
      → mark_some (map (moved_plane σ) planes) i (option_map (moved_plane σ) o) x rows ≡ map (moved_plane σ) (mark_some planes i o x rows)
  unfolding mark_some with_run
  mark_found planes i None x rows = refl
  mark_found planes i (Some p) x rows = set_same planes i (with_run p x rows)

  -- and marked
  pub mark-moved : (planes : List Plane) (i x : ℕ) (rows : ℕ × ℕ) → mark (map (moved_plane σ) planes) i x rows ≡ map (moved_plane σ) (mark planes i x rows)
  unfolding mark
  mark-moved planes i x rows =
      ap (λ o. mark_some (map (moved_plane σ) planes) i o x rows) (slice_get-map (moved_plane σ) planes i)
      ∙ mark_found planes i (slice_get planes i) x rows
