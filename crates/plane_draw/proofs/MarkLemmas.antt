-- Laws of a plane that has a run, and of one that has none.
use Rattle.picture_rules.proofs.Common.{[], Bool, false, false≢true, IsSome, List, None, Option, refl, slice_index_or, Some, suc, sym, true, zero, ℕ, ◌↔◌, ◌∙◌, ◌∷◌, ◌≡◌}
use Rattle.std.specs.Prelude.{is_some}
use Rattle.std.specs.List.{list_any}
use Rattle.plane_draw.specs.Rules.{Plane, column}
use Rattle.plane_draw.specs.{Planes.IsMarked, Strips.has_run}

abbrev run_at : List (Option (ℕ × ℕ)) → ℕ → Option (ℕ × ℕ)
run_at runs x = slice_index_or runs x None

none_at : (x : ℕ) → run_at [] x ≡ None
none_at zero = refl
none_at (suc x) = refl

none_behind : (runs : List (Option (ℕ × ℕ))) → ((x : ℕ) → run_at runs x ≡ None) → (x : ℕ) → run_at (None ∷ runs) x ≡ None
none_behind runs all zero = refl
none_behind runs all (suc x) = all x

some_none : (run : ℕ × ℕ) → Some run ≡ None → ⊥
some_none run e = cc

any_none : (runs : List (Option (ℕ × ℕ))) → ((x : ℕ) → run_at runs x ≡ None) → list_any is_some runs ≡ false
any_none [] all = refl
any_none (None ∷ runs) all = any_none runs (λ x. all (suc x))
any_none (Some run ∷ runs) all = absurd (some_none run (all 0))

none_any : (runs : List (Option (ℕ × ℕ))) → list_any is_some runs ≡ false → (x : ℕ) → run_at runs x ≡ None
none_any [] e x = none_at x
none_any (None ∷ runs) e x = none_behind runs (none_any runs e) x
none_any (Some run ∷ runs) e x = absurd (false≢true (sym e))

some_any : (runs : List (Option (ℕ × ℕ))) → list_any is_some runs ≡ true → (x : ℕ) × IsSome (run_at runs x)
some_any [] e = absurd (false≢true e)
some_any (None ∷ runs) e = let found = some_any runs e in (suc found.0, found.1)
some_any (Some run ∷ runs) e = (0, refl)

-- a plane without a run has none at any column, and the other way round
pub unmarked-none : (p : Plane) → has_run p ≡ false → (x : ℕ) → column p x ≡ None
unfolding has_run column
unmarked-none p e = none_any p.runs e

pub none-unmarked : (p : Plane) → ((x : ℕ) → column p x ≡ None) → has_run p ≡ false
unfolding has_run column
none-unmarked p none = any_none p.runs none

-- and one that has a run has it at some column
pub marked-some : (p : Plane) → has_run p ≡ true → IsMarked p
unfolding has_run column
marked-some p e = some_any p.runs e

-- what is told to be empty has no run, and what is not has one
pub empty-unmarked : (p : Plane) (empty : Bool) → ((empty ≡ true) ↔ ((x : ℕ) → column p x ≡ None)) → empty ≡ true → has_run p ≡ false
empty-unmarked p empty says is = none-unmarked p (says.0 is)

filled_by : (p : Plane) (empty marked : Bool) → has_run p ≡ marked → ((empty ≡ true) ↔ ((x : ℕ) → column p x ≡ None)) → empty ≡ false → marked ≡ true
filled_by p empty true is says filled = refl
filled_by p empty false is says filled = absurd (false≢true (sym filled ∙ says.1 (unmarked-none p is)))

pub filled-marked : (p : Plane) (empty : Bool) → ((empty ≡ true) ↔ ((x : ℕ) → column p x ≡ None)) → empty ≡ false → has_run p ≡ true
filled-marked p empty says filled = filled_by p empty (has_run p) refl says filled
