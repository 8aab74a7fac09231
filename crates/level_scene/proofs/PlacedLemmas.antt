-- Laws of `placed_from`.
use Rattle.art_rules.proofs.Common.{add-one, ap, append-nil, append_assoc, at_drop_all, at_drop_more, drop, get_or, length, List, refl, sym, ℕ, ◌++◌, ◌+◌, ◌<◌, ◌∙◌, ◌≡◌, ◌≤◌}
use Rattle.level_scene.specs.Rules.{LevelValue, Placed, Thing, ThingLine, placed_from, placed_if, placed_row}

module _ (level : LevelValue) (lines : List ThingLine) (skill : ℕ) where
  -- one thing more
  pub placed_from-step : (all : List Placed) (n : ℕ) (things : List Thing) (thing d : Thing) → n < length things → get_or things n d ≡ thing →
      all ++ placed_from level lines skill n (drop n things) ≡ (all ++ placed_if level n thing (placed_row lines skill thing)) ++ placed_from level lines skill (n + 1) (drop (n + 1) things)
  unfolding placed_from
  placed_from-step all n things thing d inside at =
      ap (λ (rest : List Placed). all ++ rest) (at_drop_more (placed_from level lines skill n) things n d inside ∙ rw (at, add-one) refl) ∙ sym (append_assoc all _ _)

  -- the end
  pub placed_from-end : (all : List Placed) (n : ℕ) (things : List Thing) → length things ≤ n → all ++ placed_from level lines skill n (drop n things) ≡ all
  unfolding placed_from
  placed_from-end all n things past = ap (λ (rest : List Placed). all ++ rest) (at_drop_all (placed_from level lines skill n) things n past) ∙ append-nil all

-- for `grind`: a loop over the things
pub ruleset placed_steps = (placed_from-step, placed_from-end)
