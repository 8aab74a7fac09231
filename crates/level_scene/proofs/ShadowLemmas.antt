-- Laws of `first_shadow`.
use Rattle.art_rules.proofs.Common.{at_drop_all, at_drop_more, drop, false, get_or, length, List, None, refl, Some, true, ℕ, ◌+◌, ◌<◌, ◌∙◌, ◌≡◌, ◌≤◌}
use Rattle.level_scene.specs.Rules.{Placed, first_shadow, is_shadow}

-- one that is a shadow
pub first_shadow-found : (all : List Placed) (i : ℕ) (placed d : Placed) → i < length all → get_or all i d ≡ placed → is_shadow placed ≡ true → first_shadow (drop i all) ≡ Some placed.thing.thing
unfolding first_shadow
first_shadow-found all i placed d inside at is = at_drop_more first_shadow all i d inside ∙ rw (at, is) refl

-- one that is not
pub first_shadow-next : (all : List Placed) (i : ℕ) (placed d : Placed) → i < length all → get_or all i d ≡ placed → is_shadow placed ≡ false → first_shadow (drop i all) ≡ first_shadow (drop (i + 1) all)
unfolding first_shadow
first_shadow-next all i placed d inside at is = at_drop_more first_shadow all i d inside ∙ rw (at, is) refl

-- the end
pub first_shadow-end : (all : List Placed) (i : ℕ) → length all ≤ i → first_shadow (drop i all) ≡ None
unfolding first_shadow
first_shadow-end all i past = at_drop_all first_shadow all i past

-- for `grind`: a loop over the placed things
pub ruleset shadow_steps = (first_shadow-found, first_shadow-next, first_shadow-end)
