-- Laws of `is_wanted_texture`.
use Rattle.word_rules.proofs.Common.{[], ap, Bool, false, get_or, length, List, list_any, list_any_more, not, Option, refl, take, true, ℕ, ◌&&◌, ◌+◌, ◌<◌, ◌==◌, ◌||◌, ◌∙◌, ◌≡◌}
use Rattle.level_rules.specs.declared.SideTextures.{SideTextures}
use Rattle.scene_rules.specs.Sides.{is_sky_texture, is_wanted_texture, shows_texture}

-- the number is shown by one more
shown_too : (sky some shown one : Bool) → (sky || (some && (shown || one))) ≡ ((sky || (some && shown)) || (some && one))
shown_too true some shown one = refl
shown_too false true shown one = refl
shown_too false false shown one = refl

no_side : (sky some : Bool) → (sky || (some && false)) ≡ sky
no_side true some = refl
no_side false true = refl
no_side false false = refl

-- before the first side
pub is_wanted-none : (sky : Option ℕ) (number : ℕ) → is_wanted_texture [] sky number ≡ is_sky_texture sky number
unfolding is_wanted_texture
is_wanted-none sky number = no_side (is_sky_texture sky number) (not (number == 0))

-- one side more
pub is_wanted-more : (sides : List SideTextures) (sky : Option ℕ) (number i : ℕ) (d : SideTextures) → i < length sides →
    is_wanted_texture (take (i + 1) sides) sky number ≡ (is_wanted_texture (take i sides) sky number || (not (number == 0) && shows_texture number (get_or sides i d)))
unfolding is_wanted_texture
is_wanted-more sides sky number i d l =
    ap (λ b. is_sky_texture sky number || (not (number == 0) && b)) (list_any_more (shows_texture number) sides i d l)
    ∙ shown_too (is_sky_texture sky number) (not (number == 0)) (list_any (shows_texture number) (take i sides)) (shows_texture number (get_or sides i d))

-- for `grind`: a loop over the sides
pub ruleset wanted_by_sides = (is_wanted-none, is_wanted-more)
