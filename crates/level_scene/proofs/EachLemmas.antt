-- A loop that finds something for each of a list, and the first for which there is nothing.
use Rattle.art_rules.proofs.Common.{[], All, All-push, ap, drop, Err, get_or, length, length-append, List, None, Option, Some, subst, sym, true, ℕ, ◌++◌, ◌+◌, ◌<◌, ◌∙◌, ◌∷◌, ◌≡◌}
use Rattle.level_scene.specs.Rules.{ResultIs, SceneRefusal, each_or}
use Rattle.scene_rules.proofs.NumberedLemmas.{each_after, each_after-found, each_after-next}
use Rattle.level_scene.specs.{declared.fault.SceneFault.TheVariants.Refused, Faults.scene_fault}

-- ys is found for the items before the i-th, P of each, and the rest is what is found from there on
pub record HasEach {X Y : Type 0} (f : X → Option Y) (refuse : ℕ → SceneRefusal) (P : Y → Type 0) (xs : List X) (i : ℕ) (ys : List Y) : Type 0 where
  pub so_far : each_or f refuse xs ≡ each_after f refuse ys i (drop i xs)
  pub count : length ys ≡ i
  pub all : All P ys

module _ {X Y : Type 0} (f : X → Option Y) (refuse : ℕ → SceneRefusal) (xs : List X) (i : ℕ) (ys : List Y) (x : X) (so_far : each_or f refuse xs ≡ each_after f refuse ys i (drop i xs)) (inside : i < length xs) (is : x ≡ get_or xs i x) where
  -- there is nothing for an item
  pub each-first : {B : Type 0} (value : B → List Y) → None ≡ f x → ResultIs scene_fault true value (each_or f refuse xs) (Err (Refused (refuse i)))
  each-first value none = record { ok = tt; err = so_far ∙ each_after-found f refuse ys i xs x x inside (sym is) (sym none) }

  -- one more was found
  pub each-more : (P : Y → Type 0) (y : Y) (new : List Y) → length ys ≡ i → All P ys → Some y ≡ f x → P y → new ≡ ys ++ y ∷ [] → HasEach f refuse P xs (i + 1) new
  each-more P y new count all some p e = subst (HasEach f refuse P xs (i + 1)) (sym e) (record {
    so_far = so_far ∙ each_after-next f refuse ys i xs x x y inside (sym is) (sym some);
    count = length-append ys (y ∷ []) ∙ ap (λ n. n + 1) count;
    all = All-push P ys y all p;
  })
