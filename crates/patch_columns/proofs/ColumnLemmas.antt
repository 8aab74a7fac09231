-- Laws of columns into which posts are put.
use Rattle.std.proofs.Common.{◌≡◌, ℕ, ◌<◌, cond, List, [], ◌∷◌, ◌++◌, length, get_or, Option, Some, None, unwrap_or, refl, ap, sym, ◌∙◌}
use Rattle.art_rules.specs.Words.{composed_byte, is_put_at, last_put, listed, or_else, PlacedPost, put_byte}
use Rattle.art_rules.proofs.Laws.{get_or-listed, length-listed, listed-all}
use Rattle.patch_columns.specs.Composites.{row_with, with_posts}

or_else-none : {X : Type 0} (x : Option X) → x ≡ or_else x None
or_else-none None = refl
or_else-none (Some v) = refl

or_else_assoc : {X : Type 0} (x y z : Option X) → or_else (or_else x y) z ≡ or_else x (or_else y z)
or_else_assoc None y z = refl
or_else_assoc (Some v) y z = refl

unwrap_or-or_else : {X : Type 0} (x y : Option X) (d : X) → unwrap_or x (unwrap_or y d) ≡ unwrap_or (or_else x y) d
unwrap_or-or_else None y d = refl
unwrap_or-or_else (Some v) y d = refl

-- what later posts put is last
pub last_put-append : (height v : ℕ) (before later : List PlacedPost) → last_put height v (before ++ later) ≡ or_else (last_put height v later) (last_put height v before)
unfolding last_put
last_put-append height v [] later = or_else-none (last_put height v later)
last_put-append height v (p ∷ before) later =
    ap (λ (o : Option ℕ). or_else o (cond (is_put_at height v p) (Some (put_byte v p)) None)) (last_put-append height v before later)
    ∙ or_else_assoc (last_put height v later) (last_put height v before) (cond (is_put_at height v p) (Some (put_byte v p)) None)

listed-same : {X : Type 0} (f g : ℕ → X) (m n : ℕ) (d : X) → m ≡ n → ((k : ℕ) → k < n → f k ≡ g k) → listed f m ≡ listed g n
listed-same f g m n d e h =
    ap (listed f) e ∙ listed-all g (listed f n) n d (length-listed f n) (λ k l. get_or-listed f n k d l ∙ h k l)

pub with_posts-none : (column : List ℕ) → column ≡ with_posts column []
unfolding with_posts row_with last_put
with_posts-none column = listed-all (row_with column []) column (length column) 0 refl (λ k l. refl)

-- posts over the rows that f gives
rows_over : (f : ℕ → ℕ) (height : ℕ) (placed : List PlacedPost) (v : ℕ) → v < height → row_with (listed f height) placed v ≡ unwrap_or (last_put height v placed) (f v)
unfolding row_with
rows_over f height placed v l = rw (length-listed f height, get_or-listed f height v 0 l)

pub with_posts-listed : (f : ℕ → ℕ) (height : ℕ) (placed : List PlacedPost) → with_posts (listed f height) placed ≡ listed (λ v. unwrap_or (last_put height v placed) (f v)) height
unfolding with_posts
with_posts-listed f height placed =
    listed-same (row_with (listed f height) placed) (λ v. unwrap_or (last_put height v placed) (f v)) (length (listed f height)) height 0 (length-listed f height) (rows_over f height placed)

over_again : (height v row : ℕ) (before later : List PlacedPost) → unwrap_or (last_put height v later) (unwrap_or (last_put height v before) row) ≡ unwrap_or (last_put height v (before ++ later)) row
over_again height v row before later =
    unwrap_or-or_else (last_put height v later) (last_put height v before) row
    ∙ ap (λ (o : Option ℕ). unwrap_or o row) (sym (last_put-append height v before later))

-- later posts are put over those before
pub with_posts-append : (column : List ℕ) (before later : List PlacedPost) → with_posts (with_posts column before) later ≡ with_posts column (before ++ later)
unfolding with_posts row_with
with_posts-append column before later =
    with_posts-listed (row_with column before) (length column) later
    ∙ listed-same (λ v. unwrap_or (last_put (length column) v later) (row_with column before v)) (row_with column (before ++ later)) (length column) (length column) 0 refl
    (λ v l. over_again (length column) v (get_or column v 0) before later)

-- posts put into a composed column
pub with_posts-composed : (height : ℕ) (before later : List PlacedPost) → with_posts (listed (composed_byte height before) height) later ≡ listed (composed_byte height (before ++ later)) height
unfolding composed_byte
with_posts-composed height before later =
    with_posts-listed (composed_byte height before) height later
    ∙ listed-same (λ v. unwrap_or (last_put height v later) (composed_byte height before v)) (composed_byte height (before ++ later)) height height 0 refl
    (λ v l. over_again height v 0 before later)
