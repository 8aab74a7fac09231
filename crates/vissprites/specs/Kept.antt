-- How the entries of a view are kept: in drawing order, each with its number in order of making.
use Rattle.std.specs.Prelude.{◌≡◌, ℕ, suc, ◌≤◌, ◌&&◌, nat_lt, Bool, true, cond, List, [], ◌∷◌, length, IsTrue}
use Rattle.vissprites.specs.Rules.{MAX_VISSPRITES, SpriteEntry, draw_order, is_smaller}

-- e before the first of the entries that was made later
unfoldable pub insert_made : SpriteEntry → List SpriteEntry → List SpriteEntry
insert_made e [] = e ∷ []
insert_made e (f ∷ fs) = cond (nat_lt e.number f.number) (e ∷ (f ∷ fs)) (f ∷ insert_made e fs)

-- the entries in order of making
unfoldable pub made_order : List SpriteEntry → List SpriteEntry
made_order [] = []
made_order (e ∷ es) = insert_made e (made_order es)

-- each entry has a number below n
unfoldable pub are_below : ℕ → List SpriteEntry → Bool
are_below n [] = true
are_below n (e ∷ es) = nat_lt e.number n && are_below n es

-- the entries lie in drawing order, are numbered from 0, and are not too many
pub record IsKept (es : List SpriteEntry) : Type 0 where
  pub ordered : es ≡ draw_order (made_order es)
  pub numbered : IsTrue (are_below (length es) es)
  pub room : length es ≤ MAX_VISSPRITES

-- how many entries at the front are not greater than e
abbrev pub count_before : SpriteEntry → List SpriteEntry → ℕ
count_before e [] = 0
count_before e (f ∷ fs) = cond (is_smaller e f) 0 (suc (count_before e fs))
