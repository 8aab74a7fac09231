-- Laws of `posts`: a post and then those after it, none where no post begins.
use Rattle.word_rules.proofs.Common.{[], ap, arith, Bool, false, if◌then◌else◌, length, List, nat_le, nat_tests, not, refl, suc, true, zero, ℕ, ◌+◌, ◌<◌, ◌||◌, ◌∙◌, ◌∷◌, ◌≡◌, ◌≤◌}
use Rattle.pixel_rules.specs.declared.Post.{Post}
use Rattle.art_rules.specs.Patches.{is_post, post_in, next_place, posts_from, posts}

within : (l p : ℕ) (b c : Bool) → nat_le l p ≡ b → not (b || c) ≡ true → p < l
within l p true c e h = cc
within l p false c e h = grind (arith, nat_tests)

-- a post begins before the lump's end
pub is_post-within : (bytes : List ℕ) (place : ℕ) → is_post bytes place ≡ true → place < length bytes
unfolding is_post
is_post-within bytes place h = within (length bytes) place (nat_le (length bytes) place) _ refl h

past : (bytes : List ℕ) (place : ℕ) (b : Bool) → is_post bytes place ≡ b → length bytes ≤ place → is_post bytes place ≡ false
past bytes place false e l = e
past bytes place true e l = let place_within = is_post-within bytes place e in absurd (omega arith)

-- the post after one begins later
pub next_place-later : (bytes : List ℕ) (place : ℕ) → place + 1 ≤ next_place (post_in bytes place)
unfolding next_place post_in
next_place-later bytes place = omega arith

posts_step : (b : Bool) (x : Post) (xs ys : List Post) → (b ≡ true → xs ≡ ys) → (if b then x ∷ xs else []) ≡ (if b then x ∷ ys else [])
posts_step false x xs ys h = refl
posts_step true x xs ys h = ap (λ zs. x ∷ zs) (h refl)

-- how many posts are asked for counts for nothing once they are as many as bytes
same_posts : (n m : ℕ) (bytes : List ℕ) (place : ℕ) → length bytes ≤ n + place → length bytes ≤ m + place → posts_from n bytes place ≡ posts_from m bytes place
unfolding posts_from
same_posts zero zero bytes place l k = refl
same_posts zero (suc m) bytes place l k = let no_post : is_post bytes place ≡ false = past bytes place (is_post bytes place) refl (omega arith) in rw no_post
same_posts (suc n) zero bytes place l k = let no_post : is_post bytes place ≡ false = past bytes place (is_post bytes place) refl (omega arith) in rw no_post
same_posts (suc n) (suc m) bytes place l k =
    let next_is_later = next_place-later bytes place in
    posts_step (is_post bytes place) (post_in bytes place) _ _ (λ on. same_posts n m bytes (next_place (post_in bytes place)) (omega arith) (omega arith))

-- no post begins there
pub posts-none : (bytes : List ℕ) (place : ℕ) → is_post bytes place ≡ false → posts bytes place ≡ []
unfolding posts posts_from
posts-none bytes place off = same_posts (length bytes) (suc (length bytes)) bytes place (omega arith) (omega arith) ∙ (rw off)

-- a post begins there, and then come those after it
pub posts-some : (bytes : List ℕ) (place : ℕ) → is_post bytes place ≡ true → posts bytes place ≡ post_in bytes place ∷ posts bytes (next_place (post_in bytes place))
unfolding posts posts_from
posts-some bytes place on = same_posts (length bytes) (suc (length bytes)) bytes place (omega arith) (omega arith) ∙ (rw on)
