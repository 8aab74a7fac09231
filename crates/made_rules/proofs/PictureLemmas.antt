-- The size of a column.
use Rattle.word_rules.proofs.Common.{[], arith, flat_map, length, length-append, List, refl, sum_by, sum_by-cons, ℕ, ◌+◌, ◌∷◌, ◌≡◌}
use Rattle.word_rules.proofs.ListedLemmas.{length-listed}
use Rattle.made_rules.specs.declared.pictures.Post.{Post}
use Rattle.made_rules.specs.Pictures.{post_bytes, column_bytes, column_size}

post_length : (seed x : ℕ) (post : Post) → length (post_bytes seed x post) ≡ post.length + 4
unfolding post_bytes
post_length seed x post = simp (length-append, length-listed) (omega arith)

posts_length : (seed x : ℕ) (posts : List Post) → length (flat_map (post_bytes seed x) posts) ≡ sum_by (λ post. post.length + 4) posts
posts_length seed x [] = refl
posts_length seed x (post ∷ posts) = simp length-append (omega (arith, post_length seed x post, posts_length seed x posts, sum_by-cons (λ (p : Post). p.length + 4) post posts))
