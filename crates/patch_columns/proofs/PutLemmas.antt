-- Laws of the posts from a place of a patch on, put one after the other.
use Rattle.art_rules.proofs.Common.{[], ap, arith, Bool, false, if◌then◌else◌, length, List, map, None, pos, refl, Some, sym, true, ℕ, ℤ, ◌+ℤ◌, ◌+◌, ◌<◌, ◌∙◌, ◌∷◌, ◌≡◌, ◌≤◌}
use Rattle.art_rules.specs.Words.{is_post, next_place, Post, post_at, post_in, posts}
use Rattle.art_rules.proofs.PostLemmas.{is_post-within, posts-none, posts-some}
use Rattle.patch_columns.specs.Composites.{placed_post, posts_at, with_posts}
use Rattle.patch_columns.proofs.ColumnLemmas.{with_posts-none, with_posts-append}

-- a post that begins at a place
record BeginsAt (bytes : List ℕ) (place : ℕ) (post : Post) : Type 0 where
  is : is_post bytes place ≡ true
  read : post_in bytes place ≡ post

found : (bytes : List ℕ) (place : ℕ) (post : Post) (b : Bool) → is_post bytes place ≡ b → (if b then Some (post_in bytes place) else None) ≡ Some post → BeginsAt bytes place post
found bytes place post true e h = record { is = e; read = cc }
found bytes place post false e h = cc

begins : (bytes : List ℕ) (place : ℕ) (post : Post) → post_at bytes place ≡ Some post → BeginsAt bytes place post
unfolding post_at
begins bytes place post h = found bytes place post (is_post bytes place) refl h

-- no post begins at a place past the lump's end
past : (bytes : List ℕ) (place : ℕ) (b : Bool) → is_post bytes place ≡ b → length bytes ≤ place → is_post bytes place ≡ false
past bytes place false e l = e
past bytes place true e l = let place_within = is_post-within bytes place e in absurd (omega arith)

pub post_at-past : (bytes : List ℕ) (place : ℕ) → length bytes ≤ place → post_at bytes place ≡ None
unfolding post_at
post_at-past bytes place l = rw (past bytes place (is_post bytes place) refl l)

-- where a post is, and where its first byte and the next post are
pub record Lies (bytes : List ℕ) (place : ℕ) (post : Post) : Type 0 where
  pub within : place < length bytes
  pub first : post.first ≡ place + 3
  pub later : place < next_place post
  pub next : post.first ≤ next_place post

pub post_at-lies : (bytes : List ℕ) (place : ℕ) (post : Post) → post_at bytes place ≡ Some post → Lies bytes place post
unfolding post_in next_place
post_at-lies bytes place post h =
    let begins_there = begins bytes place post h in
    let first_is : post.first ≡ place + 3 = ap (λ (p : Post). p.first) (sym begins_there.read) in
    record { within = is_post-within bytes place begins_there.is; first = first_is; later = omega arith; next = omega arith }

not_there : (bytes : List ℕ) (place : ℕ) (b : Bool) → is_post bytes place ≡ b → (if b then Some (post_in bytes place) else None) ≡ None → is_post bytes place ≡ false
not_there bytes place false e h = e
not_there bytes place true e h = cc

pub posts_at-none : (bytes : List ℕ) (place : ℕ) (y : ℤ) → post_at bytes place ≡ None → posts_at bytes place y ≡ []
unfolding post_at posts_at
posts_at-none bytes place y h = rw (posts-none bytes place (not_there bytes place (is_post bytes place) refl h))

posts_at-some : (bytes : List ℕ) (place : ℕ) (y : ℤ) (post : Post) → post_at bytes place ≡ Some post → posts_at bytes place y ≡ placed_post (y +ℤ pos post.topdelta) post bytes ∷ posts_at bytes (next_place post) y
unfolding posts_at
posts_at-some bytes place y post h =
    let begins_there = begins bytes place post h in
    let posts_are : posts bytes place ≡ post ∷ posts bytes (next_place post) =
    posts-some bytes place begins_there.is ∙ ap (λ (p : Post). p ∷ posts bytes (next_place p)) begins_there.read in
    ap (map (λ (p : Post). placed_post (y +ℤ pos p.topdelta) p bytes)) posts_are

-- no post is left
pub put_all : (bytes : List ℕ) (place : ℕ) (y : ℤ) (column : List ℕ) → post_at bytes place ≡ None → column ≡ with_posts column (posts_at bytes place y)
put_all bytes place y column h = with_posts-none column ∙ ap (with_posts column) (sym (posts_at-none bytes place y h))

-- one post is put, and those after it are left
pub put_one : (bytes : List ℕ) (place next : ℕ) (y row : ℤ) (post : Post) (column new : List ℕ) → post_at bytes place ≡ Some post → next ≡ next_place post → row ≡ y +ℤ pos post.topdelta → new ≡ with_posts column (placed_post row post bytes ∷ []) → with_posts new (posts_at bytes next y) ≡ with_posts column (posts_at bytes place y)
put_one bytes place next y row post column new h n r e =
    ap (λ (c : List ℕ). with_posts c (posts_at bytes next y)) e
    ∙ with_posts-append column (placed_post row post bytes ∷ []) (posts_at bytes next y)
    ∙ ap (λ (z : ℤ). with_posts column (placed_post z post bytes ∷ posts_at bytes next y)) r
    ∙ ap (λ (m : ℕ). with_posts column (placed_post (y +ℤ pos post.topdelta) post bytes ∷ posts_at bytes m y)) n
    ∙ ap (with_posts column) (sym (posts_at-some bytes place y post h))

-- the lump ends in the last post that is put
pub put_last : (bytes : List ℕ) (place : ℕ) (y row : ℤ) (post : Post) (column new : List ℕ) → post_at bytes place ≡ Some post → length bytes ≤ post.first → row ≡ y +ℤ pos post.topdelta → new ≡ with_posts column (placed_post row post bytes ∷ []) → new ≡ with_posts column (posts_at bytes place y)
put_last bytes place y row post column new h l r e =
    let post_lies = post_at-lies bytes place post h in
    put_all bytes (next_place post) y new (post_at-past bytes (next_place post) (omega arith))
    ∙ put_one bytes place (next_place post) y row post column new h refl r e
