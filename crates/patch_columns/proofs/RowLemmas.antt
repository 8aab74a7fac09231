-- Laws of the rows of a column while one post is put there byte by byte.
use Rattle.art_rules.proofs.Common.{[], arith, Bool, cases_eq, cond, false, get_or, get_or-set_other, get_or-set_same, inl, inr, length, List, nat_le, nat_lt, nat_tests, None, refl, Some, true, unwrap_or, within-row, ℕ, ℤ, ◌&&◌, ◌+◌, ◌-◌, ◌<◌, ◌∙◌, ◌∷◌, ◌≡◌, ◌≢◌, set}
use Rattle.art_rules.specs.Words.{byte_at, first_row, is_put_at, last_put, or_else, Post, put_byte, put_count}
use Rattle.art_rules.proofs.Laws.{listed-all}
use Rattle.patch_columns.specs.Composites.{placed_post, row_with, with_posts}

-- each byte of a post that is put has a row
pub put_count-room : (height len first count k : ℕ) (row : ℤ) → first ≡ first_row row → count ≡ put_count height row len → k < count → first + k < height
unfolding put_count
put_count-room height len first count k row f e h = omega arith

pub put_count-bytes : (height len count k : ℕ) (row : ℤ) → count ≡ put_count height row len → k < count → k < len
unfolding put_count
put_count-bytes height len count k row e h = omega arith

-- row v once the first k bytes of a post are put from row first on
unfoldable pub row_so_far : List ℕ → ℕ → ℕ → ℕ → List ℕ → ℕ → ℕ
row_so_far bytes from first k old v =
    cond (nat_le first v && nat_lt v (first + k)) (byte_at bytes (from + (v - first))) (get_or old v 0)

pub row_so_far-none : (bytes : List ℕ) (from first v : ℕ) (old : List ℕ) → get_or old v 0 ≡ row_so_far bytes from first 0 old v
unfolding row_so_far
row_so_far-none bytes from first v old =
    let row_outside : (nat_le first v && nat_lt v (first + 0)) ≡ false = grind (arith, nat_tests) in rw row_outside

other_row : (first k v : ℕ) → v ≢ first + k → (nat_le first v && nat_lt v (first + k)) ≡ (nat_le first v && nat_lt v (first + (k + 1)))
other_row first k v ne = grind (arith, nat_tests)

-- one byte more
pub row_so_far-more : (bytes : List ℕ) (from first k byte v : ℕ) (old column : List ℕ) → byte ≡ byte_at bytes (from + k) → first + k < length column → get_or column v 0 ≡ row_so_far bytes from first k old v → get_or (set column (first + k) byte) v 0 ≡ row_so_far bytes from first (k + 1) old v
unfolding row_so_far
row_so_far-more bytes from first k byte v old column b l h =
    elim (cases_eq v (first + k)) [
      | inl e ↦
          let offset_is : v - first ≡ k = omega arith in
          rw (within-row first k v e, offset_is, e, get_or-set_same) b
      | inr ne ↦ rw (get_or-set_other, ← other_row first k v ne) h
    ]

choice : (b : Bool) (x y : ℕ) → cond b x y ≡ unwrap_or (or_else None (cond b (Some x) None)) y
choice true x y = refl
choice false x y = refl

-- all bytes of a post that are put
pub row_so_far-all : (bytes : List ℕ) (row : ℤ) (post : Post) (first count : ℕ) (old column : List ℕ) → first ≡ first_row row → count ≡ put_count (length old) row post.length → length column ≡ length old → ((v : ℕ) → get_or column v 0 ≡ row_so_far bytes post.first first count old v) → column ≡ with_posts old (placed_post row post bytes ∷ [])
unfolding row_so_far with_posts row_with last_put is_put_at put_byte placed_post
row_so_far-all bytes row post first count old column f n l h =
    listed-all (row_with old (placed_post row post bytes ∷ [])) column (length old) 0 l
    (λ v s. rw (← f, ← n) (h v ∙ choice (nat_le first v && nat_lt v (first + count)) (byte_at bytes (post.first + (v - first))) (get_or old v 0)))
