-- Columns of a composite while the posts of a patch are put into them (R_GenerateComposite,
-- R_DrawColumnInCache, r_data.c).
use Rattle.std.specs.Prelude.{◌≡◌, ℕ, cond, ℤ, pos, negsuc, ◌+ℤ◌, List, [], ◌∷◌, length, map, unwrap_or, slice_index, refl}
use Rattle.patch_columns.specs.Rules.{PlacedPatch, PlacedPost, Post, byte_at, column_place, first_row, is_put_at, last_put, listed, natural, own_column, posts, put_byte, put_count, rows_above, stands_in}

-- a post whose first byte has that row in its texture
unfoldable pub placed_post : ℤ → Post → List ℕ → PlacedPost
placed_post row post bytes = record { row = row; post = post; bytes = bytes }

-- the posts from a place of a patch on, the patch's top row being y
unfoldable pub posts_at : List ℕ → ℕ → ℤ → List PlacedPost
posts_at bytes place y =
    map (λ (post : Post). placed_post (y +ℤ pos post.topdelta) post bytes) (posts bytes place)

-- the posts of a patch in column x of its texture, none where it does not stand there
unfoldable pub posts_in : List ℕ → PlacedPatch → ℕ → List PlacedPost
posts_in bytes patch x =
    cond (stands_in x patch) (posts_at bytes (column_place bytes (own_column x patch)) patch.y) []

-- row v of a column once these posts are put into it
unfoldable pub row_with : List ℕ → List PlacedPost → ℕ → ℕ
row_with column placed v = unwrap_or (last_put (length column) v placed) (slice_index column v)

-- a column once these posts are put into it
unfoldable pub with_posts : List ℕ → List PlacedPost → List ℕ
with_posts column placed = listed (row_with column placed) (length column)

-- a post that hangs over the top by two rows, put into a column of four: its first two bytes stand
-- at rows 0 and 1, the others keep what they had
pub hanging_post_row : with_posts (5 ∷ 6 ∷ 7 ∷ 8 ∷ [])
    (placed_post (negsuc 1) (record { topdelta = 0; length = 4; first = 0 })
    (11 ∷ 12 ∷ 13 ∷ 14 ∷ []) ∷ []) ≡ 11 ∷ 12 ∷ 7 ∷ 8 ∷ []
unfolding with_posts row_with placed_post listed last_put is_put_at put_byte put_count first_row
    rows_above natural byte_at
hanging_post_row = refl
