-- The columns of a texture: the patches that stand in them, and what is composed of several
-- (R_GenerateLookup, R_GenerateComposite, R_DrawColumnInCache, r_data.c).
use Rattle.std.specs.Prelude.{◌≡◌, ℕ, ◌+◌, ◌-◌, ◌*◌, ◌==◌, ◌&&◌, Bool, cond, nat_lt, nat_le, ℤ, pos, negsuc, ◌+ℤ◌, ◌-ℤ◌, int_lt, int_le, List, [], ◌∷◌, length, filter, map, min, unwrap_or, Option, Some, None, refl}
use Rattle.std.specs.List.{range_with_len}
use Rattle.word_rules.specs.{Least.or_else, Listed.listed, Listed.joined_lists, Words.natural}
use Rattle.pixel_rules.specs.declared.Post.{Post}
use Rattle.art_rules.specs.declared.PlacedPatch.{PlacedPatch}
use Rattle.word_rules.specs.Bytes.{byte_at}
use Rattle.art_rules.specs.declared.layout.TheConstants.{POST_BYTES_AT}
use Rattle.art_rules.specs.Patches.{column_place, posts}

-- a patch stands in column x of its texture
unfoldable pub stands_in : ℕ → PlacedPatch → Bool
stands_in x patch = int_le patch.x (pos x) && int_lt (pos x) (patch.x +ℤ pos patch.width)

-- the patches that stand in a column, in order
unfoldable pub patches_in : List PlacedPatch → ℕ → List PlacedPatch
patches_in patches x = filter (stands_in x) patches

-- which column of the patch stands in column x of the texture
unfoldable pub own_column : ℕ → PlacedPatch → ℕ
own_column x patch = natural (pos x -ℤ patch.x)

-- a column is composed where several patches stand in it
unfoldable pub is_composed : List PlacedPatch → ℕ → Bool
is_composed patches x = nat_lt 1 (length (patches_in patches x))

unfoldable pub is_single : List PlacedPatch → ℕ → Bool
is_single patches x = length (patches_in patches x) == 1

-- the composed columns among the first n, and how many they are
unfoldable pub composed_columns : List PlacedPatch → ℕ → List ℕ
composed_columns patches n = filter (is_composed patches) (range_with_len 0 n)

unfoldable pub composed_count : List PlacedPatch → ℕ → ℕ
composed_count patches n = length (composed_columns patches n)

-- the bytes of a composite: its composed columns, each of the texture's height
unfoldable pub composite_size : List PlacedPatch → ℕ → ℕ → ℕ
composite_size patches width height = height * composed_count patches width

-- where in the composite a composed column begins
unfoldable pub composite_place : List PlacedPatch → ℕ → ℕ → ℕ
composite_place patches height x = height * composed_count patches x

-- a post in a texture: the row of its first byte, before it is cut, its length, and its lump's
-- bytes
pub record PlacedPost : Type 0 where
  pub row : ℤ
  pub post : Post
  pub bytes : List ℕ

-- the row from which a post is put, at least 0, and how many bytes of it; those above row 0 are
-- taken off its end
unfoldable pub first_row : ℤ → ℕ
first_row row = natural row

unfoldable pub rows_above : ℤ → ℕ
rows_above row = natural (pos 0 -ℤ row)

unfoldable pub put_count : ℕ → ℤ → ℕ → ℕ
put_count height row len = min (len - rows_above row) (height - first_row row)

-- a post is put at row v of a composed column
unfoldable pub is_put_at : ℕ → ℕ → PlacedPost → Bool
is_put_at height v placed =
    nat_le (first_row placed.row) v
    && nat_lt v (first_row placed.row + put_count height placed.row placed.post.length)

-- what it puts there
unfoldable pub put_byte : ℕ → PlacedPost → ℕ
put_byte v placed = byte_at placed.bytes (placed.post.first + (v - first_row placed.row))

-- the byte of the last post that is put at row v
unfoldable pub last_put : ℕ → ℕ → List PlacedPost → Option ℕ
last_put height v [] = None
last_put height v (placed ∷ rest) =
    or_else (last_put height v rest)
    (cond (is_put_at height v placed) (Some (put_byte v placed)) None)

-- the byte at row v of a composed column, 0 where no post is put
unfoldable pub composed_byte : ℕ → List PlacedPost → ℕ → ℕ
composed_byte height placed v = unwrap_or (last_put height v placed) 0

-- the posts of a patch in column x of its texture; bytes gives those of a lump
unfoldable pub placed_posts : (ℕ → List ℕ) → ℕ → PlacedPatch → List PlacedPost
placed_posts bytes x patch =
    map (λ post. record
    { row = patch.y +ℤ pos post.topdelta; post = post; bytes = bytes patch.lump })
    (posts (bytes patch.lump) (column_place (bytes patch.lump) (own_column x patch)))

-- the posts of a column, patch by patch
unfoldable pub column_posts : (ℕ → List ℕ) → List PlacedPatch → ℕ → List PlacedPost
column_posts bytes patches x = joined_lists (placed_posts bytes x) (patches_in patches x)

-- a composed column
unfoldable pub composed_column : (ℕ → List ℕ) → List PlacedPatch → ℕ → ℕ → List ℕ
composed_column bytes patches height x =
    listed (composed_byte height (column_posts bytes patches x)) height

-- the composite of a texture
unfoldable pub composite : (ℕ → List ℕ) → List PlacedPatch → ℕ → ℕ → List ℕ
composite bytes patches width height =
    joined_lists (composed_column bytes patches height) (composed_columns patches width)

-- texel r of a column: of its one patch, or of the composite, 0 where no patch stands; a composed
-- column goes on in the next one
unfoldable pub patch_texel : (ℕ → List ℕ) → ℕ → PlacedPatch → ℕ → ℕ
patch_texel bytes x patch r =
    byte_at (bytes patch.lump)
    (column_place (bytes patch.lump) (own_column x patch) + POST_BYTES_AT + r)

unfoldable pub texel_of : (ℕ → List ℕ) → List PlacedPatch → List PlacedPatch → ℕ → ℕ → ℕ → ℕ → ℕ
texel_of bytes [] patches width height x r = 0
texel_of bytes (patch ∷ []) patches width height x r = patch_texel bytes x patch r
texel_of bytes (first ∷ second ∷ rest) patches width height x r =
    byte_at (composite bytes patches width height) (composite_place patches height x + r)

unfoldable pub texel : (ℕ → List ℕ) → List PlacedPatch → ℕ → ℕ → ℕ → ℕ → ℕ
texel bytes patches width height x r =
    texel_of bytes (patches_in patches x) patches width height x r

-- a post that hangs over the top of a texture of four rows: its first two bytes stand at rows 0 and
-- 1
pub hanging_row : listed
    (composed_byte 4
    (record {
      row = negsuc 1;
      post = record { topdelta = 0; length = 4; first = 0 };
      bytes = 11 ∷ 12 ∷ 13 ∷ 14 ∷ [];
    } ∷ [])) 4 ≡ 11 ∷ 12 ∷ 0 ∷ 0 ∷ []
unfolding listed composed_byte last_put is_put_at put_byte put_count first_row rows_above natural
    byte_at
hanging_row = refl
