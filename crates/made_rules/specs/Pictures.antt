-- Palette, light maps, flats and patches.
use Rattle.std.specs.Prelude.{ℕ, ◌+◌, ◌-◌, ◌*◌, ◌/◌, ◌%◌, List, [], ◌∷◌, ◌++◌, sum_by}
use Rattle.std.specs.List.{flat_map}
use Rattle.word_rules.specs.Listed.{listed}
use Rattle.made_rules.specs.declared.pictures.TheConstants.{COLOURS, COLORMAPS, FLAT_SIZE}
use Rattle.made_rules.specs.{declared.pictures.Picture.Picture, declared.pictures.Post.Post}
use Rattle.made_rules.specs.Bytes.{halves, word_bytes, records}

-- colour i: red rises, green falls, blue goes round seven times
unfoldable pub colour_bytes : ℕ → List ℕ
colour_bytes i = i ∷ (255 - i) ∷ (7 * i % 256) ∷ []

unfoldable pub made_palette : List ℕ
made_palette = records colour_bytes COLOURS

-- byte k of the light maps: colour k % 256 in map k / 256, darker from map to map
unfoldable pub colormap_byte : ℕ → ℕ
colormap_byte k = k % COLOURS * (COLORMAPS - k / COLOURS) / COLORMAPS

unfoldable pub made_colormaps : List ℕ
made_colormaps = listed colormap_byte (COLORMAPS * COLOURS)

-- byte k of flat a
unfoldable pub made_flat_byte : ℕ → ℕ → ℕ
made_flat_byte a k = k * (2 * a + 3) % 256

unfoldable pub made_flat : ℕ → List ℕ
made_flat a = listed (made_flat_byte a) FLAT_SIZE

-- the byte of column x at the k-th row from row `top` on
unfoldable pub made_texel : ℕ → ℕ → ℕ → ℕ → ℕ
made_texel seed x top k = (seed + 3 * x + 5 * (top + k)) % 256

-- a post: its first row, its length, a byte unread, its texels, a byte unread
unfoldable pub post_bytes : ℕ → ℕ → Post → List ℕ
post_bytes seed x post = post.top ∷ post.length ∷ 0 ∷ [] ++ listed (made_texel seed x post.top) post.length ++ 0 ∷ []

-- column x: its posts, and the end
unfoldable pub column_bytes : ℕ → List Post → ℕ → List ℕ
column_bytes seed posts x = flat_map (post_bytes seed x) posts ++ 255 ∷ []

-- the bytes of each column
unfoldable pub column_size : List Post → ℕ
column_size posts = sum_by (λ post. post.length + 4) posts + 1

-- where column x begins: behind the head, the places of all columns and the columns before it
unfoldable pub made_column_place : ℕ → ℕ → ℕ → List ℕ
made_column_place width size x = word_bytes (8 + 4 * width + x * size)

-- a picture in columns, all with the same posts
unfoldable pub made_patch : Picture → List Post → List ℕ
made_patch picture posts =
    halves (picture.width ∷ picture.height ∷ picture.left ∷ picture.top ∷ [])
    ++ records (made_column_place picture.width (column_size posts)) picture.width
    ++ records (column_bytes picture.seed posts) picture.width

-- one post that fills the column
abbrev pub whole_column : ℕ → List Post
whole_column height = record { top = 0; length = height } ∷ []

-- the upper and the lower quarter
abbrev pub grate_column : List Post
grate_column = record { top = 0; length = 32 } ∷ record { top = 96; length = 32 } ∷ []
