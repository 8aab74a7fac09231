-- The pictures of a sprite's frame, by the names of sprite lumps (R_InitSpriteDefs, r_things.c).
use Rattle.std.specs.Prelude.{◌≡◌, ℕ, suc, ◌+◌, ◌-◌, ◌==◌, ◌&&◌, Bool, true, false, cond, nat_le, List, [], ◌∷◌, ◌++◌, take, Option, Some, None, slice_index, refl}
use Rattle.std.specs.Str.{bytes_eq}
use Rattle.word_rules.specs.{Least.or_else, Listed.joined_lists}
use Rattle.lump_rules.specs.{declared.wad.Lump.Lump, declared.names.Group.TheVariants.Sprites}
use Rattle.lump_rules.specs.Lookups.{lump_at, members}
use Rattle.art_rules.specs.declared.Mention.{Mention}
use Rattle.art_rules.specs.declared.TheConstants.{SPRITE_LETTERS, SECOND_PAIR_AT, FIRST_FRAME, LAST_FRAME, FIRST_ROTATION, LAST_ROTATION}

-- a frame letter and a rotation digit
unfoldable pub is_pair : ℕ → ℕ → Bool
is_pair letter digit = nat_le FIRST_FRAME letter && nat_le letter LAST_FRAME
    && nat_le FIRST_ROTATION digit && nat_le digit LAST_ROTATION

-- what the pair at an offset of the name mentions, nothing where it is no such pair
unfoldable pub mention_at : ℕ → List ℕ → ℕ → Bool → List Mention
mention_at lump name offset flip =
    cond (is_pair (slice_index name offset) (slice_index name (offset + 1)))
    (record {
      lump = lump;
      frame = slice_index name offset;
      rotation = slice_index name (offset + 1) - FIRST_ROTATION;
      flip = flip;
    } ∷ [])
    []

-- a name mentions one frame and rotation, and perhaps a second one, whose picture is flipped
unfoldable pub name_mentions : ℕ → List ℕ → List Mention
name_mentions lump name =
    mention_at lump name SPRITE_LETTERS false
    ++ cond (slice_index name SECOND_PAIR_AT == 0) [] (mention_at lump name SECOND_PAIR_AT true)

-- a lump's name begins with the sprite's letters
unfoldable pub is_of_sprite : List ℕ → List ℕ → Bool
is_of_sprite sprite name = bytes_eq (take SPRITE_LETTERS name) sprite

unfoldable pub lump_mentions : List Lump → List ℕ → ℕ → List Mention
lump_mentions lumps sprite number =
    cond (is_of_sprite sprite (lump_at lumps number).name)
    (name_mentions number (lump_at lumps number).name) []

-- the mentions of a sprite, by lump and first pair before second
unfoldable pub mentions : List Lump → List ℕ → List Mention
mentions lumps sprite = joined_lists (lump_mentions lumps sprite) (members Sprites lumps)

-- the last that passes
unfoldable pub last_that : (Mention → Bool) → List Mention → Option Mention
last_that passes [] = None
last_that passes (mention ∷ rest) =
    or_else (last_that passes rest) (cond (passes mention) (Some mention) None)

unfoldable pub is_of_frame : ℕ → Mention → Bool
is_of_frame frame mention = mention.frame == frame

unfoldable pub is_of_rotation : ℕ → ℕ → Mention → Bool
is_of_rotation frame rotation mention = is_of_frame frame mention && (mention.rotation == rotation)

-- the picture of a frame from the k-th rotation, 0 to 7, where its last mention is this one: the
-- same from all eight, or the last mention of the frame with that rotation
unfoldable pub picture_by : List Mention → ℕ → Mention → ℕ → Option Mention
picture_by all frame last k =
    cond (last.rotation == 0) (Some last) (last_that (is_of_rotation frame (suc k)) all)

unfoldable pub picture_if : List Mention → ℕ → Option Mention → ℕ → Option Mention
picture_if all frame None k = None
picture_if all frame (Some last) k = picture_by all frame last k

unfoldable pub frame_picture : List Mention → ℕ → ℕ → Option Mention
frame_picture all frame k = picture_if all frame (last_that (is_of_frame frame) all) k

-- TREEA0, and TREEA2A8, whose second mention is flipped
pub name_mentions_row : name_mentions 7 (84 ∷ 82 ∷ 69 ∷ 69 ∷ 65 ∷ 50 ∷ 65 ∷ 56 ∷ []) ≡
    record { lump = 7; frame = 65; rotation = 2; flip = false }
    ∷ record { lump = 7; frame = 65; rotation = 8; flip = true } ∷ []
unfolding name_mentions mention_at is_pair
name_mentions_row = refl

pub one_mention_row : name_mentions 3 (84 ∷ 82 ∷ 69 ∷ 69 ∷ 65 ∷ 48 ∷ 0 ∷ 0 ∷ []) ≡
    record { lump = 3; frame = 65; rotation = 0; flip = false } ∷ []
unfolding name_mentions mention_at is_pair
one_mention_row = refl
