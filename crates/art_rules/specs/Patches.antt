-- Patches: their columns, each a list of posts (patch_t, post_t, r_defs.h).
use Rattle.std.specs.Prelude.{◌≡◌, ℕ, zero, suc, ◌+◌, ◌*◌, ◌==◌, ◌&&◌, ◌||◌, Bool, not, nat_le, pos, int_le, if◌then◌else◌, List, [], ◌∷◌, length, Option, Some, None, refl}
use Rattle.pixel_rules.specs.declared.Post.{Post}
use Rattle.art_rules.specs.declared.patch.Patch.{Patch}
use Rattle.art_rules.specs.declared.layout.TheConstants.{PATCH_HEADER_SIZE, LEFT_AT, TOP_AT, COLUMN_PLACES_AT, COLUMN_PLACE_SIZE, POST_LENGTH_AT, POST_BYTES_AT, POSTS_END}
use Rattle.word_rules.specs.Bytes.{byte_at, half_at, signed_half_at, word_at}

-- a lump is a patch where its header is whole, its width is at least 1, and its columns have places
unfoldable pub is_patch : List ℕ → Bool
is_patch bytes =
    nat_le PATCH_HEADER_SIZE (length bytes)
    && int_le (pos 1) (signed_half_at bytes 0)
    && nat_le (COLUMN_PLACES_AT + COLUMN_PLACE_SIZE * half_at bytes 0) (length bytes)

unfoldable pub patch_in : List ℕ → Patch
patch_in bytes =
    record {
      width = half_at bytes 0;
      left = signed_half_at bytes LEFT_AT;
      top = signed_half_at bytes TOP_AT;
    }

unfoldable pub patch_of : List ℕ → Option Patch
patch_of bytes = if is_patch bytes then Some (patch_in bytes) else None

-- where the posts of column x begin
unfoldable pub column_place : List ℕ → ℕ → ℕ
column_place bytes x = word_at bytes (COLUMN_PLACES_AT + COLUMN_PLACE_SIZE * x)

-- a post begins at the place
unfoldable pub is_post : List ℕ → ℕ → Bool
is_post bytes place = not (nat_le (length bytes) place || (byte_at bytes place == POSTS_END))

unfoldable pub post_in : List ℕ → ℕ → Post
post_in bytes place =
    record {
      topdelta = byte_at bytes place;
      length = byte_at bytes (place + POST_LENGTH_AT);
      first = place + POST_BYTES_AT;
    }

unfoldable pub post_at : List ℕ → ℕ → Option Post
post_at bytes place = if is_post bytes place then Some (post_in bytes place) else None

-- where the post after this one begins: a byte after its texels
unfoldable pub next_place : Post → ℕ
next_place post = post.first + post.length + 1

-- at most n posts from a place on
unfoldable pub posts_from : ℕ → List ℕ → ℕ → List Post
posts_from zero bytes place = []
posts_from (suc n) bytes place =
    if is_post bytes place then post_in bytes place
    ∷ posts_from n bytes (next_place (post_in bytes place)) else []

-- the posts from a place on; each begins at a later byte, so there are no more of them than bytes
unfoldable pub posts : List ℕ → ℕ → List Post
posts bytes place = posts_from (length bytes) bytes place

-- a post of two texels at row 5 and one of none at row 7
pub posts_row : posts (5 ∷ 2 ∷ 0 ∷ 8 ∷ 9 ∷ 0 ∷ 7 ∷ 0 ∷ 0 ∷ 0 ∷ 255 ∷ []) 0 ≡
    record { topdelta = 5; length = 2; first = 3 } ∷ record { topdelta = 7; length = 0; first = 9 }
    ∷ []
unfolding posts posts_from is_post post_in next_place byte_at
posts_row = refl
