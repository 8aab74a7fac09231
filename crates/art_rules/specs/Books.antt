-- The book of the frames that things need, or why it is refused.
use Rattle.std.specs.Prelude.{ℕ, suc, ◌==◌, ◌&&◌, Bool, not, List, [], ◌∷◌, filter, find, map, Option, slice_get, Result, Ok}
use Rattle.std.specs.List.{range_with_len}
use Rattle.std.specs.Option.{ok_or, option_and_then}
use Rattle.std.specs.Str.{bytes_eq}
use Rattle.outside.specs.Faults.{and_then}
use Rattle.word_rules.specs.Listed.{joined_lists}
use Rattle.lump_rules.specs.{declared.wad.Lump.Lump, Contents.lump_bytes}
use Rattle.art_rules.specs.{declared.Mention.Mention, declared.patch.Patch.Patch}
use Rattle.art_rules.specs.declared.TheConstants.{ROTATIONS}
use Rattle.art_rules.specs.{declared.refusal.SpriteRefusal.SpriteRefusal, Patches.patch_of}
use Rattle.art_rules.specs.declared.refusal.SpriteRefusal.TheVariants.{NoFrame, MissingRotation, BadPatch}
use Rattle.art_rules.specs.Frames.{mentions, last_that, is_of_frame, frame_picture}
use Rattle.art_rules.specs.{declared.shapes.Need.Need, declared.shapes.Shape.Shape}
use Rattle.art_rules.specs.declared.shapes.Frame.{Frame}

-- what f gives of the items in their order, or the first refusal
unfoldable pub each_of : {X Y R : Type 0} → (X → Result Y R) → List X → Result (List Y) R
each_of f [] = Ok []
each_of f (x ∷ xs) = and_then (f x) (λ y. and_then (each_of f xs) (λ ys. Ok (y ∷ ys)))

-- the last mention of a needed frame
unfoldable pub last_mention : List Mention → Need → Result Mention SpriteRefusal
last_mention all need = ok_or (last_that (is_of_frame need.frame) all) (NoFrame need.thing)

-- its picture from the k-th rotation
unfoldable pub picture_or_missing : List Mention → Need → ℕ → Result Mention SpriteRefusal
picture_or_missing all need k =
    ok_or (frame_picture all need.frame k) (MissingRotation need.thing (suc k))

-- its pictures from the eight rotations, in order
unfoldable pub pictures_of : List Mention → Need → Result (List Mention) SpriteRefusal
pictures_of all need =
    and_then (last_mention all need)
    (λ last. each_of (picture_or_missing all need) (range_with_len 0 ROTATIONS))

-- how a picture is drawn whose lump is that patch
unfoldable pub shape_in : Mention → Patch → Shape
shape_in mention patch =
    record {
      lump = record { 0 = mention.lump };
      flip = mention.flip;
      width = patch.width;
      left = patch.left;
      top = patch.top;
    }

-- the patch that a lump is
unfoldable pub patch_or_bad : (ℕ → List ℕ) → ℕ → Result Patch SpriteRefusal
patch_or_bad bytes lump = ok_or (patch_of (bytes lump)) (BadPatch lump)

unfoldable pub shape_of : (ℕ → List ℕ) → Mention → Result Shape SpriteRefusal
shape_of bytes mention =
    and_then (patch_or_bad bytes mention.lump) (λ patch. Ok (shape_in mention patch))

-- a needed frame, with its shapes
unfoldable pub frame_in : Need → List Shape → Frame
frame_in need shapes = record { sprite = need.sprite; frame = need.frame; shapes = shapes }

unfoldable pub frame_of : (ℕ → List ℕ) → List Lump → Need → Result Frame SpriteRefusal
frame_of bytes lumps need =
    and_then (pictures_of (mentions lumps need.sprite) need) (λ pictures.
    and_then (each_of (shape_of bytes) pictures) (λ shapes. Ok (frame_in need shapes)))

-- two needs of one frame
unfoldable pub same_frame : Need → Need → Bool
same_frame need other = bytes_eq need.sprite other.sprite && (need.frame == other.frame)

-- the needs of different frames: of each frame the first
unfoldable pub first_needs : List Need → List Need
first_needs [] = []
first_needs (need ∷ rest) = need ∷ filter (λ other. not (same_frame need other)) (first_needs rest)

-- the frames that are needed, in the order in which they are first needed
unfoldable pub book_of : List (List ℕ) → List Lump → List Need → Result (List Frame) SpriteRefusal
book_of contents lumps needs =
    each_of (frame_of (lump_bytes contents lumps) lumps) (first_needs needs)

-- what the directory alone tells of a frame: the lumps of its shapes, and which are flipped
pub record Outline : Type 0 where
  pub sprite : List ℕ
  pub frame : ℕ
  pub pictures : List (ℕ × Bool)

unfoldable pub shape_outline : Shape → ℕ × Bool
shape_outline shape = (shape.lump.0, shape.flip)

unfoldable pub outline : Frame → Outline
outline frame =
    record { sprite = frame.sprite; frame = frame.frame; pictures = map shape_outline frame.shapes }

unfoldable pub mention_outline : Mention → ℕ × Bool
mention_outline mention = (mention.lump, mention.flip)

unfoldable pub outline_in : Need → List Mention → Outline
outline_in need pictures =
    record { sprite = need.sprite; frame = need.frame; pictures = map mention_outline pictures }

unfoldable pub outline_of : List Lump → Need → Result Outline SpriteRefusal
outline_of lumps need =
    and_then (pictures_of (mentions lumps need.sprite) need)
    (λ pictures. Ok (outline_in need pictures))

unfoldable pub outlines_of : List Lump → List Need → Result (List Outline) SpriteRefusal
outlines_of lumps needs = each_of (outline_of lumps) (first_needs needs)

-- the shape of a frame from a rotation, None where the book does not have the frame
unfoldable pub is_frame : List ℕ → ℕ → Frame → Bool
is_frame sprite letter frame = bytes_eq frame.sprite sprite && (frame.frame == letter)

unfoldable pub picked : List Frame → List ℕ → ℕ → ℕ → Option Shape
picked book sprite letter rotation =
    option_and_then (λ (frame : Frame). slice_get frame.shapes rotation)
    (find (is_frame sprite letter) book)

-- the lumps of all shapes
unfoldable pub shape_lumps : Frame → List ℕ
shape_lumps frame = map (λ (shape : Shape). shape.lump.0) frame.shapes

unfoldable pub book_lumps : List Frame → List ℕ
book_lumps book = joined_lists shape_lumps book
