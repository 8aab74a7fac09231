-- A book of frames by a directory that holds its pictures: the same, with the lumps of its shapes moved.
use Rattle.art_rules.proofs.Common.{[], AllByRecursion, ap, arith, Bool, Decides-eqb, false, List, list_any, map, None, Ok, Option, range_with_len, refl, Result, Some, some-injective, subst, suc, sym, true, ℕ, ◌<◌, ◌==◌, ◌||◌, ◌∙◌, ◌∷◌, ◌≡◌}
use Rattle.trim_rules.specs.Rules.{BadPatch, Frame, Lump, Mention, MissingRotation, Need, NoFrame, Patch, ROTATIONS, Shape, and_then, book_lumps, each_of, frame_in, frame_of, frame_picture, is_of_frame, joined_lists, last_mention, last_that, mentions, patch_of, patch_or_bad, picture_if, picture_or_missing, pictures_of, shape_in, shape_lumps, shape_of}
use Rattle.art_rules.proofs.Laws.{and_then-ok}
use Rattle.trim_rules.proofs.AnswerLemmas.{ok_of, some_value}
use Rattle.trim_rules.proofs.FrameLemmas.{each-back, each-moved, last-pictured, range-all}
use Rattle.trim_rules.proofs.HeldSpriteLemmas.{HoldsPictures}
use Rattle.trim_rules.proofs.NamedLemmas.{any_left, any_right}
use Rattle.trim_rules.proofs.SpriteLemmas.{renumber, trimmed_picture}

-- a shape and a frame under other numbers
abbrev pub move_shape : (ℕ → ℕ) → Shape → Shape
move_shape σ s = record { lump = record { 0 = σ s.lump.0 }; flip = s.flip; width = s.width; left = s.left; top = s.top }

abbrev pub move_frame : (ℕ → ℕ) → Frame → Frame
move_frame σ f = record { sprite = f.sprite; frame = f.frame; shapes = map (move_shape σ) f.shapes }

-- a picture that is listed
abbrev pub IsPicture : List ℕ → ℕ → Type 0
IsPicture pictures n = list_any (λ m. m == n) pictures ≡ true

abbrev IsPictureMention : List ℕ → Mention → Type 0
IsPictureMention pictures m = IsPicture pictures m.lump

abbrev IsPictureShape : List ℕ → Shape → Type 0
IsPictureShape pictures s = IsPicture pictures s.lump.0

abbrev IsPictureFrame : List ℕ → Frame → Type 0
IsPictureFrame pictures f = AllByRecursion (IsPictureShape pictures) f.shapes

each-mapped : {X Y Z R : Type 0} (r : X → Y) (f : Y → Result Z R) (xs : List X) → each_of f (map r xs) ≡ each_of (λ x. f (r x)) xs
unfolding each_of
each-mapped r f [] = refl
each-mapped r f (x ∷ xs) = ap (λ rest. and_then (f (r x)) (λ y. and_then rest (λ ys. Ok (y ∷ ys)))) (each-mapped r f xs)

any_shape : (ss : List Shape) → AllByRecursion (λ s. Unit {0}) ss
any_shape [] = tt
any_shape (s ∷ ss) = (tt, any_shape ss)

-- the shape of a mention
shape_made : (bytes : ℕ → List ℕ) (m : Mention) (patch : Patch) → patch_of (bytes m.lump) ≡ Some patch → shape_of bytes m ≡ Ok (shape_in m patch)
unfolding shape_of patch_or_bad
shape_made bytes m patch is = rw is refl

module _ (σ : ℕ → ℕ) (bytes : ℕ → List ℕ) where
  shape-moved : (m : Mention) (s : Shape) → shape_of bytes (renumber σ m) ≡ Ok s → Unit {0} → (z : Shape) × (shape_of (λ n. bytes (σ n)) m ≡ Ok z) × (move_shape σ z ≡ s)
  unfolding shape_of patch_or_bad shape_in
  shape-moved m s e t =
      let patch = and_then-ok (patch_or_bad bytes (σ m.lump)) _ s e in
      let patch_there : patch_of (bytes (σ m.lump)) ≡ Some patch.0 = some_value (patch_of (bytes (σ m.lump))) (BadPatch (σ m.lump)) patch.0 patch.1 in
      (shape_in m patch.0, shape_made (λ n. bytes (σ n)) m patch.0 patch_there, ok_of (shape_in (renumber σ m) patch.0) s patch.2)

  shapes-moved : (ms : List Mention) (ss : List Shape) → each_of (shape_of bytes) (map (renumber σ) ms) ≡ Ok ss
      → (zs : List Shape) × (each_of (shape_of (λ n. bytes (σ n))) ms ≡ Ok zs) × (map (move_shape σ) zs ≡ ss)
  shapes-moved ms ss e =
      each-moved (λ m. shape_of bytes (renumber σ m)) (shape_of (λ n. bytes (σ n))) (move_shape σ) (λ s. Unit {0}) (λ m s is t. shape-moved m s is t) ms ss
      (sym (each-mapped (renumber σ) (shape_of bytes) ms) ∙ e) (any_shape ss)

-- a shape has the lump of its mention
shape_lump : (bytes : ℕ → List ℕ) (m : Mention) (s : Shape) → shape_of bytes m ≡ Ok s → m.lump ≡ s.lump.0
unfolding shape_of shape_in
shape_lump bytes m s e =
    let patch = and_then-ok (patch_or_bad bytes m.lump) _ s e in
    ap (λ (z : Shape). z.lump.0) (ok_of (shape_in m patch.0) s patch.2)

-- a frame that has a picture has a last mention
last_step : (all : List Mention) (frame k : ℕ) (o : Option Mention) (m : Mention) → last_that (is_of_frame frame) all ≡ o → picture_if all frame o k ≡ Some m
    → (last : Mention) × (last_that (is_of_frame frame) all ≡ Some last)
unfolding picture_if
last_step all frame k None m is e = absurd (cc)
last_step all frame k (Some last) m is e = (last, is)

last_there : (all : List Mention) (frame k : ℕ) (m : Mention) → frame_picture all frame k ≡ Some m → (last : Mention) × (last_that (is_of_frame frame) all ≡ Some last)
unfolding frame_picture
last_there all frame k m e = last_step all frame k (last_that (is_of_frame frame) all) m refl e

found_picture : (all : List Mention) (need : Need) (k : ℕ) (m : Mention) → picture_or_missing all need k ≡ Ok m → frame_picture all need.frame k ≡ Some m
unfolding picture_or_missing
found_picture all need k m e = some_value (frame_picture all need.frame k) (MissingRotation need.thing (suc k)) m e

-- Pictures that are listed, by each of the eight rotations.
module _ (all : List Mention) (need : Need) (pictures : List ℕ) (ms : List Mention)
    (are : each_of (picture_or_missing all need) (range_with_len 0 ROTATIONS) ≡ Ok ms) (listed : AllByRecursion (IsPictureMention pictures) ms) where
  picture_by_number : (k : ℕ) → k < ROTATIONS → (m : Mention) × (picture_or_missing all need k ≡ Ok m) × IsPictureMention pictures m
  picture_by_number k lt =
      range-all (λ j. (m : Mention) × (picture_or_missing all need j ≡ Ok m) × IsPictureMention pictures m) 0 ROTATIONS k
      (each-back (picture_or_missing all need) (λ j. (m : Mention) × (picture_or_missing all need j ≡ Ok m) × IsPictureMention pictures m) (IsPictureMention pictures)
      (λ j m e holds. (m, e, holds)) (range_with_len 0 ROTATIONS) ms are listed) (omega arith) (omega arith)

-- the last mention of a frame is listed where its pictures are
last_listed : (lumps : List Lump) (need : Need) (pictures : List ℕ) (ms : List Mention) (last : Mention)
    → each_of (picture_or_missing (mentions lumps need.sprite) need) (range_with_len 0 ROTATIONS) ≡ Ok ms → AllByRecursion (IsPictureMention pictures) ms
    → last_that (is_of_frame need.frame) (mentions lumps need.sprite) ≡ Some last → IsPictureMention pictures last
last_listed lumps need pictures ms last are listed e =
    let rotation_of_last = last-pictured lumps need.sprite need.frame last e in
    let picture_found = picture_by_number (mentions lumps need.sprite) need pictures ms are listed rotation_of_last.0 rotation_of_last.1 in
    subst (IsPictureMention pictures) (some-injective picture_found.0 last
    (sym (found_picture (mentions lumps need.sprite) need rotation_of_last.0 picture_found.0 picture_found.1) ∙ rotation_of_last.2)) picture_found.2

module _ (trimmed lumps : List Lump) (σ : ℕ → ℕ) (a : ℕ) (pictures : List ℕ) (held : HoldsPictures trimmed lumps σ a pictures) where
  picture-moved : (need : Need) (last : Mention) → last_that (is_of_frame need.frame) (mentions lumps need.sprite) ≡ Some last → IsPictureMention pictures last
      → (k : ℕ) (m : Mention) → picture_or_missing (mentions lumps need.sprite) need k ≡ Ok m → IsPictureMention pictures m
      → (n : Mention) × (picture_or_missing (mentions trimmed need.sprite) need k ≡ Ok n) × (renumber σ n ≡ m)
  unfolding picture_or_missing
  picture-moved need last is kept k m e holds =
      let picture_moved = trimmed_picture trimmed lumps σ (λ n. list_any (λ m. m == n) pictures) need.sprite a need.frame k last m held.are held.stand is kept
      (found_picture (mentions lumps need.sprite) need k m e) holds in
      (picture_moved.0, rw picture_moved.1 refl, picture_moved.2)

  pictures-moved : (need : Need) (ms : List Mention) → pictures_of (mentions lumps need.sprite) need ≡ Ok ms → AllByRecursion (IsPictureMention pictures) ms
      → (ns : List Mention) × (pictures_of (mentions trimmed need.sprite) need ≡ Ok ns) × (map (renumber σ) ns ≡ ms)
  unfolding pictures_of last_mention
  pictures-moved need ms e listed =
      let of_sprite = mentions lumps need.sprite in
      let last_found = and_then-ok (last_mention of_sprite need) _ ms e in
      let last_is : last_that (is_of_frame need.frame) of_sprite ≡ Some last_found.0 =
      some_value (last_that (is_of_frame need.frame) of_sprite) (NoFrame need.thing) last_found.0 last_found.1 in
      let last_is_listed = last_listed lumps need pictures ms last_found.0 last_found.2 listed last_is in
      let ns = each-moved (picture_or_missing of_sprite need) (picture_or_missing (mentions trimmed need.sprite) need) (renumber σ) (IsPictureMention pictures)
      (λ k m f holds. picture-moved need last_found.0 last_is last_is_listed k m f holds) (range_with_len 0 ROTATIONS) ms last_found.2 listed in
      let front_picture = picture_by_number of_sprite need pictures ms last_found.2 listed 0 (omega arith) in
      let moved = picture-moved need last_found.0 last_is last_is_listed 0 front_picture.0 front_picture.1 front_picture.2 in
      let last = last_there (mentions trimmed need.sprite) need.frame 0 moved.0 (found_picture (mentions trimmed need.sprite) need 0 moved.0 moved.1) in
      (ns.0, rw last.1 ns.1, ns.2)

  frame-moved : (bytes : ℕ → List ℕ) (need : Need) (frame : Frame) → frame_of bytes lumps need ≡ Ok frame → IsPictureFrame pictures frame
      → (moved : Frame) × (frame_of (λ n. bytes (σ n)) trimmed need ≡ Ok moved) × (move_frame σ moved ≡ frame)
  unfolding frame_of frame_in
  frame-moved bytes need frame e listed =
      let ms = and_then-ok (pictures_of (mentions lumps need.sprite) need) _ frame e in
      let ss = and_then-ok (each_of (shape_of bytes) ms.0) _ frame ms.2 in
      let frame_is : frame_in need ss.0 ≡ frame = ok_of (frame_in need ss.0) frame ss.2 in
      let shapes : AllByRecursion (IsPictureShape pictures) ss.0 = subst (IsPictureFrame pictures) (sym frame_is) listed in
      let mentioned = each-back (shape_of bytes) (IsPictureMention pictures) (IsPictureShape pictures) (λ m s f holds. subst (IsPicture pictures) (sym (shape_lump bytes m s f)) holds) ms.0 ss.0 ss.1 shapes in
      let ns = pictures-moved need ms.0 ms.1 mentioned in let new_shapes = shapes-moved σ bytes ns.0 ss.0 (ap (each_of (shape_of bytes)) ns.2 ∙ ss.1) in
      (frame_in need new_shapes.0, rw (ns.1, new_shapes.1) refl, ap (frame_in need) new_shapes.2 ∙ frame_is)

-- the shapes of a book are of its lumps
shapes_of_book : (pictures : List ℕ) (ss : List Shape) → ((n : ℕ) → list_any (λ m. m == n) (map (λ (s : Shape). s.lump.0) ss) ≡ true → IsPicture pictures n)
    → AllByRecursion (IsPictureShape pictures) ss
shapes_of_book pictures [] gives = tt
shapes_of_book pictures (s ∷ ss) gives =
    (gives s.lump.0 (or_left (s.lump.0 == s.lump.0) _ ((Decides-eqb s.lump.0 s.lump.0).1 refl)), shapes_of_book pictures ss (λ n any. gives n (or_right (s.lump.0 == n) _ any))) where
      or_right : (a b : Bool) → b ≡ true → (a || b) ≡ true
      or_right true b e = refl
      or_right false b e = e

      or_left : (a b : Bool) → a ≡ true → (a || b) ≡ true
      or_left true b e = refl
      or_left false b e = absurd (cc)

pub frames_of_book : (pictures : List ℕ) (book : List Frame) → ((n : ℕ) → list_any (λ m. m == n) (book_lumps book) ≡ true → IsPicture pictures n)
    → AllByRecursion (IsPictureFrame pictures) book
unfolding book_lumps joined_lists shape_lumps
frames_of_book pictures [] gives = tt
frames_of_book pictures (f ∷ fs) gives = (
  shapes_of_book pictures f.shapes (λ n any. gives n (any_left (λ m. m == n) (shape_lumps f) (book_lumps fs) any)),
  frames_of_book pictures fs (λ n any. gives n (any_right (λ m. m == n) (shape_lumps f) (book_lumps fs) any)),
)

-- A book whose pictures are listed, by a directory that holds them.
pub book-moved : (trimmed lumps : List Lump) (σ : ℕ → ℕ) (a : ℕ) (pictures : List ℕ) → HoldsPictures trimmed lumps σ a pictures
    → (bytes : ℕ → List ℕ) (needs : List Need) (book : List Frame) → each_of (frame_of bytes lumps) needs ≡ Ok book
    → ((n : ℕ) → list_any (λ m. m == n) (book_lumps book) ≡ true → IsPicture pictures n)
    → (moved : List Frame) × (each_of (frame_of (λ n. bytes (σ n)) trimmed) needs ≡ Ok moved) × (map (move_frame σ) moved ≡ book)
book-moved trimmed lumps σ a pictures held bytes needs book e gives =
    each-moved (frame_of bytes lumps) (frame_of (λ n. bytes (σ n)) trimmed) (move_frame σ) (IsPictureFrame pictures)
    (λ need frame is listed. frame-moved trimmed lumps σ a pictures held bytes need frame is listed) needs book e (frames_of_book pictures book gives)
