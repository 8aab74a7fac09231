-- A picture of a needed frame is in the book.
use Rattle.art_rules.proofs.Common.{[], and_parts, ap, Bool, bytes_eq, bytes_eq-Decides, Contains, eq-eqb, eqb-true, false, inl, inr, List, list_any, None, not, Ok, ok_or, Option, range_with_len, refl, Some, subst, suc, sym, true, ℕ, ◌==◌, ◌∙◌, ◌∷◌, ◌≡◌}
use Rattle.level_audit.specs.Rules.{Frame, Lump, Mention, Need, ROTATIONS, Shape, and_then, book_lumps, each_of, first_needs, frame_in, frame_of, frame_picture, is_of_frame, last_mention, last_that, mentions, patch_or_bad, picture_or_missing, pictures_of, same_frame, shape_in, shape_lumps, shape_of}
use Rattle.art_rules.proofs.Laws.{and_then-ok}
use Rattle.art_rules.specs.declared.refusal.SpriteRefusal.TheVariants.{MissingRotation, NoFrame}
use Rattle.sprite_book.specs.Calls.{IsWanted}
use Rattle.sound_scene.proofs.MemberLemmas.{among_cases, among_first, among_kept, among_later, among_none, any_joined, any_mapped, each_made, each_same}
use Rattle.sound_scene.proofs.SceneLemmas.{same_value}

-- of each needed frame there is a first need
pub record IsFirst (needs : List Need) (need : Need) : Type 0 where
  pub first : Need
  pub among : Contains (first_needs needs) first
  pub sprite : first.sprite ≡ need.sprite
  pub frame : first.frame ≡ need.frame

frame_parts : (a b : Need) → same_frame a b ≡ true → (a.sprite ≡ b.sprite) × (a.frame ≡ b.frame)
unfolding same_frame
frame_parts a b e =
    let parts_same = and_parts (bytes_eq a.sprite b.sprite) (a.frame == b.frame) e in
    ((bytes_eq-Decides a.sprite b.sprite).0 parts_same.0, eqb-true a.frame b.frame parts_same.1)

first_of : (needs : List Need) (need : Need) → Contains needs need → IsFirst needs need
unfolding first_needs
first_of [] need has = among_none need has
first_of (x ∷ needs) need has = elim (among_cases x needs need has) [
  | inl same ↦ record { first = x; among = among_first x _; sprite = ap (λ (n : Need). n.sprite) same; frame = ap (λ (n : Need). n.frame) same }
  | inr later ↦ go (first_of needs need later)
] where
  by_test : (f : IsFirst needs need) (b : Bool) → same_frame x f.first ≡ b → IsFirst (x ∷ needs) need
  by_test f true e =
      let frames_agree = frame_parts x f.first e in
      record { first = x; among = among_first x _; sprite = frames_agree.0 ∙ f.sprite; frame = frames_agree.1 ∙ f.frame }
  by_test f false e = record {
    first = f.first;
    among = among_later x _ f.first (among_kept (λ other. not (same_frame x other)) (first_needs needs) f.first f.among (ap not e));
    sprite = f.sprite;
    frame = f.frame;
  }

  go : IsFirst needs need → IsFirst (x ∷ needs) need
  go f = by_test f (same_frame x f.first) refl

-- a need of the same frame has the same pictures
found_else : {X E : Type 0} (o : Option X) (e other : E) (x : X) → ok_or o e ≡ Ok x → ok_or o other ≡ Ok x
found_else None e other x is = cc
found_else (Some y) e other x is = let value_same : y ≡ x = cc in ap Ok value_same

module _ (all : List Mention) (need first : Need) (frame : need.frame ≡ first.frame) where
  same_last : (mention : Mention) → last_mention all need ≡ Ok mention → last_mention all first ≡ Ok mention
  unfolding last_mention
  same_last mention e =
      ap (λ (f : ℕ). ok_or (last_that (is_of_frame f) all) (NoFrame first.thing)) (sym frame)
      ∙ found_else (last_that (is_of_frame need.frame) all) (NoFrame need.thing) (NoFrame first.thing) mention e

  same_picture : (k : ℕ) (mention : Mention) → picture_or_missing all need k ≡ Ok mention → picture_or_missing all first k ≡ Ok mention
  unfolding picture_or_missing
  same_picture k mention e =
      ap (λ (f : ℕ). ok_or (frame_picture all f k) (MissingRotation first.thing (suc k))) (sym frame)
      ∙ found_else (frame_picture all need.frame k) (MissingRotation need.thing (suc k)) (MissingRotation first.thing (suc k)) mention e

  same_pictures : (pictures : List Mention) → pictures_of all need ≡ Ok pictures → pictures_of all first ≡ Ok pictures
  unfolding pictures_of
  same_pictures pictures e =
      let last_mention_is = and_then-ok (last_mention all need) (λ last. each_of (picture_or_missing all need) (range_with_len 0 ROTATIONS)) pictures e in
      ap (λ r. and_then r (λ last. each_of (picture_or_missing all first) (range_with_len 0 ROTATIONS))) (same_last last_mention_is.0 last_mention_is.1)
      ∙ each_same (picture_or_missing all need) (picture_or_missing all first) same_picture (range_with_len 0 ROTATIONS) pictures last_mention_is.2

-- a shape is of the lump of its picture
shape_there : (bytes : ℕ → List ℕ) (mention : Mention) (shape : Shape) → shape_of bytes mention ≡ Ok shape → shape.lump.0 ≡ mention.lump
unfolding shape_of shape_in
shape_there bytes mention shape e =
    let patch_is = and_then-ok (patch_or_bad bytes mention.lump) (λ patch. Ok (shape_in mention patch)) shape e in
    let shape_same : shape_in mention patch_is.0 ≡ shape = cc in
    ap (λ (s : Shape). s.lump.0) (sym shape_same)

-- a frame has the lumps of its pictures
frame_lumps : (bytes : ℕ → List ℕ) (lumps : List Lump) (need : Need) (pictures : List Mention) (frame : Frame) (mention : Mention) → pictures_of (mentions lumps need.sprite) need ≡ Ok pictures → frame_of bytes lumps need ≡ Ok frame → Contains pictures mention → list_any (λ n. n == mention.lump) (shape_lumps frame) ≡ true
unfolding frame_of frame_in shape_lumps
frame_lumps bytes lumps need pictures frame mention are e has =
    let pictures_are = and_then-ok (pictures_of (mentions lumps need.sprite) need) (λ pictures. and_then (each_of (shape_of bytes) pictures) (λ shapes. Ok (frame_in need shapes))) frame e in
    let shapes_are = and_then-ok (each_of (shape_of bytes) pictures_are.0) (λ shapes. Ok (frame_in need shapes)) frame pictures_are.2 in
    let frame_same : frame_in need shapes_are.0 ≡ frame = cc in let shapes : shapes_are.0 ≡ frame.shapes = ap (λ (f : Frame). f.shapes) frame_same in
    let each_shape_is : each_of (shape_of bytes) pictures ≡ Ok frame.shapes
    = ap (each_of (shape_of bytes)) (same_value pictures pictures_are.0 are pictures_are.1) ∙ shapes_are.1 ∙ ap Ok shapes in
    let shape_is = each_made (shape_of bytes) pictures frame.shapes mention each_shape_is has in
    any_mapped (λ n. n == mention.lump) (λ (shape : Shape). shape.lump.0) frame.shapes shape_is.made shape_is.among (eq-eqb shape_is.made.lump.0 mention.lump (shape_there bytes mention shape_is.made shape_is.is))

-- the picture that may be asked for is of one of the book's shapes
pub needed_picture : (bytes : ℕ → List ℕ) (lumps : List Lump) (needs : List Need) (book : List Frame) (lump : ℕ) → each_of (frame_of bytes lumps) (first_needs needs) ≡ Ok book → IsWanted lumps needs lump → list_any (λ n. n == lump) (book_lumps book) ≡ true
unfolding book_lumps
needed_picture bytes lumps needs book lump e asked =
    let first_need = first_of needs asked.need asked.is in
    let wanted = asked.wanted in
    let mention = wanted.among.0 in
    let of_first : pictures_of (mentions lumps first_need.first.sprite) first_need.first ≡ Ok wanted.pictures =
    ap (λ s. pictures_of (mentions lumps s) first_need.first) first_need.sprite ∙ same_pictures (mentions lumps asked.need.sprite) asked.need first_need.first (sym first_need.frame) wanted.pictures wanted.are in
    let frame_is = each_made (frame_of bytes lumps) (first_needs needs) book first_need.first e first_need.among in
    let lump_in_frame = frame_lumps bytes lumps first_need.first wanted.pictures frame_is.made mention of_first frame_is.is wanted.among.1 in
    any_joined (λ n. n == lump) shape_lumps book frame_is.made frame_is.among (subst (λ (k : ℕ). list_any (λ n. n == k) (shape_lumps frame_is.made) ≡ true) wanted.among.2 lump_in_frame)
