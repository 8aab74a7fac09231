-- The shapes of a frame, one picture after another, and the lumps of its pictures.
use Rattle.art_rules.proofs.Common.{[], All, All-append, All-cons, All-head, All-nil, All-tail, ap, Bool, cond, drop, drop-cons, Err, false, get_or, length, List, map, map-append, None, Ok, ok_or, Option, range_with_len, refl, Result, Some, subst, suc, sym, take, take-append-drop, take_more, take_more_set, true, ℕ, ◌++◌, ◌+◌, ◌-◌, ◌<◌, ◌==◌, ◌∙◌, ◌∷◌, ◌≡◌, set}
use Rattle.sprite_book.specs.Rules.{Frame, Lump, Mention, MissingRotation, Need, Outline, Patch, SECOND_PAIR_AT, SPRITE_LETTERS, Shape, SpriteRefusal, Sprites, and_then, each_of, frame_in, frame_of, frame_picture, is_of_frame, is_of_rotation, is_of_sprite, is_pair, joined_lists, last_mention, last_that, lump_at, lump_mentions, members, mention_at, mention_outline, mentions, name_mentions, or_else, outline, outline_in, outline_of, patch_or_bad, picture_by, picture_if, picture_or_missing, pictures_of, shape_in, shape_of, shape_outline}
use Rattle.art_rules.proofs.EachLemmas.{each_of-push, each_of-stop}
use Rattle.sprite_book.proofs.MentionLemmas.{members_below}

-- a list, cut before an item
pub split_at : {X : Type 0} (xs : List X) (k : ℕ) (d : X) → k < length xs → xs ≡ take k xs ++ get_or xs k d ∷ drop (suc k) xs
split_at xs k d h = sym (take-append-drop k xs) ∙ ap (λ v. take k xs ++ v) (drop-cons xs k d h)

shape_is : (bytes : ℕ → List ℕ) (mention : Mention) (patch : Patch) → patch_or_bad bytes mention.lump ≡ Ok patch → shape_of bytes mention ≡ Ok (shape_in mention patch)
unfolding shape_of
shape_is bytes mention patch e = rw e refl

shape_bad : (bytes : ℕ → List ℕ) (mention : Mention) (e : SpriteRefusal) → patch_or_bad bytes mention.lump ≡ Err e → shape_of bytes mention ≡ Err e
unfolding shape_of
shape_bad bytes mention e h = rw h refl

-- one shape more
pub shapes_push : (bytes : ℕ → List ℕ) (pictures : List Mention) (shapes : List Shape) (k : ℕ) (d : Mention) (patch : Patch) (shape : Shape) → k < length pictures → k < length shapes → shape ≡ shape_in (get_or pictures k d) patch →
    each_of (shape_of bytes) (take k pictures) ≡ Ok (take k shapes) → patch_or_bad bytes (get_or pictures k d).lump ≡ Ok patch → each_of (shape_of bytes) (take (k + 1) pictures) ≡ Ok (take (k + 1) (set shapes k shape))
shapes_push bytes pictures shapes k d patch shape h l is before now =
    ap (each_of (shape_of bytes)) (take_more pictures k d h)
    ∙ each_of-push (shape_of bytes) (take k pictures) (take k shapes) (get_or pictures k d) shape before (shape_is bytes (get_or pictures k d) patch now ∙ ap Ok (sym is))
    ∙ ap Ok (sym (take_more_set shapes k shape l))

pub shapes_stop : (bytes : ℕ → List ℕ) (pictures : List Mention) (shapes : List Shape) (k : ℕ) (d : Mention) (e : SpriteRefusal) → k < length pictures →
    each_of (shape_of bytes) (take k pictures) ≡ Ok shapes → patch_or_bad bytes (get_or pictures k d).lump ≡ Err e → each_of (shape_of bytes) pictures ≡ Err e
shapes_stop bytes pictures shapes k d e h before now =
    ap (each_of (shape_of bytes)) (split_at pictures k d h) ∙ each_of-stop (shape_of bytes) (take k pictures) (drop (suc k) pictures) shapes (get_or pictures k d) e before (shape_bad bytes (get_or pictures k d) e now)

-- the same of what the directory alone tells
pub outlines_push : (pictures : List Mention) (shapes : List Shape) (k : ℕ) (d : Mention) (patch : Patch) (shape : Shape) → k < length pictures → k < length shapes → shape ≡ shape_in (get_or pictures k d) patch →
    map shape_outline (take k shapes) ≡ map mention_outline (take k pictures) → map shape_outline (take (k + 1) (set shapes k shape)) ≡ map mention_outline (take (k + 1) pictures)
unfolding shape_outline mention_outline shape_in
outlines_push pictures shapes k d patch shape h l is before =
    ap (map shape_outline) (take_more_set shapes k shape l) ∙ map-append shape_outline (take k shapes) (shape ∷ []) ∙ ap (λ v. v ++ shape_outline shape ∷ []) before ∙ ap (λ s. map mention_outline (take k pictures) ++ shape_outline s ∷ []) is
    ∙ sym (ap (map mention_outline) (take_more pictures k d h) ∙ map-append mention_outline (take k pictures) (get_or pictures k d ∷ []))

-- a frame, once its pictures are found
pub frame_refused : (bytes : ℕ → List ℕ) (lumps : List Lump) (need : Need) (r : Result (List Mention) SpriteRefusal) (e : SpriteRefusal) → r ≡ pictures_of (mentions lumps need.sprite) need → r ≡ Err e → frame_of bytes lumps need ≡ Err e
unfolding frame_of
frame_refused bytes lumps need r e is was = let is_refused : pictures_of (mentions lumps need.sprite) need ≡ Err e = sym is ∙ was in rw is_refused refl

pub frame_stop : (bytes : ℕ → List ℕ) (lumps : List Lump) (need : Need) (pictures : List Mention) (e : SpriteRefusal) → pictures_of (mentions lumps need.sprite) need ≡ Ok pictures → each_of (shape_of bytes) pictures ≡ Err e → frame_of bytes lumps need ≡ Err e
unfolding frame_of
frame_stop bytes lumps need pictures e h k = rw (h, k) refl

pub frame_made : (bytes : ℕ → List ℕ) (lumps : List Lump) (need : Need) (pictures : List Mention) (shapes : List Shape) → pictures_of (mentions lumps need.sprite) need ≡ Ok pictures → each_of (shape_of bytes) pictures ≡ Ok shapes → frame_of bytes lumps need ≡ Ok (record { sprite = need.sprite; frame = need.frame; shapes = shapes })
unfolding frame_of frame_in
frame_made bytes lumps need pictures shapes h k = rw (h, k) refl

pub outline_made : (lumps : List Lump) (need : Need) (pictures : List Mention) (shapes : List Shape) → pictures_of (mentions lumps need.sprite) need ≡ Ok pictures → map shape_outline shapes ≡ map mention_outline pictures →
    outline_of lumps need ≡ Ok (outline (record { sprite = need.sprite; frame = need.frame; shapes = shapes }))
unfolding outline_of outline_in outline
outline_made lumps need pictures shapes h k = rw (h, k) refl

-- what holds of each mention holds of the last that passes
module _ (P : Mention → Type 0) where
  last_holds : (passes : Mention → Bool) (xs : List Mention) (m : Mention) → All P xs → last_that passes xs ≡ Some m → P m
  unfolding last_that
  last_holds passes [] m all e = cc
  last_holds passes (x ∷ xs) m all e = last_step (last_that passes xs) (passes x) (last_holds passes xs m (All-tail P x xs all)) e where
    last_step : (r : Option Mention) (t : Bool) → (r ≡ Some m → P m) → or_else r (cond t (Some x) None) ≡ Some m → P m
    last_step (Some y) t k h = k h
    last_step None true k h = let mention_same : x ≡ m = cc in subst P mention_same (All-head P x xs all)
    last_step None false k h = cc

  picture_holds : (xs : List Mention) (frame k : ℕ) (m : Mention) → All P xs → frame_picture xs frame k ≡ Some m → P m
  unfolding frame_picture picture_if picture_by
  picture_holds xs frame k m all e = by_last (last_that (is_of_frame frame) xs) refl e where
    by_kind : (last : Mention) (t : Bool) → P last → cond t (Some last) (last_that (is_of_rotation frame (suc k)) xs) ≡ Some m → P m
    by_kind last true p h = let mention_same : last ≡ m = cc in subst P mention_same p
    by_kind last false p h = last_holds (is_of_rotation frame (suc k)) xs m all h

    by_last : (r : Option Mention) → last_that (is_of_frame frame) xs ≡ r → picture_if xs frame r k ≡ Some m → P m
    by_last None d h = cc
    by_last (Some last) d h = by_kind last (last.rotation == 0) (last_holds (is_of_frame frame) xs last all d) h

  each_holds : {X : Type 0} (f : X → Result Mention SpriteRefusal) → ((x : X) (m : Mention) → f x ≡ Ok m → P m) → (xs : List X) (ms : List Mention) → each_of f xs ≡ Ok ms → All P ms
  unfolding each_of
  each_holds f one [] ms e = let mentions_same : [] ≡ ms = cc in subst (All P) mentions_same (All-nil P)
  each_holds f one (x ∷ xs) ms e = by_item (f x) (each_of f xs) (one x) (each_holds f one xs) e where
    by_item : (a : Result Mention SpriteRefusal) (b : Result (List Mention) SpriteRefusal) → ((m : Mention) → a ≡ Ok m → P m) → ((ns : List Mention) → b ≡ Ok ns → All P ns) → and_then a (λ v. and_then b (λ vs. Ok (v ∷ vs))) ≡ Ok ms → All P ms
    by_item (Ok v) (Ok vs) h k g = let mentions_same : v ∷ vs ≡ ms = cc in subst (All P) mentions_same (All-cons P v vs (h v refl) (k vs refl))
    by_item (Ok v) (Err r) h k g = cc
    by_item (Err r) b h k g = cc

  found_holds : (o : Option Mention) (e : SpriteRefusal) (m : Mention) → ((n : Mention) → o ≡ Some n → P n) → ok_or o e ≡ Ok m → P m
  found_holds None e m h k = cc
  found_holds (Some x) e m h k = let mention_same : x ≡ m = cc in subst P mention_same (h x refl)

  pictures_hold : (all : List Mention) (need : Need) (pictures : List Mention) → All P all → pictures_of all need ≡ Ok pictures → All P pictures
  unfolding pictures_of picture_or_missing
  pictures_hold all need pictures holds e = by_last (last_mention all need) e where
    by_last : (r : Result Mention SpriteRefusal) → and_then r (λ last. each_of (picture_or_missing all need) (range_with_len 0 8)) ≡ Ok pictures → All P pictures
    by_last (Ok last) h =
        each_holds (picture_or_missing all need) (λ k m g. found_holds (frame_picture all need.frame k) (MissingRotation need.thing (suc k)) m (λ n i. picture_holds all need.frame k n holds i) g) (range_with_len 0 8) pictures h
    by_last (Err r) h = cc

-- each mention is of a lump of the directory
module _ (lumps : List Lump) where
  abbrev IsThere : Mention → Type 0
  IsThere mention = mention.lump < length lumps

  at_there : (lump offset : ℕ) (name : List ℕ) (flip : Bool) → lump < length lumps → All IsThere (mention_at lump name offset flip)
  unfolding mention_at
  at_there lump offset name flip h = by_pair (is_pair (get_or name offset 0) (get_or name (offset + 1) 0)) where
    by_pair : (t : Bool) → All IsThere (cond t (record { lump = lump; frame = get_or name offset 0; rotation = get_or name (offset + 1) 0 - 48; flip = flip } ∷ []) [])
    by_pair true = All-cons IsThere (record { lump = lump; frame = get_or name offset 0; rotation = get_or name (offset + 1) 0 - 48; flip = flip }) [] h (All-nil IsThere)
    by_pair false = All-nil IsThere

  name_there : (lump : ℕ) (name : List ℕ) → lump < length lumps → All IsThere (name_mentions lump name)
  unfolding name_mentions
  name_there lump name h = All-append IsThere (mention_at lump name SPRITE_LETTERS false) _ (at_there lump SPRITE_LETTERS name false h) (second (get_or name SECOND_PAIR_AT 0 == 0)) where
    second : (t : Bool) → All IsThere (cond t [] (mention_at lump name SECOND_PAIR_AT true))
    second true = All-nil IsThere
    second false = at_there lump SECOND_PAIR_AT name true h

  lump_there : (sprite : List ℕ) (lump : ℕ) → lump < length lumps → All IsThere (lump_mentions lumps sprite lump)
  unfolding lump_mentions
  lump_there sprite lump h = of_sprite (is_of_sprite sprite (lump_at lumps lump).name) where
    of_sprite : (t : Bool) → All IsThere (cond t (name_mentions lump (lump_at lumps lump).name) [])
    of_sprite true = name_there lump (lump_at lumps lump).name h
    of_sprite false = All-nil IsThere

  joined_there : (sprite : List ℕ) (numbers : List ℕ) → All (λ n. n < length lumps) numbers → All IsThere (joined_lists (lump_mentions lumps sprite) numbers)
  unfolding joined_lists
  joined_there sprite [] all = All-nil IsThere
  joined_there sprite (n ∷ numbers) all =
      All-append IsThere (lump_mentions lumps sprite n) (joined_lists (lump_mentions lumps sprite) numbers) (lump_there sprite n (All-head (λ n. n < length lumps) n numbers all)) (joined_there sprite numbers (All-tail (λ n. n < length lumps) n numbers all))

  mentions_there : (sprite : List ℕ) → All IsThere (mentions lumps sprite)
  unfolding mentions
  mentions_there sprite = joined_there sprite (members Sprites lumps) (members_below lumps)

  pub pictures_there : (need : Need) (pictures : List Mention) → pictures_of (mentions lumps need.sprite) need ≡ Ok pictures → All (λ mention. mention.lump < length lumps) pictures
  pictures_there need pictures e = pictures_hold IsThere (mentions lumps need.sprite) need pictures (mentions_there need.sprite) e

-- each shape is of a lump of the directory
module _ (lumps : List Lump) where
  shapes_there : (shapes : List Shape) (pictures : List Mention) → map shape_outline shapes ≡ map mention_outline pictures → All (λ (mention : Mention). mention.lump < length lumps) pictures → All (λ (shape : Shape). shape.lump.0 < length lumps) shapes
  unfolding shape_outline mention_outline
  shapes_there [] pictures e all = All-nil (λ (shape : Shape). shape.lump.0 < length lumps)
  shapes_there (s ∷ shapes) [] e all = cc
  shapes_there (s ∷ shapes) (m ∷ pictures) e all =
      let tail : map shape_outline shapes ≡ map mention_outline pictures = cc in
      let head : (s.lump.0, s.flip) ≡ (m.lump, m.flip) = cc in
      let lump_is_there : m.lump < length lumps = All-head (λ (mention : Mention). mention.lump < length lumps) m pictures all in
      All-cons (λ (shape : Shape). shape.lump.0 < length lumps) s shapes (subst (λ n. n < length lumps) (sym (ap (λ (x : ℕ × Bool). x.0) head)) lump_is_there) (shapes_there shapes pictures tail (All-tail (λ (mention : Mention). mention.lump < length lumps) m pictures all))

  frame_there : (need : Need) (frame : Frame) → outline_of lumps need ≡ Ok (outline frame) → All (λ (shape : Shape). shape.lump.0 < length lumps) frame.shapes
  unfolding outline_of outline_in outline
  frame_there need frame e = by_pictures (pictures_of (mentions lumps need.sprite) need) refl (outline frame) e refl where
    by_pictures : (r : Result (List Mention) SpriteRefusal) → pictures_of (mentions lumps need.sprite) need ≡ r → (o : Outline) → and_then r (λ pictures. Ok (record { sprite = need.sprite; frame = need.frame; pictures = map mention_outline pictures })) ≡ Ok o → map shape_outline frame.shapes ≡ o.pictures →
        All (λ (shape : Shape). shape.lump.0 < length lumps) frame.shapes
    by_pictures (Ok pictures) is o h same =
        let outline_same : ◌≡◌ {A = Outline} (record { sprite = need.sprite; frame = need.frame; pictures = map mention_outline pictures }) o = cc in
        shapes_there frame.shapes pictures (same ∙ sym (ap (λ (x : Outline). x.pictures) outline_same)) (pictures_there lumps need pictures is)
    by_pictures (Err r) is o h same = cc

  pub book_there : (needs : List Need) (book : List Frame) → each_of (outline_of lumps) needs ≡ Ok (map outline book) → All (λ (frame : Frame). All (λ (shape : Shape). shape.lump.0 < length lumps) frame.shapes) book
  unfolding each_of
  book_there [] [] e = All-nil (λ (frame : Frame). All (λ (shape : Shape). shape.lump.0 < length lumps) frame.shapes)
  book_there [] (f ∷ fs) e = cc
  book_there (n ∷ ns) book e = by_item (outline_of lumps n) (each_of (outline_of lumps) ns) refl refl book e (book_there ns) where
    by_item : (a : Result Outline SpriteRefusal) (b : Result (List Outline) SpriteRefusal) → outline_of lumps n ≡ a → each_of (outline_of lumps) ns ≡ b → (fs : List Frame) → and_then a (λ v. and_then b (λ vs. Ok (v ∷ vs))) ≡ Ok (map outline fs) →
        ((gs : List Frame) → each_of (outline_of lumps) ns ≡ Ok (map outline gs) → All (λ (frame : Frame). All (λ (shape : Shape). shape.lump.0 < length lumps) frame.shapes) gs) → All (λ (frame : Frame). All (λ (shape : Shape). shape.lump.0 < length lumps) frame.shapes) fs
    by_item (Ok v) (Ok vs) h k [] g later = All-nil (λ (frame : Frame). All (λ (shape : Shape). shape.lump.0 < length lumps) frame.shapes)
    by_item (Ok v) (Ok vs) h k (f ∷ fs) g later =
        let head : v ≡ outline f = cc in
        let tail : vs ≡ map outline fs = cc in
        All-cons (λ (frame : Frame). All (λ (shape : Shape). shape.lump.0 < length lumps) frame.shapes) f fs (frame_there n f (h ∙ ap Ok head)) (later fs (k ∙ ap Ok tail))
    by_item (Ok v) (Err r) h k fs g later = cc
    by_item (Err r) b h k fs g later = cc
