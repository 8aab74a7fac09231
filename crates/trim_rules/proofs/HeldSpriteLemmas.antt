-- The sprite lumps of the trimmed file are the pictures of the level: each stands for its source, and all of them were
-- sprite lumps.
use Rattle.art_rules.proofs.Common.{[], AllByRecursion, ap, append_assoc, arith, Bool, cond, Decides-eqb, Err, false, filter, get_or, length, length-map, List, list_any, map, None, Ok, Option, or-cases, range_with_len, refl, Result, Some, some-injective, subst, suc, sym, true, ℕ, ⊤, ◌+◌, ◌<◌, ◌==◌, ◌∙◌, ◌∷◌, ◌≡◌}
use Rattle.trim_rules.specs.Rules.{F_END, F_START, Frame, HEAD_SIZE, Lump, Mention, Need, Patch, ROTATIONS, SECOND_PAIR_AT, SPRITE_LETTERS, S_END, SceneArt, Shape, SpriteRefusal, Sprites, and_then, book_lumps, each_of, frame_in, frame_of, frame_picture, is_member, is_of_frame, is_of_rotation, joined_lists, last_mention, last_that, lump_at, lump_mentions, members, mention_at, mentions, name_mentions, patch_or_bad, picture_by, picture_if, picture_or_missing, pictures_of, shape_in, shape_lumps, shape_of}
use Rattle.trim_rules.specs.declared.part.TrimPart.{TrimPart}
use Rattle.trim_rules.specs.declared.part.TrimPart.TheVariants.{Mark}
use Rattle.trim_rules.specs.Parts.{copy_part, flat_lumps, group_parts, part_name, picture_lumps, trim_parts}
use Rattle.trim_rules.specs.Files.{part_lump, stored_lumps, trimmed_lumps}
use Rattle.trim_rules.proofs.AnswerLemmas.{ok_of, some_value}
use Rattle.trim_rules.proofs.MemberLemmas.{group-members}
use Rattle.trim_rules.proofs.SpriteLemmas.{StandFor, count_of}
use Rattle.trim_rules.proofs.TrimmedLemmas.{IsUnmarked, trimmed-pictures}
use Rattle.trim_rules.proofs.PlaceLemmas.{part_at, part_at-behind, part_at-copied, source_of, part_source, stored-name}
use Rattle.trim_rules.proofs.{OrderLemmas.kept-passing, ThereLemmas.all-append}
use Rattle.trim_rules.proofs.FrameLemmas.{cond_all, last_that-is}

-- a sprite lump
abbrev pub IsSprite : List Lump → ℕ → Type 0
IsSprite lumps n = is_member Sprites lumps n ≡ true

-- copied lumps from a place on stand for their sources
module _ (bytes : ℕ → List ℕ) (lumps : List Lump) (parts : List TrimPart) where
  copied-stand : (a : ℕ) (ns : List ℕ) → ((k : ℕ) → k < length ns → part_at parts (a + k) ≡ copy_part (get_or ns k 0))
      → StandFor (trimmed_lumps bytes lumps parts) lumps (source_of parts) a ns
  unfolding trimmed_lumps stored_lumps part_name
  copied-stand a [] at = tt
  copied-stand a (n ∷ ns) at =
      let part_is_copy : part_at parts a ≡ copy_part n = (let same_start : a ≡ a + 0 = omega arith in ap (part_at parts) same_start) ∙ at 0 (omega arith) in (
        ap part_source part_is_copy,
        stored-name bytes lumps HEAD_SIZE parts a ∙ ap (part_name lumps) part_is_copy,
        copied-stand (a + 1) ns (λ k lt. (let same_place : (a + 1) + k ≡ a + suc k = omega arith in ap (part_at parts) same_place) ∙ at (suc k) (omega arith)),
      )

-- where part 2 begins: behind the flats and their marks
abbrev pub first_picture : List Lump → SceneArt → ℕ
first_picture lumps art = suc (length (group_parts F_START (flat_lumps lumps art.flats) F_END))

picture_part : (lumps : List Lump) (art : SceneArt) (name : List ℕ) (k : ℕ) → k < length (picture_lumps lumps art.pictures)
    → part_at (trim_parts lumps art name) (first_picture lumps art + k) ≡ copy_part (get_or (picture_lumps lumps art.pictures) k 0)
unfolding trim_parts group_parts
picture_part lumps art name k lt =
    let flat_parts = group_parts F_START (flat_lumps lumps art.flats) F_END in
    let same_place : suc (length flat_parts) + k ≡ length flat_parts + suc k = omega arith in
    ap (part_at (trim_parts lumps art name)) same_place
    ∙ part_at-behind flat_parts _ (suc k)
    ∙ ap (λ parts. part_at parts k) (append_assoc (map copy_part (picture_lumps lumps art.pictures)) (Mark S_END ∷ []) _)
    ∙ part_at-copied (picture_lumps lumps art.pictures) _ k lt

-- a test that only members pass keeps the same of them as of all
fewer_step : (keep member : ℕ → Bool) (n : ℕ) (ns : List ℕ) (b c : Bool) → member n ≡ b → keep n ≡ c → (keep n ≡ true → member n ≡ true)
    → filter keep ns ≡ filter keep (filter member ns) → cond c (n ∷ filter keep ns) (filter keep ns) ≡ filter keep (cond b (n ∷ filter member ns) (filter member ns))
fewer_step keep member n ns true true is kept only more = rw kept (ap (λ ks. n ∷ ks) more)
fewer_step keep member n ns true false is kept only more = rw kept more
fewer_step keep member n ns false true is kept only more = let impossible : false ≡ true = sym is ∙ only kept in absurd (cc)
fewer_step keep member n ns false false is kept only more = more

kept-fewer : (keep member : ℕ → Bool) → ((n : ℕ) → keep n ≡ true → member n ≡ true) → (ns : List ℕ) → filter keep ns ≡ filter keep (filter member ns)
kept-fewer keep member only [] = refl
kept-fewer keep member only (n ∷ ns) = fewer_step keep member n ns (member n) (keep n) refl refl (only n) (kept-fewer keep member only ns)

one_of_all : (P : ℕ → Type 0) (ns : List ℕ) (n : ℕ) → AllByRecursion P ns → list_any (λ m. m == n) ns ≡ true → P n
one_of_all P [] n all any = absurd (cc)
one_of_all P (m ∷ ns) n all any =
    or-cases (m == n) (list_any (λ k. k == n) ns) (P n) (λ is. subst P ((Decides-eqb m n).0 is) all.0) (λ later. one_of_all P ns n all.1 later) any

-- the pictures that are listed are the sprite lumps that are kept
pub pictures-kept : (lumps : List Lump) (pictures : List ℕ) → AllByRecursion (IsSprite lumps) pictures
    → picture_lumps lumps pictures ≡ filter (λ n. list_any (λ m. m == n) pictures) (members Sprites lumps)
unfolding picture_lumps members
pictures-kept lumps pictures all =
    kept-fewer (λ n. list_any (λ m. m == n) pictures) (is_member Sprites lumps) (λ n is. one_of_all (IsSprite lumps) pictures n all is) (range_with_len 0 (length lumps))

count-is : (ns : List ℕ) → length ns ≡ count_of ns
unfolding count_of
count-is [] = refl
count-is (n ∷ ns) = ap suc (count-is ns)

-- The sprite lumps of the trimmed file, as `trimmed_picture` asks for them.
pub record HoldsPictures (trimmed lumps : List Lump) (σ : ℕ → ℕ) (a : ℕ) (pictures : List ℕ) : Type 0 where
  pub are : members Sprites trimmed ≡ range_with_len a (count_of (filter (λ n. list_any (λ m. m == n) pictures) (members Sprites lumps)))
  pub stand : StandFor trimmed lumps σ a (filter (λ n. list_any (λ m. m == n) pictures) (members Sprites lumps))

pub pictures-held : (bytes : ℕ → List ℕ) (lumps : List Lump) (art : SceneArt) (name : List ℕ)
    → AllByRecursion (IsSprite lumps) art.pictures → AllByRecursion (IsUnmarked lumps) (trim_parts lumps art name)
    → HoldsPictures (trimmed_lumps bytes lumps (trim_parts lumps art name)) lumps (source_of (trim_parts lumps art name)) (first_picture lumps art) art.pictures
pictures-held bytes lumps art name sprites unmarked =
    let all_parts = trim_parts lumps art name in
    let trimmed = trimmed_lumps bytes lumps all_parts in
    let flat_parts = group_parts F_START (flat_lumps lumps art.flats) F_END in
    let pictures = picture_lumps lumps art.pictures in
    let pictures_kept = pictures-kept lumps art.pictures sprites in
    let start : length (map (part_lump bytes lumps) flat_parts) ≡ length flat_parts = length-map flat_parts (part_lump bytes lumps) in
    let count : length (map (part_lump bytes lumps) (map copy_part pictures)) ≡ length pictures =
    length-map (map copy_part pictures) (part_lump bytes lumps) ∙ length-map pictures copy_part in
    record {
      are =
          group-members Sprites trimmed (length (map (part_lump bytes lumps) flat_parts)) (length (map (part_lump bytes lumps) (map copy_part pictures))) (trimmed-pictures bytes lumps art name unmarked)
          ∙ ap (λ a. range_with_len (suc a) (length (map (part_lump bytes lumps) (map copy_part pictures)))) start
          ∙ ap (range_with_len (suc (length flat_parts))) (count ∙ count-is pictures ∙ ap count_of pictures_kept);
      stand = subst (StandFor trimmed lumps (source_of all_parts) (suc (length flat_parts))) pictures_kept
          (copied-stand bytes lumps all_parts (suc (length flat_parts)) pictures (λ k lt. picture_part lumps art name k lt));
    }

-- Each picture of a book comes of a mention, and each mention of a sprite lump.
abbrev IsSpriteMention : List Lump → Mention → Type 0
IsSpriteMention lumps m = IsSprite lumps m.lump

mention_one : (lumps : List Lump) (n : ℕ) (name : List ℕ) (offset : ℕ) (flip : Bool) → IsSprite lumps n → AllByRecursion (IsSpriteMention lumps) (mention_at n name offset flip)
unfolding mention_at
mention_one lumps n name offset flip is = cond_all (IsSpriteMention lumps) _ (_ ∷ []) [] (λ b. (is, tt)) tt

mention_both : (lumps : List Lump) (n : ℕ) (name : List ℕ) → IsSprite lumps n → AllByRecursion (IsSpriteMention lumps) (name_mentions n name)
unfolding name_mentions
mention_both lumps n name is =
    all-append (IsSpriteMention lumps) (mention_at n name SPRITE_LETTERS false) _ (mention_one lumps n name SPRITE_LETTERS false is)
    (cond_all (IsSpriteMention lumps) _ [] (mention_at n name SECOND_PAIR_AT true) (λ b. tt) (mention_one lumps n name SECOND_PAIR_AT true is))

mention_lump : (lumps : List Lump) (sprite : List ℕ) (n : ℕ) → IsSprite lumps n → AllByRecursion (IsSpriteMention lumps) (lump_mentions lumps sprite n)
unfolding lump_mentions
mention_lump lumps sprite n is =
    cond_all (IsSpriteMention lumps) _ (name_mentions n (lump_at lumps n).name) [] (λ b. mention_both lumps n (lump_at lumps n).name is) tt

joined_all : {X Y : Type 0} (P : X → Type 0) (Q : Y → Type 0) (f : X → List Y) → ((x : X) → P x → AllByRecursion Q (f x)) → (xs : List X) → AllByRecursion P xs → AllByRecursion Q (joined_lists f xs)
unfolding joined_lists
joined_all P Q f each [] all = tt
joined_all P Q f each (x ∷ xs) all = all-append Q (f x) (joined_lists f xs) (each x all.0) (joined_all P Q f each xs all.1)

mentions-sprites : (lumps : List Lump) (sprite : List ℕ) → AllByRecursion (IsSpriteMention lumps) (mentions lumps sprite)
unfolding mentions members
mentions-sprites lumps sprite =
    joined_all (IsSprite lumps) (IsSpriteMention lumps) (lump_mentions lumps sprite) (λ n is. mention_lump lumps sprite n is) (members Sprites lumps)
    (kept-passing (is_member Sprites lumps) (range_with_len 0 (length lumps)))

-- a picture is one of the mentions
by_step : (P : Mention → Type 0) (b : Bool) (last m : Mention) (o : Option Mention) → P last → (o ≡ Some m → P m) → cond b (Some last) o ≡ Some m → P m
by_step P true last m o one more e = subst P (some-injective last m e) one
by_step P false last m o one more e = more e

if_step : (P : Mention → Type 0) (all : List Mention) (frame k : ℕ) (o : Option Mention) (m : Mention) → AllByRecursion P all
    → last_that (is_of_frame frame) all ≡ o → picture_if all frame o k ≡ Some m → P m
unfolding picture_if picture_by
if_step P all frame k None m holds is e = absurd (cc)
if_step P all frame k (Some last) m holds is e =
    by_step P (last.rotation == 0) last m (last_that (is_of_rotation frame (suc k)) all) (last_that-is P (is_of_frame frame) all last holds is)
    (λ found. last_that-is P (is_of_rotation frame (suc k)) all m holds found) e

frame_picture-is : (P : Mention → Type 0) (all : List Mention) (frame k : ℕ) (m : Mention) → AllByRecursion P all → frame_picture all frame k ≡ Some m → P m
unfolding frame_picture
frame_picture-is P all frame k m holds e = if_step P all frame k (last_that (is_of_frame frame) all) m holds refl e

-- what f gives of each
each_step : {Y R : Type 0} (Q : Y → Type 0) (a : Result Y R) (b : Result (List Y) R) (ys : List Y) → ((y : Y) → a ≡ Ok y → Q y)
    → ((more : List Y) → b ≡ Ok more → AllByRecursion Q more) → and_then a (λ y. and_then b (λ more. Ok (y ∷ more))) ≡ Ok ys → AllByRecursion Q ys
each_step Q (Err r) b ys one more e = absurd (cc)
each_step Q (Ok y) (Err r) ys one more e = absurd (cc)
each_step Q (Ok y) (Ok rest) ys one more e = subst (AllByRecursion Q) (ok_of (y ∷ rest) ys e) (one y refl, more rest refl)

each_all : {X Y R : Type 0} (P : X → Type 0) (Q : Y → Type 0) (f : X → Result Y R) → ((x : X) (y : Y) → P x → f x ≡ Ok y → Q y)
    → (xs : List X) (ys : List Y) → AllByRecursion P xs → each_of f xs ≡ Ok ys → AllByRecursion Q ys
unfolding each_of
each_all P Q f each [] ys all e = subst (AllByRecursion Q) (ok_of [] ys e) tt
each_all P Q f each (x ∷ xs) ys all e =
    each_step Q (f x) (each_of f xs) ys (λ y is. each x y all.0 is) (λ more is. each_all P Q f each xs more all.1 is) e

any_of : {X : Type 0} (xs : List X) → AllByRecursion (λ x. ⊤) xs
any_of [] = tt
any_of (x ∷ xs) = (tt, any_of xs)

missing_is : (P : Mention → Type 0) (all : List Mention) (need : Need) (k : ℕ) (m : Mention) → AllByRecursion P all → picture_or_missing all need k ≡ Ok m → P m
unfolding picture_or_missing
missing_is P all need k m holds e = frame_picture-is P all need.frame k m holds (some_value (frame_picture all need.frame k) _ m e)

pictures_step : (P : Mention → Type 0) (all : List Mention) (need : Need) (last : Result Mention SpriteRefusal) (ms : List Mention) → AllByRecursion P all
    → and_then last (λ l. each_of (picture_or_missing all need) (range_with_len 0 ROTATIONS)) ≡ Ok ms → AllByRecursion P ms
pictures_step P all need (Err r) ms holds e = absurd (cc)
pictures_step P all need (Ok l) ms holds e =
    each_all (λ k. ⊤) P (picture_or_missing all need) (λ k m t is. missing_is P all need k m holds is) (range_with_len 0 ROTATIONS) ms (any_of (range_with_len 0 ROTATIONS)) e

pictures_of-all : (P : Mention → Type 0) (all : List Mention) (need : Need) (ms : List Mention) → AllByRecursion P all → pictures_of all need ≡ Ok ms → AllByRecursion P ms
unfolding pictures_of
pictures_of-all P all need ms holds e = pictures_step P all need (last_mention all need) ms holds e

-- a shape has the lump of its mention
abbrev IsSpriteShape : List Lump → Shape → Type 0
IsSpriteShape lumps shape = IsSprite lumps shape.lump.0

shape_step : (lumps : List Lump) (m : Mention) (patch : Result Patch SpriteRefusal) (s : Shape) → IsSpriteMention lumps m
    → and_then patch (λ p. Ok (shape_in m p)) ≡ Ok s → IsSpriteShape lumps s
unfolding shape_in
shape_step lumps m (Err r) s is e = absurd (cc)
shape_step lumps m (Ok p) s is e = subst (IsSpriteShape lumps) (ok_of (shape_in m p) s e) is

shape_of-is : (bytes : ℕ → List ℕ) (lumps : List Lump) (m : Mention) (s : Shape) → IsSpriteMention lumps m → shape_of bytes m ≡ Ok s → IsSpriteShape lumps s
unfolding shape_of
shape_of-is bytes lumps m s is e = shape_step lumps m (patch_or_bad bytes m.lump) s is e

abbrev IsSpriteFrame : List Lump → Frame → Type 0
IsSpriteFrame lumps frame = AllByRecursion (IsSpriteShape lumps) frame.shapes

shapes_step : (lumps : List Lump) (need : Need) (shapes : Result (List Shape) SpriteRefusal) (frame : Frame)
    → ((ss : List Shape) → shapes ≡ Ok ss → AllByRecursion (IsSpriteShape lumps) ss)
    → and_then shapes (λ ss. Ok (frame_in need ss)) ≡ Ok frame → IsSpriteFrame lumps frame
unfolding frame_in
shapes_step lumps need (Err r) frame all e = absurd (cc)
shapes_step lumps need (Ok ss) frame all e = subst (IsSpriteFrame lumps) (ok_of (frame_in need ss) frame e) (all ss refl)

frame_step : (bytes : ℕ → List ℕ) (lumps : List Lump) (need : Need) (pictures : Result (List Mention) SpriteRefusal) (frame : Frame)
    → ((ms : List Mention) → pictures ≡ Ok ms → AllByRecursion (IsSpriteMention lumps) ms)
    → and_then pictures (λ ms. and_then (each_of (shape_of bytes) ms) (λ ss. Ok (frame_in need ss))) ≡ Ok frame → IsSpriteFrame lumps frame
frame_step bytes lumps need (Err r) frame all e = absurd (cc)
frame_step bytes lumps need (Ok ms) frame all e =
    shapes_step lumps need (each_of (shape_of bytes) ms) frame
    (λ ss is. each_all (IsSpriteMention lumps) (IsSpriteShape lumps) (shape_of bytes) (λ m s one made. shape_of-is bytes lumps m s one made) ms ss (all ms refl) is) e

frame_of-is : (bytes : ℕ → List ℕ) (lumps : List Lump) (need : Need) (frame : Frame) → frame_of bytes lumps need ≡ Ok frame → IsSpriteFrame lumps frame
unfolding frame_of
frame_of-is bytes lumps need frame e =
    frame_step bytes lumps need (pictures_of (mentions lumps need.sprite) need) frame
    (λ ms is. pictures_of-all (IsSpriteMention lumps) (mentions lumps need.sprite) need ms (mentions-sprites lumps need.sprite) is) e

shapes_listed : (lumps : List Lump) (shapes : List Shape) → AllByRecursion (IsSpriteShape lumps) shapes → AllByRecursion (IsSprite lumps) (map (λ (shape : Shape). shape.lump.0) shapes)
shapes_listed lumps [] all = tt
shapes_listed lumps (s ∷ shapes) all = (all.0, shapes_listed lumps shapes all.1)

frame_listed : (lumps : List Lump) (frame : Frame) → IsSpriteFrame lumps frame → AllByRecursion (IsSprite lumps) (shape_lumps frame)
unfolding shape_lumps
frame_listed lumps frame all = shapes_listed lumps frame.shapes all

-- the pictures of any book of frames are sprite lumps
pub book-sprites : (bytes : ℕ → List ℕ) (lumps : List Lump) (needs : List Need) (book : List Frame) → each_of (frame_of bytes lumps) needs ≡ Ok book
    → AllByRecursion (IsSprite lumps) (book_lumps book)
unfolding book_lumps
book-sprites bytes lumps needs book e =
    joined_all (IsSpriteFrame lumps) (IsSprite lumps) shape_lumps (λ frame all. frame_listed lumps frame all) book
    (each_all (λ need. ⊤) (IsSpriteFrame lumps) (frame_of bytes lumps) (λ need frame t is. frame_of-is bytes lumps need frame is) needs book (any_of needs) e)
