-- The places of frames, and the lumps of their shapes.
use Rattle.art_rules.proofs.Common.{[], add-zero, All-contains, All-contains_itself, All-dedup, All-permutation, and_parts, ap, append-nil, arith, Bool, BTreeMap, bytes_eq, bytes_eq-Decides, cond, Contains, Contains-dedup_nat, dedup, eqb, eqb-true, false, find, get, get_or, IsPermutation, IsPermutation-sym, IsSorted, IsStrictlyIncreasing, IsStrictlyIncreasing-dedup, length, List, map, nat_cmp, None, or_else-none_right, position_from, refl, slice_get, Some, subst, suc, sym, take, take_more, true, Updates, ℕ, ◌&&◌, ◌++◌, ◌+◌, ◌<◌, ◌==◌, ◌∙◌, ◌∷◌, ◌≡◌}
use Rattle.sprite_book.specs.Rules.{Frame, Shape, book_lumps, is_frame, joined_lists, or_else, picked, shape_lumps}
use Rattle.art_rules.proofs.Laws.{joined_lists-append}
use Rattle.sprite_book.specs.Indexes.{IsPlaceOf, ArePictures, frame_cmp}
use Rattle.sprite_book.proofs.MentionLemmas.{same_key}

first-push : (p : Frame → Bool) (i : ℕ) (xs : List Frame) (x : Frame) (t : Bool) → position_from p (i + 1) (xs ++ x ∷ []) ≡ or_else (position_from p (i + 1) xs) (cond (p x) (Some ((i + 1) + length xs)) None) →
    cond t (Some i) (position_from p (i + 1) (xs ++ x ∷ [])) ≡ or_else (cond t (Some i) (position_from p (i + 1) xs)) (cond (p x) (Some (i + suc (length xs))) None)
first-push p i xs x true h = refl
first-push p i xs x false h =
    let end_place_same : (i + 1) + length xs ≡ i + suc (length xs) = omega arith in
    h ∙ ap (λ n. or_else (position_from p (i + 1) xs) (cond (p x) (Some n) None)) end_place_same

-- the place of a frame in a longer list
place-push : (p : Frame → Bool) (i : ℕ) (xs : List Frame) (x : Frame) → position_from p i (xs ++ x ∷ []) ≡ or_else (position_from p i xs) (cond (p x) (Some (i + length xs)) None)
place-push p i [] x = ap (λ n. cond (p x) (Some n) None) (sym (add-zero i))
place-push p i (y ∷ xs) x = first-push p i xs x (p y) (place-push p (i + 1) xs x)

-- the place that was found, counted from i
pub record IsFound (p : Frame → Bool) (i : ℕ) (xs : List Frame) (d : Frame) (j : ℕ) : Type 0 where
  pub k : ℕ
  pub is : j ≡ i + k
  pub below : k < length xs
  pub frame : find p xs ≡ Some (get_or xs k d)

first_found : (p : Frame → Bool) (i : ℕ) (y : Frame) (xs : List Frame) (d : Frame) (j : ℕ) (t : Bool) → p y ≡ t → (position_from p (i + 1) xs ≡ Some j → IsFound p (i + 1) xs d j) → cond t (Some i) (position_from p (i + 1) xs) ≡ Some j → IsFound p i (y ∷ xs) d j
first_found p i y xs d j true h later e = let place_same : i ≡ j = cc in record { k = 0; is = omega arith; below = omega arith; frame = rw h refl }
first_found p i y xs d j false h later e = let found_behind = later e in record { k = suc found_behind.k; is = omega (arith, found_behind.is); below = omega (arith, found_behind.below); frame = rw h found_behind.frame }

place_found : (p : Frame → Bool) (i : ℕ) (xs : List Frame) (d : Frame) (j : ℕ) → position_from p i xs ≡ Some j → IsFound p i xs d j
place_found p i [] d j e = cc
place_found p i (y ∷ xs) d j e = first_found p i y xs d j (p y) refl (place_found p (i + 1) xs d j) e

first_none : (p : Frame → Bool) (i : ℕ) (y : Frame) (xs : List Frame) (t : Bool) → (position_from p (i + 1) xs ≡ None → find p xs ≡ None) → cond t (Some i) (position_from p (i + 1) xs) ≡ None → cond t (Some y) (find p xs) ≡ None
first_none p i y xs true later e = cc
first_none p i y xs false later e = later e

place_none : (p : Frame → Bool) (i : ℕ) (xs : List Frame) → position_from p i xs ≡ None → find p xs ≡ None
place_none p i [] e = refl
place_none p i (y ∷ xs) e = first_none p i y xs (p y) (place_none p (i + 1) xs) e

abbrev pub no_frame : Frame
no_frame = record { sprite = []; frame = 0; shapes = [] }

pub place_below : (p : Frame → Bool) (frames : List Frame) (place : ℕ) → position_from p 0 frames ≡ Some place → place < length frames
place_below p frames place e = let frame_at_place = place_found p 0 frames no_frame place e in omega (arith, frame_at_place.is, frame_at_place.below)

pub picked_found : (frames : List Frame) (sprite : List ℕ) (letter rotation place : ℕ) (d : Frame) → position_from (is_frame sprite letter) 0 frames ≡ Some place → picked frames sprite letter rotation ≡ slice_get (get_or frames place d).shapes rotation
unfolding picked
picked_found frames sprite letter rotation place d e =
    let frame_at_place = place_found (is_frame sprite letter) 0 frames d place e in
    let place_is : frame_at_place.k ≡ place = omega (arith, frame_at_place.is) in
    rw frame_at_place.frame (ap (λ n. slice_get (get_or frames n d).shapes rotation) place_is)

pub picked_none : (frames : List Frame) (sprite : List ℕ) (letter rotation : ℕ) → position_from (is_frame sprite letter) 0 frames ≡ None → picked frames sprite letter rotation ≡ None
unfolding picked
picked_none frames sprite letter rotation e =
    let finds_nothing : find (is_frame sprite letter) frames ≡ None = place_none (is_frame sprite letter) 0 frames e in rw finds_nothing refl

-- a frame was added
more_at : (frames : List Frame) (frame : Frame) (sprite : List ℕ) (letter : ℕ) (t : Bool) → (bytes_eq frame.sprite sprite && frame.frame == letter) ≡ t → position_from (is_frame frame.sprite frame.frame) 0 frames ≡ None →
    cond t (Some (length frames)) (position_from (is_frame sprite letter) 0 frames) ≡ or_else (position_from (is_frame sprite letter) 0 frames) (cond t (Some (0 + length frames)) None)
more_at frames frame sprite letter false e absent = sym (or_else-none_right (position_from (is_frame sprite letter) 0 frames))
more_at frames frame sprite letter true e absent =
    let both_same = and_parts (bytes_eq frame.sprite sprite) (frame.frame == letter) e in
    let sprite_same : frame.sprite ≡ sprite = (bytes_eq-Decides frame.sprite sprite).0 both_same.0 in
    let letter_same : frame.frame ≡ letter = eqb-true frame.frame letter both_same.1 in
    let place_is_none : position_from (is_frame sprite letter) 0 frames ≡ None = ap (λ n. position_from (is_frame sprite n) 0 frames) (sym letter_same) ∙ ap (λ v. position_from (is_frame v frame.frame) 0 frames) (sym sprite_same) ∙ absent in
    let zero_before_length : length frames ≡ 0 + length frames = omega arith in
    rw place_is_none (ap Some zero_before_length)

pub place_more : (frames : List Frame) (frame : Frame) (place : ℕ) (old new : BTreeMap (List ℕ × ℕ) ℕ) → Updates frame_cmp old new (frame.sprite, frame.frame) (Some place) → place ≡ length frames → IsPlaceOf old frames →
    position_from (is_frame frame.sprite frame.frame) 0 frames ≡ None → IsPlaceOf new (frames ++ frame ∷ [])
unfolding is_frame
place_more frames frame place old new updates at placed absent = record {
  at = λ sprite letter.
      updates.0 (sprite, letter)
      ∙ ap (λ t. cond t (Some place) (get frame_cmp old (sprite, letter))) (same_key frame.sprite sprite frame.frame letter)
      ∙ ap (cond (bytes_eq frame.sprite sprite && frame.frame == letter) (Some place)) (placed.at sprite letter)
      ∙ ap (λ n. cond (bytes_eq frame.sprite sprite && frame.frame == letter) (Some n) (position_from (is_frame sprite letter) 0 frames)) at
      ∙ more_at frames frame sprite letter (bytes_eq frame.sprite sprite && frame.frame == letter) refl absent
      ∙ sym (place-push (is_frame sprite letter) 0 frames frame);
}

-- the lumps of one frame more
pub lumps_none : book_lumps [] ≡ []
unfolding book_lumps joined_lists
lumps_none = refl

pub lumps_more : (frames : List Frame) (i : ℕ) (d : Frame) → i < length frames → book_lumps (take (i + 1) frames) ≡ book_lumps (take i frames) ++ map (λ (shape : Shape). shape.lump.0) (get_or frames i d).shapes
unfolding book_lumps joined_lists shape_lumps
lumps_more frames i d h =
    ap (joined_lists shape_lumps) (take_more frames i d h) ∙ joined_lists-append shape_lumps (take i frames) (get_or frames i d ∷ []) ∙ ap (λ v. joined_lists shape_lumps (take i frames) ++ v) (append-nil (shape_lumps (get_or frames i d)))

-- numbers sorted, each once
pub listed_once : (frames : List Frame) (numbers sorted once found : List ℕ) → numbers ≡ book_lumps frames → IsPermutation numbers sorted → IsSorted nat_cmp sorted → once ≡ dedup eqb sorted → found ≡ once → ArePictures frames found
listed_once frames numbers sorted once found is moved rises kept same = record {
  ascending = subst IsStrictlyIncreasing (sym (same ∙ kept)) (IsStrictlyIncreasing-dedup sorted rises);
  lumps = λ lump. (
    λ h. subst (λ v. Contains v lump) is (All-contains (Contains numbers) (dedup eqb sorted) lump (All-dedup eqb (Contains numbers) sorted (All-permutation (Contains numbers) numbers sorted moved (All-contains_itself numbers))) (subst (λ v. Contains v lump) (same ∙ kept) h)),
    λ h. subst (λ v. Contains v lump) (sym (same ∙ kept)) (Contains-dedup_nat sorted lump (All-contains (Contains sorted) numbers lump (All-permutation (Contains sorted) sorted numbers (IsPermutation-sym numbers sorted moved) (All-contains_itself sorted)) (subst (λ v. Contains v lump) (sym is) h))),
  );
}
