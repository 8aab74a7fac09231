-- Needs of different frames, as a loop goes over them.
use Rattle.art_rules.proofs.Common.{[], and_parts, ap, append-nil, Bool, bytes_eq, bytes_eq-Decides, cond, Contains-get_or, drop, eqb-true, Err, false, filter, filter-append, get_or, is_some, is_some-false, length, List, list_any, map, None, not, Ok, position_from, refl, Result, Some, suc, sym, take, take_more, true, ℕ, ◌&&◌, ◌++◌, ◌+◌, ◌<◌, ◌==◌, ◌||◌, ◌∙◌, ◌∷◌, ◌≡◌}
use Rattle.sprite_book.specs.Rules.{Frame, Lump, Mention, Need, Outline, SpriteRefusal, and_then, each_of, first_needs, is_frame, mention_outline, mentions, outline, outline_in, outline_of, pictures_of, same_frame}
use Rattle.art_rules.proofs.EachLemmas.{each_of-push, each_of-stop}
use Rattle.sprite_book.specs.Calls.{IsWanted, IsWantedBy}
use Rattle.sprite_book.proofs.FrameLemmas.{split_at}

-- one of the needs asks for the frame
abbrev pub asked : List Need → Need → Bool
asked needs need = list_any (λ other. same_frame other need) needs

filter_step : (x : Need) (xs ys : List Need) (p q r : Need → Bool) (s t u : Bool) → q x ≡ s → p x ≡ t → (s && t) ≡ u → filter p xs ≡ ys → filter p (cond s (x ∷ xs) xs) ≡ cond u (x ∷ ys) ys
filter_step x xs ys p q r true true true a b e h = rw (b, h) refl
filter_step x xs ys p q r true false false a b e h = rw (b, h) refl
filter_step x xs ys p q r true true false a b e h = cc
filter_step x xs ys p q r true false true a b e h = cc
filter_step x xs ys p q r false t true a b e h = cc
filter_step x xs ys p q r false t false a b e h = h

filter_twice : (p q r : Need → Bool) → ((n : Need) → (q n && p n) ≡ r n) → (xs : List Need) → filter p (filter q xs) ≡ filter r xs
filter_twice p q r same [] = refl
filter_twice p q r same (x ∷ xs) = filter_step x (filter q xs) (filter r xs) p q r (q x) (p x) (r x) refl refl (same x) (filter_twice p q r same xs)

filter_all : (xs : List Need) → filter (λ n. true) xs ≡ xs
filter_all [] = refl
filter_all (x ∷ xs) = ap (λ v. x ∷ v) (filter_all xs)

not_either : (a b : Bool) → (not b && not a) ≡ not (a || b)
not_either true true = refl
not_either true false = refl
not_either false true = refl
not_either false false = refl

-- the needs of different frames in a longer list
pub first_needs-append : (xs ys : List Need) → first_needs (xs ++ ys) ≡ first_needs xs ++ filter (λ n. not (asked xs n)) (first_needs ys)
unfolding first_needs
first_needs-append [] ys = sym (filter_all (first_needs ys))
first_needs-append (x ∷ xs) ys =
    ap (λ v. x ∷ filter (λ other. not (same_frame x other)) v) (first_needs-append xs ys)
    ∙ ap (λ v. x ∷ v)
    (filter-append (λ other. not (same_frame x other)) (first_needs xs) (filter (λ n. not (asked xs n)) (first_needs ys))
    ∙ ap (λ v. filter (λ other. not (same_frame x other)) (first_needs xs) ++ v)
    (filter_twice (λ other. not (same_frame x other)) (λ n. not (asked xs n)) (λ n. not (asked (x ∷ xs) n)) (λ n. not_either (same_frame x n) (asked xs n)) (first_needs ys)))

first_one : (n : Need) → first_needs (n ∷ []) ≡ n ∷ []
unfolding first_needs
first_one n = refl

-- a need whose frame was asked for before
pub needs_same : (xs : List Need) (n : Need) → asked xs n ≡ true → first_needs (xs ++ n ∷ []) ≡ first_needs xs
needs_same xs n e = first_needs-append xs (n ∷ []) ∙ ap (λ v. first_needs xs ++ filter (λ m. not (asked xs m)) v) (first_one n) ∙ ap (λ t. first_needs xs ++ cond (not t) (n ∷ []) []) e ∙ append-nil (first_needs xs)

-- a need of a new frame
pub needs_new : (xs : List Need) (n : Need) → asked xs n ≡ false → first_needs (xs ++ n ∷ []) ≡ first_needs xs ++ n ∷ []
needs_new xs n e = first_needs-append xs (n ∷ []) ∙ ap (λ v. first_needs xs ++ filter (λ m. not (asked xs m)) v) (first_one n) ∙ ap (λ t. first_needs xs ++ cond (not t) (n ∷ []) []) e

pub record IsNext (xs : List Need) (n : Need) (all : List Need) : Type 0 where
  pub more : List Need
  pub is : first_needs all ≡ first_needs xs ++ n ∷ more

needs_cut : (xs : List Need) (n : Need) (rest : List Need) → asked xs n ≡ false → IsNext xs n (xs ++ n ∷ rest)
unfolding first_needs
needs_cut xs n rest e = record {
  more = filter (λ m. not (asked xs m)) (filter (λ other. not (same_frame n other)) (first_needs rest));
  is = first_needs-append xs (n ∷ rest) ∙ rw e refl;
}

any_step : (t : Need → Bool) (x : Need) (xs ys : List Need) (s : Bool) → (s ≡ false → t x ≡ false) → list_any t xs ≡ list_any t ys → list_any t (cond s (x ∷ xs) xs) ≡ (t x || list_any t ys)
any_step t x xs ys true h e = ap (λ v. t x || v) e
any_step t x xs ys false h e = let test_is_false : t x ≡ false = h refl in e ∙ sym (ap (λ v. v || list_any t ys) test_is_false)

any_filter : (t q : Need → Bool) → ((n : Need) → q n ≡ false → t n ≡ false) → (xs : List Need) → list_any t (filter q xs) ≡ list_any t xs
any_filter t q h [] = refl
any_filter t q h (x ∷ xs) = any_step t x (filter q xs) xs (q x) (h x) (any_filter t q h xs)

same_parts : (a b : Need) → same_frame a b ≡ true → (a.sprite ≡ b.sprite) × (a.frame ≡ b.frame)
unfolding same_frame
same_parts a b e =
    let tests_true = and_parts (bytes_eq a.sprite b.sprite) (a.frame == b.frame) e in
    ((bytes_eq-Decides a.sprite b.sprite).0 tests_true.0, eqb-true a.frame b.frame tests_true.1)

same_as : (a b c : Need) → same_frame a b ≡ true → same_frame b c ≡ same_frame a c
unfolding same_frame
same_as a b c e =
    let parts_same = same_parts a b e in
    ap (λ s. bytes_eq s c.sprite && b.frame == c.frame) (sym parts_same.0) ∙ ap (λ f. bytes_eq a.sprite c.sprite && f == c.frame) (sym parts_same.1)

left_out : (a b c : Need) → same_frame a c ≡ false → not (same_frame a b) ≡ false → same_frame b c ≡ false
left_out a b c f h = by_test (same_frame a b) refl h where
  by_test : (t : Bool) → same_frame a b ≡ t → not t ≡ false → same_frame b c ≡ false
  by_test true e g = same_as a b c e ∙ f
  by_test false e g = cc

asked_step : (x n : Need) (xs : List Need) (t : Bool) → same_frame x n ≡ t → list_any (λ other. same_frame other n) (first_needs xs) ≡ asked xs n → (t || list_any (λ other. same_frame other n) (filter (λ other. not (same_frame x other)) (first_needs xs))) ≡ (t || asked xs n)
asked_step x n xs true e h = refl
asked_step x n xs false e h = any_filter (λ other. same_frame other n) (λ other. not (same_frame x other)) (λ m g. left_out x m n e g) (first_needs xs) ∙ h

-- the first needs ask for the same frames
asked_first : (xs : List Need) (n : Need) → asked (first_needs xs) n ≡ asked xs n
unfolding first_needs
asked_first [] n = refl
asked_first (x ∷ xs) n = asked_step x n xs (same_frame x n) refl (asked_first xs n)

-- a frame of each need, in order
outline_keys : (lumps : List Lump) (need : Need) (o : Outline) → outline_of lumps need ≡ Ok o → (need.sprite ≡ o.sprite) × (need.frame ≡ o.frame)
unfolding outline_of outline_in
outline_keys lumps need o e = by_pictures (pictures_of (mentions lumps need.sprite) need) e where
  by_pictures : (r : Result (List Mention) SpriteRefusal) → and_then r (λ pictures. Ok (record { sprite = need.sprite; frame = need.frame; pictures = map mention_outline pictures })) ≡ Ok o → (need.sprite ≡ o.sprite) × (need.frame ≡ o.frame)
  by_pictures (Ok pictures) h = let outline_same : ◌≡◌ {A = Outline} (record { sprite = need.sprite; frame = need.frame; pictures = map mention_outline pictures }) o = cc in (ap (λ (x : Outline). x.sprite) outline_same, ap (λ (x : Outline). x.frame) outline_same)
  by_pictures (Err r) h = cc

pub frame_keys : (lumps : List Lump) (need : Need) (frame : Frame) → outline_of lumps need ≡ Ok (outline frame) → (need.sprite ≡ frame.sprite) × (need.frame ≡ frame.frame)
unfolding outline
frame_keys lumps need frame e = outline_keys lumps need (outline frame) e

any_outlines : (lumps : List Lump) (n : Need) (ns : List Need) (fs : List Frame) → each_of (outline_of lumps) ns ≡ Ok (map outline fs) → list_any (λ other. same_frame other n) ns ≡ list_any (is_frame n.sprite n.frame) fs
unfolding each_of same_frame is_frame
any_outlines lumps n [] [] e = refl
any_outlines lumps n [] (f ∷ fs) e = cc
any_outlines lumps n (m ∷ ns) fs e = by_item (outline_of lumps m) (each_of (outline_of lumps) ns) refl refl fs e (any_outlines lumps n ns) where
  by_item : (a : Result Outline SpriteRefusal) (b : Result (List Outline) SpriteRefusal) → outline_of lumps m ≡ a → each_of (outline_of lumps) ns ≡ b → (gs : List Frame) → and_then a (λ v. and_then b (λ vs. Ok (v ∷ vs))) ≡ Ok (map outline gs) →
      ((hs : List Frame) → each_of (outline_of lumps) ns ≡ Ok (map outline hs) → list_any (λ other. bytes_eq other.sprite n.sprite && other.frame == n.frame) ns ≡ list_any (λ frame. bytes_eq frame.sprite n.sprite && frame.frame == n.frame) hs) →
      ((bytes_eq m.sprite n.sprite && m.frame == n.frame) || list_any (λ other. bytes_eq other.sprite n.sprite && other.frame == n.frame) ns) ≡ list_any (λ frame. bytes_eq frame.sprite n.sprite && frame.frame == n.frame) gs
  by_item (Ok v) (Ok vs) h k [] g later = cc
  by_item (Ok v) (Ok vs) h k (f ∷ gs) g later =
      let head : v ≡ outline f = cc in
      let tail : vs ≡ map outline gs = cc in
      let keys = frame_keys lumps m f (h ∙ ap Ok head) in
      ap (λ s. (bytes_eq s n.sprite && m.frame == n.frame) || list_any (λ (other : Need). bytes_eq other.sprite n.sprite && other.frame == n.frame) ns) keys.0
      ∙ ap (λ l. (bytes_eq f.sprite n.sprite && l == n.frame) || list_any (λ (other : Need). bytes_eq other.sprite n.sprite && other.frame == n.frame) ns) keys.1
      ∙ ap (λ v. (bytes_eq f.sprite n.sprite && f.frame == n.frame) || v) (later gs (k ∙ ap Ok tail))
  by_item (Ok v) (Err r) h k gs g later = cc
  by_item (Err r) b h k gs g later = cc

some_step : (p : Frame → Bool) (i : ℕ) (xs : List Frame) (t : Bool) → is_some (position_from p (i + 1) xs) ≡ list_any p xs → is_some (cond t (Some i) (position_from p (i + 1) xs)) ≡ (t || list_any p xs)
some_step p i xs true e = refl
some_step p i xs false e = e

some_place : (p : Frame → Bool) (i : ℕ) (xs : List Frame) → is_some (position_from p i xs) ≡ list_any p xs
some_place p i [] = refl
some_place p i (x ∷ xs) = some_step p i xs (p x) (some_place p (i + 1) xs)

-- the frame is there exactly where it was asked for
placed_asked : (lumps : List Lump) (needs : List Need) (frames : List Frame) (n : Need) → each_of (outline_of lumps) (first_needs needs) ≡ Ok (map outline frames) → is_some (position_from (is_frame n.sprite n.frame) 0 frames) ≡ asked needs n
placed_asked lumps needs frames n e = some_place (is_frame n.sprite n.frame) 0 frames ∙ sym (any_outlines lumps n (first_needs needs) frames e) ∙ asked_first needs n

pub need_asked : (lumps : List Lump) (needs : List Need) (frames : List Frame) {has known : Bool} (n : Need) → each_of (outline_of lumps) (first_needs needs) ≡ Ok (map outline frames) →
    has ≡ is_some (position_from (is_frame n.sprite n.frame) 0 frames) → has ≡ known → asked needs n ≡ known
need_asked lumps needs frames n made is e = sym (placed_asked lumps needs frames n made) ∙ sym is ∙ e

pub frame_absent : (lumps : List Lump) (n : Need) (frame : Frame) (frames : List Frame) (has : Bool) → outline_of lumps n ≡ Ok (outline frame) → has ≡ is_some (position_from (is_frame n.sprite n.frame) 0 frames) → has ≡ false → position_from (is_frame frame.sprite frame.frame) 0 frames ≡ None
frame_absent lumps n frame frames has made is absent =
    let keys = frame_keys lumps n frame made in
    ap (λ s. position_from (is_frame s frame.frame) 0 frames) (sym keys.0) ∙ ap (λ l. position_from (is_frame n.sprite l) 0 frames) (sym keys.1) ∙ is_some-false (position_from (is_frame n.sprite n.frame) 0 frames) (sym is ∙ absent)

pub needs_none : {Y : Type 0} (f : Need → Result Y SpriteRefusal) → each_of f (first_needs []) ≡ Ok []
unfolding first_needs each_of
needs_none f = refl

-- the loop's step over each of the needs, by what f gives of one
module _ {Y : Type 0} (f : Need → Result Y SpriteRefusal) where
  pub need_push : (needs : List Need) (i : ℕ) (d : Need) (ys : List Y) (y : Y) → i < length needs → asked (take i needs) (get_or needs i d) ≡ false → each_of f (first_needs (take i needs)) ≡ Ok ys → f (get_or needs i d) ≡ Ok y → each_of f (first_needs (take (i + 1) needs)) ≡ Ok (ys ++ y ∷ [])
  need_push needs i d ys y h new before now =
      ap (λ v. each_of f (first_needs v)) (take_more needs i d h) ∙ ap (each_of f) (needs_new (take i needs) (get_or needs i d) new) ∙ each_of-push f (first_needs (take i needs)) ys (get_or needs i d) y before now

  pub need_stop : (needs : List Need) (i : ℕ) (d : Need) (ys : List Y) (e : SpriteRefusal) → i < length needs → asked (take i needs) (get_or needs i d) ≡ false → each_of f (first_needs (take i needs)) ≡ Ok ys → f (get_or needs i d) ≡ Err e → each_of f (first_needs needs) ≡ Err e
  need_stop needs i d ys e h new before now =
      let next = needs_cut (take i needs) (get_or needs i d) (drop (suc i) needs) new in
      ap (λ v. each_of f (first_needs v)) (split_at needs i d h) ∙ ap (each_of f) next.is ∙ each_of-stop f (first_needs (take i needs)) next.more ys (get_or needs i d) e before now

pub need_same : (needs : List Need) (i : ℕ) (d : Need) → i < length needs → asked (take i needs) (get_or needs i d) ≡ true → first_needs (take i needs) ≡ first_needs (take (i + 1) needs)
need_same needs i d h old = sym (ap first_needs (take_more needs i d h) ∙ needs_same (take i needs) (get_or needs i d) old)

-- a lump that one of the needs asks for
pub wanted_need : {lumps : List Lump} (needs : List Need) (i : ℕ) (d : Need) → i < length needs → (lump : ℕ) → IsWantedBy lumps (get_or needs i d) lump → IsWanted lumps needs lump
wanted_need needs i d h lump w = record { need = get_or needs i d; is = Contains-get_or needs i d h; wanted = w }
