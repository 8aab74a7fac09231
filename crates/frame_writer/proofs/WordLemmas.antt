-- Laws of words: that those of a palette have its colours, and the bytes of one index more.
use Rattle.art_rules.proofs.Common.{◌≡◌, ◌≢◌, ℕ, ◌+◌, ◌*◌, ◌<◌, ◌≤◌, List, [], ◌∷◌, ◌++◌, length, take, drop, set, get_or, inl, inr, ap, sym, refl, ◌∙◌, arith, slice_index, flat_map, cases_lt, flat_map-append, get_or-set_at, append-nil, get_or-set_other, get_or_past, take_more, take-take, take_at, take-append-le, drop_at, drop_more, length-take-le, length-set, take-add}
use borrow.Rule.Slice.PartMut.{put_mid, post_of}
use Rattle.frame_writer.specs.{Ppm.colour, Words.word_colour}

three : (a b d x y z : ℕ) → a ≡ x → b ≡ y → d ≡ z → a ∷ b ∷ d ∷ [] ≡ x ∷ y ∷ z ∷ []
three a b d x y z e f g = cc

-- a word is set
abbrev with_word : List ℕ → ℕ → ℕ → ℕ → ℕ → List ℕ
with_word words place r g b = set (set (set words place r) (place + 1) g) (place + 2) b

-- a byte outside the word
other_byte : (words : List ℕ) (place r g b j : ℕ) → j ≢ place → j ≢ place + 1 → j ≢ place + 2 → slice_index (with_word words place r g b) j ≡ slice_index words j
other_byte words place r g b j n m l =
    get_or-set_other (set (set words place r) (place + 1) g) (place + 2) j b 0 l
    ∙ get_or-set_other (set words place r) (place + 1) j g 0 m ∙ get_or-set_other words place j r 0 n

-- the bytes of the word
first_byte : (words : List ℕ) (place r g b : ℕ) → place < length words → slice_index (with_word words place r g b) place ≡ r
first_byte words place r g b h =
    get_or-set_other (set (set words place r) (place + 1) g) (place + 2) place b 0 (omega arith)
    ∙ get_or-set_other (set words place r) (place + 1) place g 0 (omega arith) ∙ get_or-set_at words place place r 0 refl h

second_byte : (words : List ℕ) (place r g b : ℕ) → place + 1 < length words → slice_index (with_word words place r g b) (place + 1) ≡ g
second_byte words place r g b h =
    get_or-set_other (set (set words place r) (place + 1) g) (place + 2) (place + 1) b 0 (omega arith)
    ∙ get_or-set_at (set words place r) (place + 1) (place + 1) g 0 refl (omega (arith, length-set words place r))

third_byte : (words : List ℕ) (place r g b : ℕ) → place + 2 < length words → slice_index (with_word words place r g b) (place + 2) ≡ b
third_byte words place r g b h =
    get_or-set_at (set (set words place r) (place + 1) g) (place + 2) (place + 2) b 0 refl
    (omega (arith, length-set (set words place r) (place + 1) g, length-set words place r))

-- the words below n have the colours of the palette, and so have those with one more
pub words_more : (words palette : List ℕ) (n : ℕ) → 4 * n + 2 < length words → ((i : ℕ) → i < n → word_colour words i ≡ colour palette i) →
    (i : ℕ) → i < n + 1 →
    word_colour (with_word words (4 * n) (slice_index palette (3 * n)) (slice_index palette (3 * n + 1)) (slice_index palette (3 * n + 2))) i ≡ colour palette i
words_more words palette n h below i l =
    let red : ℕ = slice_index palette (3 * n) in let green : ℕ = slice_index palette (3 * n + 1) in
    let blue : ℕ = slice_index palette (3 * n + 2) in
    elim (cases_lt i n) [
      | inl s ↦ three _ _ _ _ _ _
          (other_byte words (4 * n) red green blue (4 * i) (omega (arith, s)) (omega (arith, s)) (omega (arith, s)))
          (other_byte words (4 * n) red green blue (4 * i + 1) (omega (arith, s)) (omega (arith, s)) (omega (arith, s)))
          (other_byte words (4 * n) red green blue (4 * i + 2) (omega (arith, s)) (omega (arith, s)) (omega (arith, s)))
          ∙ below i s
      | inr s ↦ let index_same : n ≡ i = omega (arith, s, l) in
          ap (word_colour (with_word words (4 * n) red green blue)) (sym index_same)
          ∙ three _ _ _ _ _ _ (first_byte words (4 * n) red green blue (omega arith)) (second_byte words (4 * n) red green blue (omega arith))
          (third_byte words (4 * n) red green blue h)
          ∙ ap (colour palette) index_same
    ]

-- past the last word, and past the last colour, all is 0
pub words_all : (words palette : List ℕ) → length words ≡ 1024 → length palette ≡ 768 → ((i : ℕ) → i < 256 → word_colour words i ≡ colour palette i) →
    (i : ℕ) → word_colour words i ≡ colour palette i
words_all words palette size palette_size below i = elim (cases_lt i 256) [
  | inl l ↦ below i l
  | inr l ↦ three _ _ _ 0 0 0
      (get_or_past words (4 * i) 0 (omega (arith, l, size))) (get_or_past words (4 * i + 1) 0 (omega (arith, l, size))) (get_or_past words (4 * i + 2) 0 (omega (arith, l, size)))
      ∙ sym (three _ _ _ 0 0 0
      (get_or_past palette (3 * i) 0 (omega (arith, l, palette_size))) (get_or_past palette (3 * i + 1) 0 (omega (arith, l, palette_size))) (get_or_past palette (3 * i + 2) 0 (omega (arith, l, palette_size))))
]

-- a frame of words
pub words_frame : (words palette frame : List ℕ) → ((i : ℕ) → word_colour words i ≡ colour palette i) → flat_map (word_colour words) frame ≡ flat_map (colour palette) frame
words_frame words palette frame same =
    let functions : word_colour words ≡ colour palette = λ i x. same x i in
    ap (λ (f : ℕ → List ℕ). flat_map f frame) functions

-- the first three bytes from a place on
three_from : (words : List ℕ) (place : ℕ) → place + 2 < length words →
    take 3 (drop place words) ≡ slice_index words place ∷ slice_index words (place + 1) ∷ slice_index words (place + 2) ∷ []
three_from words place h =
    let place_is : place + 1 + 1 ≡ place + 2 = omega arith in
    ap (take 3) (drop_more words place 0 (omega arith)
    ∙ ap (λ (xs : List ℕ). get_or words place 0 ∷ xs) (drop_more words (place + 1) 0 (omega arith)
    ∙ ap (λ (xs : List ℕ). get_or words (place + 1) 0 ∷ xs) (ap (λ (n : ℕ). drop n words) place_is ∙ drop_more words (place + 2) 0 h)))

-- what is put somewhere, up to a place within it
put_below : (colours piece : List ℕ) (a k : ℕ) → a ≤ length colours → 3 ≤ length piece → take (a + 3) (put_mid a k colours piece) ≡ take a colours ++ take 3 piece
put_below colours piece a k room size =
    let words_after : List ℕ = piece ++ post_of a k colours in
    let front_length = length-take-le a colours room in
    take-add a 3 (take a colours ++ words_after)
    ∙ ap (λ (xs : List ℕ). xs ++ take 3 (drop a (take a colours ++ words_after))) (take_at (take a colours) words_after a front_length)
    ∙ ap (λ (xs : List ℕ). take a colours ++ take 3 xs) (drop_at (take a colours) words_after a front_length)
    ∙ ap (λ (xs : List ℕ). take a colours ++ xs) (take-append-le 3 piece (post_of a k colours) size)

-- the bytes of the first indices, with the word of one more put behind them
pub filled-more : (words colours band piece : List ℕ) (i k n : ℕ) → i < length band → 3 * i ≤ length colours → 4 * get_or band i 0 + 4 ≤ length words → n ≡ 4 → length piece ≡ 4 →
    piece ≡ take n (drop (4 * get_or band i 0) words) →
    take (3 * i) colours ≡ flat_map (word_colour words) (take i band) →
    take (3 * (i + 1)) (put_mid (3 * i) k colours piece) ≡ flat_map (word_colour words) (take (i + 1) band)
filled-more words colours band piece i k n there room within four size same before =
    let index : ℕ = get_or band i 0 in
    let end_is : 3 * (i + 1) ≡ 3 * i + 3 = omega arith in
    let three_bytes_are : take 3 piece ≡ word_colour words index =
    ap (take 3) same ∙ take-take 3 n (drop (4 * index) words) (omega (arith, four)) ∙ three_from words (4 * index) (omega (arith, within)) in
    ap (λ (m : ℕ). take m (put_mid (3 * i) k colours piece)) end_is
    ∙ put_below colours piece (3 * i) k room (omega (arith, size))
    ∙ ap (λ (xs : List ℕ). xs ++ take 3 piece) before
    ∙ ap (λ (xs : List ℕ). flat_map (word_colour words) (take i band) ++ xs) (three_bytes_are ∙ sym (append-nil (word_colour words index)))
    ∙ sym (ap (flat_map (word_colour words)) (take_more band i 0 there) ∙ flat_map-append (word_colour words) (take i band) (index ∷ []))
