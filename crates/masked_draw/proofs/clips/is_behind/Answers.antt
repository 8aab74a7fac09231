-- A fragment of the seg and the scales of the note is behind the sprite as the tests say.
use Rattle.picture_rules.proofs.Common.{ap, Bool, false, int_lt, rules, sym, true, w32, ℕ, ℤ, ◌&&◌, ◌==◌, ◌||◌, ◌∙◌, ◌≡◌, to_z-of_z}
use Rattle.masked_draw.specs.Rules.{Drawseg, SpriteEntry, greater_word, is_behind, is_in_front, lesser_word, seg_line, side_of}
use Rattle.masked_draw.proofs.clips.is_behind.Goals as goal

-- the test in its three cases, by the greater scale, the lesser one and the side
smaller : (d : Drawseg) (e : SpriteEntry) (g s : ℤ) → g ≡ greater_word d.scale1 d.scale2 → s ≡ e.scale → int_lt g s ≡ true → int_lt g s ≡ is_behind d e
unfolding is_behind
smaller d e g s p q t =
    let scale_tests_same : int_lt g s ≡ int_lt (greater_word d.scale1 d.scale2) e.scale = cc in
    t ∙ sym (ap (λ (z : Bool). z || (int_lt (lesser_word d.scale1 d.scale2) e.scale && is_in_front d.seg e.x e.y)) (sym scale_tests_same ∙ t))

larger : (d : Drawseg) (e : SpriteEntry) (g l s : ℤ) → g ≡ greater_word d.scale1 d.scale2 → l ≡ lesser_word d.scale1 d.scale2 → s ≡ e.scale → int_lt g s ≡ false → int_lt l s ≡ false → int_lt l s ≡ is_behind d e
unfolding is_behind
larger d e g l s p o q t u =
    let scale_tests_same : int_lt g s ≡ int_lt (greater_word d.scale1 d.scale2) e.scale = cc in
    let lesser_word_same : int_lt l s ≡ int_lt (lesser_word d.scale1 d.scale2) e.scale = cc in
    u
    ∙ sym (ap (λ (z : Bool). z && is_in_front d.seg e.x e.y) (sym lesser_word_same ∙ u))
    ∙ sym (ap (λ (z : Bool). z || (int_lt (lesser_word d.scale1 d.scale2) e.scale && is_in_front d.seg e.x e.y)) (sym scale_tests_same ∙ t))

between : (d : Drawseg) (e : SpriteEntry) (g l s : ℤ) (side : ℕ) → g ≡ greater_word d.scale1 d.scale2 → l ≡ lesser_word d.scale1 d.scale2 → s ≡ e.scale → side ≡ side_of (seg_line d.seg) e.x e.y → int_lt g s ≡ false → int_lt l s ≡ true → (side == 0) ≡ is_behind d e
unfolding is_behind is_in_front
between d e g l s side p o q f t u =
    let scale_tests_same : int_lt g s ≡ int_lt (greater_word d.scale1 d.scale2) e.scale = cc in
    let lesser_word_same : int_lt l s ≡ int_lt (lesser_word d.scale1 d.scale2) e.scale = cc in
    ap (λ (n : ℕ). n == 0) f
    ∙ sym (ap (λ (z : Bool). z && (side_of (seg_line d.seg) e.x e.y == 0)) (sym lesser_word_same ∙ u))
    ∙ sym (ap (λ (z : Bool). z || (int_lt (lesser_word d.scale1 d.scale2) e.scale && (side_of (seg_line d.seg) e.x e.y == 0))) (sym scale_tests_same ∙ t))

pair : (f : ℤ → ℤ → ℤ) (a b p q x y r t : ℤ) → a ≡ x → b ≡ y → p ≡ x → q ≡ y → r ≡ f a b → t ≡ r → t ≡ f p q
pair f a b p q x y r t g h i j k l = cc

pub returns-then-greater_word-entry : goal.returns-then-greater_word-entry
returns-then-greater_word-entry c = λ d p q r.
    let note = c.args.note.now in
    let entry = c.args.entry.now in
    smaller d entry _ _
    (pair greater_word _ _ d.scale1 d.scale2 note.scale1 note.scale2 c.greater_word.result _ (to_z-of_z w32 note.scale1 (search rules)) (to_z-of_z w32 note.scale2 (search rules)) q r c.greater_word.ensures (to_z-of_z w32 c.greater_word.result (search rules)))
    (to_z-of_z w32 entry.scale (search rules)) c.if-greater_word-entry.true

pub returns-then-lesser_word-entry : goal.returns-then-lesser_word-entry
returns-then-lesser_word-entry c = λ d p q r.
    let note = c.args.note.now in
    let entry = c.args.entry.now in
    let x_is = to_z-of_z w32 entry.x (search rules) in
    let y_is = to_z-of_z w32 entry.y (search rules) in
    let line = c.seg_line.ensures in
    let side : c.side_of.result ≡ side_of (seg_line d.seg) entry.x entry.y = cc (x_is, y_is, line, p, c.side_of.ensures.value) in
    between d entry _ _ _ c.side_of.result
    (pair greater_word _ _ d.scale1 d.scale2 note.scale1 note.scale2 c.greater_word.result _ (to_z-of_z w32 note.scale1 (search rules)) (to_z-of_z w32 note.scale2 (search rules)) q r c.greater_word.ensures (to_z-of_z w32 c.greater_word.result (search rules)))
    (pair lesser_word _ _ d.scale1 d.scale2 note.scale1 note.scale2 c.lesser_word.result _ (to_z-of_z w32 note.scale1 (search rules)) (to_z-of_z w32 note.scale2 (search rules)) q r c.lesser_word.ensures (to_z-of_z w32 c.lesser_word.result (search rules)))
    (to_z-of_z w32 entry.scale (search rules)) side c.if-greater_word-entry.false c.if-lesser_word-entry.true

pub returns-else-lesser_word-entry : goal.returns-else-lesser_word-entry
returns-else-lesser_word-entry c = λ d p q r.
    let note = c.args.note.now in
    let entry = c.args.entry.now in
    larger d entry _ _ _
    (pair greater_word _ _ d.scale1 d.scale2 note.scale1 note.scale2 c.greater_word.result _ (to_z-of_z w32 note.scale1 (search rules)) (to_z-of_z w32 note.scale2 (search rules)) q r c.greater_word.ensures (to_z-of_z w32 c.greater_word.result (search rules)))
    (pair lesser_word _ _ d.scale1 d.scale2 note.scale1 note.scale2 c.lesser_word.result _ (to_z-of_z w32 note.scale1 (search rules)) (to_z-of_z w32 note.scale2 (search rules)) q r c.lesser_word.ensures (to_z-of_z w32 c.lesser_word.result (search rules)))
    (to_z-of_z w32 entry.scale (search rules)) c.if-greater_word-entry.false c.if-lesser_word-entry.false
