use Rattle.picture_rules.proofs.Common.{ap, arith, false, int_lt, ints, List, nat_abs, pos, rules, subst, sym, true, ℕ, ℤ, ◌<ℤ◌, ◌∙◌, ◌≡◌, ◌≤ℤ◌, to_z-of_z}
use Rattle.brush.specs.Rules.{Dot, MaskedColumn, Painter, Post, ViewShape, byte_at, fixed, minus, picture_top, plus, post_bottom, post_first, post_last, post_top, row_fraction, shade, times}
use Rattle.pixel_strips.specs.{Canvases.with_dots, Strips.column_strip_dots, Strips.strip_colour}
use Rattle.pixel_strips.proofs.CanvasLemmas.{dots_none}
use Rattle.brush.proofs.PostLemmas.{post-none, post-strip}
use Rattle.brush.proofs.posts.paint_one.Goals as goal

-- a row by its number, and the order of two
by_number : (n : ℕ) (z : ℤ) → n ≡ nat_abs z → pos 0 ≤ℤ z → pos n ≡ z
by_number n z e h = omega (arith, ints)

in_order : (first last : ℤ) → first ≤ℤ last → int_lt last first ≡ false
in_order first last h = grind (arith, ints)

past : (first last : ℤ) → last <ℤ first → int_lt last first ≡ true
past first last h = grind (arith, ints)

-- the rows of a post, whose top is at `begin`
record ArePostRows (shape : ViewShape) (column : MaskedColumn) (post : Post) (begin row_first row_last : ℤ) : Type 0 where
  top : begin ≡ post_top (picture_top shape column.mid column.scale) column.scale post.topdelta
  first : row_first ≡ post_first column.top_clip begin
  last : row_last ≡ post_last column.bottom_clip (post_bottom begin column.scale post.length)

-- by the words that they are made of
rows-words : (shape : ViewShape) (column : MaskedColumn) (post : Post) (top begin down end far row_first row_last : ℤ) → top ≡ picture_top shape column.mid column.scale → begin ≡ plus top down → down ≡ times column.scale (pos post.topdelta) →
    end ≡ plus begin far → far ≡ times column.scale (pos post.length) → row_first ≡ post_first column.top_clip begin → row_last ≡ post_last column.bottom_clip end → ArePostRows shape column post begin row_first row_last
unfolding post_top post_bottom
rows-words shape column post top begin down end far row_first row_last is_top is_begin is_down is_end is_far first last = record {
  top = is_begin ∙ ap (λ (z : ℤ). plus z down) is_top ∙ ap (plus (picture_top shape column.mid column.scale)) is_down;
  first = first;
  last = last ∙ ap (post_last column.bottom_clip) (is_end ∙ ap (plus begin) is_far);
}

pub returns-then-first-last : goal.returns-then-first-last
returns-then-first-last g c =
    let rows : ArePostRows c.args.look.now.shape c.args.look.now.column c.args.post c.plus-begin.result c.first_row-first.result c.last_row-last.result =
    rows-words _ _ _ c.args.top _ c.times.result c.plus.result c.times-2.result _ _ c.requires.top (search (rules, to_z-of_z)) (search (rules, to_z-of_z))
    (search (rules, to_z-of_z)) (search (rules, to_z-of_z)) (search (rules, to_z-of_z)) (search (rules, to_z-of_z)) in
    let low : pos 0 ≤ℤ c.first_row-first.result = search (rules, to_z-of_z) in
    let first_to_last : c.first_row-first.result ≤ℤ c.last_row-last.result = search (rules, to_z-of_z) in
    let high : pos 0 ≤ℤ c.last_row-last.result = omega (arith, ints) in
    let first_no : c.post_strip.result.first ≡ nat_abs c.first_row-first.result =
    search (rules, to_z-of_z) in
    let last_no : c.post_strip.result.last ≡ nat_abs c.last_row-last.result =
    search (rules, to_z-of_z) in
    let strip = c.post_strip.result in
    let strip_is = c.post_strip.ensures in
    let painter : Painter = (g.C.Canvas.view c.args.canvas.now).painter in
    let bytes : List ℕ = c.args.art.now.bytes.now in
    let shades : List ℕ = c.args.art.now.colormap.now in
    let map : ℕ = c.args.art.now.map in
    c.paint_post.ensures
    ∙ ap (λ (dots : List Dot). with_dots g.C.Canvas.mark dots (g.C.Canvas.view c.args.canvas.now))
    (ap (λ (n : ℕ). column_strip_dots painter n (strip_colour strip.source.now strip.base strip.colormap.now strip.map
    strip.fraction strip.step strip.first) strip.first strip.last) strip_is.x
    ∙ ap (λ (xs : List ℕ). column_strip_dots painter c.args.look.now.x (strip_colour xs strip.base strip.colormap.now
    strip.map strip.fraction strip.step strip.first) strip.first strip.last) strip_is.source
    ∙ ap (λ (xs : List ℕ). column_strip_dots painter c.args.look.now.x (strip_colour bytes strip.base xs strip.map
    strip.fraction strip.step strip.first) strip.first strip.last) strip_is.colormap
    ∙ ap (λ (n : ℕ). column_strip_dots painter c.args.look.now.x (strip_colour bytes strip.base shades n
    strip.fraction strip.step strip.first) strip.first strip.last) strip_is.map
    ∙ post-strip c.args.look.now.shape painter c.args.look.now.x c.args.look.now.column bytes shades map c.args.post
    c.plus-begin.result strip.first strip.last strip.base strip.fraction strip.step rows.top strip_is.base strip_is.step
    (strip_is.fraction ∙ ap (row_fraction c.args.look.now.shape.centre_y (minus c.args.look.now.column.mid
    (fixed (pos c.args.post.topdelta))) c.args.look.now.column.iscale) (sym strip_is.first))
    (by_number strip.first c.first_row-first.result first_no low ∙ rows.first)
    (by_number strip.last c.last_row-last.result last_no high ∙ rows.last)
    (subst (λ (z : ℤ). int_lt z (post_first c.args.look.now.column.top_clip c.plus-begin.result) ≡ false)
    rows.last (subst (λ (z : ℤ). int_lt c.last_row-last.result z ≡ false) rows.first
    (in_order c.first_row-first.result c.last_row-last.result first_to_last))))

pub returns-else-first-last : goal.returns-else-first-last
returns-else-first-last g c =
    let rows : ArePostRows c.args.look.now.shape c.args.look.now.column c.args.post c.plus-begin.result c.first_row-first.result c.last_row-last.result =
    rows-words _ _ _ c.args.top _ c.times.result c.plus.result c.times-2.result _ _ c.requires.top (search (rules, to_z-of_z)) (search (rules, to_z-of_z))
    (search (rules, to_z-of_z)) (search (rules, to_z-of_z)) (search (rules, to_z-of_z)) (search (rules, to_z-of_z)) in
    let last_before_first : c.last_row-last.result <ℤ c.first_row-first.result = search (rules, to_z-of_z) in
    dots_none g.C.Canvas.mark (g.C.Canvas.view c.args.canvas.now)
    ∙ ap (λ (dots : List Dot). with_dots g.C.Canvas.mark dots (g.C.Canvas.view c.args.canvas.now))
    (post-none c.args.look.now.shape (g.C.Canvas.view c.args.canvas.now).painter c.args.look.now.x c.args.look.now.column
    (byte_at c.args.art.now.bytes.now) (shade c.args.art.now.colormap.now c.args.art.now.map)
    c.args.post c.plus-begin.result rows.top
    (subst (λ (z : ℤ). int_lt z (post_first c.args.look.now.column.top_clip c.plus-begin.result) ≡ true)
    rows.last (subst (λ (z : ℤ). int_lt c.last_row-last.result z ≡ true) rows.first
    (past c.first_row-first.result c.last_row-last.result last_before_first))))
