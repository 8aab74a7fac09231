use Rattle.std.proofs.Common.{◌≤◌, ◌<◌, length, sym, refl, ◌∙◌, arith}
use Rattle.art_rules.specs.Words.{next_place}
use Rattle.brush.proofs.PostLemmas.{is_post-past, left-end, left-more, next_place-from, post_at-none, post_at-some}
use Rattle.brush.proofs.posts.paint_open.Goals as goal

pub returns-in_default : goal.returns-in_default
returns-in_default g c =
    left-end c.loop-place.place (g.C.Canvas.view c.loop-place.canvas) c.loop-place.invariant
    (post_at-none c.args.art.now.bytes.now c.loop-place.place (sym c.in_default.is ∙ c.post_at.ensures))

pub returns-then-end-post : goal.returns-then-end-post
returns-then-end-post g c =
    let post_is_at = post_at-some c.args.art.now.bytes.now c.loop-place.place c.in-Some.post c.in-Some.ensures in
    let next_is_from = next_place-from c.in-Some.post in
    let bytes_end_before : length c.args.art.now.bytes.now ≤ next_place c.in-Some.post = omega arith in
    left-end (next_place c.in-Some.post) (g.C.Canvas.view c.paint_one.new.canvas)
    (left-more c.loop-place.place (next_place c.in-Some.post) (g.C.Canvas.view c.loop-place.canvas)
    (g.C.Canvas.view c.paint_one.new.canvas) c.in-Some.post c.loop-place.invariant post_is_at refl
    c.paint_one.ensures)
    (is_post-past c.args.art.now.bytes.now (next_place c.in-Some.post) bytes_end_before)

pub loop-place-smaller : goal.loop-place-smaller
loop-place-smaller g c =
    let post_is_at = post_at-some c.args.art.now.bytes.now c.loop-place.place c.in-Some.post c.in-Some.ensures in
    let begins = post_is_at.first in
    let next_is_from = next_place-from c.in-Some.post in
    let result_is_next = c.next_place-place.ensures in
    let place_in_bytes : c.loop-place.place < length c.args.art.now.bytes.now = omega arith in
    omega arith

pub loop-place-preserved : goal.loop-place-preserved
loop-place-preserved g c =
    left-more c.loop-place.place c.next_place-place.result (g.C.Canvas.view c.loop-place.canvas)
    (g.C.Canvas.view c.paint_one.new.canvas) c.in-Some.post c.loop-place.invariant
    (post_at-some c.args.art.now.bytes.now c.loop-place.place c.in-Some.post c.in-Some.ensures)
    c.next_place-place.ensures c.paint_one.ensures

pub returns : goal.returns
returns g c =
    left-end c.loop-place.place (g.C.Canvas.view c.loop-place.canvas) c.loop-place.invariant
    (is_post-past c.args.art.now.bytes.now c.loop-place.place (omega arith))
