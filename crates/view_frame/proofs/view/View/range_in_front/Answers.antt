use Rattle.std.proofs.Common.{rules, ◌≡◌, ◌<◌, ◌^◌, sym, ◌∙◌, subst, arith}
use Rattle.view_rules.specs.{View.ViewValue, Ranges.range_in_front, Sound.IsSound}
use Rattle.view_rules.proofs.RangeLemmas.{ends_in_order, range_in_front-order}
use Rattle.view_frame.proofs.view.View.range_in_front.Goals as goal

-- both ends are less than a quarter turn off, since the left edge is
pub range_between-requires : goal.range_between-requires
range_between-requires c =
    λ a b l r.
    let clip : c.clip_angle-clip.result < 2 ^ 30 = omega (arith, c.clip_angle-clip.ensures.sound.clip) in
    let order = ends_in_order c.clip_angle-clip.result c.args.angle1 c.args.angle2 a b clip (omega arith) (omega arith) c.requires c.args.span
    (sym c.clipped_left-left.ensures ∙ l) (sym c.clipped_right-right.ensures ∙ r) in
    (order.1, omega arith)

-- the columns of ends in order are in order
pub returns-clause-order : goal.returns-clause-order
returns-clause-order c =
    λ x1 x2 e.
    let tables_sound : ViewValue → Type 0 = λ v. IsSound v.tables v.shape in
    let sound = subst tables_sound c.self.view_is c.clip_angle-clip.ensures.sound in
    let value : c.range_between.result ≡ range_in_front c.args.self.now c.args.span c.args.angle1 c.args.angle2 = unfold range_in_front in search rules in
    range_in_front-order c.args.self.now c.args.angle1 c.args.angle2 x1 x2 sound (omega arith) (omega arith) c.requires c.args.span (sym value ∙ e)
