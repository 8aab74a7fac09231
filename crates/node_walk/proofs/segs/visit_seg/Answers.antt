use Rattle.word_rules.proofs.Common.{ap, append-nil, arith, cond, Err, err_from_is_err_and, inl, inr, List, refl, sym, ℕ, ◌++◌, ◌-◌, ◌∙◌, ◌≡◌}
use Rattle.node_walk.specs.Rules.{WalkState, back_of, cover, fragments, is_pass, is_solid, middle_of}
use Rattle.node_walk.proofs.FragmentLemmas.{next_fragment, fragments_left}
use Rattle.node_walk.proofs.PartLemmas.{columns_part, no_columns_part, no_part, shown_part, unseen_part}
use Rattle.node_walk.proofs.VisitLemmas.{walks_events, walks_none, walks_same, walks_stopped}
use Rattle.node_walk.proofs.segs.visit_seg.Goals.{else-not-solid-via-then-not-solid+else-not-is_pass, else-not-solid-via-else-not-solid, then-solid, else-solid}
use Rattle.node_walk.proofs.segs.visit_seg.Goals as goal

pub returns-in_default : goal.returns-in_default
returns-in_default g c = record {
  walks = walks_none _ _ c.args.cover.now
      (unseen_part c.args.view.now c.args.lists.now c.args.front.now c.args.n c.args.cover.now _ c.seg-seg.ensures.value
      _ c.seg_range.ensures.value c.in_default.not-Columns);
  width = refl;
}

pub returns-then-x1-x2-clause-walks : goal.returns-then-x1-x2-clause-walks
returns-then-x1-x2-clause-walks g c =
    walks_none _ _ c.args.cover.now (no_columns_part c.args.view.now c.args.lists.now c.args.front.now c.args.n c.args.cover.now _ c.seg-seg.ensures.value
    c.in-Columns.x1 c.in-Columns.x2 c.in-Columns.ensures.value c.if-x1-x2.true)

pub fragment-requires : goal.fragment-requires
fragment-requires g c =
    let fragment = next_fragment c.args.cover.now c.in-Columns.x1 (c.in-Columns.x2 - 1) c.in-Some.p c.in-Some.q
    c.loop-p.yielded c.loop-p.p-iterator c.next.new.self c.in-Some.ensures.steps c.loop-p.invariant.items in
    let range_order = c.in-Columns.ensures.order c.in-Columns.x1 c.in-Columns.x2 refl in
    c.loop-p.invariant.visits.takes_on.each _
    (c.requires.takes.fragment c.args.n c.in-Some.p c.in-Some.q c.requires.seg fragment.ordered (omega (arith, fragment.ends, range_order.1)))

pub returns-then-not-is_pass-clause-walks : goal.returns-then-not-is_pass-clause-walks
returns-then-not-is_pass-clause-walks g c =
    walks_same _ (walks_none _ _ c.args.cover.now
    (no_part _ _ c.args.n c.in-Columns.x1 (c.in-Columns.x2 - 1) c.args.cover.now
    (sym c.is_solid-solid.ensures ∙ c.if-not-solid.true) (sym c.is_pass.ensures ∙ c.if-not-is_pass.true)))
    (columns_part c.args.view.now c.args.lists.now c.args.front.now c.args.n c.args.cover.now _ c.seg-seg.ensures.value
    c.in-Columns.x1 c.in-Columns.x2 c.in-Columns.ensures.value c.if-x1-x2.false)

pub returns-in_err-fragment-clause-walks : goal.returns-in_err-fragment-clause-walks
returns-in_err-fragment-clause-walks g c =
    let failure_is = err_from_is_err_and c.from_residual.result c.from_residual.ensures.1 in
    let lists = c.args.lists.now in
    let front = c.args.front.now in
    let columns = c.args.cover.now in
    let seg = c.seg-seg.result.now in
    let back = back_of lists seg in
    let part = columns_part c.args.view.now lists front c.args.n columns seg c.seg-seg.ensures.value
    c.in-Columns.x1 c.in-Columns.x2 c.in-Columns.ensures.value c.if-x1-x2.false
    ∙ shown_part (is_solid front back) (is_pass front back (middle_of lists seg)) c.args.n c.in-Columns.x1 (c.in-Columns.x2 - 1) columns _ _
    (elim c.else-not-solid.branch [
      | else-not-solid-via-then-not-solid+else-not-is_pass w ↦ inr (sym w.is_pass.ensures ∙ w.if-not-is_pass.false)
      | else-not-solid-via-else-not-solid w ↦ inl (sym c.is_solid-solid.ensures ∙ w.if-not-solid.false)
    ]) refl refl in
    walks_stopped c.from_residual.result _ columns _ c.loop-p.invariant.visits tt refl c.fragment.ensures _
    c.in_err-fragment.was (failure_is.1 ∙ ap Err failure_is.2)
    (fragments_left c.args.n c.loop-p.yielded c.loop-p.p-iterator c.next.new.self _ c.in-Some.p c.in-Some.q c.in-Some.ensures.steps
    c.loop-p.invariant.items ∙ sym (ap (λ (w : WalkState). w.events) part))

pub returns-clause-walks : goal.returns-clause-walks
returns-clause-walks g c =
    let lists = c.args.lists.now in
    let front = c.args.front.now in
    let columns = c.args.cover.now in
    let seg = c.seg-seg.result.now in
    let back = back_of lists seg in
    let all_shown : c.loop-p.yielded ≡ fragments columns c.in-Columns.x1 (c.in-Columns.x2 - 1) =
    sym (append-nil c.loop-p.yielded) ∙ ap (λ (runs : List (ℕ × ℕ)). c.loop-p.yielded ++ runs) (sym c.in-None.ensures.steps.0) ∙ c.loop-p.invariant.items in
    let cover_after : c.if-solid.cover ≡ cond (is_solid front back) (cover columns c.in-Columns.x1 (c.in-Columns.x2 - 1)) columns = elim c.if-solid.branch [
      | then-solid w ↦ rw (sym c.is_solid-solid.ensures, w.if-solid.true, w.cover-is, w.cover.ensures.covered)
      | else-solid w ↦ rw (sym c.is_solid-solid.ensures, w.if-solid.false, w.cover-is)
    ] in
    walks_events _ c.if-solid.cover c.loop-p.invariant.visits
    (columns_part c.args.view.now lists front c.args.n columns seg c.seg-seg.ensures.value
    c.in-Columns.x1 c.in-Columns.x2 c.in-Columns.ensures.value c.if-x1-x2.false
    ∙ shown_part (is_solid front back) (is_pass front back (middle_of lists seg)) c.args.n c.in-Columns.x1 (c.in-Columns.x2 - 1) columns _ _
    (elim c.else-not-solid.branch [
      | else-not-solid-via-then-not-solid+else-not-is_pass w ↦ inr (sym w.is_pass.ensures ∙ w.if-not-is_pass.false)
      | else-not-solid-via-else-not-solid w ↦ inl (sym c.is_solid-solid.ensures ∙ w.if-not-solid.false)
    ]) all_shown cover_after)
