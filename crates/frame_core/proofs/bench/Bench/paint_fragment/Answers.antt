-- A fragment is asked for: what is built, what is told, and its strips.
use Rattle.std.proofs.Common.{◌≤◌, List, ap, arith, subst}
use Rattle.picture_rules.specs.Words.{FRAME_HEIGHT, ViewShape}
use Rattle.brush.specs.Strips.{Strip}
use Rattle.wall_columns.specs.Faults.{ReceivesUnlessOver, over_of_stop}
use Rattle.frame_core.specs.ViewStrips.{no_bytes}
use Rattle.frame_core.proofs.EventStripLemmas.{range-event}
use Rattle.frame_core.proofs.PainterLemmas.{still-unless}
use Rattle.frame_core.proofs.WalkedLemmas.{same_limits}
use Rattle.frame_core.proofs.WalkedFragmentLemmas.{TakesFragment, over-fragment, walked-range}
use Rattle.frame_core.proofs.bench.Bench.paint_fragment.Given.{Over}
use Rattle.frame_core.proofs.bench.Bench.paint_fragment.Goals as goal

pub draw_range-requires-clause-takes : goal.draw_range-requires-clause-takes
draw_range-requires-clause-takes g c = λ rows_open.
    (c.requires.strips c.facts_of-facts.ensures.sound).each c.args.self.now.walls c.facts_of-facts.result c.args.self.now.sector c.args.seg c.args.first c.args.last
    c.facts_of-facts.ensures.facts (c.requires.takes.sector (omega (arith, c.requires.there.0))) c.requires.there c.requires.takes.height rows_open

-- what the call of the walls gives
taken : (g : Over) (c : goal.After-draw_range g) → TakesFragment c.args.view.now c.args.scene.now.scene c.args.seg c.args.first c.args.last c.facts_of-facts.result c.args.self.now c.draw_range.new.planes c.draw_range.new.self (over_of_stop c.draw_range.result)
taken g c = record {
  there = c.requires.there;
  facts_are = c.facts_of-facts.ensures.facts;
  limit = c.draw_range.ensures.limit;
  limits = same_limits c.args.self.now.walls c.draw_range.new.self c.args.self.now.planes c.draw_range.new.planes c.draw_range.ensures.room c.draw_range.ensures.planes_room;
  full = λ n. let past = c.draw_range.ensures.past n in (ap over_of_stop past.done, (past.same_planes, past.same_state));
}

pub returns-clause-walked : goal.returns-clause-walked
returns-clause-walked g c = λ bytes most events h.
    let frame = c.shape-rows.ensures.frame.height in
    let rows_fit : c.args.view.now.shape.height ≤ FRAME_HEIGHT = subst (λ (s : ViewShape). s.height ≤ FRAME_HEIGHT) c.shape-rows.ensures.value (omega arith) in
    walked-range c.args.view.now bytes c.args.scene.now.scene most events c.args.seg c.args.first c.args.last c.facts_of-facts.result c.args.self.now c.draw_range.new.planes c.draw_range.new.self c.draw_range.result rows_fit (taken g c)
    c.draw_range.ensures.built h

pub returns-clause-over : goal.returns-clause-over
returns-clause-over g c = λ bytes most events h.
    over-fragment c.args.view.now bytes c.args.scene.now.scene most events c.args.seg c.args.first c.args.last c.facts_of-facts.result c.args.self.now c.draw_range.new.planes c.draw_range.new.self (over_of_stop c.draw_range.result) (taken g c) h

pub returns-clause-asks : goal.returns-clause-asks
returns-clause-asks g c = λ most events h.
    subst (λ (strips : List Strip). ReceivesUnlessOver g.B.Brush.takes g.B.Brush.stands g.B.Brush.stopped c.args.brush.now c.draw_range.new.brush strips c.draw_range.result)
    (range-event c.args.view.now c.args.scene.now.scene most events c.args.seg c.args.first c.args.last c.facts_of-facts.result c.args.self.now c.requires.there.1.1 (c.facts_of-facts.ensures.facts no_bytes) (h no_bytes))
    c.draw_range.ensures.asks

pub returns-clause-still : goal.returns-clause-still
returns-clause-still g c = still-unless g.B.Brush.takes g.B.Brush.stands g.B.Brush.stopped c.args.brush.now c.draw_range.new.brush _ c.draw_range.result c.draw_range.ensures.asks
