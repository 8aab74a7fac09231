use Rattle.std.proofs.Common.{◌∙◌}
use Rattle.level_audit.proofs.WeaponLemmas.{needs_none, needs_step}
use Rattle.level_audit.proofs.weapons.weapon_needs.Goals as goal

pub loop-i-init : goal.loop-i-init
loop-i-init c = c.in_ok-needs.ensures.items ∙ needs_none c.args.rows.now

pub loop-i-preserved : goal.loop-i-preserved
loop-i-preserved c =
    needs_step c.args.rows.now c.loop-i.i _ c.loop-i.needs.items c.push.new.self.items c.need_of_row.result c.loop-i-test.true c.loop-i.invariant c.need_of_row.ensures c.in_ok-push.ensures.items
