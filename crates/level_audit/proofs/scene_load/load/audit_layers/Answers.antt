use Rattle.level_audit.proofs.scene_load.LayerLemmas.{book_made, book_stopped, layers_none}
use Rattle.level_audit.proofs.scene_load.load.audit_layers.Goals as goal

pub returns-in_err-audit_weapons-in-Some-clause-tells : goal.returns-in_err-audit_weapons-in-Some-clause-tells
returns-in_err-audit_weapons-in-Some-clause-tells g c =
    book_stopped c.args.weapons.now c.in-Some.weapons c.in-Some.is c.audit_weapons.result c.in_err-audit_weapons-in-Some.field-0.0 c.from_residual.result c.audit_weapons.ensures.tells c.in_err-audit_weapons-in-Some.was c.from_residual.ensures.1

pub returns-in_ok-audit_weapons-in-Some-clause-tells : goal.returns-in_ok-audit_weapons-in-Some-clause-tells
returns-in_ok-audit_weapons-in-Some-clause-tells g c =
    book_made c.args.weapons.now c.in-Some.weapons c.in-Some.is c.in_ok-audit_weapons-in-Some.field-0 c.in_ok-audit_weapons-in-Some.ensures.tells

pub returns-in-None-clause-tells : goal.returns-in-None-clause-tells
returns-in-None-clause-tells g c = layers_none c.args.weapons.now c.in-None.is
