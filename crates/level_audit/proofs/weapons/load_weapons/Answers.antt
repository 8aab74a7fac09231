use Rattle.std.proofs.Common.{Ok, Err, ap, ◌∙◌}
use Rattle.level_audit.specs.Rules.{WeaponArt, from_below}
use Rattle.texture_build.proofs.CallLemmas.{reads_same}
use Rattle.level_audit.specs.Weapons.{weapon_book, weapon_fault, weapon_needs}
use Rattle.level_audit.proofs.WeaponLemmas.{weapons_above}
use Rattle.level_audit.proofs.weapons.load_weapons.Goals as goal

pub returns-in-Ok : goal.returns-in-Ok
returns-in-Ok g c = record {
  tells = weapons_above c.args.weapons.now c.deref.result.now (Ok c.in-Ok.book) (c.deref.ensures.value ∙ c.in_ok-needs.ensures ∙ ap weapon_needs c.rows.ensures.value) c.in-Ok.ensures.tells;
  there = c.in-Ok.ensures.there;
}

pub returns : goal.returns
returns g c = record {
  tells = reads_same (Err c.weapon_fault.result) (weapon_fault c.in-Err.fault) (λ bytes. from_below WeaponArt (weapon_book bytes c.args.dir.now.lumps c.args.weapons.now)) c.weapon_fault.ensures
      (weapons_above c.args.weapons.now c.deref.result.now (Err c.in-Err.fault) (c.deref.ensures.value ∙ c.in_ok-needs.ensures ∙ ap weapon_needs c.rows.ensures.value) c.in-Err.ensures.tells);
  there = tt;
}
