use Rattle.std.proofs.Common.{◌∙◌, subst}
use Rattle.scene_rules.specs.declared.ZoneSizes.{ZoneSizes}
use Rattle.level_audit.specs.scene_load.Loads.{loaded_sizes}
use Rattle.doom_run.specs.{Ends.WritesDue, Jobs.audited}
use Rattle.doom_run.proofs.DeliverLemmas.{telling_delivers}
use Rattle.doom_run.proofs.audit.perform_audit.Goals as goal

pub returns : goal.returns
returns g c level view stands =
    telling_delivers level view c.args.loaded.now (λ bytes loaded. audited (loaded_sizes loaded)) _ _ _ _ c.deliver_audit.result stands
    (λ bytes. subst (λ (s : ZoneSizes). WritesDue (audited s) (g.K.Sink.written c.args.out.now) (g.K.Sink.written c.deliver_audit.new.out) (g.K.Sink.faults c.args.out.now) (g.K.Sink.faults c.deliver_audit.new.out) c.deliver_audit.result) (c.sizes.ensures ∙ stands.audited.sizes) c.deliver_audit.ensures)
