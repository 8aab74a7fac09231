use Rattle.std.proofs.Common.{ap, refl, Ok, Result}
use Rattle.doom_run.specs.{Rules.Stop, Rules.and_then, Jobs.Written, Jobs.done}
use Rattle.art_rules.proofs.Laws.{stops_all}
use Rattle.frame_writer.specs.Ppm.{ppm}
use Rattle.refusals.specs.declared.refusal.Refusal.{Refusal}
use Rattle.job_files.specs.Flats.{PictureValue, flat_verdict}
use Rattle.job_files.proofs.StepLemmas.{status_full}
use Rattle.doom_run.proofs.EndLemmas.{bytes_deliver}
use Rattle.doom_run.proofs.PerformLemmas.{plain_delivers, plain_stops}
use Rattle.doom_run.proofs.top.perform_flat.Goals as goal

pub returns-in-Ok : goal.returns-in-Ok
returns-in-Ok g c =
    plain_delivers _ _ _ (done (ppm c.in-Ok.picture.frame c.in-Ok.picture.palette)) _ _ _ _ _ _ c.deliver_flat.result
    (λ held holds. ap (λ (v : Result PictureValue (Stop Refusal)). and_then {B = Written} v (λ picture. Ok (done (ppm picture.frame picture.palette)))) (c.in-Ok.ensures.answers held (holds refl)).ok)
    (bytes_deliver _ _ _ c.deliver_flat.result c.deliver_flat.ensures.ends) c.deliver_flat.ensures.write_fault c.deliver_flat.ensures.write_settled c.in-Ok.ensures.causes.ok
    (λ held holds. c.in-Ok.ensures.taken held (holds refl))

pub returns-in-Err : goal.returns-in-Err
returns-in-Err g c =
    rw c.of.ensures (plain_stops _ _ _ _ _ _ c.in-Err.fault
    (λ held holds. stops_all _ (flat_verdict c.args.name.now c.args.file.now held) _ c.in-Err.fault (c.in-Err.ensures.answers held holds).err)
    c.in-Err.ensures.causes.err
    (λ wanted widest e. status_full (λ wanted widest. ⊥) c.in-Err.fault wanted widest e c.in-Err.ensures.full)
    (λ held holds. c.in-Err.ensures.taken held holds))
