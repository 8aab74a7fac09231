use Rattle.std.proofs.Common.{ap, Ok, List, ℕ, refl, sym, arith}
use Rattle.doom_run.specs.{Rules.make, Jobs.done, Jobs.job_of}
use Rattle.doom_run.proofs.EndLemmas.{bytes_deliver}
use Rattle.doom_run.proofs.PerformLemmas.{memory_performs, plain_delivers}
use Rattle.doom_run.proofs.top.perform_make.Goals as goal

pub returns-in-Ok : goal.returns-in-Ok
returns-in-Ok g c view =
    plain_delivers _ _ _ (done c.in-Ok.bytes.items) view view _ _ _ _ c.deliver_make.result
    (λ held holds. ap (λ (bytes : List ℕ). Ok (done bytes)) (sym c.in-Ok.ensures))
    (rw c.deref.ensures.value at (bytes_deliver _ _ _ c.deliver_make.result c.deliver_make.ensures.ends)) c.deliver_make.ensures.write_fault c.deliver_make.ensures.write_settled refl
    (λ held holds. omega arith)

pub returns-in-Err : goal.returns-in-Err
returns-in-Err g c view = memory_performs (job_of (make c.args.job)) view _ _
