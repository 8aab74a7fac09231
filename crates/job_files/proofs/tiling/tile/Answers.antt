use Rattle.std.proofs.Common.{arith}
use Rattle.job_files.specs.Flats.{tiled_index}
use Rattle.job_files.proofs.TilingLemmas.{all_listed}
use Rattle.job_files.proofs.tiling.tile.Goals as goal

pub returns-clause-pixels : goal.returns-clause-pixels
returns-clause-pixels c =
    all_listed (tiled_index c.args.flat.now) c.loop-i.pixel-items _ c.in_ok-frame.frame.len c.args.count
    c.loop-i.invariant.length c.in_ok-frame.ensures.len (λ k h. c.loop-i.invariant.so_far k (omega arith))
