use Rattle.std.proofs.Common.{◌≡◌, ◌*◌, ◌+◌, ◌-◌, ◌<◌, ◌≤◌, ℕ, length, get_or, arith, rules}
use Rattle.frame_writer.proofs.WordLemmas.{filled-more}
use Rattle.frame_writer.proofs.ppm.fill.Goals as goal

pub loop-i-preserved : goal.loop-i-preserved
loop-i-preserved c =
    let index : ℕ = get_or c.args.band.now c.loop-i.i 0 in
    let index_within : c.loop-i.i < length c.args.band.now = search rules in
    let colours_enough : 3 * c.loop-i.i ≤ length c.loop-i.colours = search rules in
    let words_enough : 4 * index + 4 ≤ length c.args.words.now = search rules in
    let size : length c.copy_from_slice.new.self ≡ 4 = search rules in
    filled-more c.args.words.now c.loop-i.colours c.args.band.now c.copy_from_slice.new.self c.loop-i.i _ (4 * index + 4 - 4 * index) index_within colours_enough words_enough (omega arith) size
    c.copy_from_slice.ensures.after c.loop-i.invariant
