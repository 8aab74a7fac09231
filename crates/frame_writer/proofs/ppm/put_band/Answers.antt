use Rattle.art_rules.proofs.Common.{◌≡◌, ◌*◌, ◌≤◌, ℕ, List, length, take, ap, subst, sym, ◌∙◌, arith, flat_map, length-take-le, length-replicate}
use Rattle.art_rules.specs.Words.{Failed, Writes}
use Rattle.frame_writer.specs.Words.{word_colour}
use Rattle.frame_writer.proofs.ppm.put_band.Goals as goal

pub slice_bounds-put-end : goal.slice_bounds-put-end
slice_bounds-put-end g c =
    let colours_enough : 38400 ≤ length c.fill.new.colours = omega (arith, c.fill.auto.colours, length-replicate {A = ℕ} 38401 0) in
    sym (length-take-le 38400 c.fill.new.colours colours_enough)

pub returns : goal.returns
returns g c =
    let size : 38400 ≡ 3 * length c.args.band.now = omega arith in
    let bytes : take 38400 c.fill.new.colours ≡ flat_map (word_colour c.args.words.now) c.args.band.now =
    ap (λ (n : ℕ). take n c.fill.new.colours) size ∙ c.fill.ensures in
    subst (λ (xs : List ℕ). Writes {E = Failed} (g.K.Sink.written c.args.sink.now) (g.K.Sink.written c.put.new.self) (g.K.Sink.faults c.args.sink.now) (g.K.Sink.faults c.put.new.self) xs c.put.result)
    bytes c.put.ensures
