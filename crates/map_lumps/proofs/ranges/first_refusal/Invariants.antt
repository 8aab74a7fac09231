use Rattle.std.proofs.Common.{◌≡◌, drop}
use Rattle.level_rules.specs.maps.Firsts.{first_refusal}
use Rattle.map_lumps.proofs.ranges.first_refusal.Given as goal

-- what is refused of the rest is refused of all
abbrev pub invariant-loop-n : goal.invariant-loop-n
invariant-loop-n g l =
    let refusal = g.R.RangedRecord.refusal_in l.counts l.lines in
    first_refusal refusal 0 l.records ≡ first_refusal refusal l.n (drop l.n l.records)
