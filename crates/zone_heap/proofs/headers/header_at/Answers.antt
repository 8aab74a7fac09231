use Rattle.std.proofs.Common.{sym, ◌∙◌}
use Rattle.zone_heap.proofs.WordLemmas.{header_from}
use Rattle.zone_heap.proofs.headers.header_at.Goals as goal

pub returns : goal.returns
returns c = (λ i. record { size = c.word_at.ensures i; asked = c.word_at-2.ensures i; owner = c.word_at-3.ensures i; tag = c.word_at-4.ensures i })
    ∙ sym (header_from c.args.region.now c.args.at)
