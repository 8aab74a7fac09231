use Rattle.art_rules.proofs.Common.{dedup_is, IfOk-weaker, ◌∙◌}
use Rattle.sprite_book.proofs.ListLemmas.{listed_once}
use Rattle.sprite_book.proofs.list.list_pictures.Goals as goal

pub returns : goal.returns
returns c =
    IfOk-weaker c.as_lumps.result _ _ (λ found e. listed_once c.args.frames.now c.in_ok-numbers.numbers.items c.sort_unstable.new.self.items c.dedup.new.self.items _ c.in_ok-numbers.ensures c.sort_unstable.ensures.permutation c.sort_unstable.ensures.sorted (dedup_is _ _ _ c.dedup.ensures.filtered) (e ∙ c.deref.ensures.value)) c.as_lumps.ensures
