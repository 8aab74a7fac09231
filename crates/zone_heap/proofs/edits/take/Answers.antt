use Rattle.zone_rules.proofs.Common.{arith, ltb-true, ltb-false, rules, ◌+◌, ◌-◌, ◌<◌, ◌≤◌, ◌∙◌, ap, sym, length, cond, ◌==◌}
use Rattle.zone_heap.specs.{Regions.joined, Rules.MIN_FRAGMENT}
use Rattle.zone_heap.proofs.TakeLemmas.{m, size_is, region_is, word_here, fits, inside, size_here, whole_laid, whole_blocks, whole_rover, whole_len}
use Rattle.zone_heap.proofs.TakeLemmas.{cut_laid, cut_blocks, cut_rover, cut_len}
use Rattle.zone_heap.proofs.edits.take.Goals as goal

pub word_at-size-requires : goal.word_at-size-requires
word_at-size-requires c =
    let needs = c.requires in
    let wanted_fits = inside _ _ _ needs.laid needs.small needs.room c.args.used needs.large needs.live needs.owner needs.tag in
    omega arith

pub overflow_sub-size : goal.overflow_sub-size
overflow_sub-size c =
    let needs = c.requires in
    (size_here _ _ _ needs.laid needs.small needs.room c.args.used needs.large needs.live needs.owner needs.tag _ c.word_at-size.ensures).0

pub cut-requires-clause-inside : goal.cut-requires-clause-inside
cut-requires-clause-inside c =
    let needs = c.requires in
    let bounds = size_here _ _ _ needs.laid needs.small needs.room c.args.used needs.large needs.live needs.owner needs.tag _ c.word_at-size.ensures in
    let block_fits = bounds.1 in let rest_is_large = ltb-true _ _ (sym c.is_rest.ensures ∙ c.if-is_rest.true) in omega arith

pub set_use-requires : goal.set_use-requires
set_use-requires c =
    let needs = c.requires in
    let wanted_fits = inside _ _ _ needs.laid needs.small needs.room c.args.used needs.large needs.live needs.owner needs.tag in
    let length_kept = c.cut.ensures.len in omega arith

pub overflow_add-result : goal.overflow_add-result
overflow_add-result c =
    let needs = c.requires in
    let wanted_fits = inside _ _ _ needs.laid needs.small needs.room c.args.used needs.large needs.live needs.owner needs.tag in
    let region_small = needs.small in
    let place_small : c.args.place + c.args.wanted < 18446744073709551616 = omega arith in
    search rules

pub set_use-requires-else-is_rest : goal.set_use-requires-else-is_rest
set_use-requires-else-is_rest c =
    let needs = c.requires in
    let wanted_fits = inside _ _ _ needs.laid needs.small needs.room c.args.used needs.large needs.live needs.owner needs.tag in
    omega arith

pub overflow_add-result-else-is_rest : goal.overflow_add-result-else-is_rest
overflow_add-result-else-is_rest c =
    let needs = c.requires in
    let bounds = size_here _ _ _ needs.laid needs.small needs.room c.args.used needs.large needs.live needs.owner needs.tag _ c.word_at-size.ensures in
    let block_fits = bounds.1 in let region_small = needs.small in
    let place_small : c.args.place + c.word_at-size.result < 18446744073709551616 = omega arith in
    search rules

pub returns-then-is_rest : goal.returns-then-is_rest
returns-then-is_rest c =
    let needs = c.requires in
    let size_word_is = word_here _ _ _ needs.laid needs.small needs.room c.args.used needs.large needs.live needs.owner needs.tag in
    let size_told = c.word_at-size.ensures ∙ size_word_is in let rest_is_large = ltb-true _ _ (sym c.is_rest.ensures ∙ c.if-is_rest.true) in
    let much : MIN_FRAGMENT < needs.room.size - c.args.wanted = omega arith in
    let part_size = size_is _ _ _ needs.laid needs.small needs.room c.args.used needs.large needs.live needs.owner needs.tag in
    let found_part = m _ _ _ needs.laid needs.small needs.room c.args.used needs.large needs.live needs.owner needs.tag in
    let region_parts = region_is _ _ _ needs.laid needs.small needs.room c.args.used needs.large needs.live needs.owner needs.tag in
    let parts_are = c.cut.ensures.parts (joined found_part.split.front) found_part.part (joined found_part.others)
    region_parts found_part.split.at_is (omega arith) (size_word_is ∙ sym part_size) in
    let block_fits = fits _ _ _ needs.laid needs.small needs.room c.args.used needs.large needs.live needs.owner needs.tag in
    let room_large = needs.room.large in
    record {
      laid = cut_laid _ _ _ needs.laid needs.small needs.room c.args.used needs.large needs.live needs.owner needs.tag _ _ parts_are c.set_use.ensures much;
      len = cut_len _ _ _ needs.laid needs.small needs.room c.args.used needs.large needs.live needs.owner needs.tag _ _ parts_are c.set_use.ensures much;
      blocks = cut_blocks _ _ _ needs.laid needs.small needs.room c.args.used needs.large needs.live needs.owner needs.tag _ _ parts_are c.set_use.ensures much;
      rover = cut_rover _ _ _ needs.laid needs.small needs.room c.args.used needs.large needs.live needs.owner needs.tag _ _ parts_are c.set_use.ensures much;
      bound = omega arith;
    }

pub returns-else-is_rest : goal.returns-else-is_rest
returns-else-is_rest c =
    let needs = c.requires in
    let size_word_is = word_here _ _ _ needs.laid needs.small needs.room c.args.used needs.large needs.live needs.owner needs.tag in
    let size_told = c.word_at-size.ensures ∙ size_word_is in let rest_is_little = ltb-false _ _ (sym c.is_rest.ensures ∙ c.if-is_rest.false) in
    let little : needs.room.size - c.args.wanted ≤ MIN_FRAGMENT = omega arith in
    let block_fits = fits _ _ _ needs.laid needs.small needs.room c.args.used needs.large needs.live needs.owner needs.tag in
    let use_written = c.set_use-else-is_rest.ensures in
    record {
      laid = whole_laid _ _ _ needs.laid needs.small needs.room c.args.used needs.large needs.live needs.owner needs.tag _ use_written little;
      len = whole_len _ _ _ needs.laid needs.small needs.room c.args.used needs.large needs.live needs.owner needs.tag _ use_written little;
      blocks = whole_blocks _ _ _ needs.laid needs.small needs.room c.args.used needs.large needs.live needs.owner needs.tag _ use_written little;
      rover = ap (λ n. cond (c.args.place + n == length c.args.region.now) 0 (c.args.place + n)) size_told
          ∙ whole_rover _ _ _ needs.laid needs.small needs.room c.args.used needs.large needs.live needs.owner needs.tag _ use_written little;
      bound = omega arith;
    }
