use Rattle.art_rules.proofs.Common.{◌≡◌, ◌+◌, ◌<◌, rules, length, arith, ◌∙◌, length-set, to_z-of_z}
use Rattle.art_rules.specs.Words.{first_row, put_count}
use Rattle.patch_columns.proofs.RowLemmas.{put_count-room, put_count-bytes, row_so_far-none, row_so_far-more, row_so_far-all}
use Rattle.patch_columns.proofs.compose.put_post.Goals as goal

pub loop-k-init : goal.loop-k-init
loop-k-init c = record { same = λ i. length c.args.column.now; rows = λ v. row_so_far-none _ _ _ v _ }

pub overflow_add-post : goal.overflow_add-post
overflow_add-post c =
    let count_within_bytes = put_count-bytes _ _ _ _ _ c.put_count-count.ensures c.loop-k-test.true in
    search rules

pub bounds-column-first : goal.bounds-column-first
bounds-column-first c =
    let row_below_height = put_count-room _ _ _ _ _ _ c.first_row-first.ensures c.put_count-count.ensures c.loop-k-test.true in
    omega arith

pub overflow_add-column : goal.overflow_add-column
overflow_add-column c =
    let row_below_height = put_count-room _ _ _ _ _ _ c.first_row-first.ensures c.put_count-count.ensures c.loop-k-test.true in
    search rules

pub loop-k-preserved : goal.loop-k-preserved
loop-k-preserved c =
    let row_below_height = put_count-room _ _ _ _ _ _ c.first_row-first.ensures c.put_count-count.ensures c.loop-k-test.true in
    let row_within : c.first_row-first.result + c.loop-k.k < length c.loop-k.column = omega arith in
    record {
      same = length-set _ _ _ ∙ c.loop-k.invariant.same;
      rows = λ v. row_so_far-more _ _ _ _ _ v _ _ c.byte_at.ensures row_within (c.loop-k.invariant.rows v);
    }

pub returns : goal.returns
returns c =
    let all_put : c.loop-k.k ≡ c.put_count-count.result = omega arith in
    let first_row_is : c.first_row-first.result ≡ first_row c.args.row = search (rules, to_z-of_z) in
    let count_is : c.put_count-count.result ≡ put_count (length c.args.column.now) c.args.row c.args.post.length = search (rules, to_z-of_z) in
    row_so_far-all c.args.lump.now c.args.row c.args.post c.first_row-first.result c.loop-k.k c.args.column.now c.loop-k.column
    first_row_is (all_put ∙ count_is) c.loop-k.invariant.same c.loop-k.invariant.rows
