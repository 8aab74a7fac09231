use Rattle.art_rules.proofs.Common.{rules, to_z-of_z}
use Rattle.patch_columns.specs.Composites.{posts_in}
use Rattle.patch_columns.proofs.ColumnLemmas.{with_posts-none}
use Rattle.patch_columns.proofs.compose.put_in_column.Goals as goal

pub returns-then-stands_in : goal.returns-then-stands_in
unfolding posts_in
returns-then-stands_in c = search (rules, to_z-of_z)

pub returns-else-stands_in : goal.returns-else-stands_in
unfolding posts_in
returns-else-stands_in c = search (rules, with_posts-none)
