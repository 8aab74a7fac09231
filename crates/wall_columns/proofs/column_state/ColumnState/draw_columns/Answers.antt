-- A fragment without a texture has no strip.
use Rattle.picture_rules.proofs.Common.{false, subst, sym, ◌∙◌, ◌≡◌}
use Rattle.picture_rules.specs.declared.wall.FragmentNumbers.{FragmentNumbers}
use Rattle.receiver_rules.proofs.ReceiverLemmas.{receives-none, receives-same}
use Rattle.wall_columns.specs.{Plans.has_part, Windows.window_at}
use Rattle.wall_columns.proofs.StripLemmas.{strips-bare}
use Rattle.wall_columns.proofs.column_state.ColumnState.draw_columns.Goals as goal

pub returns-then-not-has_part-clause-asks : goal.returns-then-not-has_part-clause-asks
returns-then-not-has_part-clause-asks g c =
    receives-same _ (strips-bare c.args.view.now c.args.number c.args.fragment.now (window_at c.args.self.now.windows)
    (subst (λ (n : FragmentNumbers). has_part n ≡ false) c.requires.numbers (sym c.has_part.ensures ∙ c.if-not-has_part.true))) (receives-none _)
