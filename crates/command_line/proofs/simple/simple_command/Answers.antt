use Rattle.std.proofs.Common.{Bor, List, Some, ap, map, ℕ, ◌∙◌}
use Rattle.clap.specs.Words.{Rule, app_of, rule_of}
use Rattle.clap.specs.declared.builder.ArgAction.TheVariants.{Append}
use Rattle.command_line.proofs.SimpleLemmas.{simple-whole}
use Rattle.command_line.proofs.simple.simple_command.Goals as goal

pub returns : goal.returns
returns c = ap app_of c.command.ensures
    ∙ simple-whole {names = map (λ (w : Bor (List ℕ)). w.now) c.as_slice.result.now} c.bare_parser.ensures c.in_ok-parser.ensures c.new.ensures.rule c.in_ok-parser-2.ensures
    (ap (map (λ (w : Bor (List ℕ)). w.now)) c.as_slice.ensures) c.in_ok-parser-3.ensures
    (ap rule_of c.action.ensures ∙ ap (λ (rule : Rule). record rule { action = Some Append }) c.new-2.ensures.rule)
