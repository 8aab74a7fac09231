-- What is left of the options decides.
use Rattle.std.proofs.Common.{◌≡◌, Bor, List, ℕ, drop, map}
use Rattle.clap.specs.Words.{found_of, rows_of}
use Rattle.command_line.specs.Choices.{takes_each}
use Rattle.command_line.proofs.options.takes_each.Given as goal

abbrev pub invariant-loop-option : goal.invariant-loop-option
invariant-loop-option l =
    let rows = rows_of (found_of l.found) in
    takes_each rows l.job (map (λ (w : Bor (List ℕ)). w.now) (drop l.option-index l.options)) ≡ takes_each rows l.job (map (λ (w : Bor (List ℕ)). w.now) l.options)
