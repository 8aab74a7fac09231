-- The options so far are in the command, and those that are left come after them.
use Rattle.std.proofs.Common.{◌≡◌, Bor, List, ℕ, drop, map}
use Rattle.clap.specs.Words.{app_of}
use Rattle.command_line.specs.Simple.{with_options}
use Rattle.command_line.proofs.simple.Parser.with_options.Given as goal

abbrev pub invariant-loop-name : goal.invariant-loop-name
invariant-loop-name l =
    with_options (app_of l.parser.command) (map (λ (w : Bor (List ℕ)). w.now) (drop l.name-index l.names)) ≡ with_options (app_of l.fn.self.command) (map (λ (w : Bor (List ℕ)). w.now) l.fn.names)
