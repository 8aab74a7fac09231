use Rattle.std.proofs.Common.{Bor, List, ap, drop, map, sym, ℕ, ◌&&◌, ◌+◌, ◌∙◌}
use Rattle.std.proofs.lemmas.List.{at_drop_more, drop_all}
use Rattle.clap.specs.Words.{found_of, rows_of}
use Rattle.command_line.specs.Choices.{takes_each}
use Rattle.command_line.proofs.options.takes_each.Goals as goal

pub returns-then-not-allows : goal.returns-then-not-allows
returns-then-not-allows c =
    let rows = rows_of (found_of c.args.found.now) in
    let of_left = λ (options : List (Bor (List ℕ))). takes_each rows c.args.job.now (map (λ (w : Bor (List ℕ)). w.now) options) in
    let rest_allowed = of_left (drop (c.loop-option.option-index + 1) c.args.options.now) in
    sym (sym c.loop-option.invariant ∙ at_drop_more of_left c.args.options.now c.loop-option.option-index _ c.loop-option-test.true
    ∙ ap (λ allowed. allowed && rest_allowed) (sym c.allows.ensures ∙ c.if-not-allows.true))

pub loop-option-preserved : goal.loop-option-preserved
loop-option-preserved c =
    let rows = rows_of (found_of c.args.found.now) in
    let of_left = λ (options : List (Bor (List ℕ))). takes_each rows c.args.job.now (map (λ (w : Bor (List ℕ)). w.now) options) in
    let rest_allowed = of_left (drop (c.loop-option.option-index + 1) c.args.options.now) in
    sym (at_drop_more of_left c.args.options.now c.loop-option.option-index _ c.loop-option-test.true
    ∙ ap (λ allowed. allowed && rest_allowed) (sym c.allows.ensures ∙ c.if-not-allows.false)) ∙ c.loop-option.invariant

pub returns : goal.returns
returns c =
    let rows = rows_of (found_of c.args.found.now) in
    let of_left = λ (options : List (Bor (List ℕ))). takes_each rows c.args.job.now (map (λ (w : Bor (List ℕ)). w.now) options) in
    sym (ap of_left (drop_all c.loop-option.option-index c.args.options.now c.loop-option-test.false)) ∙ c.loop-option.invariant
