use Rattle.art_rules.proofs.Common.{false, get_or, length, take, ℕ, ◌<◌, ◌||◌, ◌≡◌}
use Rattle.texture_build.specs.Views.{is_wanted}
use Rattle.texture_build.proofs.prepare.set_marks.Given as goal

abbrev pub invariant-loop-tex : goal.invariant-loop-tex
invariant-loop-tex l =
    (number : ℕ) → number < length l.initial.marks → get_or l.marks number false ≡ (get_or l.initial.marks number false || is_wanted (take l.tex-index l.wanted) number)
