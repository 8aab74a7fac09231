-- What clap's calls give, in the words of its rows.
use Rattle.std.proofs.Common.{◌≡◌, ◌≢◌, ◌∙◌, true, refl, sym, ap, subst, inl, inr, List, [], codes, map}
use Rattle.clap.specs.Words.{App, HasKind, HasMatchesOf, Kinds, Rule, Text, fault_of, found_of, is_simple, is_simple_and_free, kind_of, matches_of, new_rule, rows_of, with_rule}
use Rattle.clap.specs.declared.error.Error.{Error}
use Rattle.clap.specs.declared.error.kind.ErrorKind.TheVariants.{OutOfMemory}
use Rattle.clap.specs.declared.parser.matches.ArgMatches.{ArgMatches}
use Rattle.clap.proofs.OnLiterals.{clap_on_literals}
use Rattle.clap.proofs.WalkLemmas.{first_value-rows, raw_values-rows}
use Rattle.command_line.specs.Rules.{OPTIONS}
use Rattle.command_line.specs.Simple.{bare_command, rest_rule, simple_command, with_option, with_options}

-- clap says what it finds in the words of the command
pub command-simple : is_simple simple_command ≡ true
unfolding clap_on_literals simple_command with_option
command-simple = refl

pub command-free : is_simple_and_free simple_command ≡ true
unfolding clap_on_literals simple_command with_option
command-free = refl

-- a command that was put together as the simple one is
pub simple-whole : {bare with_job with_all whole : App} {job rest : Rule} {names : List Text} → bare ≡ bare_command → with_job ≡ with_rule bare job → job ≡ new_rule (codes "job") →
    with_all ≡ with_options with_job names → names ≡ map (λ w. w.now) OPTIONS → whole ≡ with_rule with_all rest → rest ≡ rest_rule → whole ≡ simple_command
unfolding simple_command
simple-whole is_bare has_job is_job has_options are_options has_rest is_rest = cc

-- of the command that clap reads
pub ruleset simple_rules = (command-simple, command-free)

-- of the rows that clap finds
pub ruleset found_rows = (first_value-rows, raw_values-rows)

-- of a command that is the simple one: what clap's clauses then say
pub found-taken : {a : App} (ws : List Text) → a ≡ simple_command → (is_simple_and_free a ≡ true → fault_of a ws ≡ []) → fault_of simple_command ws ≡ []
found-taken {a} ws e h = ap (λ x. fault_of x ws) (sym e) ∙ h (ap is_simple_and_free e ∙ command-free)

pub found-matches : {a : App} (ws : List Text) (m : ArgMatches) → a ≡ simple_command → HasMatchesOf a ws m → rows_of (found_of m) ≡ matches_of simple_command ws
found-matches {a} ws m e h = (h (ap is_simple e ∙ command-simple)).0 ∙ ap (λ x. matches_of x ws) e

no-kinds : (ks : Kinds) (error : Error) → HasKind ks error → ks ≡ [] → kind_of error ≡ OutOfMemory
no-kinds ks error h e = only (subst (λ (k : Kinds). HasKind k error) e h) where
  only : HasKind [] error → kind_of error ≡ OutOfMemory
  only (inl is) = is
  only (inr none) = absurd none

pub found-usage : {a : App} (ws : List Text) (error : Error) → a ≡ simple_command → (is_simple_and_free a ≡ true → HasKind (fault_of a ws) error) → kind_of error ≢ OutOfMemory → fault_of simple_command ws ≢ []
found-usage {a} ws error e h other none =
    other (no-kinds (fault_of a ws) error (h (ap is_simple_and_free e ∙ command-free)) (ap (λ x. fault_of x ws) e ∙ none))
