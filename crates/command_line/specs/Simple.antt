-- The simple command: a job, options with one value each, and the rest, in `clap`'s words.
use Rattle.std.specs.Prelude.{true, Some, codes, List, [], ◌∷◌, map}
use Rattle.clap.specs.Words.{App, Rule, Text, new_app, new_rule, with_rule}
use Rattle.clap.specs.{Simple.on_top, declared.builder.ArgAction.TheVariants.Append}
use Rattle.command_line.specs.Rules.{OPTIONS}

-- an option that takes one value
abbrev pub option_rule : Text → Rule
option_rule name = record (new_rule name) { long = Some name }

-- the words of any number after the job
abbrev pub rest_rule : Rule
rest_rule = record (new_rule (codes "rest")) { action = Some Append }

-- the command without its arguments: no help, no version, no name of the program among the words
abbrev pub bare_command : App
bare_command = on_top (λ s. record s { no_binary_name = true; disable_help_flag = true; disable_version_flag = true }) (new_app (codes "doomview"))

-- the command with one more option
unfoldable pub with_option : App → Text → App
with_option command name = with_rule command (option_rule name)

-- with these options, in this order
abbrev pub with_options : App → List Text → App
with_options command [] = command
with_options command (name ∷ names) = with_options (with_option command name) names

-- a job, all options, and then words of any number
unfoldable pub simple_command : App
simple_command = with_rule (with_options (with_rule bare_command (new_rule (codes "job"))) (map (λ w. w.now) OPTIONS)) rest_rule
