-- The words of a command line, after the program's name, and what their job asks for.
use Rattle.std.specs.Prelude.{ℕ, Bool, true, false, IsTrue, List, map, String, string_bytes}
use Rattle.std.specs.Option.{option_map_or}
use Rattle.std.specs.declared.alloc.Global.{Global}
use Rattle.command_line.specs.Commands.{command_of}
use Rattle.doom_run.specs.Jobs.{Task, job_of, over, plain}

-- the texts of the words
abbrev pub texts : List (String Global) → List (List ℕ)
texts words = map (λ word. string_bytes word) words

-- the words are a command that asks for files
abbrev pub ask_for_files : List (List ℕ) → Bool
ask_for_files words = option_map_or (λ command. (job_of command).asks) (command_of words) false

-- a premise on the shelf: it counts only where the words ask for files
abbrev pub WhereAsked : List (List ℕ) → Type 0 → Type 0
WhereAsked words Premise = IsTrue (ask_for_files words) → Premise

-- the words are a command that reads on while it writes
abbrev pub read_on : List (List ℕ) → Bool
read_on words = option_map_or (λ command. (job_of command).reads_on) (command_of words) false

-- a job over a level has a zone, and so has an exercise
abbrev pub has_zone : Task → Bool
has_zone (plain writes reads) = false
has_zone (over work) = true

-- the words are a command that has a zone
abbrev pub have_zone : List (List ℕ) → Bool
have_zone words = option_map_or (λ command. has_zone (job_of command).task) (command_of words) false
