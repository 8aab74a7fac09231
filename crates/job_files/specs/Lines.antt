-- The line that is noted for a status. Each ends with the byte 10.
use Rattle.std.specs.Prelude.{ℕ, List, [], ◌++◌, codes}
use Rattle.std.specs.List.{flat_map}
use Rattle.refusals.specs.declared.refusal.Refusal.{Refusal}
use Rattle.refusals.specs.Lines.{labelled, numbers_of, spaced}
use Rattle.job_files.specs.Rules.{LimitKind, Openings, Planes}
use Rattle.job_files.specs.declared.status.Status.{Status}
use Rattle.job_files.specs.declared.status.Status.TheVariants.{Done, Usage, Refused, ReadFault, WriteFault, Limit, ZoneFull, OutOfMemory}

-- two numbers, each after some text
abbrev pub pair_line : List ℕ → ℕ → List ℕ → ℕ → List ℕ
pair_line first a second b = labelled first a ++ (labelled second b ++ codes "\n")

abbrev pub refusal_line : Refusal → List ℕ
refusal_line refusal = codes "doomview: refused" ++ (flat_map spaced (numbers_of refusal) ++ codes "\n")

-- what a limit counts
abbrev pub limit_label : LimitKind → List ℕ
limit_label Planes = codes " planes "
limit_label Openings = codes " openings "

-- nothing for Done, else one line
abbrev pub line_of : Status → List ℕ
line_of Done = []
line_of Usage = codes "doomview: usage\n"
line_of (Refused refusal) = refusal_line refusal
line_of ReadFault = codes "doomview: read fault\n"
line_of WriteFault = codes "doomview: write fault\n"
line_of (Limit view kind count) = pair_line (codes "doomview: limit view ") view (limit_label kind) count
line_of (ZoneFull wanted widest) = pair_line (codes "doomview: zone full wanted ") wanted (codes " widest ") widest
line_of OutOfMemory = codes "doomview: out of memory\n"
