-- The bytes that a made file has.
use Rattle.std.specs.Prelude.{ℕ, List}
use Rattle.job_files.specs.Rules.{MakeJob, Path, Tables, Things, Wad, made_path, made_tables, made_things, made_wad}

abbrev pub made_file : MakeJob → List ℕ
made_file (Wad n) = made_wad n
made_file (Path n) = made_path n
made_file Tables = made_tables
made_file Things = made_things
