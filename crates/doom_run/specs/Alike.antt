-- What a trimmed file is for: rendering it comes to the same as rendering the WADs that it was made of.
use Rattle.std.specs.Prelude.{◌≡◌, ℕ, List, [], ◌∷◌, Some, Result, Ok}
use Rattle.doom_run.specs.Rules.{File, FileNames, Format, LevelJobValue, Render, Spans, file_named, level_job}
use Rattle.doom_run.specs.{Steps.RunStop, Jobs.job_of, Verdict.Accepted, Verdict.job_verdict}

-- Other files, of which the first of a name has these bytes. The files beside the WADs are the same.
pub record StandsForWads (names : FileNames) (bytes name : List ℕ) (files others : List File) : Type 0 where
  pub trimmed : file_named name others ≡ Some bytes
  pub tables : file_named names.tables others ≡ file_named names.tables files
  pub things : file_named names.things others ≡ file_named names.things files
  pub path : file_named names.path others ≡ file_named names.path files
  pub weapon : (layers : List ℕ) → names.weapon ≡ Some layers → file_named layers others ≡ file_named layers files

-- both are accepted, come to the same end and write the same
pub record EndAlike (one other : Result Accepted RunStop) : Type 0 where
  pub first : Accepted
  pub second : Accepted
  pub is : one ≡ Ok first
  pub is_too : other ≡ Ok second
  pub end : second.end ≡ first.end
  pub written : second.output ≡ first.output

-- what rendering the level of these WADs determines
abbrev pub render_verdict : Format → LevelJobValue → List (List ℕ) → List File → Result Accepted RunStop
render_verdict format level wads files = job_verdict (job_of (level_job (Render format) level wads)) files

-- the same job, with spans that are stepped so
abbrev pub with_spans : Spans → LevelJobValue → LevelJobValue
with_spans spans level = record level { settings = record level.settings { spans = spans } }

-- in each format, and whether spans are packed or not
pub record RendersAlike (level : LevelJobValue) (wads : List (List ℕ)) (files : List File) (bytes : List ℕ) : Type 0 where
  pub alike : (format : Format) (spans : Spans) (others : List File) (name : List ℕ) →
      StandsForWads level.files bytes name files others →
      EndAlike (render_verdict format (with_spans spans level) wads files) (render_verdict format (with_spans spans level) (name ∷ []) others)
