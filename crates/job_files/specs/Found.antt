-- Files that were all asked for.
use Rattle.std.specs.Prelude.{◌≡◌, ℕ, List, Some}
use Rattle.art_rules.specs.Words.{File, FileNo, NameFiles, ShelfView}
use Rattle.job_files.specs.Files.{files_named}

-- each number stands for the first file of the name at its place
pub record AllStandForNamed (view : ShelfView) (numbers : List FileNo) (names : List (List ℕ)) (files : List File) : Type 0 where
  pub contents : List (List ℕ)
  pub lookup : files_named names files ≡ Some contents
  pub stand : NameFiles view numbers contents
