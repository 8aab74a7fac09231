-- What a contract sees of a directory.
use Rattle.std.specs.Prelude.{List}
use Rattle.wad_dir.specs.Rules.{FileNo, Lump}

pub record DirectoryView : Type 0 where
  -- the numbers of its files, in the order in which they were given
  pub files : List FileNo
  -- the lumps of all files, in order
  pub lumps : List Lump
