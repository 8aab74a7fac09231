use Rattle.std.proofs.Common.{◌≡◌, List, length, map, take}
use Rattle.art_rules.specs.Words.{File, Holds, IsLaterShelf}
use Rattle.job_files.specs.Found.{AllStandForNamed}
use Rattle.job_files.proofs.wads.find_all.Given as goal

abbrev pub invariant-loop-name : goal.invariant-loop-name
invariant-loop-name g l = record {
  count : length l.numbers.items ≡ l.name-index;
  follows : IsLaterShelf (g.S.Shelf.view l.fn.shelf) (g.S.Shelf.view l.shelf);
  settled : (g.S.Shelf.view l.shelf).faults ≡ (g.S.Shelf.view l.fn.shelf).faults;
  untaken : (g.S.Shelf.view l.shelf).taken ≡ (g.S.Shelf.view l.fn.shelf).taken;
  found : (files : List File) → Holds (g.S.Shelf.view l.fn.shelf) files →
      AllStandForNamed (g.S.Shelf.view l.shelf) l.numbers.items (map (λ name. name.now) (take l.name-index l.names)) files;
}
