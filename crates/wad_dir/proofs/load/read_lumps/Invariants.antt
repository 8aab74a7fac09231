use Rattle.std.proofs.Common.{◌≡◌, ℕ, ◌<◌, ◌≤◌, ◌+◌, ◌*◌, List, drop, length, All}
use Rattle.wad_dir.specs.Rules.{ENTRY_SIZE, HEADER_SIZE, IsLaterShelf, MAX_LUMPS, NameFiles, listing_sizes}
use Rattle.wad_dir.proofs.FileLemmas.{IsReadTo}
use Rattle.wad_dir.proofs.load.read_lumps.Given as goal

abbrev pub invariant-loop-i : goal.invariant-loop-i
invariant-loop-i g l = record {
  few : length l.lumps.items ≤ MAX_LUMPS;
  owned : All (λ lump. lump.file < length l.files) l.lumps.items;
  follows : IsLaterShelf (g.S.Shelf.view l.fn.shelf) (g.S.Shelf.view l.shelf);
  settled : (g.S.Shelf.view l.shelf).faults ≡ (g.S.Shelf.view l.fn.shelf).faults;
  read : (contents : List (List ℕ)) → NameFiles (g.S.Shelf.view l.fn.shelf) l.files contents → IsReadTo contents l.i l.lumps.items;
  taken : (contents : List (List ℕ)) → NameFiles (g.S.Shelf.view l.fn.shelf) l.files contents →
      (g.S.Shelf.view l.shelf).taken + listing_sizes (drop l.i contents) ≤ (g.S.Shelf.view l.fn.shelf).taken + listing_sizes contents;
  taken_by_count : (g.S.Shelf.view l.shelf).taken ≤ (g.S.Shelf.view l.fn.shelf).taken + (HEADER_SIZE * l.i + ENTRY_SIZE * length l.lumps.items);
}
