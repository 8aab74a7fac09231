use Rattle.level_scene.specs.{Rules.is_map_lump, Rules.itself, Lumps.lumps_from}
use Rattle.std.proofs.Common.{◌≡◌, ◌<◌, ◌≤◌, ◌+◌, ℕ, take, true, Ok}
use Rattle.map_lumps.specs.Builders.{empty_builder}
use Rattle.lump_cache.specs.{Calls.ReadsLumps, Sizes.StandsBeside}
use Rattle.level_scene.proofs.LumpLemmas.{added_first}
use Rattle.level_scene.proofs.lumps.add_lumps.Given as goal

abbrev pub invariant-loop-i : goal.invariant-loop-i
invariant-loop-i g l = record {
  tells : ReadsLumps itself (g.S.Shelf.view l.initial.shelf) (g.S.Shelf.view l.shelf) l.dir l.initial.cache l.cache (λ lump. is_map_lump l.label.0 lump ≡ true) (λ (_ : Unit {0}). l.builder) (λ bytes. lumps_from bytes l.label.0 1 (take l.i l.lumps) empty_builder) (Ok tt);
  added : l.builder.added ≡ added_first l.i;
  fits : (lump : ℕ) → l.label.0 < lump → lump ≤ l.label.0 + l.i → StandsBeside l.dir.lumps l.initial.cache lump;
}
