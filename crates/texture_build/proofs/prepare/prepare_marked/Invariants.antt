use Rattle.art_rules.specs.Words.{itself, last_of, prepared, prepared_from, PreparedTexture, texture_at}
use Rattle.art_rules.proofs.Common.{All, IfSome, is_some, map, Ok, Option, take, ℕ, ◌≡◌}
use Rattle.lump_cache.specs.Calls.{ReadsLumps}
use Rattle.texture_build.specs.Asked.{IsWantedPatch}
use Rattle.texture_build.specs.Views.{ArePatchesThere, IsListedAs, is_marked, prepared_at}
use Rattle.texture_build.proofs.prepare.prepare_marked.Given as goal

abbrev pub invariant-loop-number : goal.invariant-loop-number
invariant-loop-number g l = record {
  tells : ReadsLumps itself (g.S.Shelf.view l.initial.shelf) (g.S.Shelf.view l.shelf) l.dir l.initial.cache l.cache (IsWantedPatch l.dir.lumps l.lists (is_marked l.marks)) (λ (_ : Unit {0}). l.textures.items)
      (λ bytes. prepared_from (prepared (last_of l.dir.lumps) bytes l.lists.names) (is_marked l.marks) 0 (take l.number l.lists.textures)) (Ok tt);
  there : All (λ (t : Option PreparedTexture). IfSome t (ArePatchesThere l.dir.lumps)) l.textures.items;
  listed : (number : ℕ) → IfSome (prepared_at l.textures.items number) (IsListedAs (texture_at l.lists.textures number));
  marks : map is_some l.textures.items ≡ take l.number l.marks;
}
