-- A call that makes live what a texture column is read from.
use Rattle.std.specs.Prelude.{◌≡◌, ℕ, List, None, Some, IfErr, OnOk, OnErr, Result, Ok}
use Rattle.texture_build.specs.Rules.{AllWithin, ColumnLookup, HasCauses, IsLaterShelf, NameFiles, PreparedTexture, ResultIs, ShelfView, lump_bytes}
use Rattle.lump_cache.specs.{Zones.Heap, Zones.owned_block, Orders.Item, Orders.IsInOrder}
use Rattle.lump_cache.specs.{DirectoryView.DirectoryView, declared.fault.CacheFault.CacheFault}
use Rattle.lump_cache.specs.Caches.{IsAtRest, IsFaithful, KeepsCounts, cache_fault, composite_owner}
use Rattle.lump_cache.specs.Calls.{IfFull, LeavesInOrder, HoldContents}
use Rattle.texture_build.specs.Asked.{HasColumnAsked, IsFullForColumn}
use Rattle.texture_build.specs.Composites.{AreComposites}
use Rattle.texture_build.specs.Sources.{IsColumnLive, IsComposedColumn}
use Rattle.texture_build.specs.Views.{TexturesView, prepared_at}

-- for a column of the texture of that number, which is read from that
pub record MakesColumnLive (number : ℕ) (t : PreparedTexture) (lookup : ColumnLookup)
    (view after : ShelfView) (dir : DirectoryView) (old new : Heap)
    (result : Result (Unit {0}) CacheFault) : Type 0 where
  pub answers : (contents : List (List ℕ)) → NameFiles view dir.files contents →
      AllWithin contents dir.lumps →
      ResultIs cache_fault view.steady (λ (done : Unit {0}). done) (Ok tt) result
  pub live : OnOk result (IsColumnLive number new lookup)
  pub follows : IsLaterShelf view after
  pub causes : HasCauses cache_fault view.faults after.faults result
  pub counts : KeepsCounts old new
  pub rest : (colormap count : ℕ) → IsAtRest colormap count old → IsAtRest colormap count new
  pub faithful : (contents : List (List ℕ)) → NameFiles view dir.files contents →
      IsFaithful contents dir.lumps old → IsFaithful contents dir.lumps new
  pub composites : (contents : List (List ℕ)) (textures : TexturesView) →
      prepared_at textures.prepared number ≡ Some t → HoldContents view dir old contents →
      AreComposites (lump_bytes contents dir.lumps) textures old →
      AreComposites (lump_bytes contents dir.lumps) textures new
  pub empty : OnErr result
      (IsComposedColumn lookup → owned_block (composite_owner number) new.blocks ≡ None)
  pub full : IfErr result
      (λ fault. IfFull (cache_fault fault) (IsFullForColumn dir.lumps number t lookup old))
  pub order : (items : List Item) → HasColumnAsked items dir.lumps number t lookup →
      IsInOrder items old →
      LeavesInOrder cache_fault items view after old new result
