-- A texture column or a lump that was made live, as a call that draws.
use Rattle.art_rules.proofs.Common.{Bool, Err, IfErr, inl, inr, IsTrue, length, List, Ok, refl, Result, subst, sym, ℕ, ℤ, ◌<◌, ◌≡◌, ◌⊎◌}
use Rattle.texture_build.specs.Rules.{ColumnLookup, Fault, FaultFits, Lump, OutOfMemory, ReadFault, Refused, ResultIs, ShelfView, ZoneFull, lump_bytes}
use Rattle.lump_cache.specs.{Tag.TheVariants.Cache, Zones.Heap, DirectoryView.DirectoryView}
use Rattle.lump_cache.specs.declared.fault.CacheFault.{CacheFault}
use Rattle.lump_cache.specs.Caches.{cache_fault, composite_owner}
use Rattle.lump_cache.specs.{Calls.IfFull, Calls.IsFullFor, Fetches.FetchesLump}
use Rattle.lump_cache.proofs.{CallLemmas.full_at, FetchLemmas.fetch_reads}
use Rattle.texture_build.specs.{Asked.HasColumnAsked, Asked.IsFullForColumn, Sources.column_in}
use Rattle.texture_build.specs.{Views.TexturesView, Views.prepared_texture, Ready.MakesColumnLive}
use Rattle.texture_build.specs.Draws.{IsNoReadFault, IsFullForTexture, KeepsArt, DrawsWith}
use Rattle.texture_build.proofs.ReadyLemmas.{composites_kept}

no_read-fits : {A R : Type 0} (steady : Bool) (expected : Result A R) (fault : Fault R) →
    IsTrue steady → FaultFits steady expected fault → IsNoReadFault fault
no_read-fits steady expected (Refused reason) is k = tt
no_read-fits steady expected ReadFault is k = k is
no_read-fits steady expected (ZoneFull wanted widest) is k = tt
no_read-fits steady expected OutOfMemory is k = tt

no_read-answers : {A : Type 0} (steady : Bool) (expected : Result (Unit {0}) ⊥)
    (value : A → Unit {0}) (result : Result A CacheFault) → IsTrue steady →
    ResultIs cache_fault steady value expected result →
    IfErr result (λ fault. IsNoReadFault (cache_fault fault))
no_read-answers steady expected value (Ok done) is k = tt
no_read-answers steady expected value (Err fault) is k =
    no_read-fits steady expected (cache_fault fault) is k.err

full-texture : (lumps : List Lump) (textures : TexturesView) (z : Heap) (number : ℕ) (column : ℤ)
    (result : Result (Unit {0}) CacheFault) (Q : ℕ → ℕ → Type 0) →
    IfErr result (λ fault. IfFull (cache_fault fault)
    (IsFullForColumn lumps number (prepared_texture textures number)
    (column_in (prepared_texture textures number) column) z)) →
    IfErr result (λ fault. IfFull (cache_fault fault) (λ wanted widest.
    IsFullForTexture (λ n x. (n ≡ number) × (x ≡ column)) lumps textures z wanted widest ⊎ Q wanted widest))
full-texture lumps textures z number column (Ok done) Q k = tt
full-texture lumps textures z number column (Err fault) Q k = full_at (cache_fault fault)
    (λ wanted widest full. inl (record { number = number; column = column; is = (refl, refl); full = full })) k

full-lump : (lumps : List Lump) (textures : TexturesView) (among : ℕ → ℤ → Type 0)
    (dir : DirectoryView) (z : Heap) (lump : ℕ) (result : Result (Unit {0}) CacheFault) →
    IfErr result (λ fault. IfFull (cache_fault fault) (IsFullFor (λ number. number ≡ lump) dir z)) →
    IfErr result (λ fault. IfFull (cache_fault fault) (λ wanted widest.
    IsFullForTexture among lumps textures z wanted widest
    ⊎ IsFullFor (λ number. number ≡ lump) dir z wanted widest))
full-lump lumps textures among dir z lump (Ok done) k = tt
full-lump lumps textures among dir z lump (Err fault) k =
    full_at (cache_fault fault) (λ wanted widest full. inr full) k

module _ {view after : ShelfView} {dir : DirectoryView} {textures : TexturesView} {old new : Heap}
    {result : Result (Unit {0}) CacheFault} where
  -- a texture column was made live: by a column that has that lookup
  pub draws-ready : {pictures : ℕ → Type 0} (number : ℕ) (column : ℤ) (lookup : ColumnLookup) →
      lookup ≡ column_in (prepared_texture textures number) column →
      KeepsArt view after dir textures old new →
      MakesColumnLive number (prepared_texture textures number) lookup view after dir old new result →
      DrawsWith cache_fault (λ n x. (n ≡ number) × (x ≡ column)) pictures view after dir textures old new result
  draws-ready {pictures} number column lookup is keeps r = record {
    keeps = keeps;
    causes = r.causes;
    steady = λ contents stand within steady. no_read-answers view.steady (Ok tt)
        (λ (done : Unit {0}). done) result steady (r.answers contents stand within);
    full = full-texture dir.lumps textures old number column result (IsFullFor pictures dir old)
        (subst (λ (l : ColumnLookup). IfErr result (λ fault. IfFull (cache_fault fault)
        (IsFullForColumn dir.lumps number (prepared_texture textures number) l old))) is r.full);
    order = λ items asked all k. r.order items
        (subst (λ (l : ColumnLookup).
        HasColumnAsked items dir.lumps number (prepared_texture textures number) l) (sym is)
        (asked number column (refl, refl))) k;
  }

  -- a lump was made live, and nothing pinned
  pub draws-fetch : {among : ℕ → ℤ → Type 0} (lump : ℕ) → lump < length dir.lumps →
      FetchesLump dir lump Cache view after old new result →
      DrawsWith cache_fault among (λ number. number ≡ lump) view after dir textures old new result
  draws-fetch {among} lump there fetched =
      let lump_read = fetch_reads fetched there in record {
        keeps = record {
          follows = lump_read.keeps.follows;
          counts = lump_read.keeps.counts;
          rest = lump_read.keeps.rest;
          faithful = lump_read.keeps.faithful;
          composites = λ contents hold k. composites_kept (lump_bytes contents dir.lumps) textures old
              new (λ number. fetched.others (composite_owner number) refl) k;
        };
        causes = lump_read.causes;
        steady = λ contents stand within steady. no_read-answers view.steady (Ok tt)
            (λ (done : Unit {0}). done) result steady (fetched.answers contents stand within);
        full = full-lump dir.lumps textures among dir old lump result lump_read.full;
        order = λ items asked all k. lump_read.order items all k;
      }
