-- What a call that draws keeps of the cache, and whose bytes it may paint with.
use Rattle.std.specs.Prelude.{◌≡◌, ◌≢◌, ◌<◌, ◌≤◌, ◌+◌, ◌⊎◌, ℕ, ℤ, List, IsTrue, IfErr, Result, ⊤}
use Rattle.std.specs.List.{AllByRecursion}
use Rattle.art_rules.specs.Words.{AllWithin, COMPOSITE, Dot, Fault, HasCauses, IsLaterShelf, LUMP, Lump, lump_at, lump_bytes, NameFiles, OutOfMemory, Painter, ReadFault, Refused, ShelfView, ZoneFull}
use Rattle.lump_cache.specs.{Zones.Heap, Zones.block_size, Orders.Item, Orders.IsInOrder}
use Rattle.lump_cache.specs.DirectoryView.{DirectoryView}
use Rattle.lump_cache.specs.Caches.{IsAtRest, IsFaithful, KeepsCounts}
use Rattle.lump_cache.specs.Calls.{HasAll, HoldContents, IfFull, LeavesInOrder, IsFullFor}
use Rattle.texture_build.specs.Asked.{HasColumnAsked, IsFullForColumn, size_of}
use Rattle.texture_build.specs.{Composites.AreComposites, Sources.column_in}
use Rattle.texture_build.specs.Views.{TexturesView, AreTexturesOf, ArePatchesThere, IsPrepared, prepared_texture}

-- what is kept, whatever is answered
pub record KeepsArt (view after : ShelfView) (dir : DirectoryView) (textures : TexturesView)
    (old new : Heap) : Type 0 where
  pub follows : IsLaterShelf view after
  pub counts : KeepsCounts old new
  pub rest : (colormap count : ℕ) → IsAtRest colormap count old → IsAtRest colormap count new
  pub faithful : (contents : List (List ℕ)) → NameFiles view dir.files contents →
      IsFaithful contents dir.lumps old → IsFaithful contents dir.lumps new
  pub composites : (contents : List (List ℕ)) → HoldContents view dir old contents →
      AreComposites (lump_bytes contents dir.lumps) textures old →
      AreComposites (lump_bytes contents dir.lumps) textures new

-- The cache is at rest with the colormap of `count` bytes, and holds what the files of these
-- contents give: lumps, textures and composites.
pub record HoldsArt (view : ShelfView) (dir : DirectoryView) (textures : TexturesView)
    (contents : List (List ℕ)) (colormap count : ℕ) (z : Heap) : Type 0 where
  pub rest : IsAtRest colormap count z
  pub files : HoldContents view dir z contents
  pub prepared : AreTexturesOf contents dir.lumps textures
  pub composites : AreComposites (lump_bytes contents dir.lumps) textures z

-- a block for whose bytes a painter reads is, with the colormap's, no larger than the zone
abbrev pub FitsLump : List Lump → ℕ → ℕ → ℕ → ℕ → Type 0
FitsLump lumps colormap count zone lump = lump ≢ colormap →
    block_size count + block_size (lump_at lumps lump).size ≤ zone

abbrev pub FitsComposite : TexturesView → ℕ → ℕ → ℕ → Type 0
FitsComposite textures count zone number =
    block_size count + block_size (size_of (prepared_texture textures number)) ≤ zone

pub record FitsBeside (lumps : List Lump) (textures : TexturesView) (colormap count zone : ℕ)
    (painter : Painter) : Type 0 where
  pub lump : painter.source_kind ≡ LUMP →
      FitsLump lumps colormap count zone painter.source
  pub composite : painter.source_kind ≡ COMPOSITE →
      FitsComposite textures count zone painter.source

-- so it is for each dot
abbrev pub FitBeside : List Lump → TexturesView → ℕ → ℕ → ℕ → List Dot → Type 0
FitBeside lumps textures colormap count zone dots =
    AllByRecursion (λ (d : Dot). FitsBeside lumps textures colormap count zone d.painter) dots

-- over a steady shelf no read fails
abbrev pub IsNoReadFault : {R : Type 0} → Fault R → Type 0
IsNoReadFault (Refused reason) = ⊤
IsNoReadFault ReadFault = ⊥
IsNoReadFault (ZoneFull wanted widest) = ⊤
IsNoReadFault OutOfMemory = ⊤

-- a texture may be drawn: it is prepared, and has a slot for its composite
pub record CanDraw (lumps : List Lump) (textures : TexturesView) (z : Heap) (number : ℕ) : Type 0
  where
    pub prepared : IsPrepared textures number
    pub slot : number < z.composites
    pub there : ArePatchesThere lumps (prepared_texture textures number)

-- no gap held what one of these columns of textures asks for
pub record IsFullForTexture (among : ℕ → ℤ → Type 0) (lumps : List Lump) (textures : TexturesView)
    (z : Heap) (wanted widest : ℕ) : Type 0 where
  pub number : ℕ
  pub column : ℤ
  pub is : among number column
  pub full : IsFullForColumn lumps number (prepared_texture textures number)
      (column_in (prepared_texture textures number) column) z wanted widest

-- a list has all that these columns of textures ask for
abbrev pub HasTexturesAsked : List Item → (ℕ → ℤ → Type 0) → List Lump → TexturesView → Type 0
HasTexturesAsked items among lumps textures = (number : ℕ) (column : ℤ) → among number column →
    HasColumnAsked items lumps number (prepared_texture textures number)
    (column_in (prepared_texture textures number) column)

-- A call that draws with some columns of textures and with some lumps, those that it shows: what it
-- keeps, when a read fails, when the zone is full, and that a cache in order stays so.
pub record DrawsWith {A R E : Type 0} (fault_of : E → Fault R) (among : ℕ → ℤ → Type 0)
    (pictures : ℕ → Type 0) (view after : ShelfView) (dir : DirectoryView)
    (textures : TexturesView) (old new : Heap) (result : Result A E) : Type 0 where
  pub keeps : KeepsArt view after dir textures old new
  pub causes : HasCauses fault_of view.faults after.faults result
  pub steady : (contents : List (List ℕ)) → NameFiles view dir.files contents →
      AllWithin contents dir.lumps → IsTrue view.steady →
      IfErr result (λ fault. IsNoReadFault (fault_of fault))
  pub full : IfErr result (λ fault. IfFull (fault_of fault) (λ wanted widest.
      IsFullForTexture among dir.lumps textures old wanted widest
      ⊎ IsFullFor pictures dir old wanted widest))
  pub order : (items : List Item) → HasTexturesAsked items among dir.lumps textures →
      HasAll items dir pictures → IsInOrder items old →
      LeavesInOrder fault_of items view after old new result
