-- Laws of a call that paints a part of a view: it may be asked again, and a fault of the cache is one of a view.
use Rattle.std.proofs.Common.{◌≡◌, List, refl}
use Rattle.frame_core.specs.Rules.{Heap, Lump, SceneValue, ViewValue, fault_above}
use Rattle.texture_build.specs.{Caches.KeepsCounts, Caches.cache_fault, CacheFault.CacheFault}
use Rattle.texture_build.specs.CacheFault.TheVariants as cache
use Rattle.pixel_strips.specs.{Canvases.CanvasView, Dotted.PlacedAlike}
use Rattle.frame_core.specs.{Faults.from_cache, Faults.view_fault, Views.CanDrawView}
use Rattle.frame_core.specs.Painters.{IsPlacedIn}

-- what a call asks of the scene and the cache it may ask again
pub can_draw_view-later : (lumps : List Lump) (scene : SceneValue) (old new : Heap) → KeepsCounts old new → CanDrawView lumps scene old → CanDrawView lumps scene new
can_draw_view-later lumps scene old new counts can = record {
  drawable = can.drawable;
  few = can.few;
  colormap = can.colormap;
  slots = rw counts.1 can.slots;
  composites = rw counts.2 can.composites;
}

-- a view that lies in the frame lies there as long as the canvas has its place
pub placed-later : (v : ViewValue) (old new : CanvasView) → PlacedAlike old new → IsPlacedIn v old → IsPlacedIn v new
placed-later v old new same is = record { columns = rw same.left is.columns; rows = rw same.top is.rows }

-- a fault of the cache is the same fault of a view
pub cache_above : (e : CacheFault) → view_fault (from_cache e) ≡ fault_above (λ (never : ⊥). absurd never) (cache_fault e)
cache_above (cache.ZoneFull wanted widest) = refl
cache_above cache.ReadFault = refl
