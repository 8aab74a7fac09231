-- Laws of a brush that works: nothing yet, a strip after others, and all that it was given.
use Rattle.picture_rules.proofs.Common.{[], ap, arith, Contains, Contains-append_left, drop, Err, List, Ok, refl, Result, subst, sym, take, take-append-drop, ℕ, ℤ, ◌++◌, ◌<◌, ◌∙◌, ◌∷◌, ◌≡◌}
use Rattle.std.proofs.lemmas.List.Elements.{Contains-push}
use Rattle.std.specs.Prelude.{◌+◌, ◌≤◌}
use Rattle.picture_rules.proofs.Laws.{joined_lists-append, joined_lists-one}
use Rattle.picture_rules.specs.Words.{Art, Dot, FRAME_HEIGHT, FRAME_WIDTH, Painter, ViewShape, joined_lists}
use Rattle.pixel_strips.specs.{Canvases.CanvasView, Dotted.PlacedAlike}
use Rattle.visplanes.specs.Spans.{IsSeen}
use Rattle.texture_build.specs.CacheFault.{CacheFault}
use Rattle.texture_build.specs.Paints.{PaintTools, painted_art}
use Rattle.texture_build.specs.Strips.{IsTextureIn}
use Rattle.texture_build.specs.declared.strip.TextureStrip.{TextureStrip}
use Rattle.texture_build.proofs.PaintLemmas.{can_draw-later, paints-none, paints-same, paints-stop, paints-then, paints-wider, slots-later}
use Rattle.receiver_rules.specs.Receivers.{Receives}
use Rattle.brush.specs.{Posts.IsColumnInFrame}
use Rattle.brush.specs.Strips.{Floor, FloorValue, IsStripColumn, IsStripLump, Middle, Picture, ShowsColumn, ShowsLump, Strip, Texture, dots_of_strip, strips_dots}
use Rattle.brush.specs.Works.{BrushValue, CanTake, HasSlots, HasWorked, PaintsStrip}

-- what some strips show the whole list shows
columns-left : (xs ys : List Strip) (number : ℕ) (column : ℤ) → ShowsColumn xs number column → ShowsColumn (xs ++ ys) number column
columns-left xs ys number column h = record { strip = h.strip; among = Contains-append_left xs ys h.strip h.among; is = h.is }

lumps-left : (xs ys : List Strip) (lump : ℕ) → ShowsLump xs lump → ShowsLump (xs ++ ys) lump
lumps-left xs ys lump h = record { strip = h.strip; among = Contains-append_left xs ys h.strip h.among; is = h.is }

columns-last : (xs : List Strip) (strip : Strip) (number : ℕ) (column : ℤ) → IsStripColumn strip number column → ShowsColumn (xs ++ strip ∷ []) number column
columns-last xs strip number column h = record { strip = strip; among = Contains-push xs strip; is = h }

lumps-last : (xs : List Strip) (strip : Strip) (lump : ℕ) → IsStripLump strip lump → ShowsLump (xs ++ strip ∷ []) lump
lumps-last xs strip lump h = record { strip = strip; among = Contains-push xs strip; is = h }

dots-none : (art : Art) → [] ≡ strips_dots art []
unfolding strips_dots joined_lists
dots-none art = refl

pub dots-more : (art : Art) (xs : List Strip) (strip : Strip) → strips_dots art xs ++ dots_of_strip art strip ≡ strips_dots art (xs ++ strip ∷ [])
unfolding strips_dots
dots-more art xs strip =
    ap (λ (ys : List Dot). strips_dots art xs ++ ys) (sym (joined_lists-one (dots_of_strip art) strip))
    ∙ sym (joined_lists-append (dots_of_strip art) xs (strip ∷ []))

-- a brush that was asked for nothing
worked-none : (mark : Painter → ℕ → ℕ) (p : BrushValue) → HasWorked mark p p [] (Ok tt)
worked-none mark p = record {
  tools = refl;
  names = refl;
  works = paints-same _ (λ contents q is. dots-none (painted_art contents p.tools)) (paints-none p.state tt);
}

-- a strip after others, whatever its answer
worked-more : {mark : Painter → ℕ → ℕ} {start : BrushValue} {result : Result (Unit {0}) CacheFault} (old new : BrushValue) (strip : Strip) (before : List Strip) →
    HasWorked mark start old before (Ok tt) → new.tools ≡ old.tools → new.names ≡ old.names → PaintsStrip mark old.tools strip old.state new.state result →
    HasWorked mark start new (before ++ strip ∷ []) result
worked-more {mark} {start} {result} old new strip before h tools names paints =
    let by_start : PaintsStrip mark start.tools strip old.state new.state result =
    subst (λ (t : PaintTools). PaintsStrip mark t strip old.state new.state result) h.tools paints in
    record {
      tools = tools ∙ h.tools;
      names = names ∙ h.names;
      works = paints-same _ (λ contents q is. dots-more (painted_art contents start.tools) before strip)
          (paints-then (paints-wider (columns-left before (strip ∷ [])) (lumps-left before (strip ∷ [])) h.works)
          (paints-wider (columns-last before strip) (lumps-last before strip) by_start));
    }

-- what it took it takes after a strip
slots_still : {mark : Painter → ℕ → ℕ} {result : Result (Unit {0}) CacheFault} (old new : BrushValue) (strip : Strip) →
    new.tools ≡ old.tools → PaintsStrip mark old.tools strip old.state new.state result → HasSlots old → HasSlots (record new { tools = old.tools })
slots_still old new strip tools paints h = record { lumps = slots-later paints h.lumps; colormap = h.colormap }

texture_in-still : (s : TextureStrip) (a b : CanvasView) → PlacedAlike a b → IsTextureIn s a → IsTextureIn s b
texture_in-still s a b place h = (h.0, (subst (λ (n : ℕ). s.x + n < FRAME_WIDTH) (sym place.left) h.1.0, subst (λ (n : ℕ). s.last + n < FRAME_HEIGHT) (sym place.top) h.1.1))

seen-still : (s : FloorValue) (a b : CanvasView) → PlacedAlike a b → IsSeen s.view.shape a.left a.top s.plane → IsSeen s.view.shape b.left b.top s.plane
seen-still s a b place h =
    subst (λ (n : ℕ). IsSeen s.view.shape n b.top s.plane) (sym place.left) (subst (λ (n : ℕ). IsSeen s.view.shape a.left n s.plane) (sym place.top) h)

column_in-still : (shape : ViewShape) (x : ℕ) (a b : CanvasView) → PlacedAlike a b → IsColumnInFrame a shape x → IsColumnInFrame b shape x
column_in-still shape x a b place h =
    (subst (λ (n : ℕ). x + n < FRAME_WIDTH) (sym place.left) h.0, subst (λ (n : ℕ). n + shape.height ≤ FRAME_HEIGHT) (sym place.top) h.1)

takes-same : {mark : Painter → ℕ → ℕ} {result : Result (Unit {0}) CacheFault} (old new : BrushValue) (strip : Strip) →
    new.tools ≡ old.tools → PaintsStrip mark old.tools strip old.state new.state result → (next : Strip) → CanTake old next → CanTake (record new { tools = old.tools }) next
takes-same old new strip tools paints (Texture s) h = record {
  slots = slots_still old new strip tools paints h.slots;
  texture = can_draw-later paints h.texture;
  within = texture_in-still s old.state.canvas new.state.canvas paints.place h.within;
}
takes-same old new strip tools paints (Floor s) h = record {
  slots = slots_still old new strip tools paints h.slots;
  lump = h.lump;
  flat = h.flat;
  seen = seen-still s old.state.canvas new.state.canvas paints.place h.seen;
}
takes-same old new strip tools paints (Middle s) h = record {
  slots = slots_still old new strip tools paints h.slots;
  texture = can_draw-later paints h.texture;
  single = h.single;
  column = column_in-still s.shape s.x old.state.canvas new.state.canvas paints.place h.column;
  clips = h.clips;
}
takes-same old new strip tools paints (Picture s) h = record {
  slots = slots_still old new strip tools paints h.slots;
  lump = h.lump;
  columns = record { ordered = h.columns.ordered; last = column_in-still s.shape s.last old.state.canvas new.state.canvas paints.place h.columns.last; clips = h.columns.clips };
}

takes-still : {mark : Painter → ℕ → ℕ} {result : Result (Unit {0}) CacheFault} (old new : BrushValue) (strip : Strip) →
    new.tools ≡ old.tools → PaintsStrip mark old.tools strip old.state new.state result → (next : Strip) → CanTake old next → CanTake new next
takes-still old new strip tools paints next h =
    subst (λ (t : PaintTools). CanTake (record new { tools = t }) next) (sym tools) (takes-same old new strip tools paints next h)

-- what a brush by its value was given, and answered
abbrev pub WorkReceives : (Painter → ℕ → ℕ) → BrushValue → BrushValue → List Strip → Result (Unit {0}) CacheFault → Type 0
WorkReceives mark old new strips result = Receives CanTake (λ (p : BrushValue) start strips. HasWorked mark start p strips (Ok tt))
    (λ (p : BrushValue) start strips stop. HasWorked mark start p strips (Err stop)) old new strips result

-- so it was given the strip
pub strip-received : {mark : Painter → ℕ → ℕ} (old new : BrushValue) (strip : Strip) (result : Result (Unit {0}) CacheFault) →
    new.tools ≡ old.tools → new.names ≡ old.names → PaintsStrip mark old.tools strip old.state new.state result → WorkReceives mark old new (strip ∷ []) result
strip-received old new strip (Ok tt) tools names paints = record {
  ok = record { each = λ start before stood. worked-more old new strip before stood tools names paints };
  takes_on = record { each = takes-still old new strip tools paints };
  err = tt;
}
strip-received old new strip (Err stop) tools names paints = record {
  ok = tt;
  takes_on = tt;
  err = record { count = 1; some = omega arith; within = omega arith; each = λ start before stood. worked-more old new strip before stood tools names paints };
}

contains-taken : (n : ℕ) (strips : List Strip) (strip : Strip) → Contains (take n strips) strip → Contains strips strip
contains-taken n strips strip h =
    subst (λ (xs : List Strip). Contains xs strip) (take-append-drop n strips) (Contains-append_left (take n strips) (drop n strips) strip h)

-- what the strips up to a Stop show all of them show
columns-taken : (n : ℕ) (strips : List Strip) (number : ℕ) (column : ℤ) → ShowsColumn (take n strips) number column → ShowsColumn strips number column
columns-taken n strips number column h = record { strip = h.strip; among = contains-taken n strips h.strip h.among; is = h.is }

lumps-taken : (n : ℕ) (strips : List Strip) (lump : ℕ) → ShowsLump (take n strips) lump → ShowsLump strips lump
lumps-taken n strips lump h = record { strip = h.strip; among = contains-taken n strips h.strip h.among; is = h.is }

-- A brush that was given strips has worked on them from its own state on.
pub received-worked : {mark : Painter → ℕ → ℕ} (old new : BrushValue) (strips : List Strip) (result : Result (Unit {0}) CacheFault) →
    WorkReceives mark old new strips result → HasWorked mark old new strips result
received-worked {mark} old new strips (Ok tt) given = given.ok.each old [] (worked-none mark old)
received-worked {mark} old new strips (Err stop) given =
    let worked = given.err.each old [] (worked-none mark old) in
    record {
      tools = worked.tools;
      names = worked.names;
      works = paints-wider (columns-taken given.err.count strips) (lumps-taken given.err.count strips) (paints-stop refl refl worked.works);
    }
