-- A brush that is asked for the strips of planes draws them.
use Rattle.picture_rules.proofs.Common.{ap, arith, Contains, Contains-get_or, IfSome, inl, inr, IsSome, length, List, Option, refl, Result, subst, sym, ℕ, ℤ, ◌<◌, ◌∙◌, ◌≡◌}
use Rattle.plane_draw.specs.Rules.{Painter, Plane, ViewValue, planes_dots}
use Rattle.picture_rules.specs.declared.plane.Flat4.TheVariants as flat
use Rattle.visplanes.specs.{Planes.no_plane, Planes.plane_at}
use Rattle.texture_build.specs.{CacheFault.CacheFault, Caches.cache_fault, TexNo.TexNo}
use Rattle.texture_build.specs.Paints.{PaintState, Paints}
use Rattle.texture_build.proofs.PaintLemmas.{paints-asked, paints-same, paints-wider}
use Rattle.brush.specs.Strips.{IsStripColumn, IsStripLump, ShowsColumn, ShowsLump, Strip}
use Rattle.brush.specs.Works.{BrushNames, BrushValue, CanTake, HasSlots, PaintsStrips}
use Rattle.plane_draw.specs.declared.scene.PlaneScene.{PlaneScene}
use Rattle.plane_draw.specs.Planes.{IsFlatOf, IsSkyColumn}
use Rattle.plane_draw.specs.Scenes.{CanDrawPlanes, HasSky, plane_tools, with_art}
use Rattle.plane_draw.specs.Strips.{planes_strips, sky_strip}
use Rattle.plane_draw.proofs.CanLemmas.{flat-there, plane-can, seen-last, sky-can}
use Rattle.plane_draw.proofs.DotLemmas.{planes-dots}
use Rattle.plane_draw.proofs.StripLemmas.{IsFloorOf, IsSkyRows, plane-cases, planes-cases}

-- a brush with the tools of a scene
abbrev brush_of : PlaneScene → PaintState → BrushNames → BrushValue
brush_of s st names = record { tools = plane_tools s; state = st; names = names }

slots-there : (s : PlaneScene) (st : PaintState) (names : BrushNames) → CanDrawPlanes s st → HasSlots (brush_of s st names)
slots-there s st names can = record { lumps = can.slots; colormap = can.colormap }

sky-taken : (s : PlaneScene) (st : PaintState) (names : BrushNames) (n : ℕ) (strip : Strip) → CanDrawPlanes s st → n < length s.planes.now.planes →
    IsSkyRows s.view.now s.sky n (plane_at s.planes.now.planes n) strip → CanTake (brush_of s st names) strip
unfolding sky_strip
sky-taken s st names n strip can inside rows =
    let last = seen-last s.view.now.shape _ _ (plane_at s.planes.now.planes n) rows.x rows.run.0 rows.run.1 (plane-can can n inside).seen (sym rows.has) rows.rows in
    subst (CanTake (brush_of s st names)) rows.is (record {
      slots = slots-there s st names can;
      texture = sky-can can rows.tex rows.some;
      within = (rows.rows, (omega (arith, rows.within, can.placed.columns), omega (arith, last, can.placed.rows)));
    })

floor-taken : (s : PlaneScene) (st : PaintState) (names : BrushNames) (n : ℕ) (strip : Strip) → CanDrawPlanes s st → n < length s.planes.now.planes →
    IsFloorOf s.view.now n (plane_at s.planes.now.planes n) strip → CanTake (brush_of s st names) strip
floor-taken s st names n strip can inside floor =
    subst (CanTake (brush_of s st names)) floor.is (record {
      slots = slots-there s st names can;
      lump = flat-there can n floor.lump inside floor.flat;
      flat = floor.flat;
      seen = (plane-can can n inside).seen;
    })

-- it takes each strip of the planes
pub planes-taken : (s : PlaneScene) (st : PaintState) (names : BrushNames) → CanDrawPlanes s st → (strip : Strip) → Contains (planes_strips s.view.now s.sky s.planes.now.planes) strip →
    CanTake (brush_of s st names) strip
planes-taken s st names can strip h =
    let found = planes-cases s.view.now s.sky s.planes.now.planes strip h in
    elim (plane-cases s.view.now s.sky found.number (plane_at s.planes.now.planes found.number) strip found.among) [
      | inl rows ↦ sky-taken s st names found.number strip can found.within rows
      | inr floor ↦ floor-taken s st names found.number strip can found.within floor
    ]

-- a column of a texture that they show is one of the sky's that is seen
sky-column : (v : ViewValue) (sky : Option TexNo) (planes : List Plane) (n : ℕ) (strip : Strip) (number : ℕ) (own : ℤ) → n < length planes →
    IsSkyRows v sky n (plane_at planes n) strip → IsStripColumn strip number own → IsSkyColumn v sky planes number own
unfolding sky_strip
sky-column v sky planes n strip number own inside rows is =
    let same = subst (λ (s : Strip). IsStripColumn s number own) (sym rows.is) is in
    record {
      some = subst (λ (o : Option TexNo). IsSome o) (sym rows.some) refl;
      texture = subst (λ (o : Option TexNo). IfSome o (λ tex. number ≡ tex.0)) (sym rows.some) same.0;
      x = rows.x;
      shown = record {
        plane = plane_at planes n;
        among = Contains-get_or planes n no_plane inside;
        sky = rows.flat;
        run = rows.run;
        has = rows.has;
        rows = rows.rows;
      };
      is = same.1;
    }

floor-column : (v : ViewValue) (n : ℕ) (p : Plane) (strip : Strip) (number : ℕ) (own : ℤ) → IsFloorOf v n p strip → IsStripColumn strip number own → ⊥
floor-column v n p strip number own floor is = subst (λ (s : Strip). IsStripColumn s number own) (sym floor.is) is

pub columns-shown : (v : ViewValue) (sky : Option TexNo) (planes : List Plane) (number : ℕ) (own : ℤ) → ShowsColumn (planes_strips v sky planes) number own → IsSkyColumn v sky planes number own
columns-shown v sky planes number own shows =
    let found = planes-cases v sky planes shows.strip shows.among in
    elim (plane-cases v sky found.number (plane_at planes found.number) shows.strip found.among) [
      | inl rows ↦ sky-column v sky planes found.number shows.strip number own found.within rows shows.is
      | inr floor ↦ absurd (floor-column v found.number (plane_at planes found.number) shows.strip number own floor shows.is)
    ]

-- and a lump the flat of one that has a run
sky-lump : (v : ViewValue) (sky : Option TexNo) (n : ℕ) (p : Plane) (strip : Strip) (lump : ℕ) → IsSkyRows v sky n p strip → IsStripLump strip lump → ⊥
sky-lump v sky n p strip lump rows is = subst (λ (s : Strip). IsStripLump s lump) (sym rows.is) is

floor-lump : (v : ViewValue) (planes : List Plane) (n : ℕ) (strip : Strip) (lump : ℕ) → n < length planes → IsFloorOf v n (plane_at planes n) strip → IsStripLump strip lump → IsFlatOf planes lump
floor-lump v planes n strip lump inside floor is =
    let same = subst (λ (s : Strip). IsStripLump s lump) (sym floor.is) is in
    record {
      plane = plane_at planes n;
      among = Contains-get_or planes n no_plane inside;
      marked = floor.marked;
      is = floor.flat ∙ ap (λ (m : ℕ). flat.Lump m) (sym same);
    }

pub lumps-shown : (v : ViewValue) (sky : Option TexNo) (planes : List Plane) (lump : ℕ) → ShowsLump (planes_strips v sky planes) lump → IsFlatOf planes lump
lumps-shown v sky planes lump shows =
    let found = planes-cases v sky planes shows.strip shows.among in
    elim (plane-cases v sky found.number (plane_at planes found.number) shows.strip found.among) [
      | inl rows ↦ absurd (sky-lump v sky found.number (plane_at planes found.number) shows.strip lump rows shows.is)
      | inr floor ↦ floor-lump v planes found.number shows.strip lump found.within floor shows.is
    ]

-- so a call that paints these strips draws the planes
pub planes-drawn : {mark : Painter → ℕ → ℕ} (s : PlaneScene) (first : PaintState) {a b : PaintState} {result : Result (Unit {0}) CacheFault} → CanDrawPlanes s first →
    PaintsStrips mark (plane_tools s) (planes_strips s.view.now s.sky s.planes.now.planes) a b result →
    Paints cache_fault mark (plane_tools s) (IsSkyColumn s.view.now s.sky s.planes.now.planes) (IsFlatOf s.planes.now.planes) (HasSky s)
    (λ contents picture. planes_dots s.view.now (with_art contents s picture) s.planes.now.planes) a b result
planes-drawn s first can one =
    paints-same _ (λ contents picture is. planes-dots s.view.now (with_art contents s picture) (length s.dir.now.lumps) s.sky s.planes.now.planes
    (λ n inside. (plane-can can n inside).flat) is)
    (paints-asked {first = λ (q : Unit {0}). Unit {0}} (HasSky s) (λ picture. tt) (λ picture is. tt)
    (paints-wider (columns-shown s.view.now s.sky s.planes.now.planes) (lumps-shown s.view.now s.sky s.planes.now.planes) one))
