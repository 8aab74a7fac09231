-- Laws of the planes of a view: what drawing them asks is there, and what it paints is the view's.
use Rattle.picture_rules.proofs.Common.{[], All, All-contains, ap, arith, eq-eqb, false, get_or, IfSome, inl, inr, IsSome, length, List, list_any, list_any_at, None, Option, option_map, or_left, or_right, refl, Some, subst, sym, true, unwrap_or, ℕ, ◌<◌, ◌==◌, ◌∙◌, ◌≡◌}
use Rattle.frame_core.specs.Rules.{Dot, Event, Flat4, Heap, Limits, Lump, Plane, Scene, SceneValue, Sector, SectorFlats, Surface, ViewShape, ViewValue, book_lumps, flat_number, has_flat, no_surface, planes_dots, planes_of, surface_at, surface_of, view_events, view_planes, view_steps}
use Rattle.texture_build.specs.{TexNo.TexNo}
use Rattle.pixel_strips.specs.Canvases.{CanvasView}
use Rattle.picture_rules.specs.declared.plane.Flat4.TheVariants as flat
use Rattle.texture_build.specs.{Arts.view_art, Draws.CanDraw}
use Rattle.texture_build.specs.Views.{IsPrepared}
use Rattle.plane_draw.specs.Planes.{CanDrawPlane, HasFlat, IsFlatOf}
use Rattle.sound_scene.specs.{Sound.textures_view, Pictures.lists_of, Pictures.scene_of}
use Rattle.frame_core.specs.{declared.bench.Bench.Bench}
use Rattle.frame_core.specs.Views.{CanDrawView, IsViewLump}
use Rattle.frame_core.specs.Walked.{HasWalked, IsFlatOf as IsFlatIn, IsFlatShown, IsPlaneIn, planes_after}
use Rattle.plane_draw.specs.Strips.{planes_strips}
use Rattle.frame_core.specs.ViewStrips.{no_bytes, scene_planes, scene_sky}
use Rattle.frame_core.specs.Painters.{HasWalkedView, IsPlacedIn, limits_in}
use Rattle.frame_core.proofs.SceneLemmas.{flats_at, no_flats, no_sector, patches_there, sky_of_surface, surface_from}

-- the sky's texture of a scene, as drawing has it
abbrev pub IsSkyOf : SceneValue → Option TexNo → Type 0
IsSkyOf scene sky = option_map (λ (tex : TexNo). tex.0) sky ≡ scene.faces.sky

some_sky : (sky : Option TexNo) → IsSome (option_map (λ (tex : TexNo). tex.0) sky) → IsSome sky
some_sky None h = absurd (let false_is_true : false ≡ true = h in cc)
some_sky (Some tex) h = refl

module _ (lumps : List Lump) (scene : SceneValue) (z : Heap) (sky : Option TexNo) (can : CanDrawView lumps scene z) (is : IsSkyOf scene sky) where
  -- the flat of a plane of the view is there
  flat_there : (flat : Flat4) → IsFlatShown scene flat → HasFlat (length lumps) sky flat
  flat_there flat.Sky shown =
      some_sky sky (subst (λ (o : Option ℕ). IsSome o) (sym is) (sky_of_surface lumps scene can.drawable can.few shown.sector shown.there shown.is))
  flat_there (flat.Lump n) shown =
      let flats = flats_at lumps scene can.drawable can.few shown.sector shown.there in
      elim shown.is [
        | inl floor ↦ subst (λ (k : ℕ). k < length lumps) (sym floor.0) (flats.floor.there floor.1)
        | inr ceiling ↦ subst (λ (k : ℕ). k < length lumps) (sym ceiling.0) (flats.ceiling.there ceiling.1)
      ]

  -- the planes of a view may be drawn
  pub planes_can : (v : ViewValue) (canvas : CanvasView) (b : Bench) → IsPlacedIn v canvas → HasWalkedView v scene b →
      All (CanDrawPlane v.shape canvas.left canvas.top (length lumps) sky) b.planes.planes
  planes_can v canvas b placed walked = λ i d l.
      let planes_inside = (walked (λ lump. [])).planes i d l in
      record {
        flat = flat_there _ planes_inside.flat;
        seen = record {
          column = planes_inside.column;
          row = planes_inside.row;
          frame_column = λ x y h. omega (arith, planes_inside.column x y h, placed.columns);
          frame_row = λ x y h. omega (arith, planes_inside.row x y h, placed.rows);
        };
      }

-- the number of the sky's texture is one of the list
some_listed : (count : ℕ) (sky : Option ℕ) (n : ℕ) → IfSome sky (λ number. number < count) → sky ≡ Some n → n < count
some_listed count None n h e = absurd (cc)
some_listed count (Some k) n h e = let numbers_same : k ≡ n = cc in subst (λ (m : ℕ). m < count) numbers_same h

-- the sky's texture may be drawn
pub sky_can : (lumps : List Lump) (scene : SceneValue) (z : Heap) (sky : Option TexNo) → CanDrawView lumps scene z → IsSkyOf scene sky → IfSome sky (λ (tex : TexNo). CanDraw lumps (textures_view scene) z tex.0)
sky_can lumps scene z None can is = tt
sky_can lumps scene z (Some tex) can is =
    let art = can.drawable in
    let listed : tex.0 < length scene.base.lists.textures = some_listed (length scene.base.lists.textures) scene.faces.sky tex.0 can.drawable.listed (sym is) in
    record {
      prepared = subst (λ (o : Option ℕ). IfSome o (IsPrepared (textures_view scene))) (sym is) art.sky;
      slot = omega (arith, listed, can.composites);
      there = patches_there lumps (textures_view scene).prepared tex.0 art.patches;
    }

-- the planes of the bench are those of the events
pub planes_are : (v : ViewValue) (bytes : ℕ → List ℕ) (scene : SceneValue) (limits : Limits) (events : List Event) (b : Bench) → HasWalked v bytes scene limits events b →
    b.planes.planes ≡ view_planes (view_steps v (scene_of bytes scene) events)
unfolding planes_after view_planes planes_of
planes_are v bytes scene limits events b walked = walked.built.planes

-- the sky of the picture's scene, and its art over other bytes
pub held_sky : (bytes : ℕ → List ℕ) (scene : SceneValue) (sky : Option TexNo) → IsSkyOf scene sky → IfSome sky (λ (tex : TexNo). (scene_of bytes scene).sky ≡ tex.0)
unfolding scene_of
held_sky bytes scene None is = tt
held_sky bytes scene (Some tex) is = ap (λ (o : Option ℕ). unwrap_or o 0) (sym is)

scene_art : (other bytes : ℕ → List ℕ) (scene : SceneValue) → record (scene_of other scene) { art = view_art bytes (textures_view scene) scene.base.colormap } ≡ scene_of bytes scene
unfolding scene_of
scene_art other bytes scene = refl

-- the sky's texture is one that a view draws with
pub sky_prepared : (scene : SceneValue) (sky : Option TexNo) (number : ℕ) → IfSome scene.faces.sky (IsPrepared (textures_view scene)) → IsSkyOf scene sky → IsSome sky → IfSome sky (λ tex. number ≡ tex.0) → IsPrepared (textures_view scene) number
sky_prepared scene None number prepared is some same = absurd (let false_is_true : false ≡ true = some in cc)
sky_prepared scene (Some tex) number prepared is some same =
    subst (IsPrepared (textures_view scene)) (sym same) (subst (λ (o : Option ℕ). IfSome o (IsPrepared (textures_view scene))) (sym is) prepared)

flat_by : (lump : ℕ) (s : Surface) (sector : Sector) (flats : SectorFlats) → s ≡ surface_of sector flats → IsFlatIn s (flat.Lump lump) → has_flat lump flats ≡ true
unfolding surface_of has_flat
flat_by lump s sector flats e (inl floor) =
    or_left (flat_number flats.floor == lump) (flat_number flats.ceiling == lump) (eq-eqb (flat_number flats.floor) lump (sym (floor.0 ∙ ap (λ (t : Surface). t.floor_flat) e)))
flat_by lump s sector flats e (inr ceiling) =
    or_right (flat_number flats.floor == lump) (flat_number flats.ceiling == lump) (eq-eqb (flat_number flats.ceiling) lump (sym (ceiling.0 ∙ ap (λ (t : Surface). t.ceiling_flat) e)))

-- so are the flats of its planes among its lumps
flat_shown : (scene : SceneValue) (lump : ℕ) → length scene.faces.flats ≡ length scene.base.level.sectors → IsFlatShown scene (flat.Lump lump) → list_any (has_flat lump) scene.faces.flats ≡ true
unfolding surface_at
flat_shown scene lump long shown =
    let sectors = scene.base.level.sectors in
    let flats = scene.faces.flats in
    list_any_at (has_flat lump) flats shown.sector no_flats (omega (arith, shown.there, long))
    (flat_by lump _ (get_or sectors shown.sector no_sector) (get_or flats shown.sector no_flats) (surface_from sectors flats shown.sector no_sector no_flats no_surface long shown.there) shown.is)

pub flat_lump : (lumps : List Lump) (scene : SceneValue) (z : Heap) (sky : Option TexNo) (shape : ViewShape) (planes : List Plane) (lump : ℕ) → CanDrawView lumps scene z → IsSkyOf scene sky → All (IsPlaneIn shape scene) planes → IsFlatOf planes lump →
    IsViewLump lumps scene lump
flat_lump lumps scene z sky shape planes lump can is all asked =
    let flat_is_shown : IsFlatShown scene (flat.Lump lump) = subst (IsFlatShown scene) asked.is (All-contains (IsPlaneIn shape scene) planes asked.plane all asked.among).flat in
    record {
      there = flat_there lumps scene z sky can is (flat.Lump lump) flat_is_shown;
      drawn = or_left (list_any (has_flat lump) scene.faces.flats) (list_any (λ n. n == lump) (book_lumps scene.book)) (flat_shown scene lump can.drawable.flats flat_is_shown);
    }

-- the dots of the planes of a view
abbrev pub floors_of : ViewValue → SceneValue → Scene → List Dot
floors_of v scene picture = planes_dots v picture (view_planes (view_steps v picture (view_events v (lists_of scene))))

sky_back : (sky : Option TexNo) → sky ≡ option_map (λ n. let tex : TexNo = record { 0 = n } in tex) (option_map (λ (tex : TexNo). tex.0) sky)
sky_back None = refl
sky_back (Some tex) = refl

-- the strips of the planes of a bench are those of the view
pub floors-same : (v : ViewValue) (s : SceneValue) (b : Bench) (sky : Option TexNo) → HasWalkedView v s b → IsSkyOf s sky → planes_strips v sky b.planes.planes ≡ planes_strips v (scene_sky s) (scene_planes v s)
floors-same v s b sky walked is =
    ap (planes_strips v sky) (planes_are v no_bytes s (limits_in b) (view_events v (lists_of s)) b (walked no_bytes))
    ∙ ap (λ (o : Option TexNo). planes_strips v o (scene_planes v s)) (sky_back sky ∙ ap (λ (o : Option ℕ). option_map (λ n. let tex : TexNo = record { 0 = n } in tex) o) is)
