-- A brush over what is lent takes what a view shows, and paints the view with it.
use Rattle.picture_rules.proofs.Common.{[], All, All-contains, All-from_recursion, AllByRecursion, AllPass, ap, append-nil, arith, Bor, Contains, Contains-append_cases, Contains-append_left, Err, err_from_is_err_and, false, IfErr, IfSome, inl, inr, IsErr, IsErrAnd, length, List, map, None, Ok, OnOk, Option, option_map, refl, Result, Some, subst, sym, true, ℕ, ℤ, ◌++◌, ◌∙◌, ◌∷◌, ◌<◌, ◌≡◌}
use Rattle.texture_build.specs.Views.{TexturesView}
use Rattle.frame_core.specs.Rules.{Heap, IsWithinFrame, ShelfView, ViewShape, AreNoted, Dot, Event, FragmentNote, IsSound, LeafFragment, LimitKind, OverLimit, Painter, Scene, SceneValue, SpriteEntry, ViewValue, Wall, draw_order, drawsegs, fragment_facts, fragment_wall, lump_bytes, masked_dots, openings_list, planes_dots, surface_at, view_drawsegs, view_entries, view_events, view_notes, view_paints, view_planes, view_steps, wall_of, walls_dots, walls_of}
use Rattle.scene_rules.proofs.Laws.{order_none}
use Rattle.pixel_strips.specs.Canvases.{CanvasView, placed_at}
use Rattle.texture_build.specs.{CacheFault.CacheFault, Caches.cache_fault, Draws.DrawsWith, TexNo.TexNo}
use Rattle.texture_build.specs.CacheFault.TheVariants as cache
use Rattle.texture_build.specs.Paints.{PaintState, PaintTools, Paints, paint_state, paint_tools, painted_art}
use Rattle.texture_build.proofs.DrawLemmas.{IsMapped, keeps_art-none}
use Rattle.texture_build.proofs.PaintLemmas.{paints-mapped, paints-missed, paints-same, paints-stop, paints-then_stop, paints-wider}
use Rattle.vissprites.specs.Bounds.{has_lump_below, lies_within}
use Rattle.brush.specs.Strips.{ShowsColumn, ShowsLump, Strip, strips_dots}
use Rattle.brush.specs.Works.{BrushNames, BrushValue, CanTake, HasWorked}
use Rattle.brush.proofs.WorkLemmas.{received-worked}
use Rattle.masked_draw.specs.{declared.scene.MaskScene.MaskScene, Takes.TakesMasked}
use Rattle.masked_draw.specs.Strips.{masked_strips}
use Rattle.masked_draw.proofs.DotLemmas.{masked-dots}
use Rattle.masked_draw.proofs.PaintedLemmas.{columns-shown as masked-columns, lumps-shown as masked-lumps, pass-taken}
use Rattle.masked_draw.proofs.SceneLemmas.{listed-in, scene-whole}
use Rattle.masked_draw.specs.Ready.{IsListed}
use Rattle.plane_draw.specs.{declared.scene.PlaneScene.PlaneScene, Scenes.CanDrawPlanes}
use Rattle.plane_draw.specs.Planes.{CanDrawPlane}
use Rattle.plane_draw.specs.Strips.{planes_strips}
use Rattle.plane_draw.proofs.CanLemmas.{plane-can}
use Rattle.plane_draw.proofs.DotLemmas.{planes-dots}
use Rattle.plane_draw.proofs.DrawLemmas.{columns-shown as planes-columns, lumps-shown as planes-lumps, planes-taken}
use Rattle.sound_scene.specs.Sound.{middles_of, textures_view}
use Rattle.sound_scene.specs.Pictures.{lists_of, scene_of}
use Rattle.visplanes.specs.Planes.{PlanesView}
use Rattle.wall_columns.specs.declared.fault.WallStop.{WallStop}
use Rattle.wall_columns.specs.declared.fault.WallStop.TheVariants.{Brush, Over}
use Rattle.wall_columns.specs.Faults.{ReceivesToLimit, over_in}
use Rattle.wall_columns.specs.Strips.{walls_strips}
use Rattle.wall_columns.proofs.NotedLemmas.{noted-view}
use Rattle.wall_columns.proofs.RangeLemmas.{range-taken}
use Rattle.wall_columns.proofs.WallsLemmas.{strips_dots-append, walls-dots, walls-lumps, walls-texture}
use Rattle.frame_core.specs.{declared.bench.Bench.Bench, declared.fault.ViewFault.ViewFault}
use Rattle.frame_core.specs.declared.fault.ViewFault.TheVariants.{Limit}
use Rattle.frame_core.specs.Faults.{from_cache, from_stop, limit_of_view, view_fault}
use Rattle.frame_core.specs.Views.{CanDrawView, IsViewLump, IsViewTexture, PaintsView, ViewScene, held_scene, view_tools}
use Rattle.frame_core.specs.Walked.{IsEventIn, IsPlaneIn}
use Rattle.frame_core.specs.Painters.{HasWalkedView, IsPlacedIn, TakesWalls, limits_in}
use Rattle.frame_core.specs.Parts.{AreNotesListed, AsksView, TakesView}
use Rattle.frame_core.specs.ViewStrips.{mask_lists, no_bytes, scene_entries, scene_noted, scene_planes, scene_sky, scene_walls, seen_walls, view_strips}
use Rattle.frame_core.proofs.{CountLemmas.few-notes, DrawsegLemmas.masked_dots-noted, PaintLemmas.cache_above, ViewLemmas.placed-frame, ViewLemmas.view-parts}
use Rattle.frame_core.proofs.FloorLemmas.{IsSkyOf, flat_lump, held_sky, planes_are, planes_can, sky_can, sky_prepared}
use Rattle.frame_core.proofs.FragmentLemmas.{can_draw-facts, facts-ready, ready-number, walls_same}
use Rattle.frame_core.proofs.ListedLemmas.{drawsegs_there, middle_prepared, notes_listed}
use Rattle.frame_core.proofs.MaskLemmas.{sprite_lump, sprites-below}
use Rattle.frame_core.proofs.PainterLemmas.{on_ok-all}
use Rattle.frame_core.proofs.SceneLemmas.{AreFactsReady, facts_ready}

-- a reference to a value
abbrev lent : {X : Type 0} → X → Bor X
lent x = record { ref_ptr = (0, 0); now = x }

-- a brush that paints with the art of a scene
abbrev pub brush_for : ViewScene → PaintState → BrushNames → BrushValue
brush_for s st names = record { tools = view_tools s; state = st; names = names }

-- what drawing a view asks of what it is lent
pub record CanPaintView (s : ViewScene) (st : PaintState) : Type 0 where
  pub can : CanDrawView s.dir.lumps s.scene st.cache
  pub placed : IsPlacedIn s.view st.canvas
  pub sound : IsSound s.scene.base.level

-- so it is where the canvas was placed for the view
pub can-painted : (s : ViewScene) {cache : Heap} (shape : ViewShape) (shelf : ShelfView) (old now : CanvasView) → CanDrawView s.dir.lumps s.scene cache → shape ≡ s.view.shape → IsWithinFrame shape → now ≡ placed_at shape.left shape.top old → IsSound s.scene.base.level →
    CanPaintView s (paint_state shelf cache now)
can-painted s shape shelf old now can same frame place sound = record { can = can; placed = placed-frame s.view shape old now same frame place; sound = sound }

-- the textures and the colormap that a scene lends are its own
pub tools-are : (s : ViewScene) {textures : TexturesView} {colormap : ℕ} → textures ≡ textures_view s.scene → colormap ≡ s.scene.base.colormap → paint_tools s.dir textures colormap ≡ view_tools s
tools-are s {colormap = colormap} of_textures of_colormap = ap (λ (t : TexturesView). paint_tools s.dir t colormap) of_textures ∙ ap (paint_tools s.dir (textures_view s.scene)) of_colormap

sky_of : (sky : Option ℕ) → option_map (λ (tex : TexNo). tex.0) (option_map (λ n. let tex : TexNo = record { 0 = n } in tex) sky) ≡ sky
sky_of None = refl
sky_of (Some n) = refl

sky_is : (s : SceneValue) → IsSkyOf s (scene_sky s)
sky_is s = sky_of s.faces.sky

-- planes and the masked pass of a view by their values
abbrev plane_scene : ViewScene → PlaneScene
plane_scene s =
    let planes : PlanesView = record { planes = scene_planes s.view s.scene; room = 0 } in
    record { view = lent s.view; textures = lent (textures_view s.scene); sky = scene_sky s.scene; dir = lent s.dir; planes = lent planes; colormap = record { 0 = s.scene.base.colormap } }

abbrev mask_scene : ViewScene → MaskScene
mask_scene s = record {
  view = lent s.view;
  textures = lent (textures_view s.scene);
  openings = lent (openings_list s.view (scene_walls s.view s.scene));
  segs = lent s.scene.base.level.segs;
  sides = lent s.scene.base.level.sides;
  sectors = lent s.scene.base.level.sectors;
  middles = lent (middles_of s.scene.faces.sides);
}

module _ (s : ViewScene) (st : PaintState) (names : BrushNames) (can : CanPaintView s st) where
  walls_taken : TakesWalls CanTake (brush_for s st names) s.view s.scene
  walls_taken = record {
    each = λ state facts sector seg first last are inside there height open_in. record {
      each = range-taken (brush_for s st names) s.view state facts first last (record {
        within = there.1.1;
        height = height;
        placed = can.placed;
        slots = can.can.slots;
        colormap = can.can.colormap;
        textures = λ number is. can_draw-facts s.dir.lumps s.scene st.cache facts (textures_view s.scene) number can.can
            (facts-ready s.dir.lumps s.scene st.cache (surface_at (lists_of s.scene) sector) seg facts can.can can.sound there.0 are) refl is;
      }) open_in;
    };
  }

  module _ (b : Bench) (walked : HasWalkedView s.view s.scene b) where
    planes-bench : b.planes.planes ≡ scene_planes s.view s.scene
    planes-bench = planes_are s.view no_bytes s.scene (limits_in b) (view_events s.view (lists_of s.scene)) b (walked no_bytes)

    planes_ready : CanDrawPlanes (plane_scene s) st
    planes_ready = record {
      slots = can.can.slots;
      colormap = can.can.colormap;
      placed = can.placed;
      sky = sky_can s.dir.lumps s.scene st.cache (scene_sky s.scene) can.can (sky_is s.scene);
      planes = subst (All (CanDrawPlane s.view.shape st.canvas.left st.canvas.top (length s.dir.lumps) (scene_sky s.scene))) planes-bench
          (planes_can s.dir.lumps s.scene st.cache (scene_sky s.scene) can.can (sky_is s.scene) s.view st.canvas b can.placed walked);
    }

    notes_in : All (IsListed s.dir.lumps (textures_view s.scene) st.cache (mask_lists s.scene)) (view_notes s.view (scene_walls s.view s.scene))
    notes_in =
        notes_listed s.dir.lumps s.scene can.can.drawable can.sound st.cache can.can.composites no_bytes s.view (view_events s.view (lists_of s.scene))
        (view_notes s.view (scene_walls s.view s.scene)) (walked no_bytes).there refl

    pub view-listed : AreNotesListed s.view s.scene
    view-listed = λ k d l. listed-in (notes_in k d l)

    noted : AreNoted s.view.shape (view_notes s.view (scene_walls s.view s.scene)) (openings_list s.view (scene_walls s.view s.scene))
    noted =
        let walls = scene_walls s.view s.scene in
        let few = few-notes s.view s.scene b walked in
        let notes = ap (λ (ns : List FragmentNote). length ns) (walked no_bytes).built.notes in
        noted-view s.view walls (view_notes s.view walls) (openings_list s.view walls) refl refl (omega arith) (omega (arith, can.placed.rows)) (walked no_bytes).built.drawn

    masked_taken : TakesMasked CanTake (brush_for s st names) s.view (scene_noted s.view s.scene) (scene_entries s.view s.scene)
    masked_taken = pass-taken (mask_scene s) (view_notes s.view (scene_walls s.view s.scene)) (scene_entries s.view s.scene) (brush_for s st names) (record {
      slots = record { lumps = can.can.slots; colormap = can.can.colormap };
      placed = can.placed;
      textures = refl;
      whole = λ k note e. scene-whole k note noted e;
      listed = notes_in;
      columns = subst (AllPass (lies_within s.view.shape.width)) (walked no_bytes).sprites (walked no_bytes).columns;
      lumps = subst (AllPass (has_lump_below (length s.dir.lumps))) (walked no_bytes).sprites (sprites-below s.dir can.sound can.can walked);
    })

  -- it takes what the view shows
  view_taken : TakesView CanTake (brush_for s st names) s.view s.scene
  view_taken = record {
    walls = walls_taken;
    planes = λ b walked. record { each = planes-taken (plane_scene s) st names (planes_ready b walked) };
    masked = masked_taken;
  }

-- so does one whose tools are the scene's by other words
pub view-taken : (s : ViewScene) (st : PaintState) (names : BrushNames) (tools : PaintTools) → tools ≡ view_tools s → CanPaintView s st → TakesView CanTake (record { tools = tools; state = st; names = names }) s.view s.scene
view-taken s st names tools same can =
    subst (λ (t : PaintTools). TakesView CanTake (let b : BrushValue = record { tools = t; state = st; names = names } in b) s.view s.scene) (sym same) (view_taken s st names can)

-- the facts of each drawn fragment of events that name what is there are ready to draw
fragments_ready : (v : ViewValue) (s : ViewScene) (st : PaintState) → CanPaintView s st → (fs : List LeafFragment) → AllByRecursion (λ (f : LeafFragment). f.seg < length s.scene.base.level.segs) fs →
    AllByRecursion (λ (w : Wall). AreFactsReady s.scene w.facts) (map (fragment_wall v (scene_of no_bytes s.scene)) fs)
unfolding fragment_wall fragment_facts wall_of scene_of
fragments_ready v s st can [] h = tt
fragments_ready v s st can (f ∷ fs) h = (facts_ready s.dir.lumps s.scene can.can.drawable can.sound no_bytes _ f.seg h.0, fragments_ready v s st can fs h.1)

walls_ready : (s : ViewScene) (st : PaintState) → CanPaintView s st → (events : List Event) → All (IsEventIn s.view s.scene) events → All (λ (w : Wall). AreFactsReady s.scene w.facts) (seen_walls s.view s.scene events)
unfolding walls_of
walls_ready s st can events there =
    All-from_recursion (λ (w : Wall). AreFactsReady s.scene w.facts) (map (fragment_wall s.view (scene_of no_bytes s.scene)) (drawsegs events))
    (fragments_ready s.view s st can (drawsegs events) (drawsegs_there s.view s.scene events there))

-- what the strips of walls show is the view's
walls_columns : (s : ViewScene) (st : PaintState) → CanPaintView s st → (events : List Event) → All (IsEventIn s.view s.scene) events → (number : ℕ) (own : ℤ) →
    ShowsColumn (walls_strips s.view (seen_walls s.view s.scene events)) number own → IsViewTexture s.scene number own
walls_columns s st can events there number own shows =
    let one = walls-texture s.view (seen_walls s.view s.scene events) number own shows in
    (ready-number s.scene one.wall.facts number (All-contains (λ (w : Wall). AreFactsReady s.scene w.facts) (seen_walls s.view s.scene events) one.wall (walls_ready s st can events there) one.among) one.is).0

module _ (s : ViewScene) (st : PaintState) (can : CanPaintView s st) (b : Bench) (walked : HasWalkedView s.view s.scene b) where
  -- and so is what its planes and its masked pass show
  view_columns : (number : ℕ) (own : ℤ) → ShowsColumn (view_strips s.view s.scene) number own → IsViewTexture s.scene number own
  unfolding view_strips
  view_columns number own shows =
      let planes = planes_strips s.view (scene_sky s.scene) (scene_planes s.view s.scene) in
      let masked = masked_strips s.view (scene_noted s.view s.scene) (draw_order (scene_entries s.view s.scene)) in
      elim (Contains-append_cases (walls_strips s.view (scene_walls s.view s.scene)) (planes ++ masked) shows.strip shows.among) [
        | inl wall ↦ walls_columns s st can (view_events s.view (lists_of s.scene)) (walked no_bytes).there number own (record { strip = shows.strip; among = wall; is = shows.is })
        | inr rest ↦ elim (Contains-append_cases planes masked shows.strip rest) [
          | inl plane ↦
              (let sky = planes-columns s.view (scene_sky s.scene) (scene_planes s.view s.scene) number own (record { strip = shows.strip; among = plane; is = shows.is }) in
              sky_prepared s.scene (scene_sky s.scene) number can.can.drawable.sky (sky_is s.scene) sky.some sky.texture)
          | inr mask ↦
              (let notes = view_notes s.view (scene_walls s.view s.scene) in
              let openings = openings_list s.view (scene_walls s.view s.scene) in
              let middle = masked-columns (mask_scene s) notes (draw_order (scene_entries s.view s.scene)) number own (record { strip = shows.strip; among = mask; is = shows.is }) in
              middle_prepared s.dir.lumps s.scene st.cache openings notes number own (notes_in s st (record { cache = 0; shelf = 0; canvas = 0 }) can b walked) middle)
        ]
      ]

  view_lumps : (lump : ℕ) → ShowsLump (view_strips s.view s.scene) lump → IsViewLump s.dir.lumps s.scene lump
  unfolding view_strips
  view_lumps lump shows =
      let planes = planes_strips s.view (scene_sky s.scene) (scene_planes s.view s.scene) in
      let masked = masked_strips s.view (scene_noted s.view s.scene) (draw_order (scene_entries s.view s.scene)) in
      elim (Contains-append_cases (walls_strips s.view (scene_walls s.view s.scene)) (planes ++ masked) shows.strip shows.among) [
        | inl wall ↦ absurd (walls-lumps s.view (scene_walls s.view s.scene) lump (record { strip = shows.strip; among = wall; is = shows.is }))
        | inr rest ↦ elim (Contains-append_cases planes masked shows.strip rest) [
          | inl plane ↦
              (let flat = planes-lumps s.view (scene_sky s.scene) (scene_planes s.view s.scene) lump (record { strip = shows.strip; among = plane; is = shows.is }) in
              let inside : All (IsPlaneIn s.view.shape s.scene) (scene_planes s.view s.scene) =
              subst (All (IsPlaneIn s.view.shape s.scene)) (planes_are s.view no_bytes s.scene (limits_in b) (view_events s.view (lists_of s.scene)) b (walked no_bytes)) (walked no_bytes).planes in
              flat_lump s.dir.lumps s.scene st.cache (scene_sky s.scene) s.view.shape (scene_planes s.view s.scene) lump can.can (sky_is s.scene) inside flat)
          | inr mask ↦
              (let sprite = masked-lumps (mask_scene s) (view_notes s.view (scene_walls s.view s.scene)) (scene_entries s.view s.scene) lump (record { strip = shows.strip; among = mask; is = shows.is }) in
              sprite_lump s.dir can.sound can.can walked lump (rw (walked no_bytes).sprites sprite))
        ]
      ]

  -- the dots of the strips are the view's
  view_dots : (contents : List (List ℕ)) → strips_dots (painted_art contents (view_tools s)) (view_strips s.view s.scene) ≡ view_paints s.view (held_scene contents s)
  unfolding view_strips scene_of
  view_dots contents =
      let bytes = lump_bytes contents s.dir.lumps in
      let scene : Scene = scene_of bytes s.scene in
      let events = view_events s.view (lists_of s.scene) in
      let walls = walls_strips s.view (scene_walls s.view s.scene) in
      let planes = planes_strips s.view (scene_sky s.scene) (scene_planes s.view s.scene) in
      let masked = masked_strips s.view (scene_noted s.view s.scene) (draw_order (scene_entries s.view s.scene)) in
      let wall_dots_are : strips_dots scene.art walls ≡ walls_dots s.view scene (walls_of s.view scene events) =
      walls-dots s.view scene (scene_walls s.view s.scene) (walked no_bytes).built.drawn ∙ ap (walls_dots s.view scene) (walls_same s.view no_bytes bytes s.scene events) in
      let plane_dots_are : strips_dots scene.art planes ≡ planes_dots s.view scene (view_planes (view_steps s.view scene events)) =
      planes-dots s.view scene (length s.dir.lumps) (scene_sky s.scene) (scene_planes s.view s.scene)
      (λ n inside. (plane-can (planes_ready s st (record { cache = 0; shelf = 0; canvas = 0 }) can b walked) n inside).flat) (held_sky bytes s.scene (scene_sky s.scene) (sky_is s.scene))
      ∙ ap (planes_dots s.view scene) (sym (planes_are s.view no_bytes s.scene (limits_in b) events b (walked no_bytes)) ∙ planes_are s.view bytes s.scene (limits_in b) events b (walked bytes)) in
      let masked_dots_are : strips_dots scene.art masked ≡ masked_dots s.view scene.art (view_drawsegs s.view scene (walls_of s.view scene events)) (draw_order (view_entries s.view scene events)) =
      masked-dots s.view scene.art (scene_noted s.view s.scene) (draw_order (scene_entries s.view s.scene))
      ∙ masked_dots-noted bytes s.view s.scene can.can.drawable.flats scene.art events (view_notes s.view (scene_walls s.view s.scene)) (openings_list s.view (scene_walls s.view s.scene))
      (draw_order (scene_entries s.view s.scene)) (ap (view_notes s.view) (walls_same s.view no_bytes bytes s.scene events)) (ap (openings_list s.view) (walls_same s.view no_bytes bytes s.scene events))
      ∙ ap (λ (es : List SpriteEntry). masked_dots s.view scene.art (view_drawsegs s.view scene (walls_of s.view scene events)) (draw_order es)) (sym (walked no_bytes).sprites ∙ (walked bytes).sprites) in
      strips_dots-append scene.art walls (planes ++ masked)
      ∙ ap (λ (ds : List Dot). strips_dots scene.art walls ++ ds) (strips_dots-append scene.art planes masked)
      ∙ (λ i. wall_dots_are i ++ (plane_dots_are i ++ masked_dots_are i))
      ∙ view-parts s.view bytes s.scene

-- a limit that was passed before anything was drawn
draws_limit : {among : ℕ → ℤ → Type 0} {pictures : ℕ → Type 0} (s : ViewScene) (st : PaintState) (kind : LimitKind) (count : ℕ) →
    DrawsWith {A = Unit {0}} view_fault among pictures st.shelf st.shelf s.dir (textures_view s.scene) st.cache st.cache (Err (Limit kind count))
draws_limit s st kind count = record {
  keeps = keeps_art-none st.shelf s.dir (textures_view s.scene) st.cache;
  causes = record { ok = tt; err = refl };
  steady = λ contents stand within steady. tt;
  full = tt;
  order = λ items asked all k. order_none items st.cache st.shelf.taken k;
}

paints_limit : (mark : Painter → ℕ → ℕ) (s : ViewScene) (dots : Scene → List Dot) (st : PaintState) (kind : LimitKind) (count : ℕ) → PaintsView {A = Unit {0}} mark s dots st st (Err (Limit kind count))
paints_limit mark s dots st kind count = paints-missed {B = Unit {0}} st.shelf st.shelf st.cache st.cache st.canvas refl refl (draws_limit s st kind count)

-- What a brush leaves that was asked for strips which show what is the view's: what it paints, told as of a view.
pub record HasPaintedView (mark : Painter → ℕ → ℕ) (s : ViewScene) (dots : Scene → List Dot) (old new : BrushValue) (result : Result (Unit {0}) ViewFault) : Type 0 where
  pub names : new.names ≡ old.names
  pub paints : PaintsView mark s dots old.state new.state result

-- what a brush by its value was given until a limit was passed
abbrev pub WorksToLimit : (Painter → ℕ → ℕ) → BrushValue → BrushValue → List Strip → Result (Unit {0}) (WallStop CacheFault) → Type 0
WorksToLimit mark old new strips result = ReceivesToLimit CanTake (λ (p : BrushValue) (start : BrushValue) strips. HasWorked mark start p strips (Ok tt))
    (λ (p : BrushValue) (start : BrushValue) strips (stop : CacheFault). HasWorked mark start p strips (Err stop)) old new strips result

module _ (s : ViewScene) (strips : List Strip)
    (columns : (number : ℕ) (own : ℤ) → ShowsColumn strips number own → IsViewTexture s.scene number own)
    (lumps : (lump : ℕ) → ShowsLump strips lump → IsViewLump s.dir.lumps s.scene lump) where
  columns_first : (some rest : List Strip) → some ++ rest ≡ strips → (number : ℕ) (own : ℤ) → ShowsColumn some number own → IsViewTexture s.scene number own
  columns_first some rest joins number own shows =
      columns number own (record { strip = shows.strip; among = subst (λ (xs : List Strip). Contains xs shows.strip) joins (Contains-append_left some rest shows.strip shows.among); is = shows.is })

  lumps_first : (some rest : List Strip) → some ++ rest ≡ strips → (lump : ℕ) → ShowsLump some lump → IsViewLump s.dir.lumps s.scene lump
  lumps_first some rest joins lump shows =
      lumps lump (record { strip = shows.strip; among = subst (λ (xs : List Strip). Contains xs shows.strip) joins (Contains-append_left some rest shows.strip shows.among); is = shows.is })

module _ {mark : Painter → ℕ → ℕ} (s : ViewScene) (dots : Scene → List Dot) (old new : BrushValue) (strips : List Strip) (tools : old.tools ≡ view_tools s)
    (columns : (number : ℕ) (own : ℤ) → ShowsColumn strips number own → IsViewTexture s.scene number own)
    (lumps : (lump : ℕ) → ShowsLump strips lump → IsViewLump s.dir.lumps s.scene lump) where
  -- some of the strips, whole or up to a Stop
  some_painted : (some rest : List Strip) (result : Result (Unit {0}) CacheFault) (whole : Result (Unit {0}) ViewFault) → some ++ rest ≡ strips → IsMapped from_cache result whole → HasWorked mark old new some result →
      Paints {Q = Unit {0}} view_fault mark (view_tools s) (IsViewTexture s.scene) (IsViewLump s.dir.lumps s.scene) (λ q. Unit {0}) (λ contents q. strips_dots (painted_art contents (view_tools s)) some) old.state new.state whole
  some_painted some rest result whole joins mapped worked =
      let works = subst (λ (t : PaintTools). Paints {Q = Unit {0}} cache_fault mark t (ShowsColumn some) (ShowsLump some) (λ q. Unit {0}) (λ contents q. strips_dots (painted_art contents t) some) old.state new.state result) tools worked.works in
      paints-mapped (λ (never : ⊥). absurd never) from_cache cache_above result whole mapped
      (paints-wider (columns_first s strips columns lumps some rest joins) (lumps_first s strips columns lumps some rest joins) works)

  pub strips-painted : (result : Result (Unit {0}) (WallStop CacheFault)) (whole : Result (Unit {0}) ViewFault) → IsMapped from_stop result whole →
      OnOk result ((contents : List (List ℕ)) → strips_dots (painted_art contents (view_tools s)) strips ≡ dots (held_scene contents s)) → WorksToLimit mark old new strips result → HasPaintedView mark s dots old new whole
  strips-painted (Ok unit) whole mapped same given =
      let worked = received-worked old new strips (Ok tt) given.by in
      record {
        names = worked.names;
        paints = paints-same (λ contents q. dots (held_scene contents s)) (λ contents q asked. same contents) (some_painted strips [] (Ok tt) whole (append-nil strips) mapped worked);
      }
  strips-painted (Err (Brush fault)) whole mapped same given =
      let worked = received-worked old new strips (Err fault) given.by in
      let told = err_from_is_err_and whole mapped in
      record {
        names = worked.names;
        paints = paints-stop (told.1 ∙ ap Err told.2) mapped (some_painted strips [] (Err fault) whole (append-nil strips) mapped worked);
      }
  strips-painted (Err (Over over)) whole mapped same given =
      let first = given.by in
      let worked = received-worked old new first.some (Ok tt) first.given in
      record {
        names = worked.names;
        paints = paints-then_stop refl mapped (some_painted first.some first.rest (Ok tt) (Ok tt) first.joins refl worked) (paints_limit mark s dots new.state over.kind over.count);
      }

on_err : {A E : Type 0} (P : Type 0) (result : Result A E) → IsErr result → OnOk result P
on_err P (Ok value) failed = absurd (let false_is_true : false ≡ true = failed in cc)
on_err P (Err fault) failed = tt

-- so a brush that was asked for a view paints it
pub view-painted : {mark : Painter → ℕ → ℕ} (s : ViewScene) (old new : BrushValue) (b : Bench) (result : Result (Unit {0}) (WallStop CacheFault)) (whole : Result (Unit {0}) ViewFault) → old.tools ≡ view_tools s → CanPaintView s old.state →
    IsMapped from_stop result whole →
    AsksView CanTake (λ (p : BrushValue) (start : BrushValue) strips. HasWorked mark start p strips (Ok tt)) (λ (p : BrushValue) (start : BrushValue) strips (stop : CacheFault). HasWorked mark start p strips (Err stop)) s.view s.scene b old new result →
    HasPaintedView mark s (view_paints s.view) old new whole
view-painted s old new b result whole tools can mapped (inl some) =
    let walls = some.1 in
    strips-painted s (view_paints s.view) old new (walls_strips s.view (seen_walls s.view s.scene walls.events)) tools (walls_columns s old.state can walls.events walls.there)
    (λ lump shows. absurd (walls-lumps s.view (seen_walls s.view s.scene walls.events) lump shows)) result whole mapped (on_err _ result some.0) walls.asks
view-painted s old new b result whole tools can mapped (inr all) =
    strips-painted s (view_paints s.view) old new (view_strips s.view s.scene) tools (view_columns s old.state can b all.0) (view_lumps s old.state can b all.0) result whole mapped
    (on_ok-all result (view_dots s old.state can b all.0)) all.1

-- and is over the references that it was over
limit_names : {mark : Painter → ℕ → ℕ} (old new : BrushValue) (strips : List Strip) (result : Result (Unit {0}) (WallStop CacheFault)) → WorksToLimit mark old new strips result → new.names ≡ old.names
limit_names old new strips (Ok unit) given = (received-worked old new strips (Ok tt) given.by).names
limit_names old new strips (Err (Over over)) given = (received-worked old new given.by.some (Ok tt) given.by.given).names
limit_names old new strips (Err (Brush fault)) given = (received-worked old new strips (Err fault) given.by).names

pub view-names : {mark : Painter → ℕ → ℕ} (s : ViewScene) (old new : BrushValue) (b : Bench) (result : Result (Unit {0}) (WallStop CacheFault)) →
    AsksView CanTake (λ (p : BrushValue) (start : BrushValue) strips. HasWorked mark start p strips (Ok tt)) (λ (p : BrushValue) (start : BrushValue) strips (stop : CacheFault). HasWorked mark start p strips (Err stop)) s.view s.scene b old new result →
    new.names ≡ old.names
view-names s old new b result (inl some) = limit_names old new (walls_strips s.view (seen_walls s.view s.scene some.1.events)) result some.1.asks
view-names s old new b result (inr all) = limit_names old new (view_strips s.view s.scene) result all.1

-- a limit that a Stop tells is that of the fault
limit_of_stop : (P : OverLimit → Type 0) (stop : WallStop CacheFault) → IfSome (over_in stop) P → IfSome (limit_of_view (from_stop stop)) P
limit_of_stop P (Over over) h = h
limit_of_stop P (Brush (cache.ZoneFull wanted widest)) h = tt
limit_of_stop P (Brush cache.ReadFault) h = tt

pub told-stopped : (P : OverLimit → Type 0) (stop : WallStop CacheFault) (whole : Result (Unit {0}) ViewFault) → IsErrAnd whole (λ e. e ≡ from_stop stop) → IfSome (over_in stop) P → IfErr whole (λ fault. IfSome (limit_of_view fault) P)
told-stopped P stop (Ok value) is h = tt
told-stopped P stop (Err fault) is h = subst (λ (f : ViewFault). IfSome (limit_of_view f) P) (sym is) (limit_of_stop P stop h)
