-- The layers of a view by the dots that a canvas was given, and the view with its layers.
use Rattle.picture_rules.specs.Words.{WeaponLayer}
use Rattle.picture_rules.proofs.Common.{[], ap, arith, Contains, Err, inl, inr, IsErrAnd, List, None, Ok, Option, refl, Result, Some, subst, sym, ℕ, ℤ, ◌∙◌, ◌≡◌, ◌⊎◌, ◌<◌}
use Rattle.doom_run.specs.Rules.{AreInView, Art, Dot, Eye, Frame, Heap, IsWithinFrame, Painter, ShelfView, ViewValue, fault_above, joined_lists, overlaid_paints, view_of, view_paints, weapon_dots}
use Rattle.texture_build.specs.{CacheFault.CacheFault, Caches.cache_fault}
use Rattle.texture_build.specs.CacheFault.TheVariants as cache
use Rattle.texture_build.proofs.{CallLemmas.result_above, BesideLemmas.fit_beside-append}
use Rattle.csv_tables.specs.declared.weapons.WeaponRow.{WeaponRow}
use Rattle.pixel_strips.specs.{Canvases.CanvasView, Dotted.HasDots}
use Rattle.picture_rules.proofs.FrameLemmas.{in_view-append}
use Rattle.pixel_trace.proofs.SeenLemmas.{overlaid-dots}
use Rattle.texture_build.specs.{Draws.DrawsWith, Draws.FitBeside, Paints.paint_state}
use Rattle.texture_build.proofs.DrawLemmas.{draws-above, draws-stop, draws-then, draws-wider, holds_art-later}
use Rattle.sound_scene.specs.{Sound.textures_view, Pictures.scene_of}
use Rattle.level_audit.specs.scene_load.Loads.{LoadedValue, loaded_value, weapon_lumps}
use Rattle.level_audit.specs.declared.scene_load.load.LoadedScene.{LoadedScene}
use Rattle.frame_core.specs.declared.fault.ViewFault.{ViewFault}
use Rattle.frame_core.specs.Faults.{from_cache, view_fault}
use Rattle.frame_core.specs.Views.{IsViewLump, IsViewTexture, PaintsView, placed_for, view_scene}
use Rattle.texture_build.proofs.PaintLemmas.{on_ok_err, paints-none, paints-same, paints-wider}
use Rattle.weapon_overlay.specs.{Layers.PaintsLayer, Seen.IsLayerPicture}
use Rattle.weapon_overlay.proofs.InViewLemmas.{layers_dots-in}
use Rattle.doom_run.specs.Drawn.{DrawsLayered, DrawsLayers, KeepsLoaded, layered_dots, layers_dots, loaded_scene}
use Rattle.doom_run.specs.Layers.{layers_by, layers_from, layers_of, layer_light}
use Rattle.doom_run.specs.Renders.{IsLayerLump}
use Rattle.doom_run.proofs.RowLemmas.{rows_dots, table_layer-among}

-- the dots of the layers of a view, whatever the art
abbrev view_layers : LoadedScene → ℕ → Eye → Art → List Dot
view_layers loaded k eye art = joined_lists (weapon_dots (view_of loaded.files.tables eye) art) (layers_of (loaded_value loaded) k eye)

module _ {mark : Painter → ℕ → ℕ} (k : ℕ) (eye : Eye) (old new : LoadedScene) {view after : ShelfView} {before now : CanvasView} {result : Result (Unit {0}) CacheFault} where
  -- a call that painted the layers of a view drew them
  layers_drawn : KeepsLoaded old new →
      PaintsLayer mark old.files.dir old.scene.scene.base.colormap (IsLayerPicture (view_of old.files.tables eye) (layers_of (loaded_value old) k eye)) (view_layers old k eye) (paint_state view old.cache before) (paint_state after new.cache now) result →
      DrawsLayers mark k eye view after old new before now result
  unfolding scene_of
  layers_drawn keeps all =
      let paints_layer = all (textures_view old.scene.scene) in record {
        painted = λ contents count hold. paints_layer.painted contents count tt (record { rest = hold.rest; files = hold.files }) tt;
        fits = λ contents count hold. paints_layer.fits contents count tt (record { rest = hold.rest; files = hold.files }) tt;
        draws = paints_layer.draws;
        place = paints_layer.place;
        keeps = keeps;
      }

-- they are those of the rows of its table
rows_are : (loaded : LoadedScene) (k : ℕ) (eye : Eye) (rows : List WeaponRow) (book : List Frame) (light : ℤ) → loaded.files.weapons ≡ Some rows → loaded.weapons ≡ Some book → light ≡ layer_light loaded.scene.scene eye →
    layers_from book light k 1 rows ≡ layers_of (loaded_value loaded) k eye
unfolding layers_of
rows_are loaded k eye rows book light some own lit =
    ap (λ (z : ℤ). layers_from book z k 1 rows) lit
    ∙ ap (λ (b : Option (List Frame)). layers_by (Some rows) b (layer_light loaded.scene.scene eye) k) (sym own)
    ∙ ap (λ (t : Option (List WeaponRow)). layers_by t loaded.weapons (layer_light loaded.scene.scene eye) k) (sym some)

rows_layers : (loaded : LoadedScene) (k : ℕ) (eye : Eye) (rows : List WeaponRow) (book : List Frame) (v : ViewValue) (light : ℤ) (art : Art) → loaded.files.weapons ≡ Some rows → loaded.weapons ≡ Some book →
    v ≡ view_of loaded.files.tables eye → light ≡ layer_light loaded.scene.scene eye → rows_dots v book light k 1 rows art ≡ view_layers loaded k eye art
rows_layers loaded k eye rows book v light art some own same lit =
    ap (λ (u : ViewValue). rows_dots u book light k 1 rows art) same
    ∙ ap (joined_lists (weapon_dots (view_of loaded.files.tables eye) art)) (rows_are loaded k eye rows book light some own lit)

-- their pictures are of the book
by_table : (table : Option (List WeaponRow)) (book : Option (List Frame)) (light : ℤ) (k : ℕ) (layer : WeaponLayer) → Contains (layers_by table book light k) layer → Contains (weapon_lumps book) layer.shape.lump
by_table None book light k layer has = absurd (let below_zero : has.0 < 0 = has.1 in omega (arith, below_zero))
by_table (Some rows) None light k layer has = absurd (let below_zero : has.0 < 0 = has.1 in omega (arith, below_zero))
by_table (Some rows) (Some book) light k layer has = table_layer-among book light k 1 rows layer has

layer_lump : (loaded : LoadedScene) (k : ℕ) (eye : Eye) (lump : ℕ) → IsLayerPicture (view_of loaded.files.tables eye) (layers_of (loaded_value loaded) k eye) lump → IsLayerLump loaded lump
unfolding layers_of
layer_lump loaded k eye lump asked =
    subst (Contains (weapon_lumps loaded.weapons)) (sym asked.is.is) (by_table loaded.files.weapons loaded.weapons (layer_light loaded.scene.scene eye) k asked.layer asked.among)

-- so a call that painted these drew the layers of the view
pub rows-drawn : {mark : Painter → ℕ → ℕ} (k : ℕ) (eye : Eye) (old new : LoadedScene) {view after : ShelfView} {before now : CanvasView} {result : Result (Unit {0}) CacheFault}
    (rows table : List WeaponRow) (book : List Frame) (v : ViewValue) (light lit : ℤ) (colormap : ℕ) → rows ≡ table → old.files.weapons ≡ Some table → old.weapons ≡ Some book →
    v ≡ view_of old.files.tables eye → lit ≡ light → light ≡ layer_light old.scene.scene eye → colormap ≡ old.scene.scene.base.colormap → KeepsLoaded old new →
    PaintsLayer mark old.files.dir colormap (IsLayerPicture v (layers_from book lit k 1 rows)) (rows_dots v book lit k 1 rows) (paint_state view old.cache before) (paint_state after new.cache now) result →
    DrawsLayers mark k eye view after old new before now result
rows-drawn {mark} k eye old new {view} {after} {before} {now} {result} rows table book v light lit colormap all some own same at here map keeps one =
    let with_map = subst (λ (m : ℕ). PaintsLayer mark old.files.dir m (IsLayerPicture v (layers_from book lit k 1 rows)) (rows_dots v book lit k 1 rows) (paint_state view old.cache before) (paint_state after new.cache now) result) map one in
    layers_drawn k eye old new keeps
    (λ textures. paints-wider (λ number own_column none. none)
    (λ lump asked. subst (λ (u : ViewValue). IsLayerPicture u (layers_of (loaded_value old) k eye) lump) same
    (subst (λ (ls : List WeaponLayer). IsLayerPicture v ls lump) (rows_are old k eye rows book lit (some ∙ ap Some (sym all)) own (at ∙ here)) asked))
    (paints-same _ (λ contents q is. rows_layers old k eye rows book v lit _ (some ∙ ap Some (sym all)) own same (at ∙ here)) (with_map textures)))

-- a view without a table of layers, or without their pictures, has none
no_table : (loaded : LoadedValue) (k : ℕ) (eye : Eye) → loaded.files.weapons ≡ None → layers_of loaded k eye ≡ []
unfolding layers_of
no_table loaded k eye none = ap (λ (t : Option (List WeaponRow)). layers_by t loaded.weapons (layer_light loaded.scene eye) k) none

no_book : (table : Option (List WeaponRow)) (light : ℤ) (k : ℕ) → layers_by table None light k ≡ []
no_book None light k = refl
no_book (Some rows) light k = refl

no_pictures : (loaded : LoadedValue) (k : ℕ) (eye : Eye) → loaded.weapons ≡ None → layers_of loaded k eye ≡ []
unfolding layers_of
no_pictures loaded k eye none =
    ap (λ (b : Option (List Frame)). layers_by loaded.files.weapons b (layer_light loaded.scene eye) k) none ∙ no_book loaded.files.weapons (layer_light loaded.scene eye) k

no_dots : (loaded : LoadedScene) (k : ℕ) (eye : Eye) (art : Art) → layers_of (loaded_value loaded) k eye ≡ [] → view_layers loaded k eye art ≡ []
unfolding joined_lists
no_dots loaded k eye art none = ap (joined_lists (weapon_dots (view_of loaded.files.tables eye) art)) none

no_layers-drawn : {mark : Painter → ℕ → ℕ} (k : ℕ) (eye : Eye) (loaded : LoadedScene) (view : ShelfView) (canvas : CanvasView) → layers_of (loaded_value loaded) k eye ≡ [] →
    DrawsLayers {A = Unit {0}} mark k eye view view loaded loaded canvas canvas (Ok tt)
no_layers-drawn {mark} k eye loaded view canvas none =
    layers_drawn k eye loaded loaded (record { files = refl; scene = refl; weapons = refl }) (λ textures. paints-same _ (λ contents q is. sym (no_dots loaded k eye _ none)) (paints-none _ tt))

pub no_table-drawn : {mark : Painter → ℕ → ℕ} (k : ℕ) (eye : Eye) (loaded : LoadedScene) (view : ShelfView) (canvas : CanvasView) → loaded.files.weapons ≡ None →
    DrawsLayers {A = Unit {0}} mark k eye view view loaded loaded canvas canvas (Ok tt)
no_table-drawn k eye loaded view canvas none = no_layers-drawn k eye loaded view canvas (no_table (loaded_value loaded) k eye none)

pub no_book-drawn : {mark : Painter → ℕ → ℕ} (k : ℕ) (eye : Eye) (loaded : LoadedScene) (view : ShelfView) (canvas : CanvasView) → loaded.weapons ≡ None →
    DrawsLayers {A = Unit {0}} mark k eye view view loaded loaded canvas canvas (Ok tt)
no_book-drawn k eye loaded view canvas none = no_layers-drawn k eye loaded view canvas (no_pictures (loaded_value loaded) k eye none)

-- the faults of the cache are those of a view
same_fault : (e : CacheFault) → view_fault (from_cache e) ≡ fault_above (λ (none : ⊥). absurd none) (cache_fault e)
same_fault (cache.ZoneFull wanted widest) = refl
same_fault cache.ReadFault = refl

-- the lumps of a view and of its layers
abbrev IsLayeredLump : LoadedScene → ℕ → Type 0
IsLayeredLump loaded lump = IsViewLump loaded.files.dir.lumps loaded.scene.scene lump ⊎ IsLayerLump loaded lump

-- a call that drew layers, its faults told as those of a view
layers_above : (old : LoadedScene) (k : ℕ) (eye : Eye) {view after : ShelfView} {x y : Heap} (lower : Result (Unit {0}) CacheFault) →
    DrawsWith cache_fault (λ (n : ℕ) (own : ℤ). ⊥) (IsLayerPicture (view_of old.files.tables eye) (layers_of (loaded_value old) k eye)) view after old.files.dir (textures_view old.scene.scene) x y lower →
    DrawsWith view_fault (IsViewTexture old.scene.scene) (IsLayeredLump old) view after old.files.dir (textures_view old.scene.scene) x y (result_above from_cache lower)
layers_above old k eye lower one =
    draws-above (λ (none : ⊥). absurd none) from_cache same_fault lower
    (draws-wider {among = IsViewTexture old.scene.scene} {pictures = IsLayeredLump old} (λ number own none. absurd none) (λ lump asked. inr (layer_lump old k eye lump asked)) one)

-- what is drawn first: the view, on a canvas that is placed where it lies in the frame
abbrev pub DrawsFirst : (Painter → ℕ → ℕ) → Eye → LoadedScene → Heap → ShelfView → ShelfView → CanvasView → CanvasView → Type 0
DrawsFirst mark eye old z view between before drawn =
    PaintsView {A = Unit {0}} mark (view_scene (view_of old.files.tables eye) old.scene.scene old.files.dir) (view_paints (view_of old.files.tables eye))
    (paint_state view old.cache (placed_for (view_of old.files.tables eye) before)) (paint_state between z drawn) (Ok tt)

module _ {mark : Painter → ℕ → ℕ} (k : ℕ) (eye : Eye) (old new : LoadedScene) (z : Heap) {view between after : ShelfView} {before drawn now : CanvasView} where
  -- after it the layers
  pub layered-then : DrawsFirst mark eye old z view between before drawn → ((bytes : ℕ → List ℕ) → AreInView (view_of old.files.tables eye).shape (view_paints (view_of old.files.tables eye) (scene_of bytes old.scene.scene))) →
      IsWithinFrame (view_of old.files.tables eye).shape → DrawsLayers {A = Unit {0}} mark k eye between after (record old { cache = z }) new drawn now (Ok tt) →
      DrawsLayered {A = Unit {0}} mark k eye view after old new before now (Ok tt)
  unfolding overlaid_paints
  layered-then one inside window two =
      let eye_view = view_of old.files.tables eye in
      let layers = layers_of (loaded_value old) k eye in
      record {
        painted = λ contents count hold. overlaid-dots eye_view (loaded_scene contents old) layers (one.painted contents count tt hold tt) (two.painted contents count (holds_art-later one.draws.keeps hold));
        in_view = λ bytes.
            in_view-append eye_view.shape (view_paints eye_view (scene_of bytes old.scene.scene)) (joined_lists (weapon_dots eye_view (scene_of bytes old.scene.scene).art) layers) (inside bytes)
            (layers_dots-in eye_view (scene_of bytes old.scene.scene).art layers (omega (arith, window.height)) (omega (arith, window.width)));
        window = window;
        fits = λ contents count hold.
            fit_beside-append old.files.dir.lumps (textures_view old.scene.scene) old.scene.scene.base.colormap count old.cache.size (view_paints eye_view (loaded_scene contents old)) (layers_dots k eye old (loaded_scene contents old))
            (one.fits contents count tt hold tt)
            (subst (λ (n : ℕ). FitBeside old.files.dir.lumps (textures_view old.scene.scene) old.scene.scene.base.colormap count n (layers_dots k eye old (loaded_scene contents old))) one.draws.keeps.counts.0
            (two.fits contents count (holds_art-later one.draws.keeps hold)));
        draws = draws-then (draws-wider {among = IsViewTexture old.scene.scene} {pictures = IsLayeredLump old} (λ number own among. among) (λ lump seen. inl seen) one.draws) (layers_above old k eye (Ok tt) two.draws);
        keeps = record { files = two.keeps.files; scene = two.keeps.scene; weapons = two.keeps.weapons };
      }

  -- or a fault of theirs
  pub layered-fail : {fault : CacheFault} {whole : Result (Unit {0}) ViewFault} → IsErrAnd whole (λ e. e ≡ from_cache fault) → DrawsFirst mark eye old z view between before drawn → IsWithinFrame (view_of old.files.tables eye).shape →
      DrawsLayers {A = Unit {0}} mark k eye between after (record old { cache = z }) new drawn now (Err fault) → DrawsLayered mark k eye view after old new before now whole
  layered-fail {fault} {whole} is one window two = record {
    painted = λ contents count hold. on_ok_err (HasDots mark (layered_dots k eye old (loaded_scene contents old)) (placed_for (view_of old.files.tables eye) before) now) (from_cache fault) whole is;
    in_view = λ bytes. on_ok_err (AreInView (view_of old.files.tables eye).shape (layered_dots k eye old (scene_of bytes old.scene.scene))) (from_cache fault) whole is;
    window = window;
    fits = λ contents count hold.
        on_ok_err (FitBeside old.files.dir.lumps (textures_view old.scene.scene) old.scene.scene.base.colormap count old.cache.size (layered_dots k eye old (loaded_scene contents old))) (from_cache fault) whole is;
    draws = draws-then (draws-wider {among = IsViewTexture old.scene.scene} {pictures = IsLayeredLump old} (λ number own among. among) (λ lump seen. inl seen) one.draws)
        (draws-stop refl is (layers_above old k eye (Err fault) two.draws));
    keeps = record { files = two.keeps.files; scene = two.keeps.scene; weapons = two.keeps.weapons };
  }
