-- What is rendered of a trimmed file: the same bytes and end as of the WADs that it was made of.
use Rattle.picture_rules.proofs.Common.{[], ap, Bool, cond, false, is_some, length, length-map, List, map, map-append, None, Ok, Option, option_and_then, option_map, option_to_list, refl, slice_get, slice_index_or, Some, subst, suc, sym, take, take-map, true, unwrap_or, zero, ℕ, ℤ, ◌+◌, ◌==◌, ◌∙◌, ◌∷◌, ◌≡◌}
use Rattle.doom_run.specs.Rules.{Eye, File, Format, Frame, LevelJobValue, LevelValue, SceneValue, Sector, SectorFlats, Settings, Shape, TrimPart, ViewValue, WeaponLayer, flat_lumps, joined_lists, least, no_surface, overlaid_picture, picked, sector_at, sky_flat, surface_at, surface_of, surfaces_of, trim_parts, trim_plan, trimmed_file, view_of, view_over}
use Rattle.csv_tables.specs.declared.weapons.WeaponRow.{WeaponRow}
use Rattle.sound_scene.specs.Sound.{art_with}
use Rattle.level_audit.specs.scene_load.Loads.{LoadedValue, load_in, loaded_pictures, wad_bytes}
use Rattle.trim_rules.proofs.BookLemmas.{move_frame, move_shape}
use Rattle.trim_rules.proofs.{FlatPlaceLemmas.IsFlatPlace, MovedFlatLemmas.move_both}
use Rattle.trim_rules.proofs.{PickedLemmas.picked-moved, PlaceLemmas.source_of}
use Rattle.trim_rules.proofs.{PlanLemmas.plan-accepted, SceneLemmas.IsSceneMoved}
use Rattle.alike_rules.proofs.EntryLemmas.{moved_layer}
use Rattle.alike_rules.proofs.PictureLemmas.{overlaid_picture-same, view_over-same}
use Rattle.alike_rules.proofs.{PlaneLemmas.IsOneToOne, SceneLemmas.IsMovedScene}
use Rattle.doom_run.specs.Alike.{StandsForWads}
use Rattle.doom_run.proofs.{alike.SceneOfLemmas.scene-moved, alike.TrimmedLemmas.moved-value}
use Rattle.doom_run.proofs.alike.LoadLemmas.{IsComparedAlike, IsLoadMoved, trimmed-load}
use Rattle.doom_run.specs.declared.form.ViewForm.TheVariants as form
use Rattle.doom_run.specs.Layers.{SeenView, layer_of, layer_with, layers_by, layers_from, layers_of, layer_light, seen_from, seen_view, seen_views}
use Rattle.doom_run.specs.Views.{ViewsValue, due_views, end_at, first_over, frame_bytes, frames_of, over_at, rendered_bytes, rendered_end, view_bytes, views_of}

-- a view whose layers have their pictures under other numbers
abbrev pub moved_seen : (ℕ → ℕ) → SeenView → SeenView
moved_seen σ s = record { view = s.view; layers = map (moved_layer σ) s.layers }

-- The same views of the same scene, but for the numbers of its lumps.
pub record AreMovedViews (P : ℕ → Type 0) (σ : ℕ → ℕ) (r other : ViewsValue) : Type 0 where
  pub scene : IsMovedScene P σ r.scene other.scene
  pub views : other.views ≡ map (moved_seen σ) r.views
  pub limits : other.limits ≡ r.limits
  pub palette : other.palette ≡ r.palette

get_moved : {X Y : Type 0} (f : X → Y) (xs : List X) (n : ℕ) → slice_get (map f xs) n ≡ option_map f (slice_get xs n)
get_moved f [] n = refl
get_moved f (x ∷ xs) zero = refl
get_moved f (x ∷ xs) (suc n) = get_moved f xs n

joined_moved : {X Y Z : Type 0} (g : X → Y) (f : Y → List Z) (h : X → List Z) → ((x : X) → f (g x) ≡ h x) → (xs : List X) → joined_lists f (map g xs) ≡ joined_lists h xs
unfolding joined_lists
joined_moved g f h same [] = refl
joined_moved g f h same (x ∷ xs) = rw (same x, joined_moved g f h same xs) refl

module _ (P : ℕ → Type 0) (σ : ℕ → ℕ) (one : IsOneToOne P σ) (sky : P sky_flat) (keeps : σ sky_flat ≡ sky_flat)
    (r other : ViewsValue) (moved : AreMovedViews P σ r other) where
  over-same : (s : SeenView) → view_over s.view other.scene other.limits ≡ view_over s.view r.scene r.limits
  over-same s = ap (view_over s.view other.scene) moved.limits ∙ view_over-same P σ one sky keeps r.scene other.scene moved.scene s.view r.limits

  over_step : (o : Option SeenView) → option_and_then (λ s. view_over s.view other.scene other.limits) (option_map (moved_seen σ) o) ≡ option_and_then (λ s. view_over s.view r.scene r.limits) o
  over_step None = refl
  over_step (Some s) = over-same s

  over_at-same : (k : ℕ) → over_at other k ≡ over_at r k
  unfolding over_at
  over_at-same k =
      ap (λ views. option_and_then (λ s. view_over s.view other.scene other.limits) (slice_get views k)) moved.views
      ∙ ap (option_and_then (λ s. view_over s.view other.scene other.limits)) (get_moved (moved_seen σ) r.views k)
      ∙ over_step (slice_get r.views k)

  count-same : length other.views ≡ length r.views
  count-same = ap length moved.views ∙ length-map r.views (moved_seen σ)

  first-same : first_over other ≡ first_over r
  unfolding first_over
  first-same =
      ap (λ n. least (λ k. is_some (over_at other k)) n) count-same
      ∙ ap (λ f. least f (length r.views)) (λ i k. is_some (over_at-same k i))

  due-moved : due_views other ≡ map (moved_seen σ) (due_views r)
  unfolding due_views
  due-moved =
      ap (λ o. take (unwrap_or o (length other.views)) other.views) first-same
      ∙ ap (λ n. take (unwrap_or (first_over r) n) other.views) count-same
      ∙ ap (take (unwrap_or (first_over r) (length r.views))) moved.views
      ∙ take-map (moved_seen σ) (unwrap_or (first_over r) (length r.views)) r.views

  frame-same : (format : Format) (s : SeenView) → view_bytes (form.Frame format) other.palette other.scene (moved_seen σ s) ≡ view_bytes (form.Frame format) r.palette r.scene s
  frame-same format s =
      ap (λ palette. frame_bytes format palette (overlaid_picture s.view other.scene (map (moved_layer σ) s.layers))) moved.palette
      ∙ ap (frame_bytes format r.palette) (overlaid_picture-same P σ one sky keeps r.scene other.scene moved.scene s.view s.layers)

  -- the frames that are written
  pub rendered-same : (format : Format) → rendered_bytes (form.Frame format) other ≡ rendered_bytes (form.Frame format) r
  unfolding frames_of
  rendered-same format =
      ap (joined_lists (view_bytes (form.Frame format) other.palette other.scene)) due-moved
      ∙ joined_moved (moved_seen σ) (view_bytes (form.Frame format) other.palette other.scene) (view_bytes (form.Frame format) r.palette r.scene) (λ s. frame-same format s) (due_views r)

  end_step : (o : Option ℕ) → end_at other o ≡ end_at r o
  end_step None = refl
  end_step (Some k) = rw (over_at-same k) refl

  -- and how the rendering ends
  pub end-same : rendered_end other ≡ rendered_end r
  end-same = ap (end_at other) first-same ∙ end_step (first_over r)

-- the light of a sector does not depend on its flats
light_same : (σ : ℕ → ℕ) (sectors : List Sector) (flats : List SectorFlats) (n : ℕ)
    → (slice_index_or (surfaces_of sectors (map (move_both σ) flats)) n no_surface).light ≡ (slice_index_or (surfaces_of sectors flats) n no_surface).light
unfolding surfaces_of surface_of
light_same σ [] flats n = refl
light_same σ (s ∷ ss) [] n = refl
light_same σ (s ∷ ss) (f ∷ fs) zero = refl
light_same σ (s ∷ ss) (f ∷ fs) (suc n) = light_same σ ss fs n

light-same : (σ : ℕ → ℕ) (bytes : ℕ → List ℕ) (moved scene : SceneValue) (eye : Eye) → IsSceneMoved σ bytes moved scene → layer_light scene eye ≡ layer_light moved eye
unfolding layer_light surface_at
light-same σ bytes moved scene eye m =
    ap (λ (level : LevelValue). (slice_index_or (surfaces_of level.sectors scene.faces.flats) (sector_at level eye.x eye.y) no_surface).light) m.level
    ∙ ap (λ flats. (slice_index_or (surfaces_of moved.base.level.sectors flats) (sector_at moved.base.level eye.x eye.y) no_surface).light) (sym m.flats)
    ∙ light_same σ moved.base.level.sectors moved.faces.flats (sector_at moved.base.level eye.x eye.y)

-- the layers of a view
module _ (σ : ℕ → ℕ) (light : ℤ) where
  layer_step : (number : ℕ) (row : WeaponRow) (o : Option Shape) → option_map (layer_with light number row) (option_map (move_shape σ) o) ≡ option_map (moved_layer σ) (option_map (layer_with light number row) o)
  unfolding layer_with
  layer_step number row None = refl
  layer_step number row (Some shape) = refl

  layer-moved : (book : List Frame) (number : ℕ) (row : WeaponRow) → layer_of (map (move_frame σ) book) light number row ≡ option_map (moved_layer σ) (layer_of book light number row)
  unfolding layer_of
  layer-moved book number row =
      ap (option_map (layer_with light number row)) (picked-moved σ book row.sprite row.frame 0) ∙ layer_step number row (picked book row.sprite row.frame 0)

  list_step : (b : Bool) (o : Option WeaponLayer) → cond b (option_to_list (option_map (moved_layer σ) o)) [] ≡ map (moved_layer σ) (cond b (option_to_list o) [])
  list_step true None = refl
  list_step true (Some l) = refl
  list_step false o = refl

  from-moved : (book : List Frame) (k number : ℕ) (rows : List WeaponRow) → layers_from (map (move_frame σ) book) light k number rows ≡ map (moved_layer σ) (layers_from book light k number rows)
  unfolding layers_from
  from-moved book k number [] = refl
  from-moved book k number (row ∷ rows) =
      rw (layer-moved book number row, list_step (row.view == k) (layer_of book light number row), from-moved book k (number + 1) rows)
      (sym (map-append (moved_layer σ) (cond (row.view == k) (option_to_list (layer_of book light number row)) []) (layers_from book light k (number + 1) rows)))

  by-moved : (rows : Option (List WeaponRow)) (book : Option (List Frame)) (k : ℕ) → layers_by rows (option_map (map (move_frame σ)) book) light k ≡ map (moved_layer σ) (layers_by rows book light k)
  by-moved None book k = refl
  by-moved (Some rows) None k = refl
  by-moved (Some rows) (Some book) k = from-moved book k 1 rows

abbrev with_layers : ViewValue → List WeaponLayer → SeenView
with_layers view layers = record { view = view; layers = layers }

-- the views of a path
module _ (σ : ℕ → ℕ) (bytes : ℕ → List ℕ) (moved loaded : LoadedValue) (m : IsLoadMoved σ bytes moved loaded) where
  layers-moved : (k : ℕ) (eye : Eye) → layers_of loaded k eye ≡ map (moved_layer σ) (layers_of moved k eye)
  unfolding layers_of
  layers-moved k eye =
      ap (λ rows. layers_by rows loaded.weapons (layer_light loaded.scene eye) k) m.rows
      ∙ ap (λ book. layers_by moved.files.weapons book (layer_light loaded.scene eye) k) (sym m.weapons)
      ∙ ap (λ light. layers_by moved.files.weapons (option_map (map (move_frame σ)) moved.weapons) light k) (light-same σ bytes moved.scene loaded.scene eye m.scene)
      ∙ by-moved σ (layer_light moved.scene eye) moved.files.weapons moved.weapons k

  seen-moved : (k : ℕ) (eye : Eye) → seen_view loaded k eye ≡ moved_seen σ (seen_view moved k eye)
  seen-moved k eye =
      ap (λ tables. with_layers (view_of tables eye) (layers_of loaded k eye)) m.tables
      ∙ ap (with_layers (view_of moved.files.tables eye)) (layers-moved k eye)

  rows-moved : (k : ℕ) (eyes : List Eye) → seen_from (seen_view loaded) k eyes ≡ map (moved_seen σ) (seen_from (seen_view moved) k eyes)
  unfolding seen_from
  rows-moved k [] = refl
  rows-moved k (eye ∷ eyes) = rw (seen-moved k eye, rows-moved (k + 1) eyes) refl

  path-moved : seen_views loaded ≡ map (moved_seen σ) (seen_views moved)
  path-moved = ap (seen_from (seen_view loaded) 0) m.path ∙ rows-moved 0 moved.files.path

  -- the views over the level that is loaded are the same views under other numbers
  pub views-moved : (P : ℕ → Type 0) (settings : Settings) → IsComparedAlike P σ moved.scene → AreMovedViews P σ (views_of (λ n. bytes (σ n)) settings moved) (views_of bytes settings loaded)
  unfolding views_of
  views-moved P settings alike = record {
    scene = scene-moved σ alike.sky P bytes moved.scene loaded.scene (moved-value σ bytes moved.scene loaded.scene m.scene) alike.sectors alike.flats;
    views = path-moved;
    limits = refl;
    palette = m.scene.palette;
  }

-- the other side loads, and its views come to the same
pub record AreViewedAlike (level : LevelJobValue) (loaded : LoadedValue) (bytes' : ℕ → List ℕ) (name : List ℕ) (others : List File) : Type 0 where
  pub moved : LoadedValue
  pub loads : load_in level (name ∷ []) others ≡ Ok moved
  pub bytes : ℕ → List ℕ
  pub same : wad_bytes (name ∷ []) others moved.files.lumps ≡ bytes
  pub rendered : (format : Format) → rendered_bytes (form.Frame format) (views_of bytes level.settings moved) ≡ rendered_bytes (form.Frame format) (views_of bytes' level.settings loaded)
  pub end : rendered_end (views_of bytes level.settings moved) ≡ rendered_end (views_of bytes' level.settings loaded)

-- The trimmed file of a job comes to the same frames as the WADs that it was made of.
pub trimmed-views : (level : LevelJobValue) (wads : List (List ℕ)) (files : List File) (loaded : LoadedValue) → load_in level wads files ≡ Ok loaded
    → (parts : List TrimPart) → trim_plan loaded.files.lumps (art_with loaded.scene (loaded_pictures loaded)) level.map_name ≡ Ok parts
    → (name : List ℕ) (others : List File)
    → StandsForWads level.files (trimmed_file (wad_bytes wads files loaded.files.lumps) loaded.files.lumps parts) name files others
    → AreViewedAlike level loaded (wad_bytes wads files loaded.files.lumps) name others
trimmed-views level wads files loaded is parts plan name others stands =
    let lumps = loaded.files.lumps in
    let bytes = wad_bytes wads files lumps in
    let art = art_with loaded.scene (loaded_pictures loaded) in
    let trimmed_parts = trim_parts lumps art level.map_name in let source = source_of trimmed_parts in
    let load = trimmed-load level wads files loaded is parts plan name others
    (subst (λ ps. StandsForWads level.files (trimmed_file bytes lumps ps) name files others) (sym (plan-accepted lumps art level.map_name parts plan).0) stands) in
    let moved_value = load.0 in
    let flat_places = IsFlatPlace (length (flat_lumps lumps loaded.scene.faces.flats)) in
    let are_alike = load.4 in
    let views = views-moved source bytes moved_value loaded load.2 flat_places level.settings are_alike in
    let views_untrimmed = views_of bytes level.settings loaded in
    let views_trimmed = views_of (λ k. bytes (source k)) level.settings moved_value in
    record {
      moved = moved_value;
      loads = load.1;
      bytes = λ k. bytes (source k);
      same = load.3;
      rendered = λ format. sym (rendered-same flat_places source are_alike.one are_alike.has_sky are_alike.sky views_trimmed views_untrimmed views format);
      end = sym (end-same flat_places source are_alike.one are_alike.has_sky are_alike.sky views_trimmed views_untrimmed views);
    }
