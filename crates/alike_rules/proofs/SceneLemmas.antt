-- A scene whose lumps have other numbers: the same drawn fragments, sprites and steps of planes, under the other numbers.
use Rattle.picture_rules.proofs.Common.{[], AllByRecursion, ap, Bool, cond, false, funext, List, map, None, Option, option_map, pos, refl, slice_index_or, Some, suc, true, zero, ℕ, ℤ, ◌+◌, ◌∙◌, ◌∷◌, ◌≡◌}
use Rattle.alike_rules.specs.Rules.{Event, FragmentEvent, LeafEvent, LeafFragment, LevelLists, Lump, Placed, PlacedThing, PlaneKey, Scene, Seen, Shape5, Sky, SpriteEntry, Step, Surface, ViewValue, Wall, WallFacts, back_of, bottom_clip, ceiling_key, ceiling_marks, drawseg_of, drawsegs, drawsegs_from, facts_of, first_mentions, floor_key, floor_marks, fragment_facts, fragment_wall, is_sky, key_of, leaf_at, leaf_sector, leaf_step, leaf_surface, leaves_entered, masked_mid, middle_hangs, middle_stands, no_surface, own_front, own_mid, placed_of, plane_wall, project, sectors_entered, seg_at, side_at, sky_flat, steps_from, steps_of, surface_at, texture_column, textures_at, top_clip, view_drawsegs, view_entries, view_events, view_planes, wall_of, wall_step, wall_texture, walls_of, with_sectors, with_seen, with_shape, with_thing, with_things}
use Rattle.alike_rules.proofs.BuiltLemmas.{IsEventOf, IsKeyOf, moved_event, planes-moved}
use Rattle.alike_rules.proofs.DotLemmas.{IsMovedArt}
use Rattle.alike_rules.proofs.EntryLemmas.{add-moved, moved_entry, moved_shape}
use Rattle.alike_rules.proofs.NumberLemmas.{moved_facts, numbers-same}
use Rattle.alike_rules.proofs.PlaneLemmas.{IsFlatOf, IsOneToOne, moved_plane}
use Rattle.alike_rules.proofs.StripLemmas.{bottom_clip-same, ceiling_marks-same, column-same, floor_marks-same, moved_wall, openings-same, top_clip-same}
use Rattle.alike_rules.proofs.SurfaceLemmas.{IsSurfaceOf, ceiling_key-moved, floor_key-moved, moved_surface}
use Rattle.alike_rules.proofs.WalkLemmas.{AreMoved, events-same, with_surfaces}

abbrev pub moved_level : (ℕ → ℕ) → LevelLists → LevelLists
moved_level σ level = with_surfaces level (map (moved_surface σ) level.surfaces)

-- The same scene, but for the numbers of its lumps.
pub record IsMovedScene (P : ℕ → Type 0) (σ : ℕ → ℕ) (scene other : Scene) : Type 0 where
  pub level : other.level ≡ moved_level σ scene.level
  pub surfaces : AreMoved P σ scene.level (map (moved_surface σ) scene.level.surfaces)
  pub sides : other.sides ≡ scene.sides
  pub side_textures : other.side_textures ≡ scene.side_textures
  pub texture_height : (n : ℕ) → other.texture_height n ≡ scene.texture_height n
  pub things_of : (sector : ℕ) → other.things_of sector ≡ scene.things_of sector
  pub pick : (sprite : List ℕ) (frame rotation : ℕ) → other.pick sprite frame rotation ≡ option_map (moved_shape σ) (scene.pick sprite frame rotation)
  pub sky : other.sky ≡ scene.sky
  pub art : IsMovedArt σ scene.art other.art

abbrev pub moved_step : (ℕ → ℕ) → Step → Step
moved_step σ s = record { event = moved_event σ s.event; openings = s.openings }

-- what is no flat of a sector is the same for every number
surface_same : (σ : ℕ → ℕ) (f : Surface → ℤ) → ((s : Surface) → f (moved_surface σ s) ≡ f s) → (ss : List Surface) (n : ℕ)
    → f (slice_index_or (map (moved_surface σ) ss) n no_surface) ≡ f (slice_index_or ss n no_surface)
surface_same σ f same [] n = refl
surface_same σ f same (s ∷ ss) zero = same s
surface_same σ f same (s ∷ ss) (suc n) = surface_same σ f same ss n

sectors_same : (f g : ℕ → ℕ) → ((n : ℕ) → f n ≡ g n) → (ns : List ℕ) → map f ns ≡ map g ns
sectors_same f g same [] = refl
sectors_same f g same (n ∷ ns) = rw (same n, sectors_same f g same ns) refl

-- keys of flats that pass
module _ (P : ℕ → Type 0) where
  flat_step : (b : Bool) (one other : PlaneKey) → IsFlatOf P one.flat → IsFlatOf P other.flat → IsFlatOf P (cond b one other).flat
  flat_step true one other p q = p
  flat_step false one other p q = q

  key-of : (height : ℤ) (flat : ℕ) (light : ℤ) → P flat → IsFlatOf P (key_of height flat light).flat
  unfolding key_of
  key-of height flat light p =
      flat_step (is_sky flat) (record { height = pos 0; flat = Sky; light = pos 0 }) (record { height = height; flat = Lump flat; light = light }) tt p

  some_step : (b : Bool) (key : PlaneKey) → IsFlatOf P key.flat → IsKeyOf P (cond b (Some key) None)
  some_step true key p = p
  some_step false key p = tt

  floor-of : (eye_z : ℤ) (s : Surface) → IsSurfaceOf P s → IsKeyOf P (floor_key eye_z s)
  unfolding floor_key
  floor-of eye_z s p = some_step _ (key_of s.floor s.floor_flat s.light) (key-of s.floor s.floor_flat s.light p.floor)

  ceiling-of : (eye_z : ℤ) (s : Surface) → IsSurfaceOf P s → IsKeyOf P (ceiling_key eye_z s)
  unfolding ceiling_key
  ceiling-of eye_z s p = some_step _ (key_of s.ceiling s.ceiling_flat s.light) (key-of s.ceiling s.ceiling_flat s.light p.ceiling)

module _ (P : ℕ → Type 0) (σ : ℕ → ℕ) (one : IsOneToOne P σ) (sky : P sky_flat) (keeps : σ sky_flat ≡ sky_flat)
    (scene other : Scene) (moved : IsMovedScene P σ scene other) (v : ViewValue) where
  -- the walk
  pub walk-same : view_events v other.level ≡ view_events v scene.level
  walk-same = ap (view_events v) moved.level ∙ events-same P σ one sky keeps v scene.level (map (moved_surface σ) scene.level.surfaces) moved.surfaces

  sector-same : (leaf : ℕ) → leaf_sector other leaf ≡ leaf_sector scene leaf
  unfolding leaf_sector leaf_at
  sector-same leaf = rw moved.level refl

  leaf_surface-moved : (leaf : ℕ) → leaf_surface other leaf ≡ moved_surface σ (leaf_surface scene leaf)
  unfolding leaf_surface leaf_sector leaf_at
  leaf_surface-moved leaf = rw moved.level (moved.surfaces.leaf leaf)

  height-same : (f : Surface → ℤ) → ((s : Surface) → f (moved_surface σ s) ≡ f s) → (n : ℕ) → f (surface_at other.level n) ≡ f (surface_at scene.level n)
  unfolding surface_at
  height-same f same n = rw moved.level (surface_same σ f same scene.level.surfaces n)

  texture-same : (n : ℕ) → wall_texture other n ≡ wall_texture scene n
  unfolding wall_texture
  texture-same n = rw (moved.texture_height n) refl

  textures-same : (n : ℕ) → textures_at other n ≡ textures_at scene n
  unfolding textures_at
  textures-same n = rw moved.side_textures refl

  side-same : (n : ℕ) → side_at other n ≡ side_at scene n
  unfolding side_at
  side-same n = rw moved.sides refl

  seg-same : (n : ℕ) → seg_at other.level n ≡ seg_at scene.level n
  unfolding seg_at
  seg-same n = rw moved.level refl

  back-moved : (n : ℕ) → back_of other.level (seg_at scene.level n) ≡ option_map (moved_surface σ) (back_of scene.level (seg_at scene.level n))
  back-moved n = ap (λ level. back_of level (seg_at scene.level n)) moved.level ∙ moved.surfaces.back n

  facts-moved : (s : LeafFragment) → fragment_facts other s ≡ moved_facts σ (fragment_facts scene s)
  unfolding fragment_facts facts_of
  facts-moved s =
      rw (
        leaf_surface-moved s.leaf,
        seg-same s.seg,
        back-moved s.seg,
        side-same (seg_at scene.level s.seg).side,
        textures-same (seg_at scene.level s.seg).side,
        texture-same (textures_at scene (seg_at scene.level s.seg).side).top,
        texture-same (textures_at scene (seg_at scene.level s.seg).side).bottom,
        texture-same (textures_at scene (seg_at scene.level s.seg).side).middle,
      ) refl

  wall-moved : (s : LeafFragment) → fragment_wall v other s ≡ moved_wall σ (fragment_wall v scene s)
  unfolding fragment_wall wall_of fragment_facts facts_of leaf_surface leaf_sector
  wall-moved s =
      rw (facts-moved s, numbers-same P σ one sky keeps v (fragment_facts scene s) s.first s.last (moved.surfaces.leaf_flats s.leaf) (moved.surfaces.back_flats s.seg)) refl

  walls-step : (ss : List LeafFragment) → map (fragment_wall v other) ss ≡ map (moved_wall σ) (map (fragment_wall v scene) ss)
  walls-step [] = refl
  walls-step (s ∷ ss) = rw (wall-moved s, walls-step ss) refl

  -- the drawn fragments
  pub walls-moved : (events : List Event) → walls_of v other events ≡ map (moved_wall σ) (walls_of v scene events)
  unfolding walls_of
  walls-moved events = walls-step (drawsegs events)

  -- what the masked pass needs of them
  mid-same : (f : WallFacts) (o : Option Surface) → own_mid v other (moved_facts σ f) (option_map (moved_surface σ) o) ≡ own_mid v scene f o
  unfolding own_mid own_front masked_mid middle_hangs middle_stands
  mid-same f None = refl
  mid-same f (Some back) = rw (height-same (λ s. s.ceiling) (λ s. refl) f.seg.front, height-same (λ s. s.floor) (λ s. refl) f.seg.front) refl

  light-same : (f : WallFacts) → (own_front other (moved_facts σ f)).light ≡ (own_front scene f).light
  unfolding own_front
  light-same f = height-same (λ s. s.light) (λ s. refl) f.seg.front

  drawseg-same : (walls : List Wall) (k : ℕ) (w : Wall) → drawseg_of v other (map (moved_wall σ) walls) k (moved_wall σ w) ≡ drawseg_of v scene walls k w
  unfolding drawseg_of
  drawseg-same walls k w =
      let column : texture_column v (moved_facts σ w.facts) ≡ texture_column v w.facts = funext (texture_column v (moved_facts σ w.facts)) (texture_column v w.facts) (λ x. column-same σ v w.facts x) in
      let bottom : bottom_clip v.shape (map (moved_wall σ) walls) k (moved_wall σ w) ≡ bottom_clip v.shape walls k w = funext (bottom_clip v.shape (map (moved_wall σ) walls) k (moved_wall σ w)) (bottom_clip v.shape walls k w) (λ x. bottom_clip-same σ v.shape walls k w x) in
      let top : top_clip v.shape (map (moved_wall σ) walls) k (moved_wall σ w) ≡ top_clip v.shape walls k w = funext (top_clip v.shape (map (moved_wall σ) walls) k (moved_wall σ w)) (top_clip v.shape walls k w) (λ x. top_clip-same σ v.shape walls k w x) in
      rw (column, bottom, top, mid-same w.facts w.facts.back, light-same w.facts) refl

  drawsegs_from-same : (walls : List Wall) (k : ℕ) (ws : List Wall) → drawsegs_from v other (map (moved_wall σ) walls) k (map (moved_wall σ) ws) ≡ drawsegs_from v scene walls k ws
  unfolding drawsegs_from
  drawsegs_from-same walls k [] = refl
  drawsegs_from-same walls k (w ∷ ws) = rw (drawseg-same walls k w, drawsegs_from-same walls (k + 1) ws) refl

  pub drawsegs-same : (walls : List Wall) → view_drawsegs v other (map (moved_wall σ) walls) ≡ view_drawsegs v scene walls
  unfolding view_drawsegs
  drawsegs-same walls = drawsegs_from-same walls 0 walls

  -- the steps of planes
  leaf-moved : (n : ℕ) → leaf_step v (leaf_surface other n) ≡ moved_step σ (leaf_step v (leaf_surface scene n))
  unfolding leaf_step leaf_surface leaf_sector
  leaf-moved n =
      rw (
        leaf_surface-moved n,
        floor_key-moved P σ one sky keeps v.eye.z (leaf_surface scene n) (moved.surfaces.leaf_flats n),
        ceiling_key-moved P σ one sky keeps v.eye.z (leaf_surface scene n) (moved.surfaces.leaf_flats n),
      ) refl

  wall_step-same : (walls : List Wall) (k : ℕ) (w : Wall) → wall_step v (map (moved_wall σ) walls) k (moved_wall σ w) ≡ moved_step σ (wall_step v walls k w)
  unfolding wall_step plane_wall
  wall_step-same walls k w =
      let ceiling : ceiling_marks v (map (moved_wall σ) walls) k (moved_wall σ w) ≡ ceiling_marks v walls k w = funext (ceiling_marks v (map (moved_wall σ) walls) k (moved_wall σ w)) (ceiling_marks v walls k w) (λ x. ceiling_marks-same σ v walls k w x) in
      let floor : floor_marks v (map (moved_wall σ) walls) k (moved_wall σ w) ≡ floor_marks v walls k w = funext (floor_marks v (map (moved_wall σ) walls) k (moved_wall σ w)) (floor_marks v walls k w) (λ x. floor_marks-same σ v walls k w x) in
      rw (ceiling, floor, openings-same σ w) refl

  steps_from-moved : (walls : List Wall) (k : ℕ) (ws : List Wall) (es : List Event)
      → steps_from v other (map (moved_wall σ) walls) k (map (moved_wall σ) ws) es ≡ map (moved_step σ) (steps_from v scene walls k ws es)
  unfolding steps_from
  steps_from-moved walls k ws [] = refl
  steps_from-moved walls k ws (LeafEvent n ∷ es) = rw (leaf-moved n, steps_from-moved walls k ws es) refl
  steps_from-moved walls k [] (FragmentEvent seg first last ∷ es) = steps_from-moved walls k [] es
  steps_from-moved walls k (w ∷ ws) (FragmentEvent seg first last ∷ es) = rw (wall_step-same walls k w, steps_from-moved walls (k + 1) ws es) refl

  pub steps-moved : (walls : List Wall) (es : List Event) → steps_of v other (map (moved_wall σ) walls) es ≡ map (moved_step σ) (steps_of v scene walls es)
  unfolding steps_of
  steps-moved walls es = steps_from-moved walls 0 walls es

  leaf_step-of : (n : ℕ) → IsEventOf P (leaf_step v (leaf_surface scene n)).event
  unfolding leaf_step leaf_surface leaf_sector
  leaf_step-of n =
      (floor-of P v.eye.z (leaf_surface scene n) (moved.surfaces.leaf_flats n), ceiling-of P v.eye.z (leaf_surface scene n) (moved.surfaces.leaf_flats n))

  steps_from-of : (walls : List Wall) (k : ℕ) (ws : List Wall) (es : List Event) → AllByRecursion (λ s. IsEventOf P s.event) (steps_from v scene walls k ws es)
  unfolding steps_from wall_step
  steps_from-of walls k ws [] = tt
  steps_from-of walls k ws (LeafEvent n ∷ es) = (leaf_step-of n, steps_from-of walls k ws es)
  steps_from-of walls k [] (FragmentEvent seg first last ∷ es) = steps_from-of walls k [] es
  steps_from-of walls k (w ∷ ws) (FragmentEvent seg first last ∷ es) = (tt, steps_from-of walls (k + 1) ws es)

  pub steps-of : (walls : List Wall) (es : List Event) → AllByRecursion (λ s. IsEventOf P s.event) (steps_of v scene walls es)
  unfolding steps_of
  steps-of walls es = steps_from-of walls 0 walls es

  -- the sprites
  pub sectors-same : (events : List Event) → sectors_entered other events ≡ sectors_entered scene events
  unfolding sectors_entered
  sectors-same events = ap (first_mentions []) (sectors_same (leaf_sector other) (leaf_sector scene) sector-same (leaves_entered events))

  placed-same : (sector : ℕ) (thing : PlacedThing) → placed_of v other sector thing ≡ placed_of v scene sector thing
  unfolding placed_of
  placed-same sector thing = rw (height-same (λ s. s.light) (λ s. refl) sector) refl

  shape-moved : (entries : List SpriteEntry) (placed : Placed) (seen : Seen) (o : Option Shape5)
      → with_shape v (map (moved_entry σ) entries) placed seen (option_map (moved_shape σ) o) ≡ map (moved_entry σ) (with_shape v entries placed seen o)
  unfolding with_shape
  shape-moved entries placed seen None = refl
  shape-moved entries placed seen (Some shape) = add-moved σ v entries placed seen shape

  seen-moved : (entries : List SpriteEntry) (thing : PlacedThing) (placed : Placed) (o : Option Seen)
      → with_seen v other (map (moved_entry σ) entries) thing placed o ≡ map (moved_entry σ) (with_seen v scene entries thing placed o)
  unfolding with_seen
  seen-moved entries thing placed None = refl
  seen-moved entries thing placed (Some seen) =
      rw (moved.pick thing.sprite thing.frame seen.rotation) (shape-moved entries placed seen (scene.pick thing.sprite thing.frame seen.rotation))

  thing-moved : (sector : ℕ) (entries : List SpriteEntry) (thing : PlacedThing)
      → with_thing v other sector (map (moved_entry σ) entries) thing ≡ map (moved_entry σ) (with_thing v scene sector entries thing)
  unfolding with_thing
  thing-moved sector entries thing =
      rw (placed-same sector thing) (seen-moved entries thing (placed_of v scene sector thing) (project v (placed_of v scene sector thing)))

  things-moved : (sector : ℕ) (entries : List SpriteEntry) (ts : List PlacedThing)
      → with_things v other sector (map (moved_entry σ) entries) ts ≡ map (moved_entry σ) (with_things v scene sector entries ts)
  unfolding with_things
  things-moved sector entries [] = refl
  things-moved sector entries (t ∷ ts) = rw (thing-moved sector entries t) (things-moved sector (with_thing v scene sector entries t) ts)

  sectors-moved : (entries : List SpriteEntry) (ns : List ℕ) → with_sectors v other (map (moved_entry σ) entries) ns ≡ map (moved_entry σ) (with_sectors v scene entries ns)
  unfolding with_sectors
  sectors-moved entries [] = refl
  sectors-moved entries (n ∷ ns) =
      rw (moved.things_of n, things-moved n entries (scene.things_of n)) (sectors-moved (with_things v scene n entries (scene.things_of n)) ns)

  pub entries-moved : (events : List Event) → view_entries v other events ≡ map (moved_entry σ) (view_entries v scene events)
  unfolding view_entries
  entries-moved events = rw (sectors-same events) (sectors-moved [] (sectors_entered scene events))

  -- the planes
  pub planes_built-moved : (steps : List Step) → AllByRecursion (λ s. IsEventOf P s.event) steps → view_planes (map (moved_step σ) steps) ≡ map (moved_plane σ) (view_planes steps)
  unfolding view_planes
  planes_built-moved steps all = rw (events_of steps) (planes-moved P σ one (map (λ s. s.event) steps) (each_of steps all))
    where
      events_of : (ss : List Step) → map (λ (s : Step). s.event) (map (moved_step σ) ss) ≡ map (moved_event σ) (map (λ (s : Step). s.event) ss)
      events_of [] = refl
      events_of (s ∷ ss) = rw (events_of ss) refl

      each_of : (ss : List Step) → AllByRecursion (λ s. IsEventOf P s.event) ss → AllByRecursion (IsEventOf P) (map (λ (s : Step). s.event) ss)
      each_of [] a = tt
      each_of (s ∷ ss) a = (a.0, each_of ss a.1)
