-- Laws of the planes of a scene that lie in the view: they do so after a leaf of it, and after a fragment of its columns.
use Rattle.picture_rules.proofs.Common.{All, ap, arith, Bool, cond, false, IfSome, inl, inr, int_lt, length, List, None, Option, or-true_right, pos, refl, Some, true, ℕ, ℤ, ◌-◌, ◌<◌, ◌||◌, ◌≡◌, ◌≤◌}
use Rattle.frame_core.specs.Rules.{FRAME_HEIGHT, Plane, PlaneKey, PlanesNow, SceneValue, Surface, ViewShape, ViewValue, Wall, after_event, ceiling_key, ceiling_marks, ceiling_rows, clip_before, empty_plane, floor_key, floor_marks, floor_rows, is_sky, key_of, leaf_step, plane_wall, surface_at, wall_edges, wall_step, with_run}
use Rattle.picture_rules.specs.declared.plane.Flat4.TheVariants.{Sky, Lump}
use Rattle.wall_columns.proofs.ClipLemmas.{ceiling_rows-in, clip_before-in, edges_at-words, floor_rows-in}
use Rattle.sound_scene.specs.Pictures.{lists_of}
use Rattle.frame_core.specs.Walked.{IsFlatOf, IsFlatShown, IsPlaneIn}
use Rattle.frame_core.proofs.AllPlanesLemmas.{IsRunIn, all-draws, all-finds, holds-empty_plane, holds-with_run, marked_rows-in}

plane_empty : (shape : ViewShape) (scene : SceneValue) (key : PlaneKey) → IsFlatShown scene key.flat → IsPlaneIn shape scene (empty_plane key)
unfolding empty_plane
plane_empty shape scene key shown = record {
  flat = shown;
  column = λ x y h. absurd (holds-empty_plane key y x h);
  row = λ x y h. absurd (holds-empty_plane key y x h);
}

plane_again : (shape : ViewShape) (scene : SceneValue) (p : Plane) → IsPlaneIn shape scene p → IsPlaneIn shape scene (empty_plane p.key)
plane_again shape scene p h = plane_empty shape scene p.key h.flat

plane_run : (shape : ViewShape) (scene : SceneValue) (p : Plane) (x : ℕ) (rows : ℕ × ℕ) → x < shape.width → rows.1 < shape.height → IsPlaneIn shape scene p →
    IsPlaneIn shape scene (with_run p x rows)
unfolding with_run
plane_run shape scene p x rows w l h = record {
  flat = h.flat;
  column = λ k y held. elim (holds-with_run p x rows y k held) [ inl old ↦ h.column k y old | inr new ↦ (let column_is = new.0 in omega arith) ];
  row = λ k y held. elim (holds-with_run p x rows y k held) [ inl old ↦ h.row k y old | inr new ↦ (let row_within_run = new.1 in omega arith) ];
}

run_in : (shape : ViewShape) (scene : SceneValue) (x : ℕ) (run : Option (ℕ × ℕ)) → x < shape.width → IsRunIn shape.height run →
    IfSome run (λ (rows : ℕ × ℕ). (p : Plane) → IsPlaneIn shape scene p → IsPlaneIn shape scene (with_run p x rows))
run_in shape scene x None w l = tt
run_in shape scene x (Some rows) w l = λ p h. plane_run shape scene p x rows w l h

rows_in : (v : ViewValue) (walls : List Wall) (k : ℕ) (w : Wall) (x : ℕ) → v.shape.height ≤ FRAME_HEIGHT → IsRunIn v.shape.height (ceiling_marks v walls k w x) × IsRunIn v.shape.height (floor_marks v walls k w x)
unfolding ceiling_marks floor_marks wall_edges
rows_in v walls k w x tall =
    let clip = clip_before v.shape walls k x in
    let edges = wall_edges v.shape w x in
    let clip_in_frame = clip_before-in v.shape walls k x tall in
    let words = edges_at-words v.shape w.numbers (x - w.first) in (
      marked_rows-in v.shape.height (ceiling_rows clip edges) w.numbers.ceiling_mark (ceiling_rows-in v.shape.height clip edges tall clip_in_frame words),
      marked_rows-in v.shape.height (floor_rows clip edges) w.numbers.floor_mark (floor_rows-in v.shape.height clip edges tall clip_in_frame words),
    )

-- after a fragment of columns of the view
pub planes-wall : (v : ViewValue) (scene : SceneValue) (walls : List Wall) (k : ℕ) (w : Wall) (s : PlanesNow) → v.shape.height ≤ FRAME_HEIGHT → w.first ≤ w.last → w.last < v.shape.width →
    All (IsPlaneIn v.shape scene) s.planes → All (IsPlaneIn v.shape scene) (after_event s (wall_step v walls k w).event).planes
unfolding wall_step plane_wall
planes-wall v scene walls k w s tall ordered within all =
    all-draws (IsPlaneIn v.shape scene) (plane_wall v walls k w) s ordered (plane_again v.shape scene)
    (λ x l m. run_in v.shape scene x (ceiling_marks v walls k w x) (omega arith) (rows_in v walls k w x tall).0)
    (λ x l m. run_in v.shape scene x (floor_marks v walls k w x) (omega arith) (rows_in v walls k w x tall).1)
    all

-- the keys by whether the flat is sky
abbrev sky_key : PlaneKey
sky_key = record { height = pos 0; flat = Sky; light = pos 0 }

abbrev lump_key : ℤ → ℕ → ℤ → PlaneKey
lump_key height flat light = record { height = height; flat = Lump flat; light = light }

floor_flat : (s : Surface) (height light : ℤ) (t : Bool) → is_sky s.floor_flat ≡ t → IsFlatOf s (cond t sky_key (lump_key height s.floor_flat light)).flat
floor_flat s height light true e = ap (λ (b : Bool). b || is_sky s.ceiling_flat) e
floor_flat s height light false e = inl (refl, e)

ceiling_flat : (s : Surface) (height light : ℤ) (t : Bool) → is_sky s.ceiling_flat ≡ t → IsFlatOf s (cond t sky_key (lump_key height s.ceiling_flat light)).flat
ceiling_flat s height light true e = or-true_right (is_sky s.floor_flat) (is_sky s.ceiling_flat) e
ceiling_flat s height light false e = inr (refl, e)

floor_of : (s : Surface) (height light : ℤ) → IsFlatOf s (key_of height s.floor_flat light).flat
unfolding key_of
floor_of s height light = floor_flat s height light (is_sky s.floor_flat) refl

ceiling_of : (s : Surface) (height light : ℤ) → IsFlatOf s (key_of height s.ceiling_flat light).flat
unfolding key_of
ceiling_of s height light = ceiling_flat s height light (is_sky s.ceiling_flat) refl

key_if : (shape : ViewShape) (scene : SceneValue) (t : Bool) (key : PlaneKey) → IsFlatShown scene key.flat →
    IfSome (let none : Option PlaneKey = None in cond t (Some key) none) (λ (k : PlaneKey). IsPlaneIn shape scene (empty_plane k))
key_if shape scene true key shown = plane_empty shape scene key shown
key_if shape scene false key shown = tt

floor_found_in : (v : ViewValue) (scene : SceneValue) (sector : ℕ) → sector < length scene.base.level.sectors →
    IfSome (floor_key v.eye.z (surface_at (lists_of scene) sector)) (λ (k : PlaneKey). IsPlaneIn v.shape scene (empty_plane k))
unfolding floor_key
floor_found_in v scene sector there =
    let surface = surface_at (lists_of scene) sector in
    key_if v.shape scene (int_lt surface.floor v.eye.z) (key_of surface.floor surface.floor_flat surface.light) (record { sector = sector; there = there; is = floor_of surface surface.floor surface.light })

ceiling_found_in : (v : ViewValue) (scene : SceneValue) (sector : ℕ) → sector < length scene.base.level.sectors →
    IfSome (ceiling_key v.eye.z (surface_at (lists_of scene) sector)) (λ (k : PlaneKey). IsPlaneIn v.shape scene (empty_plane k))
unfolding ceiling_key
ceiling_found_in v scene sector there =
    let surface = surface_at (lists_of scene) sector in
    key_if v.shape scene (int_lt v.eye.z surface.ceiling || is_sky surface.ceiling_flat) (key_of surface.ceiling surface.ceiling_flat surface.light) (record { sector = sector; there = there; is = ceiling_of surface surface.ceiling surface.light })

-- after a leaf of a sector that is there
pub planes-leaf : (v : ViewValue) (scene : SceneValue) (sector : ℕ) (s : PlanesNow) → sector < length scene.base.level.sectors →
    All (IsPlaneIn v.shape scene) s.planes → All (IsPlaneIn v.shape scene) (after_event s (leaf_step v (surface_at (lists_of scene) sector)).event).planes
unfolding leaf_step
planes-leaf v scene sector s there all =
    all-finds (IsPlaneIn v.shape scene) (floor_key v.eye.z (surface_at (lists_of scene) sector)) (ceiling_key v.eye.z (surface_at (lists_of scene) sector)) s
    (floor_found_in v scene sector there) (ceiling_found_in v scene sector there) all
