-- What a view shows, strip by strip: its walls as they are walked, then its planes, then the masked pass.
use Rattle.std.specs.Prelude.{ℕ, ◌++◌, nat_lt, cond, List, [], length, Option}
use Rattle.std.specs.Option.{option_map}
use Rattle.frame_core.specs.Rules.{Drawseg, Event, FragmentEvent, LeafEvent, MAX_DRAWSEGS, Plane, SceneValue, SpriteEntry, ViewValue, Wall, draw_order, openings_list, view_entries, view_events, view_notes, view_planes, view_steps, walls_of}
use Rattle.brush.specs.Strips.{Strip}
use Rattle.masked_draw.specs.Lists.{MaskedLists, lists_of as lists_by, noted_drawsegs}
use Rattle.masked_draw.specs.Strips.{masked_strips}
use Rattle.plane_draw.specs.Strips.{planes_strips}
use Rattle.sound_scene.specs.Pictures.{lists_of, scene_of}
use Rattle.sound_scene.specs.Sound.{middles_of, textures_view}
use Rattle.texture_build.specs.TexNo.{TexNo}
use Rattle.wall_columns.specs.Built.{with_wall}
use Rattle.wall_columns.specs.Strips.{wall_strips_at, walls_strips}
use Rattle.frame_core.specs.Walked.{next_wall}

-- Strips say what is painted from which lump, whatever its bytes are: so these are the same for all bytes.
abbrev pub no_bytes : ℕ → List ℕ
no_bytes lump = []

-- the drawn fragments of some events
abbrev pub seen_walls : ViewValue → SceneValue → List Event → List Wall
seen_walls v s events = walls_of v (scene_of no_bytes s) events

-- the strips of an event after others: a leaf has none, and none has a fragment past the most that a view keeps
unfoldable pub event_strips : ViewValue → SceneValue → List Event → Event → List Strip
event_strips v s events (LeafEvent n) = []
event_strips v s events (FragmentEvent seg first last) =
    let w : Wall = next_wall v (scene_of no_bytes s) events seg first last in
    cond (nat_lt (length (seen_walls v s events)) MAX_DRAWSEGS) (wall_strips_at v (with_wall (seen_walls v s events) w) (length (seen_walls v s events)) w) []

-- the walls, the planes and the vissprites of the whole view
abbrev pub scene_walls : ViewValue → SceneValue → List Wall
scene_walls v s = seen_walls v s (view_events v (lists_of s))

abbrev pub scene_planes : ViewValue → SceneValue → List Plane
scene_planes v s = view_planes (view_steps v (scene_of no_bytes s) (view_events v (lists_of s)))

abbrev pub scene_entries : ViewValue → SceneValue → List SpriteEntry
scene_entries v s = view_entries v (scene_of no_bytes s) (view_events v (lists_of s))

-- the sky's texture
abbrev pub scene_sky : SceneValue → Option TexNo
scene_sky s = option_map (λ n. let tex : TexNo = record { 0 = n } in tex) s.faces.sky

-- the lists of a scene as the masked pass has them, and its drawn fragments as that pass reads them, from what they noted and saved
abbrev pub mask_lists : SceneValue → MaskedLists
mask_lists s = lists_by s.base.level.segs s.base.level.sides s.base.level.sectors (middles_of s.faces.sides)

abbrev pub scene_noted : ViewValue → SceneValue → List Drawseg
scene_noted v s = noted_drawsegs v (textures_view s) (mask_lists s) (openings_list v (scene_walls v s)) (view_notes v (scene_walls v s))

-- all that a view shows
unfoldable pub view_strips : ViewValue → SceneValue → List Strip
view_strips v s =
    walls_strips v (scene_walls v s)
    ++ (planes_strips v (scene_sky s) (scene_planes v s) ++ masked_strips v (scene_noted v s) (draw_order (scene_entries v s)))
