-- All that a view draws, in order: walls, planes, sprites with the masked mid textures (R_RenderPlayerView, r_main.c).
use Rattle.std.specs.Prelude.{List, ◌++◌}
use Rattle.picture_rules.specs.Rules.{Dot, Event, ViewValue, joined_lists, view_events}
use Rattle.picture_rules.specs.sprite.Weapons.{WeaponLayer, weapon_dots}
use Rattle.picture_rules.specs.{wall.Walls.Wall, sprite.Order.draw_order}
use Rattle.picture_rules.specs.{sprite.Middles.masked_dots, Scene.Scene}
use Rattle.picture_rules.specs.Walls.{walls_of, walls_dots}
use Rattle.picture_rules.specs.Planes.{steps_of, view_planes, planes_dots}
use Rattle.picture_rules.specs.{Masked.view_drawsegs, Things.view_entries}

-- the dots of a list of events whose drawn fragments are these
unfoldable pub paints_by : ViewValue → Scene → List Event → List Wall → List Dot
paints_by v scene events walls =
    walls_dots v scene walls
    ++ (planes_dots v scene (view_planes (steps_of v scene walls events))
    ++ masked_dots v scene.art (view_drawsegs v scene walls) (draw_order (view_entries v scene events)))

unfoldable pub paints_of : ViewValue → Scene → List Event → List Dot
paints_of v scene events = paints_by v scene events (walls_of v scene events)

-- the paint list of a view
unfoldable pub view_paints : ViewValue → Scene → List Dot
view_paints v scene = paints_of v scene (view_events v scene.level)

-- the paint list with the weapons of the view's rows over it, in the order of the file
unfoldable pub overlaid_paints : ViewValue → Scene → List WeaponLayer → List Dot
overlaid_paints v scene layers = view_paints v scene ++ joined_lists (weapon_dots v scene.art) layers
