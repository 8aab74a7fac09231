-- The value of each constant that a clause or a definition cites, by evaluation.
use Rattle.std.specs.Prelude.{refl, ◌≡◌}
use Rattle.pixel_rules.specs.declared.TheConstants.{COMPOSITE, FLAT_SIDE, FRAME_CELLS, LUMP, MAP_COLOURS, MIDDLE, NO_SOURCE, PLANE, SKY, SPRITE, TEXEL_ROWS, WALL, WEAPON}

-- src/lib.rt
frame_cells_row : FRAME_CELLS ≡ 64000
frame_cells_row = refl

wall_row : WALL ≡ 1
wall_row = refl

plane_row : PLANE ≡ 2
plane_row = refl

sky_row : SKY ≡ 3
sky_row = refl

middle_row : MIDDLE ≡ 4
middle_row = refl

sprite_row : SPRITE ≡ 5
sprite_row = refl

weapon_row : WEAPON ≡ 6
weapon_row = refl

no_source_row : NO_SOURCE ≡ 0
no_source_row = refl

lump_row : LUMP ≡ 1
lump_row = refl

composite_row : COMPOSITE ≡ 2
composite_row = refl

texel_rows_row : TEXEL_ROWS ≡ 128
texel_rows_row = refl

flat_side_row : FLAT_SIDE ≡ 64
flat_side_row = refl

map_colours_row : MAP_COLOURS ≡ 256
map_colours_row = refl
