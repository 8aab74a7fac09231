-- The words of the rules below that this crate cites, by the page that each comes from.
unfoldable pub use Rattle.made_rules.specs.Bytes.{halves, records, words}
unfoldable pub use Rattle.made_rules.specs.Cells.{corner, next_edge}
unfoldable pub use Rattle.made_rules.specs.Maps.{has_grate, inner_name, leaf_bytes, line_bytes, line_flags, middle_name, sector_bytes, seg_bytes, side_bytes, thing_bytes, vertex_bytes, wall_name}
pub use Rattle.made_rules.specs.Nodes.{IsPart, height, width}
unfoldable pub use Rattle.made_rules.specs.Nodes.{back_part, front_part, is_one_cell}
unfoldable pub use Rattle.made_rules.specs.Pictures.{colormap_byte, colour_bytes, column_bytes, column_size, made_column_place, made_flat_byte, made_patch, made_texel, post_bytes}
unfoldable pub use Rattle.made_rules.specs.Tables.{angle_bytes, made_angle, made_tables, sine_bytes, tangent_bytes}
unfoldable pub use Rattle.made_rules.specs.Texts.{made_path, made_path_row, path_angle, path_place}
pub use Rattle.made_rules.specs.Textures.{texture}
unfoldable pub use Rattle.made_rules.specs.Textures.{made_patch_names, made_textures, other_textures, patch_place_bytes, texture_bytes, wall_textures}
pub use Rattle.made_rules.specs.Wads.{WadParts, art_lumps, level_lumps, lump_of, no_lumps, parts_of}
unfoldable pub use Rattle.made_rules.specs.Wads.{file_of, flat_lumps, made_flat_lump, made_wad, patch_lumps, sprite_lumps, table_lumps, thing_lumps, tree_lumps, wall_lumps, with_lumps}
pub use Rattle.made_rules.specs.declared.map.Part.{Part}
pub use Rattle.made_rules.specs.declared.map.TheConstants.{EDGES}
pub use Rattle.made_rules.specs.declared.tables.TheConstants.{SINES, TANGENTS}
unfoldable pub use Rattle.view_rules.specs.Formulas.{half_sine, made_sine, made_tangent, sine_product, upper_tangent}
unfoldable pub use Rattle.word_rules.specs.Listed.{listed}
