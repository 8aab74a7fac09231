-- What eight lumps give that are added one after the other.
use Rattle.map_lumps.specs.Rules.{Linedefs, MapBytes, Nodes, Sectors, Segs, Sidedefs, Ssectors, Things, Vertexes}
use Rattle.map_lumps.specs.Builders.{BuilderValue, empty_builder, with_lump}

-- a builder to which the lumps are added in their order
abbrev pub with_lumps : MapBytes → BuilderValue
with_lumps b =
    let with_first_four = with_lump (with_lump (with_lump (with_lump empty_builder Things b.things) Linedefs b.lines) Sidedefs b.sides) Vertexes b.vertexes in
    with_lump (with_lump (with_lump (with_lump with_first_four Segs b.segs) Ssectors b.leaves) Nodes b.nodes) Sectors b.sectors
