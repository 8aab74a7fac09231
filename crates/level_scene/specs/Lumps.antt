-- A builder with some lumps of a map, or the first of them that is too large.
use Rattle.std.specs.Prelude.{ℕ, suc, ◌+◌, List, [], ◌∷◌, Result, Ok}
use Rattle.level_scene.specs.Rules.{MapLump, MapRefusal, and_then, size_refusal, unless}
use Rattle.map_lumps.specs.Builders.{BuilderValue, with_lump}

-- the builder with one lump more, refused where that is too large
unfoldable pub lump_added : BuilderValue → MapLump → List ℕ → Result BuilderValue MapRefusal
lump_added b lump bytes = unless (size_refusal lump bytes) (with_lump b lump bytes)

-- the builder with lumps one after the other, of which the first stands so many places behind the label
unfoldable pub lumps_from : (ℕ → List ℕ) → ℕ → ℕ → List MapLump → BuilderValue → Result BuilderValue MapRefusal
lumps_from bytes label place [] b = Ok b
lumps_from bytes label place (lump ∷ lumps) b = and_then (lump_added b lump (bytes (label + place))) (lumps_from bytes label (suc place) lumps)
