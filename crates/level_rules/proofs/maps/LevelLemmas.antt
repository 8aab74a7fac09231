-- The level of eight lumps: what its parts say, and that it is sound.
use Rattle.word_rules.proofs.Common.{Err, le-from_lt_false, length, List, nat_lt, None, Ok, Option, or_else-none, refl, Some, subst, ℕ, ◌/◌, ◌≡◌, ◌≤◌}
use Rattle.word_rules.proofs.ListedLemmas.{length-listed}
use Rattle.level_rules.specs.declared.maps.lumps.MapLump.{MapLump}
use Rattle.level_rules.specs.declared.maps.lumps.MapLump.TheVariants as lump
use Rattle.level_rules.specs.declared.maps.lumps.TheConstants.{MAX_RECORDS}
use Rattle.level_rules.specs.{declared.maps.refusal.MapRefusal.MapRefusal, maps.Fields.records_in}
use Rattle.level_rules.specs.maps.Lumps.{record_size, size_refusal}
use Rattle.level_rules.specs.maps.Records.{leaves_in, lines_in, nodes_in, sectors_in, segs_in, sides_in, things_in, vertexes_in}
use Rattle.level_rules.specs.maps.Levels.{LevelValue, MapBytes, joined_level, level_from, level_of, map_refusal, records_of, sizes_refusal, unless}
use Rattle.level_rules.specs.maps.Sound.{HasFewRecords, IsSound}
use Rattle.level_rules.proofs.{maps.FirstLemmas.or_else-five, maps.RangeLemmas.cond-none_else}
use Rattle.level_rules.proofs.maps.SoundLemmas.{joined_level-sound}

pub length-records_in : {R : Type 0} (read : List ℕ → R) (size : ℕ) (bytes : List ℕ) → length (records_in read size bytes) ≡ length bytes / size
unfolding records_in
length-records_in read size bytes = length-listed _ (length bytes / size)

-- a lump that is not too large has few records
pub size_refusal-none : (l : MapLump) (bytes : List ℕ) → size_refusal l bytes ≡ None → length bytes / record_size l ≤ MAX_RECORDS
unfolding size_refusal
size_refusal-none l bytes e = le-from_lt_false MAX_RECORDS _ (cond-none_else (nat_lt MAX_RECORDS (length bytes / record_size l)) _ _ e).0

few : {R : Type 0} (read : List ℕ → R) (size : ℕ) (bytes : List ℕ) → length bytes / size ≤ MAX_RECORDS → length (records_in read size bytes) ≤ MAX_RECORDS
few read size bytes h = rw (length-records_in read size bytes) h

pub sizes_refusal-none : (b : MapBytes) → sizes_refusal b ≡ None → HasFewRecords (records_of b)
unfolding sizes_refusal records_of record_size things_in lines_in sides_in vertexes_in segs_in leaves_in nodes_in sectors_in
sizes_refusal-none b e =
    let things = or_else-none _ _ e in
    let lines = or_else-none _ _ things.1 in
    let sides = or_else-none _ _ lines.1 in
    let five_lumps_behind = or_else-five _ _ _ _ _ sides.1 in
    record {
      things = few _ _ b.things (size_refusal-none lump.Things b.things things.0);
      lines = few _ _ b.lines (size_refusal-none lump.Linedefs b.lines lines.0);
      sides = few _ _ b.sides (size_refusal-none lump.Sidedefs b.sides sides.0);
      vertexes = few _ _ b.vertexes (size_refusal-none lump.Vertexes b.vertexes five_lumps_behind.0);
      segs = few _ _ b.segs (size_refusal-none lump.Segs b.segs five_lumps_behind.1);
      leaves = few _ _ b.leaves (size_refusal-none lump.Ssectors b.leaves five_lumps_behind.2);
      nodes = few _ _ b.nodes (size_refusal-none lump.Nodes b.nodes five_lumps_behind.3);
      sectors = few _ _ b.sectors (size_refusal-none lump.Sectors b.sectors five_lumps_behind.4);
    }

unless-ok : {V : Type 0} (refusal : Option MapRefusal) (value v : V) → unless refusal value ≡ Ok v → (refusal ≡ None) × (value ≡ v)
unfolding unless
unless-ok None value v e = (refl, cc)
unless-ok (Some r) value v e = cc

-- the level of eight lumps is sound
pub level_of-sound : (b : MapBytes) (level : LevelValue) → level_of b ≡ Ok level → IsSound level
unfolding level_of map_refusal
level_of-sound b level e =
    let unrefused_and_level = unless-ok _ (joined_level (records_of b)) level e in
    let none_refused = or_else-none _ _ unrefused_and_level.0 in
    subst IsSound unrefused_and_level.1 (joined_level-sound (records_of b) (sizes_refusal-none b none_refused.0) none_refused.1)
