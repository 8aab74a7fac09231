-- What contracts see of the zone's fields, and what is true of them.
use Rattle.std.specs.Prelude.{◌≡◌, ◌+◌, ◌<◌, ◌≤◌, vec_len}
use Rattle.zone_heap.specs.declared.zone.Zone.TheInside.{Inside}
use Rattle.zone_heap.specs.Rules.{Heap, IsSound, MAX_ZONE_SIZE, SLOT_LIMIT}
use Rattle.zone_heap.specs.{Regions.blocks_in, Regions.IsRing, Homes.AreExact}

abbrev pub heap_of : Inside → Heap
heap_of z = record { size = z.size; lumps = z.homes.lumps; composites = z.composites; blocks = blocks_in z.region.items; rover = z.rover; purges = z.purges }

pub record IsZone (z : Inside) : Type 0 where
  pub sound : IsSound (heap_of z)
  pub ring : IsRing z.region.items
  pub exact : AreExact z.homes (blocks_in z.region.items)
  pub region : vec_len z.region ≡ z.size
  pub least : 0 < z.size
  pub small : z.size ≤ MAX_ZONE_SIZE
  pub lumps : z.homes.lumps < SLOT_LIMIT
  pub composites : z.composites < SLOT_LIMIT
  pub homes : vec_len z.homes.list ≡ z.homes.lumps + z.composites
