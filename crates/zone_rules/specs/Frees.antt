-- What `free` and `change_tag` do to a zone.
use Rattle.std.specs.Prelude.{ℕ, if◌then◌else◌, List, map, Option, Some, None}
use Rattle.zone_rules.specs.{declared.Tag.Tag, Requests.join_free, Requests.place_around}
use Rattle.zone_rules.specs.Zones.{Owner, Holding, Block, Heap, is_held_by, free_block}

abbrev pub free_owner : Owner → List Block → List Block
free_owner o bs = map (λ b. if is_held_by o b then free_block b.place b.size else b) bs

abbrev pub without_block : Owner → Heap → Heap
without_block o z = let bs = join_free (free_owner o z.blocks) in record z { blocks = bs; rover = place_around z.rover 0 bs }

abbrev pub set_tag : Tag → Option Holding → Option Holding
set_tag tag None = None
set_tag tag (Some h) = Some (record h { tag = tag })

abbrev pub retag_block : Owner → Tag → Block → Block
retag_block o tag b = if is_held_by o b then record b { holding = set_tag tag b.holding } else b

abbrev pub with_tag : Owner → Tag → Heap → Heap
with_tag o tag z = record z { blocks = map (retag_block o tag) z.blocks }

-- other bytes in a block
abbrev pub write_holding : List ℕ → Option Holding → Option Holding
write_holding bytes None = None
write_holding bytes (Some h) = Some (record h { bytes = bytes })

abbrev pub write_block : Owner → List ℕ → Block → Block
write_block o bytes b = if is_held_by o b then record b { holding = write_holding bytes b.holding } else b

abbrev pub with_bytes : Owner → List ℕ → Heap → Heap
with_bytes o bytes z = record z { blocks = map (write_block o bytes) z.blocks }
