-- Where a block may be taken.
use Rattle.std.specs.Prelude.{◌≡◌, ℕ, ◌≤◌, List, ◌∷◌, ◌++◌}
use Rattle.zone_rules.specs.Zones.{Block, free_block}

-- the block at a place is free, and has at least a size
pub record RoomAt (place least : ℕ) (bs : List Block) : Type 0 where
  pub front : List Block
  pub size : ℕ
  pub rest : List Block
  pub is : bs ≡ front ++ (free_block place size ∷ rest)
  pub large : least ≤ size
