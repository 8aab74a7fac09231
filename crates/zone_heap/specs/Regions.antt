-- A region as its headers lay it out: the bytes of one block after the other, linked into a ring.
use Rattle.std.specs.Prelude.{◌≡◌, ℕ, zero, suc, ◌+◌, ◌≤◌, ◌==◌, if◌then◌else◌, List, [], ◌∷◌, ◌++◌, length, take, drop, ⊤}
use Rattle.zone_heap.specs.{Rules.Block, Rules.HEADER_SIZE, Rules.word_at, Headers.block_in}
use Rattle.zone_heap.specs.declared.headers.TheConstants.{NEXT_AT, PREVIOUS_AT}

-- the bytes of all blocks
abbrev pub joined : List (List ℕ) → List ℕ
joined [] = []
joined (c ∷ cs) = c ++ joined cs

-- the bytes of each block, cut by the size that its header tells, at most so many
abbrev pub parts_in : ℕ → List ℕ → List (List ℕ)
parts_in zero xs = []
parts_in (suc n) [] = []
parts_in (suc n) (x ∷ xs) = take (word_at (x ∷ xs) 0) (x ∷ xs) ∷ parts_in n (drop (word_at (x ∷ xs) 0) (x ∷ xs))

-- the blocks from a place on
abbrev pub blocks_from : ℕ → List (List ℕ) → List Block
blocks_from place [] = []
blocks_from place (c ∷ cs) = block_in place c ∷ blocks_from (place + length c) cs

-- the blocks of a region
abbrev pub blocks_in : List ℕ → List Block
blocks_in region = blocks_from 0 (parts_in (length region) region)

-- each block has a header, which tells its size
abbrev pub AllWhole : List (List ℕ) → Type 0
AllWhole [] = ⊤
AllWhole (c ∷ cs) = (HEADER_SIZE ≤ length c) × (word_at c 0 ≡ length c) × AllWhole cs

-- a region that headers lay out
pub record IsLaid (region : List ℕ) : Type 0 where
  pub parts : List (List ℕ)
  pub is : region ≡ joined parts
  pub whole : AllWhole parts

-- a block begins at the place, or the region ends there
pub record IsSplit (region : List ℕ) (at : ℕ) : Type 0 where
  pub front : List (List ℕ)
  pub rest : List (List ℕ)
  pub is : region ≡ joined front ++ joined rest
  pub at_is : length (joined front) ≡ at
  pub front_whole : AllWhole front
  pub rest_whole : AllWhole rest

-- a place, or 0 at the region's end
abbrev pub ring_place : ℕ → ℕ → ℕ
ring_place place end' = if place == end' then 0 else place

-- each header tells the places of the next block and of the previous one
abbrev pub AreLinked : ℕ → ℕ → ℕ → List (List ℕ) → Type 0
AreLinked end' previous place [] = ⊤
AreLinked end' previous place (c ∷ cs) = (word_at c NEXT_AT ≡ ring_place (place + length c) end') × (word_at c PREVIOUS_AT ≡ previous) × AreLinked end' place (place + length c) cs

abbrev pub last_place : ℕ → ℕ → List (List ℕ) → ℕ
last_place previous place [] = previous
last_place previous place (c ∷ cs) = last_place place (place + length c) cs

-- a region laid out by headers that are a ring: behind the last block comes the first
pub record IsRing (region : List ℕ) : Type 0 where
  pub laid : IsLaid region
  pub linked : AreLinked (length region) (last_place 0 0 laid.parts) 0 laid.parts
