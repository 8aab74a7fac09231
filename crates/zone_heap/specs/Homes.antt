-- Each slot's home: the place of the slot's block, or none.
use Rattle.std.specs.Prelude.{◌≡◌, ℕ, ◌+◌, ◌-◌, ◌≤◌, ◌<◌, ◌==◌, if◌then◌else◌, List, length, slice_index, slice_set, Option, Some, None}
use Rattle.zone_heap.specs.Rules.{AllFit, Block, Owner, Unique, owned_block}
use Rattle.zone_heap.specs.declared.homes.Homes.{Homes}
pub use Rattle.zone_heap.specs.declared.homes.TheConstants.{NO_HOME}

-- the entry of a slot in the list of homes, and its home there
abbrev pub home_index : ℕ → ℕ → ℕ → ℕ
home_index lumps kind number = if kind == 0 then number else lumps + number

abbrev pub home_in : Homes → ℕ → ℕ → ℕ
home_in homes kind number = slice_index homes.list.items (home_index homes.lumps kind number)

abbrev pub home_of : Option Block → ℕ
home_of None = NO_HOME
home_of (Some b) = b.place

-- how many slots of composites have a home
abbrev pub composites_in : Homes → ℕ
composites_in homes = length homes.list.items - homes.lumps

-- an owner is one of the slots
abbrev pub IsSlot : Homes → Owner → Type 0
IsSlot homes o = ((o.kind ≡ 0) → o.number < homes.lumps) × ((o.kind ≡ 1) → o.number < composites_in homes) × (o.kind ≤ 1)

-- each slot's home is exact
abbrev pub AreExact : Homes → List Block → Type 0
AreExact homes bs = (o : Owner) → IsSlot homes o → home_in homes o.kind o.number ≡ home_of (owned_block o bs)

-- an owner is a slot, and the homes are exact
abbrev pub IsHomed : Homes → Owner → List Block → Type 0
IsHomed homes o bs = (homes.lumps ≤ length homes.list.items) × IsSlot homes o × AreExact homes bs

-- the owners of a region's blocks, and their homes
pub record AreHome (homes : Homes) (bs : List Block) : Type 0 where
  pub few : homes.lumps ≤ length homes.list.items
  pub unique : Unique bs
  pub fits : AllFit homes.lumps (composites_in homes) bs
  pub exact : AreExact homes bs

-- homes of the same slots
abbrev pub AreAlike : Homes → Homes → Type 0
AreAlike old new = (new.lumps ≡ old.lumps) × (length new.list.items ≡ length old.list.items)

-- the same homes, but for that of one owner
pub record IsSet (old new : Homes) (o : Owner) (home : ℕ) : Type 0 where
  pub lumps : new.lumps ≡ old.lumps
  pub list : new.list.items ≡ slice_set old.list.items (home_index old.lumps o.kind o.number) home
