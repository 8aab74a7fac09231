-- The rules of a request as one walk over the blocks meets them.
use Rattle.std.specs.Prelude.{◌≡◌, ℕ, ◌+◌, ◌^◌, ◌<◌, ◌==◌, ◌||◌, Bool, true, nat_le, if◌then◌else◌, List, [], ◌∷◌, Option, Some, None, max, length}
use Rattle.zone_heap.specs.Rules.{Apart, Block, count_among, ends_free_at, first_room, has_place, is_pinned, passed_blocks, purge_among, stretches}
use Rattle.zone_heap.specs.{declared.homes.Homes.Homes, Homes.AreHome}
use Rattle.zone_heap.specs.Regions.{blocks_in, IsLaid}

-- a run of unpinned blocks that holds what is wanted: its first block's place, and the index after its least front
abbrev pub run_place : ℕ → ℕ → ℕ → ℕ
run_place place sum here = if sum == 0 then here else place

abbrev pub fit_from : ℕ → ℕ → ℕ → ℕ → List Block → Option (ℕ × ℕ)
fit_from wanted place sum i [] = None
fit_from wanted place sum i (b ∷ bs) =
    if is_pinned b then fit_from wanted place 0 (i + 1) bs else (if nat_le wanted (sum + b.size) then Some (run_place place sum b.place, i + 1) else fit_from wanted (run_place place sum b.place) (sum + b.size) (i + 1) bs)

-- the widest run of unpinned blocks, from the widest so far and the run so far
abbrev pub widest_from : ℕ → ℕ → List Block → ℕ
widest_from best run [] = best
widest_from best run (b ∷ bs) = if is_pinned b then widest_from best 0 bs else widest_from (max best (run + b.size)) (run + b.size) bs

-- whether a search begins at this block, where none before it is such a block
abbrev pub starts_at : ℕ → Block → Bool
starts_at rover b = nat_le rover b.place || ends_free_at rover b

-- a region in which a search from the rover may look for what is wanted
pub record CanSearch (homes : Homes) (rover wanted : ℕ) (region : List ℕ) : Type 0 where
  pub laid : IsLaid region
  pub some : 0 < length region
  pub small : length region < 2 ^ 32
  pub home : AreHome homes (blocks_in region)
  pub apart : Apart (blocks_in region)
  pub rover_is : has_place rover (blocks_in region) ≡ true
  pub positive : 0 < wanted

-- what a search found, which blocks it left before neighbours are joined, and how many it purged
pub record SearchIs (wanted rover : ℕ) (old : List Block) (place : Option ℕ) (new : List Block) (count : ℕ) : Type 0 where
  pub place_is : first_room wanted (stretches rover old) ≡ place
  pub after_is : purge_among (passed_blocks wanted (stretches rover old)) old ≡ new
  pub count_is : count_among (passed_blocks wanted (stretches rover old)) old ≡ count
