-- What the blocks of a sort before a place add up to.
use Rattle.zone_rules.proofs.Common.{◌≡◌, ℕ, ◌+◌, ◌<◌, ◌≤◌, ◌^◌, Bool, cond, List, length, drop, ap, ap₂, ◌∙◌, sym, arith, sum_by, sum_by-cons}
use Rattle.zone_heap.specs.{Rules.Block, declared.headers.Header.Header}
use Rattle.zone_heap.specs.Headers.{block_in, header_in}
use Rattle.zone_heap.specs.Regions.{blocks_in, blocks_from, IsLaid, IsSplit}
use Rattle.zone_heap.proofs.PartLemmas.{opened, nothing_left, split_first, blocks_laid}

-- the blocks of a sort before the place add up to `so`
pub record IsSum (sort : Block → Bool) (region : List ℕ) (at so : ℕ) : Type 0 where
  pub split : IsSplit region at
  pub few : so ≤ at
  pub value : sum_by (λ x. cond (sort x) x.size 0) (blocks_in region) ≡ so + sum_by (λ x. cond (sort x) x.size 0) (blocks_from at split.rest)

pub sum_first : (sort : Block → Bool) (region : List ℕ) → IsLaid region → IsSum sort region 0 0
sum_first sort region l =
    record { split = split_first region l; few = omega arith; value = ap (sum_by (λ x. cond (sort x) x.size 0)) (blocks_laid region l) ∙ omega arith }

module _ (sort : Block → Bool) (region : List ℕ) (at so : ℕ) (i : IsSum sort region at so) where
  -- with the block at the place, of which its header tells whether it counts
  pub sum_then : at < length region → (h : Header) → h ≡ header_in (drop at region) → (of : Header → Bool) → ((p : ℕ) (c : List ℕ) → sort (block_in p c) ≡ of (header_in c)) → (counts : Bool) → counts ≡ of h → (more : ℕ) → more ≡ cond counts h.size 0 → more ≤ h.size
      → IsSum sort region (at + h.size) (so + more)
  sum_then lt h e of told counts is more more_is most =
      let block = opened region at i.split lt h e in
      let sum_opened = ap (sum_by (λ x. cond (sort x) x.size 0)) block.blocks
      ∙ sum_by-cons (λ (x : Block). cond (sort x) x.size 0) (block_in at block.part) (blocks_from (at + h.size) block.next.rest) in
      let more_counts : more ≡ cond (sort (block_in at block.part)) (length block.part) 0 =
      more_is ∙ ap₂ (λ (t : Bool) (n : ℕ). cond t n 0) (is ∙ ap of (e ∙ block.header) ∙ sym (told at block.part)) (sym block.len) in
      let few_before = i.few in let sum_so_far = i.value in record { split = block.next; few = omega arith; value = omega arith }

  -- the next sum is a word
  pub sum_small : at < length region → (h : Header) → h ≡ header_in (drop at region) → length region < 2 ^ 32 → (more : ℕ) → more ≤ h.size → so + more < 2 ^ 32
  sum_small lt h e small more most =
      let block = opened region at i.split lt h e in let block_fits = block.fits in let blocks_few = i.few in omega arith

  -- at the end it is the sum of all blocks
  pub sum_all : length region ≤ at → so ≡ sum_by (λ x. cond (sort x) x.size 0) (blocks_in region)
  sum_all le = sym (i.value ∙ ap (λ cs. so + sum_by (λ x. cond (sort x) x.size 0) (blocks_from at cs)) (nothing_left region at i.split le) ∙ omega arith)
