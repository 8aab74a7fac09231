use Rattle.zone_rules.proofs.Common.{arith, ◌≡◌, ◌≤◌, ◌<◌, ◌∙◌, ◌∷◌, [], ap, sym, subst, length, List, ℕ, append-nil}
use Rattle.zone_heap.specs.{Headers.with_word, Headers.freed, Regions.blocks_in, Regions.IsLaid}
use Rattle.zone_heap.proofs.WordLemmas.{word_same, length-with_word}
use Rattle.zone_heap.proofs.PartLemmas.{blocks_laid}
use Rattle.zone_heap.proofs.PurgeLemmas.{length-freed, told-freed, block-freed}
use Rattle.zone_heap.specs.Rules.{HEADER_SIZE, free_block}
use Rattle.zone_heap.proofs.edits.lay_free.Goals as goal

module _ (xs : List ℕ) (size : ℕ) (len : length xs ≡ size) (large : HEADER_SIZE ≤ size) (small : size < 4294967296) where
  abbrev c : List ℕ
  c = with_word xs 0 size

  c_len : length c ≡ size
  c_len = length-with_word xs 0 size (omega arith) ∙ len

  pub d_len : length (freed c) ≡ size
  d_len = let length_kept = c_len in length-freed c (omega arith) ∙ length_kept

  abbrev laid : IsLaid (freed c)
  laid = record {
    parts = freed c ∷ [];
    is = sym (append-nil (freed c));
    whole = (let length_is = d_len in omega arith, (let length_kept = c_len in told-freed c (omega arith) ∙ word_same xs 0 size (omega arith) small ∙ sym d_len), tt);
  }

  pub blocks : blocks_in (freed c) ≡ free_block 0 size ∷ []
  blocks = blocks_laid (freed c) laid ∙ ap (λ b. b ∷ []) (let length_kept = c_len in block-freed c (omega arith) 0 ∙ ap (free_block 0) length_kept)

pub link-requires-clause-laid : goal.link-requires-clause-laid
link-requires-clause-laid c =
    subst IsLaid (sym (c.set_free.ensures ∙ ap freed c.set_word.ensures)) (laid c.args.region.now c.args.size c.requires.size c.requires.large c.requires.small)

pub returns-clause-blocks : goal.returns-clause-blocks
returns-clause-blocks c = c.link.ensures.blocks ∙ ap blocks_in (c.set_free.ensures ∙ ap freed c.set_word.ensures)
    ∙ blocks c.args.region.now c.args.size c.requires.size c.requires.large c.requires.small
