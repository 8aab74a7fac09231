-- A block that was taken and then written, and what other slots keep.
use Rattle.zone_rules.proofs.Common.{◌≡◌, ℕ, Bool, true, false, cond, ◌&&◌, List, [], ◌∷◌, length, Option, Some, None, refl, sym, subst, ap, ◌∙◌, option_map, inl, inr, Result, Ok, Err, OnOk, OnErr, IsNone, IsSome, option_and_then, ◌==◌, cond-true, and_parts, and_from, eq-eqb}
use Rattle.lump_cache.specs.Rules.{AllFit, Block, Cache, FitsHolding, Heap, Holding, IsSound, Owner, Tag, TakesBlock, block_left, block_size, bytes_of, holding_of, is_among, is_held_by, is_purgeable, owned_block, same_owner, with_bytes, with_tag, write_block, write_holding}
use Rattle.zone_rules.proofs.OwnerLemmas.{owned_written_others, owned_retagged_others, owned_block-map, write_held}
use Rattle.zone_rules.proofs.ChangeLemmas.{with_bytes_sound}
use Rattle.zone_rules.proofs.SoundLemmas.{lacked, searched_lacks}
use Rattle.zone_rules.proofs.WrittenLemmas.{block_written}
use Rattle.lump_cache.specs.Caches.{release_heap, released_heap, IsFilled, HasBlock, HasUse, KeptOrPurged, holds_static, with_tag_unless_static}

pub left_kept : (ch : List Block) (b : Option Block) → KeptOrPurged b (block_left ch b)
left_kept ch None = inl refl
left_kept ch (Some b) = go (is_among ch b && is_purgeable b) refl where
  go : (t : Bool) → (is_among ch b && is_purgeable b) ≡ t → KeptOrPurged (Some b) (cond t None (Some b))
  go true e = inr (refl, (and_parts (is_among ch b) (is_purgeable b) e).1)
  go false e = inl refl

pub kept_along : (old new later : Option Block) → later ≡ new → KeptOrPurged old new → KeptOrPurged old later
kept_along old new later e k = subst (KeptOrPurged old) (sym e) k

pub same_refl : (o : Owner) → same_owner o o ≡ true
same_refl o = and_from (o.kind == o.kind) (o.number == o.number) (eq-eqb o.kind o.kind refl) (eq-eqb o.number o.number refl)

module _ (o : Owner) (old new : Heap) (P : List ℕ → Type 0) (f : IsFilled o old new P) where
  pub filled_others : (p : Owner) → same_owner o p ≡ false → owned_block p new.blocks ≡ owned_block p old.blocks
  filled_others p apart = ap (λ (z : Heap). owned_block p z.blocks) f.zone ∙ owned_written_others p o f.bytes apart old.blocks

  pub filled_block : owned_block o new.blocks ≡ option_map (write_block o f.bytes) (owned_block o old.blocks)
  filled_block = ap (λ (z : Heap). owned_block o z.blocks) f.zone ∙ owned_block-map o (write_block o f.bytes) (λ b. write_held o o f.bytes b) old.blocks

-- a block that was taken and written
module _ (o : Owner) (size : ℕ) (tag : Tag) (first old new : Heap) (P : List ℕ → Type 0) (t : TakesBlock first old o size tag) (f : IsFilled o old new P) where
  abbrev taken_holding : Holding
  taken_holding = record { owner = o; tag = tag; asked = size; bytes = t.bytes }

  abbrev taken_block : Block
  taken_block = record { place = t.place; size = t.size; holding = Some taken_holding }

  abbrev written_block : Block
  written_block = record { place = t.place; size = t.size; holding = Some (record taken_holding { bytes = f.bytes }) }

  pub written_is : owned_block o new.blocks ≡ Some written_block
  written_is = filled_block o old new P f ∙ ap (option_map (write_block o f.bytes)) t.block ∙ ap Some (cond-true (is_held_by o taken_block) (record taken_block { holding = write_holding f.bytes taken_block.holding }) taken_block (same_refl o))

  before_was : t.bytes ≡ f.before
  before_was = let bytes_same : Some t.bytes ≡ Some f.before = sym (ap (λ (x : Option Block). option_map (λ (h : Holding). h.bytes) (option_and_then (λ (b : Block). b.holding) x)) t.block) ∙ f.before_is in cc

  pub written_len : length f.bytes ≡ size
  written_len = f.len ∙ ap length (sym before_was) ∙ t.len

  pub written_use : HasBlock tag size (owned_block o new.blocks)
  written_use = subst (HasBlock tag size) (sym written_is) (refl, refl, written_len)

  pub written_bytes : bytes_of o new.blocks ≡ Some f.bytes
  written_bytes = ap (λ (x : Option Block). option_map (λ (h : Holding). h.bytes) (option_and_then (λ (b : Block). b.holding) x)) written_is

-- a live block's bytes are as many as were asked for
pub owned_fits : (o : Owner) (l m : ℕ) (bs : List Block) (h : Holding) → AllFit l m bs → holding_of o bs ≡ Some h → length h.bytes ≡ h.asked
owned_fits o l m [] h f e = cc
owned_fits o l m (b ∷ bs) h f e = go (is_held_by o b) e (λ k. owned_fits o l m bs h f.1 k) where
  here : (x : Option Holding) → x ≡ Some h → FitsHolding l m b.size x → length h.bytes ≡ h.asked
  here None e f = cc
  here (Some k) e f = let holding_same : k ≡ h = cc in subst (λ (y : Holding). length y.bytes ≡ y.asked) holding_same f.2

  go : (t : Bool) → option_and_then (λ (x : Block). x.holding) (cond t (Some b) (owned_block o bs)) ≡ Some h → (holding_of o bs ≡ Some h → length h.bytes ≡ h.asked) → length h.bytes ≡ h.asked
  go true k rest = here b.holding k f.0
  go false k rest = rest k

pub filled_sound : (o : Owner) (old new : Heap) (P : List ℕ → Type 0) → IsFilled o old new P → IsSound old → IsSound new
filled_sound o old new P f s = subst IsSound (sym f.zone) (with_bytes_sound o f.bytes old s (λ h e. f.len ∙ ap length (sym (same h e)) ∙ owned_fits o old.lumps old.composites old.blocks h s.fits e)) where
  same : (h : Holding) → holding_of o old.blocks ≡ Some h → h.bytes ≡ f.before
  same h e = let bytes_same : Some h.bytes ≡ Some f.before = sym (ap (option_map (λ (x : Holding). x.bytes)) e) ∙ f.before_is in cc

pub use_live : (tag : Tag) (size : ℕ) (b : Option Block) → HasBlock tag size b → IsSome (option_and_then (λ (x : Block). x.holding) b)
use_live tag size None k = absurd k
use_live tag size (Some b) k = go b.holding k where
  go : (h : Option Holding) → HasUse tag size h → IsSome h
  go None k = absurd k
  go (Some h) k = refl

-- a new tag, unless the block is pinned for the whole run
pub unless_static_others : (o p : Owner) (tag : Tag) (z : Heap) → same_owner o p ≡ false → owned_block p (with_tag_unless_static o tag z).blocks ≡ owned_block p z.blocks
unless_static_others o p tag z apart = go (holds_static (holding_of o z.blocks)) where
  go : (t : Bool) → owned_block p (cond t z (with_tag o tag z)).blocks ≡ owned_block p z.blocks
  go true = refl
  go false = owned_retagged_others p o tag apart z.blocks

-- bytes that a call wrote leave a zone sound
pub called_sound : (o : Owner) (w : List ℕ) (y : List ℕ) (old new : Heap) → bytes_of o old.blocks ≡ Some y → length w ≡ length y → new ≡ with_bytes o w old → IsSound old → IsSound new
called_sound o w y old new e len is s = filled_sound o old new (λ _. Unit {0}) (record { before = y; bytes = w; before_is = e; len = len; zone = is; says = tt }) s

-- a release leaves the blocks of others
pub released_others : (o p : Owner) (z : Heap) → same_owner o p ≡ false → owned_block p (release_heap o z).blocks ≡ owned_block p z.blocks
released_others o p z apart = go (holding_of o z.blocks) where
  go : (h : Option Holding) → owned_block p (released_heap o z h).blocks ≡ owned_block p z.blocks
  go None = refl
  go (Some h) = unless_static_others o p Cache z apart

-- a block that was taken has its use
pub takes_use : (o : Owner) (size : ℕ) (tag : Tag) (old new : Heap) → TakesBlock old new o size tag → HasBlock tag size (owned_block o new.blocks)
takes_use o size tag old new t = subst (HasBlock tag size) (sym t.block) (refl, refl, t.len)

-- a block that was taken and then written is one that was taken with these bytes
pub filled_takes : (o : Owner) (size : ℕ) (tag : Tag) (first old new : Heap) (P : List ℕ → Type 0) → IsNone (holding_of o first.blocks) → TakesBlock first old o size tag → IsFilled o old new P → TakesBlock first new o size tag
filled_takes o size tag first old new P none t f = record {
  place = t.place;
  place_is = t.place_is;
  bytes = f.bytes;
  len = written_len o size tag first old new P t f;
  size = t.size;
  least = t.least;
  most = t.most;
  block = written_is o size tag first old new P t f;
  zone = f.zone ∙ ap (with_bytes o f.bytes) t.zone ∙ block_written o f.bytes (record { owner = o; tag = tag; asked = size; bytes = t.bytes }) refl (block_size size) t.place first (searched_lacks (block_size size) first o (lacked o first.blocks none));
}

-- what follows of an answer
pub on_err : {A E P Q : Type 0} → (r : Result A E) → (P → Q) → OnErr r P → OnErr r Q
on_err (Ok x) f p = tt
on_err (Err e) f p = f p

pub on_ok : {A E P Q : Type 0} → (r : Result A E) → (P → Q) → OnOk r P → OnOk r Q
on_ok (Ok x) f p = f p
on_ok (Err e) f p = tt
