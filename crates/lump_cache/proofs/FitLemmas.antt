-- The block that a cache lends stands beside the colormap's: two owners' blocks are no larger than
-- the zone.
use Rattle.zone_rules.proofs.Common.{◌≡◌, ℕ, ◌+◌, ◌≤◌, Bool, true, false, List, [], ◌∷◌, length, Option, Some, None, refl, sym, subst, ap, ◌∙◌, arith, option_map, IfSome, cond-true, cond-false}
use Rattle.lump_cache.specs.Rules.{Block, FitsHolding, Heap, Holding, IsSound, Owner, block_size, bytes_of, is_held_by, owned_block, same_owner, total}
use Rattle.zone_rules.proofs.{GapLemmas.total-cons, PurgeLemmas.tiles_end}
use Rattle.lump_cache.specs.Caches.{HasStatic, lump_owner}
use Rattle.lump_cache.proofs.{FaithLemmas.bytes_in, RoomButLemmas.owned_fits}
use Rattle.lump_cache.proofs.RoomLemmas.{asked_least, held_once, static_asked}

-- the block that an owner holds is the first of a list, or of those behind it
module _ (o : Owner) (x : Block) (bs : List Block) (b : Block) (e : owned_block o (x ∷ bs) ≡ Some b) where
  held_first : is_held_by o x ≡ true → x ≡ b
  held_first h =
      let first_is_owned : Some x ≡ Some b = sym (cond-true (is_held_by o x) (Some x) (owned_block o bs) h) ∙ e in
      cc

  held_behind : is_held_by o x ≡ false → owned_block o bs ≡ Some b
  held_behind h = sym (cond-false (is_held_by o x) (Some x) (owned_block o bs) h) ∙ e

-- an owner's block is no larger than all blocks together
one_fits : (o : Owner) (bs : List Block) (b : Block) → owned_block o bs ≡ Some b → b.size ≤ total bs
one_fits o [] b e = cc
one_fits o (x ∷ bs) b e = go (is_held_by o x) refl (one_fits o bs b) where
  go : (t : Bool) → is_held_by o x ≡ t → (owned_block o bs ≡ Some b → b.size ≤ total bs) → b.size ≤ total (x ∷ bs)
  go true h later =
      let sizes_same = ap (λ (c : Block). c.size) (held_first o x bs b e h) in
      let total_is = total-cons x bs in
      omega (arith, sizes_same, total_is)
  go false h later =
      let rest_fits = later (held_behind o x bs b e h) in
      let total_is = total-cons x bs in
      omega (arith, rest_fits, total_is)

-- nor are the blocks of two owners
module _ (o p : Owner) (apart : same_owner o p ≡ false) where
  two_fit : (bs : List Block) (b c : Block) → owned_block o bs ≡ Some b → owned_block p bs ≡ Some c → b.size + c.size ≤ total bs
  two_fit [] b c e f = cc
  two_fit (x ∷ bs) b c e f = go (is_held_by o x) (is_held_by p x) refl refl (two_fit bs b c) where
    go : (t u : Bool) → is_held_by o x ≡ t → is_held_by p x ≡ u → (owned_block o bs ≡ Some b → owned_block p bs ≡ Some c → b.size + c.size ≤ total bs) → b.size + c.size ≤ total (x ∷ bs)
    go true u h k later =
        let sizes_same = ap (λ (y : Block). y.size) (held_first o x bs b e h) in
        let other_fits = one_fits p bs c (held_behind p x bs c f (held_once o p x.holding h apart)) in
        let total_is = total-cons x bs in
        omega (arith, sizes_same, other_fits, total_is)
    go false true h k later =
        let sizes_same = ap (λ (y : Block). y.size) (held_first p x bs c f k) in
        let other_fits = one_fits o bs b (held_behind o x bs b e h) in
        let total_is = total-cons x bs in
        omega (arith, sizes_same, other_fits, total_is)
    go false false h k later =
        let rest_fits = later (held_behind o x bs b e h) (held_behind p x bs c f k) in
        let total_is = total-cons x bs in
        omega (arith, rest_fits, total_is)

-- a block has the size for what was asked for, and for the bytes that it has
bytes_least : (lumps composites size : ℕ) (h : Option Holding) (xs : List ℕ) → FitsHolding lumps composites size h → option_map (λ (x : Holding). x.bytes) h ≡ Some xs → block_size (length xs) ≤ size
bytes_least lumps composites size None xs f e = cc
bytes_least lumps composites size (Some h) xs f e =
    let bytes_same : h.bytes ≡ xs = cc in
    subst (λ (m : ℕ). block_size m ≤ size) (sym f.2 ∙ ap length bytes_same) f.0

-- a zone where the colormap is pinned for the whole run holds its block and one for the bytes of another
-- owner
module _ (z : Heap) (sound : IsSound z) (o : Owner) where
  beside : (colormap count : ℕ) → HasStatic count (owned_block (lump_owner colormap) z.blocks) → same_owner (lump_owner colormap) o ≡ false → (b : Block) → owned_block o z.blocks ≡ Some b → (xs : List ℕ) → bytes_in (Some b) ≡ Some xs → block_size count + block_size (length xs) ≤ z.size
  beside colormap count static apart b e xs k = go (owned_block (lump_owner colormap) z.blocks) refl static where
    go : (x : Option Block) → owned_block (lump_owner colormap) z.blocks ≡ x → HasStatic count x → block_size count + block_size (length xs) ≤ z.size
    go None is has = absurd has
    go (Some r) is has =
        let colormap_owner = lump_owner colormap in
        let colormap_fits = asked_least z.lumps z.composites r.size count r.holding (static_asked count r.holding has) (owned_fits colormap_owner r z.lumps z.composites z.blocks sound.fits is) in
        let bytes_fit = bytes_least z.lumps z.composites b.size b.holding xs (owned_fits o b z.lumps z.composites z.blocks sound.fits e) k in
        let both_fit = two_fit colormap_owner o apart z.blocks r b is e in
        let blocks_end_at_size = tiles_end 0 z.size z.blocks sound.tiles in
        omega (arith, colormap_fits, bytes_fit, both_fit, blocks_end_at_size)

  -- the same of a call that lends these bytes
  pub lent_fits : (lent : Option (List ℕ)) → lent ≡ bytes_of o z.blocks → (colormap count : ℕ) → HasStatic count (owned_block (lump_owner colormap) z.blocks) → same_owner (lump_owner colormap) o ≡ false → IfSome lent (λ bytes. block_size count + block_size (length bytes) ≤ z.size)
  lent_fits lent is colormap count static apart = go lent (owned_block o z.blocks) refl (sym is) where
    go : (y : Option (List ℕ)) (x : Option Block) → owned_block o z.blocks ≡ x → bytes_in x ≡ y → IfSome y (λ bytes. block_size count + block_size (length bytes) ≤ z.size)
    go None x e k = tt
    go (Some xs) None e k = cc
    go (Some xs) (Some b) e k = beside colormap count static apart b e xs k
