-- What a faithful cache is, through fills, purges and new tags.
use Rattle.zone_rules.proofs.Common.{◌≡◌, ℕ, zero, suc, ◌<◌, Bool, true, false, cond, List, [], ◌∷◌, length, take, drop, Option, Some, None, refl, sym, subst, ap, ◌∙◌, option_map, inl, inr, arith, IfSome, option_and_then, ◌⊎◌, slice_get, ne_eqb, cases_eq}
use Rattle.lump_cache.specs.Rules.{Block, Cache, FileNo, Heap, Holding, IsPieceAt, Lump, NameFiles, Owner, ShelfView, Tag, bytes_of, file_bytes, holding_of, is_held_by, lump_at, lump_bytes, owned_block, retag_block, same_owner, set_tag, with_tag}
use Rattle.zone_rules.proofs.OwnerLemmas.{owned_block-map, retag_held}
use Rattle.lump_cache.specs.Caches.{KeptOrPurged, IsFaithful, lump_owner, with_tag_unless_static, holds_static, release_heap, released_heap}

-- the file of a lump stands for its bytes
pub file_stands : (view : ShelfView) (numbers : List FileNo) (contents : List (List ℕ)) (k : ℕ) (number : FileNo) → NameFiles view numbers contents → slice_get numbers k ≡ Some number → view.file number.0 ≡ Some (file_bytes contents k)
file_stands view [] contents k number a e = cc
file_stands view (n ∷ ns) [] k number a e = absurd a
file_stands view (n ∷ ns) (c ∷ cs) zero number a e = let number_is : n ≡ number = cc in subst (λ (m : FileNo). view.file m.0 ≡ Some c) number_is a.0
file_stands view (n ∷ ns) (c ∷ cs) (suc k) number a e = file_stands view ns cs k number a.1 e

-- a piece of a lump's size, read from its place, is the lump
pub piece_is_lump : (contents : List (List ℕ)) (lumps : List Lump) (n : ℕ) (file w : List ℕ) → file ≡ file_bytes contents (lump_at lumps n).file → length w ≡ (lump_at lumps n).size → IsPieceAt file (lump_at lumps n).place w → w ≡ lump_bytes contents lumps n
unfolding lump_bytes
piece_is_lump contents lumps n file w e len k = k.bytes ∙ ap (λ m. take m (drop (lump_at lumps n).place file)) len ∙ ap (λ (xs : List ℕ). take (lump_at lumps n).size (drop (lump_at lumps n).place xs)) e

pub nothing_is_lump : (contents : List (List ℕ)) (lumps : List Lump) (n : ℕ) (w : List ℕ) → length w ≡ 0 → (lump_at lumps n).size ≡ 0 → w ≡ lump_bytes contents lumps n
unfolding lump_bytes
nothing_is_lump contents lumps n [] e z = sym (ap (λ m. take m (drop (lump_at lumps n).place (file_bytes contents (lump_at lumps n).file))) z)
nothing_is_lump contents lumps n (x ∷ w) e z = absurd (omega arith)

-- other slots keep what is true of their bytes
abbrev pub bytes_in : Option Block → Option (List ℕ)
bytes_in b = option_map (λ (h : Holding). h.bytes) (option_and_then (λ (x : Block). x.holding) b)

pub kept_bytes : (old new : Option Block) (Q : List ℕ → Type 0) → KeptOrPurged old new → IfSome (bytes_in old) Q → IfSome (bytes_in new) Q
kept_bytes old new Q (inl e) q = subst (λ x. IfSome (bytes_in x) Q) (sym e) q
kept_bytes old new Q (inr e) q = subst (λ x. IfSome (bytes_in x) Q) (sym e.0) tt

pub none_bytes : (o : Owner) (bs : List Block) (Q : List ℕ → Type 0) → owned_block o bs ≡ None → IfSome (bytes_of o bs) Q
none_bytes o bs Q e = subst (λ x. IfSome (bytes_in x) Q) (sym e) tt

pub some_bytes : (o : Owner) (bs : List Block) (xs : List ℕ) (Q : List ℕ → Type 0) → bytes_of o bs ≡ Some xs → Q xs → IfSome (bytes_of o bs) Q
some_bytes o bs xs Q e q = subst (λ x. IfSome x Q) (sym e) q

pub filled_lump : (contents : List (List ℕ)) (lumps : List Lump) (view : ShelfView) (numbers : List FileNo) (n : ℕ) (number : FileNo) (place : ℕ) (w : List ℕ) → NameFiles view numbers contents → slice_get numbers (lump_at lumps n).file ≡ Some number → place ≡ (lump_at lumps n).place → length w ≡ (lump_at lumps n).size
    → IfSome (view.file number.0) (λ bytes. IsPieceAt bytes place w) → w ≡ lump_bytes contents lumps n
filled_lump contents lumps view numbers n number place w a s p len says =
    let file_is = file_stands view numbers contents (lump_at lumps n).file number a s in
    let file_piece : IsPieceAt (file_bytes contents (lump_at lumps n).file) place w = subst (λ x. IfSome x (λ bytes. IsPieceAt bytes place w)) file_is says in
    piece_is_lump contents lumps n (file_bytes contents (lump_at lumps n).file) w refl len (subst (λ m. IsPieceAt (file_bytes contents (lump_at lumps n).file) m w) p file_piece)

lump_apart : (l n : ℕ) → (n ≡ l → ⊥) → same_owner (lump_owner l) (lump_owner n) ≡ false
lump_apart l n h = ne_eqb l n (λ e. h (sym e))

-- a faithful cache stays so where one lump has its bytes, or none, and the others are kept or
-- purged
pub faithful_by : (contents : List (List ℕ)) (lumps : List Lump) (old new : Heap) (l : ℕ) → IfSome (bytes_of (lump_owner l) new.blocks) (λ xs. xs ≡ lump_bytes contents lumps l) → ((o : Owner) → same_owner (lump_owner l) o ≡ false → KeptOrPurged (owned_block o old.blocks) (owned_block o new.blocks))
    → IsFaithful contents lumps old → IsFaithful contents lumps new
faithful_by contents lumps old new l here others f = record { at = λ n lt. go n lt (cases_eq n l) } where
  go : (n : ℕ) → n < length lumps → (n ≡ l) ⊎ (n ≡ l → ⊥) → IfSome (bytes_of (lump_owner n) new.blocks) (λ xs. xs ≡ lump_bytes contents lumps n)
  go n lt (inl e) = subst (λ m. IfSome (bytes_of (lump_owner m) new.blocks) (λ xs. xs ≡ lump_bytes contents lumps m)) (sym e) here
  go n lt (inr h) = kept_bytes (owned_block (lump_owner n) old.blocks) (owned_block (lump_owner n) new.blocks) (λ xs. xs ≡ lump_bytes contents lumps n) (others (lump_owner n) (lump_apart l n h)) (f.at n lt)

-- a new tag leaves all bytes
retag_bytes : (o : Owner) (tag : Tag) (b : Option Block) → bytes_in (option_map (retag_block o tag) b) ≡ bytes_in b
retag_bytes o tag None = refl
retag_bytes o tag (Some b) = go (is_held_by o b) where
  same : (h : Option Holding) → option_map (λ (x : Holding). x.bytes) (set_tag tag h) ≡ option_map (λ (x : Holding). x.bytes) h
  same None = refl
  same (Some h) = refl

  go : (t : Bool) → bytes_in (Some (cond t (record b { holding = set_tag tag b.holding }) b)) ≡ bytes_in (Some b)
  go true = same b.holding
  go false = refl

pub unless_static_bytes : (o p : Owner) (tag : Tag) (z : Heap) → bytes_of p (with_tag_unless_static o tag z).blocks ≡ bytes_of p z.blocks
unless_static_bytes o p tag z = go (holds_static (holding_of o z.blocks)) where
  go : (t : Bool) → bytes_of p (cond t z (with_tag o tag z)).blocks ≡ bytes_of p z.blocks
  go true = refl
  go false = ap bytes_in (owned_block-map p (retag_block o tag) (λ b. retag_held p o tag b) z.blocks) ∙ retag_bytes o tag (owned_block p z.blocks)

pub faithful_retag : (contents : List (List ℕ)) (lumps : List Lump) (o : Owner) (tag : Tag) (z : Heap) → IsFaithful contents lumps z → IsFaithful contents lumps (with_tag_unless_static o tag z)
faithful_retag contents lumps o tag z f = record { at = λ n lt. subst (λ x. IfSome x (λ xs. xs ≡ lump_bytes contents lumps n)) (sym (unless_static_bytes o (lump_owner n) tag z)) (f.at n lt) }

pub faithful_release : (contents : List (List ℕ)) (lumps : List Lump) (o : Owner) (z : Heap) → IsFaithful contents lumps z → IsFaithful contents lumps (release_heap o z)
faithful_release contents lumps o z f = go (holding_of o z.blocks) where
  go : (h : Option Holding) → IsFaithful contents lumps (released_heap o z h)
  go None = f
  go (Some h) = faithful_retag contents lumps o Cache z f
