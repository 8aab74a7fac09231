-- The room of a zone at rest: its widest gap is all that is left beside the colormap.
use Rattle.zone_rules.proofs.Common.{◌≡◌, ℕ, ◌+◌, ◌<◌, ◌≤◌, Bool, true, false, List, [], ◌∷◌, ◌++◌, Option, Some, None, refl, sym, subst, ap, ◌∙◌, arith, append-nil, cond, All, ⊤, cond-true, cond-false, and_from, eq-eqb, false≢true, All-head, All-tail}
use Rattle.lump_cache.specs.Rules.{AllFit, Block, FitsHolding, Heap, Holding, IsSound, Lacks, Owner, OwnsOnce, Tiles, Unique, block_size, free_block, gaps, holds_for, in_front, is_held_by, is_pinned, opens, owned_block, pins, same_owner, total, widest}
use Rattle.zone_rules.proofs.EmptyLemmas.{empty_is, sound_size}
use Rattle.zone_rules.proofs.GapLemmas.{all_small, total-cons}
use Rattle.zone_rules.proofs.PurgeLemmas.{tiles_end, tiles_within, Within}
use Rattle.zone_rules.proofs.OwnerLemmas.{owner_eq, none_owned, lacks_held}
use Rattle.lump_cache.specs.Caches.{IsAtRest, IsEmpty, IsStatic, IsAsked, IsUnpinned, NoRoom, lump_owner}
use Rattle.lump_cache.specs.Sizes.{IsGapBeside}

-- no gap holds so many bytes
abbrev pub AllSmall : ℕ → List (List Block) → Type 0
AllSmall w gs = All (λ g. total g < w) gs

-- blocks of which none is pinned
abbrev pub AllOpen : List Block → Type 0
AllOpen [] = ⊤
AllOpen (b ∷ bs) = (is_pinned b ≡ false) × AllOpen bs

-- they are the first gap, where a pinned block or nothing follows them
first_gap : (b : Block) (bs rest : List Block) → AllOpen (b ∷ bs) → opens rest ≡ false → gaps (b ∷ (bs ++ rest)) ≡ (b ∷ bs) ∷ gaps rest
first_gap b [] rest a e = rw (a.0, e) refl
first_gap b (c ∷ bs) rest a e = rw (a.0, first_gap c bs rest a.1 e, a.1.0) refl

-- so they are small where all gaps are
pub first_small : (w : ℕ) (bs rest : List Block) → 0 < w → AllOpen bs → opens rest ≡ false → AllSmall w (gaps (bs ++ rest)) → (total bs < w) × AllSmall w (gaps rest)
first_small w [] rest some a e k = (omega arith, k)
first_small w (b ∷ bs) rest some a e k =
    let gaps_small = subst (AllSmall w) (first_gap b bs rest a e) k in
    (All-head (λ g. total g < w) (b ∷ bs) (gaps rest) gaps_small, All-tail (λ g. total g < w) (b ∷ bs) (gaps rest) gaps_small)

pub open_small : (w : ℕ) (bs : List Block) → 0 < w → AllOpen bs → AllSmall w (gaps bs) → total bs < w
open_small w bs some a k = (first_small w bs [] some a refl (subst (λ xs. AllSmall w (gaps xs)) (sym (append-nil bs)) k)).0

-- a block makes the widest gap behind it wider by no more than itself
in_front_most : (b : Block) (o : Bool) (gs : List (List Block)) → widest (in_front b o gs) ≤ b.size + widest gs
in_front_most b false gs = let total_is = total-cons b [] in omega arith
in_front_most b true [] = let total_is = total-cons b [] in omega arith
in_front_most b true (g ∷ gs) = let total_is = total-cons b g in omega arith

pub widest_more : (b : Block) (bs : List Block) → widest (gaps (b ∷ bs)) ≤ b.size + widest (gaps bs)
widest_more b bs = go (is_pinned b) where
  go : (t : Bool) → widest (cond t (gaps bs) (in_front b (opens bs) (gaps bs))) ≤ b.size + widest (gaps bs)
  go true = omega arith
  go false = in_front_most b (opens bs) (gaps bs)

-- so no gap is wider than all blocks together
pub widest_within : (bs : List Block) → widest (gaps bs) ≤ total bs
widest_within [] = omega arith
widest_within (b ∷ bs) = let total_is = total-cons b bs in let widest_grows = widest_more b bs in let rest_within = widest_within bs in omega arith

-- a pinned block is of no gap
pub gaps_behind : (b : Block) (bs : List Block) → is_pinned b ≡ true → gaps (b ∷ bs) ≡ gaps bs
gaps_behind b bs p = cond-true (is_pinned b) (gaps bs) (in_front b (opens bs) (gaps bs)) p

owner_self : (o : Owner) → same_owner o o ≡ true
owner_self o = and_from _ _ (eq-eqb o.kind o.kind refl) (eq-eqb o.number o.number refl)

pub owner_turned : (a b : Owner) → same_owner a b ≡ false → same_owner b a ≡ false
owner_turned a b e = go (same_owner b a) refl where
  go : (t : Bool) → same_owner b a ≡ t → t ≡ false
  go true k = absurd (false≢true (sym e ∙ ap (same_owner a) (owner_eq b a k) ∙ owner_self a))
  go false k = refl

-- what is known of each owner's block, of the blocks behind the first
module _ (o : Owner) where
  abbrev pub OthersOpen : List Block → Type 0
  OthersOpen bs = (q : Owner) → same_owner o q ≡ false → IsUnpinned (owned_block q bs)

  pub others_behind : (b : Block) (bs : List Block) → OwnsOnce b.holding bs → OthersOpen (b ∷ bs) → OthersOpen bs
  others_behind b bs u k q h = go (is_held_by q b) refl where
    go : (t : Bool) → is_held_by q b ≡ t → IsUnpinned (owned_block q bs)
    go true e = subst IsUnpinned (sym (none_owned q bs (lacks_held q b.holding bs e u))) tt
    go false e = subst IsUnpinned (cond-false (is_held_by q b) (Some b) (owned_block q bs) e) (k q h)

  pub front_open : (b : Block) (bs : List Block) (x : Option Holding) → b.holding ≡ x → holds_for o x ≡ false → OthersOpen (b ∷ bs) → pins x ≡ false
  front_open b bs None e h k = refl
  front_open b bs (Some x) e h k =
      let owner_holds : is_held_by x.owner b ≡ true = ap (holds_for x.owner) e ∙ owner_self x.owner in
      ap pins (sym e) ∙ subst IsUnpinned (cond-true (is_held_by x.owner b) (Some b) (owned_block x.owner bs) owner_holds) (k x.owner (owner_turned x.owner o h))

  pub all_open : (bs : List Block) → Unique bs → Lacks o bs → OthersOpen bs → AllOpen bs
  all_open [] u l k = tt
  all_open (b ∷ bs) u l k = (front_open b bs b.holding refl l.0 k, all_open bs u.1 l.1 (others_behind b bs u.0 k))

within_step : (o : Owner) (p : ℕ) (c : Block) (bs : List Block) (b : Block) → p ≤ c.place → (owned_block o bs ≡ Some b → p ≤ b.place) → owned_block o (c ∷ bs) ≡ Some b → (t : Bool) → is_held_by o c ≡ t → p ≤ b.place
within_step o p c bs b here later e true h =
    let first_is_owned : Some c ≡ Some b = sym (cond-true (is_held_by o c) (Some c) (owned_block o bs) h) ∙ e in
    let block_same : c ≡ b = cc in
    subst (λ (x : Block). p ≤ x.place) block_same here
within_step o p c bs b here later e false h = later (sym (cond-false (is_held_by o c) (Some c) (owned_block o bs) h) ∙ e)

owned_within : (o : Owner) (p q : ℕ) (bs : List Block) (b : Block) → Within p q bs → owned_block o bs ≡ Some b → p ≤ b.place
owned_within o p q [] b w e = cc
owned_within o p q (c ∷ bs) b w e = within_step o p c bs b w.0 (owned_within o p q bs b w.2) e (is_held_by o c) refl

-- a block has at most so many bytes more than were asked for
pub asked_size : (lumps composites size n : ℕ) (h : Option Holding) → IsAsked n h → FitsHolding lumps composites size h → size ≤ block_size n + 64
asked_size lumps composites size n None s f = absurd s
asked_size lumps composites size n (Some h) s f = subst (λ (m : ℕ). size ≤ block_size m + 64) s f.1

-- and at least as many
pub asked_least : (lumps composites size n : ℕ) (h : Option Holding) → IsAsked n h → FitsHolding lumps composites size h → block_size n ≤ size
asked_least lumps composites size n None s f = absurd s
asked_least lumps composites size n (Some h) s f = subst (λ (m : ℕ). block_size m ≤ size) s f.0

pub static_asked : (n : ℕ) (h : Option Holding) → IsStatic n h → IsAsked n h
static_asked n None s = s
static_asked n (Some h) s = s.1

static_pinned : (n : ℕ) (h : Option Holding) → IsStatic n h → pins h ≡ true
static_pinned n None s = absurd s
static_pinned n (Some h) s = ap (λ t. pins (Some (record h { tag = t }))) s.0

-- a block has one owner
pub held_once : (o q : Owner) (h : Option Holding) → holds_for o h ≡ true → same_owner o q ≡ false → holds_for q h ≡ false
held_once o q None e apart = absurd (false≢true e)
held_once o q (Some h) e apart = ap (λ (x : Owner). same_owner x q) (owner_eq h.owner o e) ∙ apart

-- an owner's block of so many bytes stands pinned before all others
pub record Behind (o : Owner) (size : ℕ) (z : Heap) : Type 0 where
  pub rest : List Block
  pub lacks : Lacks o rest
  pub unique : Unique rest
  pub fits : AllFit z.lumps z.composites rest
  pub gaps_are : gaps z.blocks ≡ gaps rest
  pub sum : z.size ≤ block_size size + 64 + total rest
  pub least : block_size size + total rest ≤ z.size
  pub owned : (q : Owner) → same_owner o q ≡ false → owned_block q z.blocks ≡ owned_block q rest

module _ (o : Owner) (size : ℕ) (z : Heap) (block : Block) (place : block.place ≡ 0) (static : IsStatic size block.holding) where
  -- the block at place 0 is the first
  first_is : (b : Block) (bs : List Block) → Tiles 0 z.size (b ∷ bs) → owned_block o (b ∷ bs) ≡ Some block → is_held_by o b ≡ true
  first_is b bs t e = go (is_held_by o b) refl where
    go : (v : Bool) → is_held_by o b ≡ v → v ≡ true
    go true h = refl
    go false h =
        let block_behind_first = owned_within o (0 + b.size) z.size bs block (tiles_within (0 + b.size) z.size bs t.2) (sym (cond-false (is_held_by o b) (Some b) (owned_block o bs) h) ∙ e) in
        absurd (omega (arith, block_behind_first, t.1, place))

  first_static : (b : Block) (bs : List Block) → is_held_by o b ≡ true → owned_block o (b ∷ bs) ≡ Some block → IsStatic size b.holding
  first_static b bs h e =
      let first_is_owned : Some b ≡ Some block = sym (cond-true (is_held_by o b) (Some b) (owned_block o bs) h) ∙ e in
      let block_same : block ≡ b = cc in
      subst (λ (x : Block). IsStatic size x.holding) block_same static

  behind_of : (bs : List Block) → z.blocks ≡ bs → Tiles 0 z.size bs → Unique bs → AllFit z.lumps z.composites bs → owned_block o bs ≡ Some block → Behind o size z
  behind_of [] is t u f e = cc
  behind_of (b ∷ bs) is t u f e =
      let owner_holds_first = first_is b bs t e in
      let first_is_static = first_static b bs owner_holds_first e in
      let size_at_most = asked_size z.lumps z.composites b.size size b.holding (static_asked size b.holding first_is_static) f.0 in
      let size_at_least = asked_least z.lumps z.composites b.size size b.holding (static_asked size b.holding first_is_static) f.0 in
      let rest_ends_at_size = tiles_end (0 + b.size) z.size bs t.2 in
      record {
        rest = bs;
        lacks = lacks_held o b.holding bs owner_holds_first u.0;
        unique = u.1;
        fits = f.1;
        gaps_are = ap gaps is ∙ gaps_behind b bs (static_pinned size b.holding first_is_static);
        sum = omega (arith, size_at_most, rest_ends_at_size);
        least = omega (arith, size_at_least, rest_ends_at_size);
        owned = λ q apart. ap (owned_block q) is ∙ cond-false (is_held_by q b) (Some b) (owned_block q bs) (held_once o q b.holding owner_holds_first apart);
      }

  pub behind : IsSound z → owned_block o z.blocks ≡ Some block → Behind o size z
  behind sound e = behind_of z.blocks refl sound.tiles sound.unique sound.fits e

-- the widest gap of a zone at rest
pub gap_at_rest : (z : Heap) → IsSound z → (colormap size : ℕ) → IsAtRest colormap size z → IsGapBeside z.size (block_size size) (widest (gaps z.blocks))
gap_at_rest z sound colormap size rest =
    let owner = lump_owner colormap in
    let zone_rest = behind owner size z rest.block rest.place rest.pinned sound rest.is in
    let open' = all_open owner zone_rest.rest zone_rest.unique zone_rest.lacks (λ q apart. subst IsUnpinned (zone_rest.owned q apart) (rest.others q apart)) in
    let widest_gap : ℕ = widest (gaps zone_rest.rest) in
    let few = open_small (widest_gap + 1) zone_rest.rest (omega arith) open' (all_small (widest_gap + 1) (gaps zone_rest.rest) (omega arith)) in
    let most = widest_within zone_rest.rest in
    subst (IsGapBeside z.size (block_size size)) (sym (ap widest zone_rest.gaps_are)) (omega (arith, most, zone_rest.least), omega (arith, few, zone_rest.sum))

-- the same by what a call without room reports
pub gap_of_rest : (n : ℕ) (z : Heap) (wanted widest' : ℕ) → IsSound z → NoRoom n z wanted widest' → (colormap size : ℕ) → IsAtRest colormap size z → IsGapBeside z.size (block_size size) widest'
gap_of_rest n z wanted widest' sound full colormap size rest =
    subst (IsGapBeside z.size (block_size size)) (sym full.widest_is) (gap_at_rest z sound colormap size rest)

-- a zone without a live block is one gap
empty_gap : (z : Heap) → IsEmpty z → IsSound z → widest (gaps z.blocks) ≡ z.size
empty_gap z none sound =
    let one_free_block = empty_is z.size z.blocks sound.tiles sound.apart none (sound_size z sound) in
    let widest_same = ap (λ bs. widest (gaps bs)) one_free_block in
    let total_is = total-cons (free_block 0 z.size) [] in
    omega (arith, widest_same, total_is)

pub gap_of_empty : (n : ℕ) (z : Heap) (wanted widest' : ℕ) → IsSound z → NoRoom n z wanted widest' → IsEmpty z → widest' ≡ z.size
gap_of_empty n z wanted widest' sound full none = full.widest_is ∙ empty_gap z none sound
