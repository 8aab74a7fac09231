-- A change of each block that leaves it its place, its size and what its owner asked for: a new tag, or new bytes.
use Rattle.zone_rules.proofs.Common.{◌≡◌, ℕ, ◌+◌, Bool, true, false, cond, ◌&&◌, List, [], ◌∷◌, length, map, Option, Some, None, refl, sym, subst, ap, ap₂, ◌∙◌, ◌==◌, is_none, find, option_and_then, cond-true, cond-false}
use Rattle.zone_rules.specs.{declared.Tag.Tag, Orders.Item}
use Rattle.zone_rules.specs.Zones.{Block, Holding, Owner, Heap, Tiles, Apart, Lacks, OwnsOnce, Unique, AllFit, FitsHolding, IsSound, is_held_by, starts_free, has_place, holding_of, holds_for, same_owner}
use Rattle.zone_rules.specs.Frees.{retag_block, set_tag, with_tag, write_block, write_holding, with_bytes}
use Rattle.zone_rules.proofs.{OwnerLemmas.lacks_held, OrderSumLemmas.item}

-- what a block's owner asked for
abbrev pub use_of : Option Holding → Option Item
use_of None = None
use_of (Some h) = Some (item h.owner h.asked)

pub record KeepsUse (f : Block → Block) : Type 0 where
  pub place : (b : Block) → (f b).place ≡ b.place
  pub size : (b : Block) → (f b).size ≡ b.size
  pub same : (b : Block) → use_of (f b).holding ≡ use_of b.holding

-- what is told by it alone
pub by_use : {A : Type 0} (g : Option Holding → A) (k : Option Item → A) → ((h : Option Holding) → g h ≡ k (use_of h)) → (x y : Option Holding) → use_of x ≡ use_of y → g x ≡ g y
by_use g k told x y e = told x ∙ ap k e ∙ sym (told y)

abbrev pub held_use : Owner → Option Item → Bool
held_use o None = false
held_use o (Some i) = same_owner i.owner o

pub held_same : (o : Owner) (x y : Option Holding) → use_of x ≡ use_of y → holds_for o x ≡ holds_for o y
held_same o x y e = by_use (holds_for o) (held_use o) told x y e where
  told : (h : Option Holding) → holds_for o h ≡ held_use o (use_of h)
  told None = refl
  told (Some h) = refl

pub free_same : (x y : Option Holding) → use_of x ≡ use_of y → is_none x ≡ is_none y
free_same x y e = by_use is_none (λ u. is_none u) told x y e where
  told : (h : Option Holding) → is_none h ≡ is_none (use_of h)
  told None = refl
  told (Some h) = refl

owns_same : (bs : List Block) (x y : Option Holding) → use_of x ≡ use_of y → OwnsOnce y bs → OwnsOnce x bs
owns_same bs None y e k = tt
owns_same bs (Some g) None e k = cc
owns_same bs (Some g) (Some h) e k =
    let same_item : item g.owner g.asked ≡ item h.owner h.asked = cc in subst (λ (u : Item). Lacks u.owner bs) (sym same_item) k

module _ (f : Block → Block) (k : KeepsUse f) where
  pub Tiles-map : (p q : ℕ) (bs : List Block) → Tiles p q bs → Tiles p q (map f bs)
  Tiles-map p q [] t = t
  Tiles-map p q (b ∷ bs) t = (k.place b ∙ t.0, rw (k.size b) t.1, rw (k.size b) (Tiles-map (p + b.size) q bs t.2))

  starts_map : (bs : List Block) → starts_free (map f bs) ≡ starts_free bs
  starts_map [] = refl
  starts_map (b ∷ bs) = free_same (f b).holding b.holding (k.same b)

  pub Apart-map : (bs : List Block) → Apart bs → Apart (map f bs)
  Apart-map [] a = tt
  Apart-map (b ∷ bs) a = (ap₂ ◌&&◌ (free_same (f b).holding b.holding (k.same b)) (starts_map bs) ∙ a.0, Apart-map bs a.1)

  pub Lacks-map : (p : Owner) (bs : List Block) → Lacks p bs → Lacks p (map f bs)
  Lacks-map p [] l = tt
  Lacks-map p (b ∷ bs) l = (held_same p (f b).holding b.holding (k.same b) ∙ l.0, Lacks-map p bs l.1)

  owns_map : (h : Option Holding) (bs : List Block) → OwnsOnce h bs → OwnsOnce h (map f bs)
  owns_map None bs x = tt
  owns_map (Some h) bs x = Lacks-map h.owner bs x

  pub Unique-map : (bs : List Block) → Unique bs → Unique (map f bs)
  Unique-map [] u = tt
  Unique-map (b ∷ bs) u = (owns_same (map f bs) (f b).holding b.holding (k.same b) (owns_map b.holding bs u.0), Unique-map bs u.1)

  pub place_map : (p : ℕ) (bs : List Block) → has_place p (map f bs) ≡ has_place p bs
  place_map p [] = refl
  place_map p (b ∷ bs) = ap₂ (λ n (t : Bool). cond (n == p) true t) (k.place b) (place_map p bs)

-- another holding in the block of one owner
module _ (o : Owner) (g : Option Holding → Option Holding) (same : (h : Option Holding) → use_of (g h) ≡ use_of h) where
  changed_keeps : KeepsUse (λ b. cond (is_held_by o b) (record b { holding = g b.holding }) b)
  changed_keeps = record { place = λ b. place (is_held_by o b) b; size = λ b. size (is_held_by o b) b; same = λ b. asked (is_held_by o b) b } where
    place : (t : Bool) (b : Block) → (cond t (record b { holding = g b.holding }) b).place ≡ b.place
    place true b = refl
    place false b = refl

    size : (t : Bool) (b : Block) → (cond t (record b { holding = g b.holding }) b).size ≡ b.size
    size true b = refl
    size false b = refl

    asked : (t : Bool) (b : Block) → use_of (cond t (record b { holding = g b.holding }) b).holding ≡ use_of b.holding
    asked true b = same b.holding
    asked false b = refl

-- a new tag
module _ (o : Owner) (tag : Tag) where
  pub retag_keeps : KeepsUse (retag_block o tag)
  retag_keeps = changed_keeps o (set_tag tag) same where
    same : (h : Option Holding) → use_of (set_tag tag h) ≡ use_of h
    same None = refl
    same (Some h) = refl

  fits_stays : (l m size : ℕ) (h : Option Holding) → FitsHolding l m size h → FitsHolding l m size (set_tag tag h)
  fits_stays l m size None x = tt
  fits_stays l m size (Some h) x = x

  AllFit-retag : (l m : ℕ) (bs : List Block) → AllFit l m bs → AllFit l m (map (retag_block o tag) bs)
  AllFit-retag l m [] f = tt
  AllFit-retag l m (b ∷ bs) f = (go (is_held_by o b), AllFit-retag l m bs f.1) where
    go : (t : Bool) → FitsHolding l m (cond t (record b { holding = set_tag tag b.holding }) b).size (cond t (record b { holding = set_tag tag b.holding }) b).holding
    go true = fits_stays l m b.size b.holding f.0
    go false = f.0

  pub with_tag_sound : (z : Heap) → IsSound z → IsSound (with_tag o tag z)
  with_tag_sound z s = record {
    tiles = Tiles-map (retag_block o tag) retag_keeps 0 z.size z.blocks s.tiles;
    apart = Apart-map (retag_block o tag) retag_keeps z.blocks s.apart;
    unique = Unique-map (retag_block o tag) retag_keeps z.blocks s.unique;
    fits = AllFit-retag z.lumps z.composites z.blocks s.fits;
    rover = place_map (retag_block o tag) retag_keeps z.rover z.blocks ∙ s.rover;
  }

-- new bytes
module _ (o : Owner) (w : List ℕ) where
  pub write_keeps : KeepsUse (write_block o w)
  write_keeps = changed_keeps o (write_holding w) same where
    same : (h : Option Holding) → use_of (write_holding w h) ≡ use_of h
    same None = refl
    same (Some h) = refl

  pub write_none : (bs : List Block) → Lacks o bs → map (write_block o w) bs ≡ bs
  write_none [] l = refl
  write_none (b ∷ bs) l = ap₂ ◌∷◌ (cond-false (is_held_by o b) _ _ l.0) (write_none bs l.1)

  fits_same : (l m size : ℕ) (h : Option Holding) → ((x : Holding) → h ≡ Some x → length w ≡ x.asked) → FitsHolding l m size h → FitsHolding l m size (write_holding w h)
  fits_same l m size None e x = tt
  fits_same l m size (Some h) e x = (x.0, x.1, e h refl, x.3, x.4, x.5)

  AllFit-write : (l m : ℕ) (bs : List Block) → Unique bs → ((h : Holding) → holding_of o bs ≡ Some h → length w ≡ h.asked) → AllFit l m bs → AllFit l m (map (write_block o w) bs)
  AllFit-write l m [] u e f = tt
  AllFit-write l m (b ∷ bs) u e f = go (is_held_by o b) refl (λ k. AllFit-write l m bs u.1 (λ h x. e h (holding_past k ∙ x)) f.1) where
    holding_past : is_held_by o b ≡ false → holding_of o (b ∷ bs) ≡ holding_of o bs
    holding_past k = ap (option_and_then (λ (x : Block). x.holding)) (cond-false (is_held_by o b) (Some b) (find (is_held_by o) bs) k)

    holding_here : is_held_by o b ≡ true → holding_of o (b ∷ bs) ≡ b.holding
    holding_here k = ap (option_and_then (λ (x : Block). x.holding)) (cond-true (is_held_by o b) (Some b) (find (is_held_by o) bs) k)

    go : (t : Bool) → is_held_by o b ≡ t → (is_held_by o b ≡ false → AllFit l m (map (write_block o w) bs))
        → FitsHolding l m (cond t (record b { holding = write_holding w b.holding }) b).size (cond t (record b { holding = write_holding w b.holding }) b).holding × AllFit l m (map (write_block o w) bs)
    go true k rest =
        (fits_same l m b.size b.holding (λ h x. e h (holding_here k ∙ x)) f.0, subst (AllFit l m) (sym (write_none bs (lacks_held o b.holding bs k u.0))) f.1)
    go false k rest = (f.0, rest k)

  pub with_bytes_sound : (z : Heap) → IsSound z → ((h : Holding) → holding_of o z.blocks ≡ Some h → length w ≡ h.asked) → IsSound (with_bytes o w z)
  with_bytes_sound z s e = record {
    tiles = Tiles-map (write_block o w) write_keeps 0 z.size z.blocks s.tiles;
    apart = Apart-map (write_block o w) write_keeps z.blocks s.apart;
    unique = Unique-map (write_block o w) write_keeps z.blocks s.unique;
    fits = AllFit-write z.lumps z.composites z.blocks s.unique e s.fits;
    rover = place_map (write_block o w) write_keeps z.rover z.blocks ∙ s.rover;
  }
