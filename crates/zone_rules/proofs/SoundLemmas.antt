-- Each change of a zone leaves it sound.
use Rattle.zone_rules.proofs.Common.{◌≡◌, ℕ, ◌+◌, ◌*◌, ◌<◌, ◌≤◌, Bool, true, false, cond, List, [], ◌∷◌, ◌++◌, length, Option, Some, None, refl, sym, subst, ap, ◌∙◌, arith, ◌==◌, IsNone, option_and_then, find, All, false≢true, cond-true, cond-false, eq-eqb, ne_eqb}
use Rattle.zone_rules.specs.Zones.{Block, Holding, Owner, Heap, Tiles, Apart, Unique, AllFit, Lacks, IsSound, is_held_by, holds_for, holding_of, free_block, block_size, owner_at, slot_count}
use Rattle.zone_rules.specs.Requests.{total, purge_among, passed_blocks, stretches, after_search, take_at, with_block, without_room, cut_block, gaps, first_room, blocks_from, start_in, join_free}
use Rattle.zone_rules.specs.{Rooms.RoomAt, Frees.free_owner, Frees.without_block}
use Rattle.zone_rules.proofs.GapLemmas.{wider_from, none_found, some_found, widest-append, all_small, small_all}
use Rattle.zone_rules.proofs.PurgeLemmas.{tiles_le}
use Rattle.zone_rules.proofs.JoinLemmas.{Tiles-join_free, Apart-join_free, Unique-join_free, AllFit-join_free, Lacks-join_free}
use Rattle.zone_rules.proofs.ZoneLemmas.{Tiles-freed, Unique-freed, AllFit-freed, Lacks-freed, purge_frees, around_is_place, after_is_place, release_frees}
use Rattle.zone_rules.proofs.TakeLemmas.{InRange, take_at_is, tiles_cut_block, apart_cut_block, fit_cut_block, unique_cut_block}

pub few_tiles : (p q : ℕ) (bs : List Block) → Tiles p q bs → p + 24 * length bs ≤ q
few_tiles p q [] t = omega arith
few_tiles p q (b ∷ bs) t = let rest_fits = few_tiles (p + b.size) q bs t.2 in let length_grows : length (b ∷ bs) ≡ length bs + 1 = omega arith in omega arith

-- after a search
pub searched_tiles : (wanted : ℕ) (z : Heap) → IsSound z → Tiles 0 z.size (after_search wanted z)
searched_tiles wanted z s =
    Tiles-join_free 0 z.size _ (Tiles-freed _ (purge_frees (passed_blocks wanted (stretches z.rover z.blocks))) 0 z.size z.blocks s.tiles)

pub searched_apart : (wanted : ℕ) (z : Heap) → Apart (after_search wanted z)
searched_apart wanted z = Apart-join_free (purge_among (passed_blocks wanted (stretches z.rover z.blocks)) z.blocks)

pub searched_unique : (wanted : ℕ) (z : Heap) → IsSound z → Unique (after_search wanted z)
searched_unique wanted z s = Unique-join_free _ (Unique-freed _ (purge_frees (passed_blocks wanted (stretches z.rover z.blocks))) z.blocks s.unique)

pub searched_fits : (wanted : ℕ) (z : Heap) → IsSound z → AllFit z.lumps z.composites (after_search wanted z)
searched_fits wanted z s = AllFit-join_free z.lumps z.composites _ (AllFit-freed _ (purge_frees (passed_blocks wanted (stretches z.rover z.blocks))) z.lumps z.composites z.blocks s.fits)

pub searched_lacks : (wanted : ℕ) (z : Heap) (o : Owner) → Lacks o z.blocks → Lacks o (after_search wanted z)
searched_lacks wanted z o l = Lacks-join_free o _ (Lacks-freed _ (purge_frees (passed_blocks wanted (stretches z.rover z.blocks))) o z.blocks l)

-- an owner without a block is lacked
pub lacked : (o : Owner) (bs : List Block) → IsNone (holding_of o bs) → Lacks o bs
lacked o [] n = tt
lacked o (b ∷ bs) n = go (is_held_by o b) refl n (λ k. lacked o bs k) where
  some_held : (h : Option Holding) → holds_for o h ≡ true → IsNone h → ⊥
  some_held None e k = absurd (false≢true e)
  some_held (Some h) e k = cc

  go : (t : Bool) → is_held_by o b ≡ t → IsNone (option_and_then (λ (x : Block). x.holding) (cond t (Some b) (find (is_held_by o) bs))) → (IsNone (holding_of o bs) → Lacks o bs) → (is_held_by o b ≡ false) × Lacks o bs
  go true e k rest = absurd (some_held b.holding e k)
  go false e k rest = (e, rest k)

pub without_room_sound : (wanted : ℕ) (z : Heap) → IsSound z → 0 < z.size → IsSound (without_room wanted z)
without_room_sound wanted z s pos = record {
  tiles = searched_tiles wanted z s;
  apart = searched_apart wanted z;
  unique = searched_unique wanted z s;
  fits = searched_fits wanted z s;
  rover = around_is_place z.rover z.size _ (searched_tiles wanted z s) pos;
}

-- with a block taken
module _ (w p : ℕ) (z : Heap) (h : Holding) (s : IsSound z) (pos : 0 < z.size) (w_is : block_size h.asked ≡ w) (len : length h.bytes ≡ h.asked) (least : 24 ≤ w) (lacks : Lacks h.owner z.blocks) (in_range : InRange z.lumps z.composites h.owner) (r : RoomAt p w (after_search w z)) where
  whole : Tiles 0 z.size (r.front ++ (free_block p r.size ∷ r.rest))
  whole = subst (Tiles 0 z.size) r.is (searched_tiles w z s)

  shape : take_at p w h (after_search w z) ≡ r.front ++ (cut_block w h (free_block p r.size) ++ r.rest)
  shape = ap (take_at p w h) r.is ∙ take_at_is p r.size w h 0 z.size r.front r.rest whole

  new_tiles : Tiles 0 z.size (take_at p w h (after_search w z))
  new_tiles = subst (Tiles 0 z.size) (sym shape) (tiles_cut_block p r.size w h least r.large 0 z.size r.front r.rest whole)

  pub with_block_sound : IsSound (with_block w h p z)
  with_block_sound = record {
    tiles = new_tiles;
    apart = subst Apart (sym shape) (apart_cut_block p r.size w h r.front r.rest (subst Apart r.is (searched_apart w z)));
    unique = subst Unique (sym shape) (unique_cut_block p r.size w h r.front r.rest (subst (Lacks h.owner) r.is (searched_lacks w z h.owner lacks)) (subst Unique r.is (searched_unique w z s)));
    fits = subst (AllFit z.lumps z.composites) (sym shape) (fit_cut_block p r.size w h z.lumps z.composites r.front r.rest w_is r.large (λ k a b. (a, b, len, in_range.0, in_range.1, in_range.2)) (subst (AllFit z.lumps z.composites) r.is (searched_fits w z s)));
    rover = after_is_place p z.size (take_at p w h (after_search w z)) new_tiles pos;
  }

pub in_range_of : (z : Heap) (kind number : ℕ) → kind ≤ 1 → number < slot_count z kind → InRange z.lumps z.composites (owner_at kind number)
in_range_of z kind number k n = (
  (λ e. let count_is : slot_count z kind ≡ z.lumps = cond-true (kind == 0) _ _ (eq-eqb kind 0 e) in omega arith),
  (λ e. let count_is : slot_count z kind ≡ z.composites = cond-false (kind == 0) _ _ (ne_eqb kind 0 (λ x. omega arith)) ∙ cond-true (kind == 1) _ _ (eq-eqb kind 1 e) in omega arith),
  k,
)

pub room_end : (p least q : ℕ) (bs : List Block) → RoomAt p least bs → Tiles 0 q bs → p + least ≤ q
room_end p least q bs r t = go 0 r.front (subst (Tiles 0 q) r.is t) where
  go : (x : ℕ) (front : List Block) → Tiles x q (front ++ (free_block p r.size ∷ r.rest)) → p + least ≤ q
  go x [] u = let rest_end = tiles_le (x + r.size) q r.rest u.2 in let is_large = r.large in omega arith
  go x (b ∷ front) u = go (x + b.size) front u.2

-- no gap holds what is wanted, exactly where a search finds none
pub full_none : (w r : ℕ) (bs : List Block) → 0 < w → first_room w (stretches r bs) ≡ None → All (λ g. total g < w) (gaps bs)
full_none w r bs pos e =
    let widest_is_less = none_found w (stretches r bs) pos e in
    let widest_of_both = widest-append (gaps (blocks_from (start_in r bs) bs)) (gaps bs) in
    all_small w (gaps bs) (omega arith)

pub full_some : (w r p q : ℕ) (bs : List Block) → 0 < w → Tiles 0 q bs → first_room w (stretches r bs) ≡ Some p → All (λ g. total g < w) (gaps bs) → ⊥
full_some w r p q bs pos t e a =
    let widest_is_enough = some_found w p (stretches r bs) e in
    let widest_of_both = widest-append (gaps (blocks_from (start_in r bs) bs)) (gaps bs) in
    let part_is_less = wider_from (start_in r bs) 0 q bs t in
    let widest_is_less = small_all w (gaps bs) pos a in
    omega arith

-- what a release keeps
pub without_block_sound : (o : Owner) (z : Heap) → IsSound z → 0 < z.size → IsSound (without_block o z)
without_block_sound o z s pos =
    let tiled = Tiles-join_free 0 z.size (free_owner o z.blocks) (Tiles-freed _ (release_frees o) 0 z.size z.blocks s.tiles) in
    record {
      tiles = tiled;
      apart = Apart-join_free (free_owner o z.blocks);
      unique = Unique-join_free (free_owner o z.blocks) (Unique-freed _ (release_frees o) z.blocks s.unique);
      fits = AllFit-join_free z.lumps z.composites (free_owner o z.blocks) (AllFit-freed _ (release_frees o) z.lumps z.composites z.blocks s.fits);
      rover = around_is_place z.rover z.size (join_free (free_owner o z.blocks)) tiled pos;
    }
