-- Laws of what loading and drawing ask the zone for: each lump that is needed and each composite is
-- of the list, no owner is twice, and the sizes add up to those that the audit tells.
use Rattle.art_rules.proofs.Common.{[], and_from, ap, arith, Bool, cond, eq-eqb, eqb-true, false, filter, inl, inr, length, List, list_any, list_any-append, map, ne_eqb, None, Option, or_cases, or_from, or_left, or_right, range_with_len, refl, Some, subst, suc, sum_by, sum_by-append, sum_by-cons, sym, true, zero, ℕ, ◌&&◌, ◌++◌, ◌+◌, ◌<◌, ◌==◌, ◌∙◌, ◌∷◌, ◌≡◌, ◌≤◌}
use Rattle.level_audit.specs.Rules.{AreDistinct, AreRoomy, Block, Heap, Item, KeepsOrder, Lump, Owner, PreparedTexture, block_or_none, block_size, composite_block, has_item, has_owner, is_needed, items_size, live_sum, lump_at, lump_block, lump_size, needed_lumps, roomy, same_owner, zone_sizes}
use Rattle.scene_rules.proofs.Laws.{item_block, live_most}
use Rattle.texture_build.specs.{Caches.composite_owner, Caches.lump_owner, Asked.size_of}
use Rattle.texture_build.specs.Views.{prepared_at}
use Rattle.sound_scene.specs.Sound.{art_with}
use Rattle.sound_scene.proofs.MarkLemmas.{any_passed}
use Rattle.level_audit.specs.scene_load.Loads.{LoadedValue, loaded_lumps, loaded_pictures, loaded_sizes}
use Rattle.level_audit.specs.scene_load.Orders.{composite_item, composite_items, loaded_items, lump_item, lumps_size}

-- a test of items, as the list asks it
abbrev is_item : Owner → ℕ → Item → Bool
is_item o size i = same_owner o i.owner && (i.size == size)

abbrev is_of : Owner → Item → Bool
is_of o i = same_owner o i.owner

-- none of two lists
neither_has : (owner : Owner) (first second : List Item) → has_owner first owner ≡ false → has_owner second owner ≡ false → has_owner (first ++ second) owner ≡ false
neither_has owner first second e f = list_any-append (is_of owner) first second ∙ or_from (has_owner first owner) (has_owner second owner) e f

-- the item of a composite of that size
abbrev made_item : ℕ → ℕ → Item
made_item number size = record { owner = composite_owner number; size = size }

module _ (lumps : List Lump) where
  -- the item of a lump is its own
  item_same : (n k : ℕ) → n ≡ k → is_item (lump_owner k) (lump_at lumps k).size (lump_item lumps n) ≡ true
  item_same n k e =
      and_from (same_owner (lump_owner k) (lump_owner n)) ((lump_at lumps n).size == (lump_at lumps k).size)
      (eq-eqb k n (sym e)) (eq-eqb (lump_at lumps n).size (lump_at lumps k).size (ap (λ (m : ℕ). (lump_at lumps m).size) e))

  -- a lump among these has its item
  item_among : (numbers : List ℕ) (k : ℕ) → list_any (λ n. n == k) numbers ≡ true → has_item (map (lump_item lumps) numbers) (lump_owner k) (lump_at lumps k).size ≡ true
  item_among [] k on = cc
  item_among (n ∷ numbers) k on = elim (or_cases (n == k) (list_any (λ n. n == k) numbers) on) [
    | inl same ↦ or_left (is_item (lump_owner k) (lump_at lumps k).size (lump_item lumps n)) (has_item (map (lump_item lumps) numbers) (lump_owner k) (lump_at lumps k).size) (item_same n k (eqb-true n k same))
    | inr later ↦ or_right (is_item (lump_owner k) (lump_at lumps k).size (lump_item lumps n)) (has_item (map (lump_item lumps) numbers) (lump_owner k) (lump_at lumps k).size) (item_among numbers k later)
  ]

  -- the lumps that pass, from a number on
  abbrev passing : (ℕ → Bool) → ℕ → ℕ → List Item
  passing p a n = map (lump_item lumps) (filter p (range_with_len a n))

  -- none is of a lump before them
  lump_past : (p : ℕ → Bool) (a n k : ℕ) → k < a → has_owner (passing p a n) (lump_owner k) ≡ false
  lump_past p a zero k l = refl
  lump_past p a (suc n) k l = go (p a) (lump_past p (a + 1) n k (omega arith)) where
    go : (b : Bool) → has_owner (passing p (a + 1) n) (lump_owner k) ≡ false → has_owner (map (lump_item lumps) (cond b (a ∷ filter p (range_with_len (a + 1) n)) (filter p (range_with_len (a + 1) n)))) (lump_owner k) ≡ false
    go true rest = or_from (is_of (lump_owner k) (lump_item lumps a)) (has_owner (passing p (a + 1) n) (lump_owner k)) (ne_eqb k a (λ e. omega arith)) rest
    go false rest = rest

  -- each is once, in front of items that are of no lump
  lumps_distinct : (p : ℕ → Bool) (a n : ℕ) (others : List Item) → ((k : ℕ) → has_owner others (lump_owner k) ≡ false) → AreDistinct others → AreDistinct (passing p a n ++ others)
  lumps_distinct p a zero others none distinct = distinct
  lumps_distinct p a (suc n) others none distinct = go (p a) (lumps_distinct p (a + 1) n others none distinct) where
    alone : has_owner (passing p (a + 1) n ++ others) (lump_owner a) ≡ false
    alone = neither_has (lump_owner a) (passing p (a + 1) n) others (lump_past p (a + 1) n a (omega arith)) (none a)

    go : (b : Bool) → AreDistinct (passing p (a + 1) n ++ others) → AreDistinct (map (lump_item lumps) (cond b (a ∷ filter p (range_with_len (a + 1) n)) (filter p (range_with_len (a + 1) n))) ++ others)
    go true rest = (alone, rest)
    go false rest = rest

  -- their blocks, and their bytes
  lump_blocks : (numbers : List ℕ) → items_size (map (lump_item lumps) numbers) ≡ sum_by (lump_block lumps) numbers
  unfolding lump_block
  lump_blocks [] = refl
  lump_blocks (n ∷ numbers) =
      let rest_sum = lump_blocks numbers in
      let items = sum_by-cons item_block (lump_item lumps n) (map (lump_item lumps) numbers) in
      let blocks = sum_by-cons (lump_block lumps) n numbers in
      omega (arith, rest_sum, items, blocks)

  lumps_read : (numbers : List ℕ) → sum_by lump_size (map (lump_item lumps) numbers) ≡ sum_by (λ lump. (lump_at lumps lump).size) numbers
  lumps_read [] = refl
  lumps_read (n ∷ numbers) =
      let rest_sum = lumps_read numbers in
      let items = sum_by-cons lump_size (lump_item lumps n) (map (lump_item lumps) numbers) in
      let sizes = sum_by-cons (λ (lump : ℕ). (lump_at lumps lump).size) n numbers in
      omega (arith, rest_sum, items, sizes)

-- a composite's item, where it has bytes
abbrev made_items : ℕ → ℕ → Bool → List Item
made_items number size none = cond none [] (made_item number size ∷ [])

made_of_lump : (number size k : ℕ) (none : Bool) → has_owner (made_items number size none) (lump_owner k) ≡ false
made_of_lump number size k true = refl
made_of_lump number size k false = refl

made_past : (number size k : ℕ) (none : Bool) → k < number → has_owner (made_items number size none) (composite_owner k) ≡ false
made_past number size k true l = refl
made_past number size k false l = or_from (is_of (composite_owner k) (made_item number size)) false (ne_eqb k number (λ e. omega arith)) refl

made_itself : (number size : ℕ) (none : Bool) → none ≡ false → has_item (made_items number size none) (composite_owner number) size ≡ true
made_itself number size true e = cc
made_itself number size false e = or_left (is_item (composite_owner number) size (made_item number size)) false (and_from (same_owner (composite_owner number) (composite_owner number)) (size == size) (eq-eqb number number refl) (eq-eqb size size refl))

made_block : (number size : ℕ) (none : Bool) → items_size (made_items number size none) ≡ cond none 0 (block_size size)
made_block number size true = refl
made_block number size false = omega (arith, sum_by-cons item_block (made_item number size) [])

made_unread : (number size : ℕ) (none : Bool) → sum_by lump_size (made_items number size none) ≡ 0
made_unread number size true = refl
made_unread number size false = omega (arith, sum_by-cons lump_size (made_item number size) [])

-- of a texture that may be prepared
one_of_lump : (number k : ℕ) (t : Option PreparedTexture) → has_owner (composite_item number t) (lump_owner k) ≡ false
one_of_lump number k None = refl
one_of_lump number k (Some t) = made_of_lump number (size_of t) k (size_of t == 0)

one_past : (number k : ℕ) (t : Option PreparedTexture) → k < number → has_owner (composite_item number t) (composite_owner k) ≡ false
one_past number k None l = refl
one_past number k (Some t) l = made_past number (size_of t) k (size_of t == 0) l

one_block : (number : ℕ) (t : Option PreparedTexture) → items_size (composite_item number t) ≡ composite_block t
unfolding composite_block block_or_none
one_block number None = refl
one_block number (Some t) = made_block number (size_of t) (size_of t == 0)

one_unread : (number : ℕ) (t : Option PreparedTexture) → sum_by lump_size (composite_item number t) ≡ 0
one_unread number None = refl
one_unread number (Some t) = made_unread number (size_of t) (size_of t == 0)

one_itself : (number : ℕ) (found : Option PreparedTexture) (t : PreparedTexture) → found ≡ Some t → 0 < size_of t → has_item (composite_item number found) (composite_owner number) (size_of t) ≡ true
one_itself number found t is some =
    subst (λ (x : Option PreparedTexture). has_item (composite_item number x) (composite_owner number) (size_of t) ≡ true) (sym is)
    (made_itself number (size_of t) (size_of t == 0) (ne_eqb (size_of t) 0 (λ e. omega (arith, e, some))))

-- no composite is of a lump
composites_of_lump : (ts : List (Option PreparedTexture)) (number k : ℕ) → has_owner (composite_items number ts) (lump_owner k) ≡ false
unfolding composite_items
composites_of_lump [] number k = refl
composites_of_lump (t ∷ ts) number k =
    neither_has (lump_owner k) (composite_item number t) (composite_items (number + 1) ts) (one_of_lump number k t) (composites_of_lump ts (number + 1) k)

-- none is of a texture before them
composites_past : (ts : List (Option PreparedTexture)) (number k : ℕ) → k < number → has_owner (composite_items number ts) (composite_owner k) ≡ false
unfolding composite_items
composites_past [] number k l = refl
composites_past (t ∷ ts) number k l =
    neither_has (composite_owner k) (composite_item number t) (composite_items (number + 1) ts) (one_past number k t l) (composites_past ts (number + 1) k (omega (arith, l)))

-- each is once
made_distinct : (number size : ℕ) (none : Bool) (rest : List Item) → has_owner rest (composite_owner number) ≡ false → AreDistinct rest → AreDistinct (made_items number size none ++ rest)
made_distinct number size true rest past distinct = distinct
made_distinct number size false rest past distinct = (past, distinct)

one_distinct : (number : ℕ) (t : Option PreparedTexture) (rest : List Item) → has_owner rest (composite_owner number) ≡ false → AreDistinct rest → AreDistinct (composite_item number t ++ rest)
one_distinct number None rest past distinct = distinct
one_distinct number (Some t) rest past distinct = made_distinct number (size_of t) (size_of t == 0) rest past distinct

composites_distinct : (ts : List (Option PreparedTexture)) (number : ℕ) → AreDistinct (composite_items number ts)
unfolding composite_items
composites_distinct [] number = tt
composites_distinct (t ∷ ts) number = one_distinct number t (composite_items (number + 1) ts) (composites_past ts (number + 1) number (omega arith)) (composites_distinct ts (number + 1))

-- a sum over their items is one over the textures
composites_sum : (f : Item → ℕ) (g : Option PreparedTexture → ℕ) → ((number : ℕ) (t : Option PreparedTexture) → sum_by f (composite_item number t) ≡ g t) → (ts : List (Option PreparedTexture)) (number : ℕ) → sum_by f (composite_items number ts) ≡ sum_by g ts
unfolding composite_items
composites_sum f g each [] number = refl
composites_sum f g each (t ∷ ts) number =
    let rest_sum = composites_sum f g each ts (number + 1) in
    let joined_sum = sum_by-append f (composite_item number t) (composite_items (number + 1) ts) in
    omega (arith, rest_sum, joined_sum, each number t, sum_by-cons g t ts)

-- their blocks; none of their bytes is read
composite_blocks : (ts : List (Option PreparedTexture)) (number : ℕ) → items_size (composite_items number ts) ≡ sum_by composite_block ts
composite_blocks ts number = composites_sum item_block composite_block one_block ts number

none_summed : {X : Type 0} (xs : List X) → sum_by (λ x. 0) xs ≡ 0
none_summed [] = refl
none_summed (x ∷ xs) = omega (arith, sum_by-cons (λ x. 0) x xs, none_summed xs)

composites_unread : (ts : List (Option PreparedTexture)) (number : ℕ) → sum_by lump_size (composite_items number ts) ≡ 0
composites_unread ts number = composites_sum lump_size (λ t. 0) one_unread ts number ∙ none_summed ts

-- the composite of a prepared texture is among them
composite_among : (ts : List (Option PreparedTexture)) (first k number : ℕ) (t : PreparedTexture) → first + k ≡ number → prepared_at ts k ≡ Some t → 0 < size_of t → has_item (composite_items first ts) (composite_owner number) (size_of t) ≡ true
unfolding composite_items
composite_among [] first k number t e at some = cc
composite_among (x ∷ ts) first zero number t e at some =
    let first_is_number : first ≡ number = omega (arith, e) in
    let own_item = subst (λ (n : ℕ). has_item (composite_item first x) (composite_owner n) (size_of t) ≡ true) first_is_number (one_itself first x t at some) in
    list_any-append (is_item (composite_owner number) (size_of t)) (composite_item first x) (composite_items (first + 1) ts)
    ∙ or_left (has_item (composite_item first x) (composite_owner number) (size_of t)) (has_item (composite_items (first + 1) ts) (composite_owner number) (size_of t)) own_item
composite_among (x ∷ ts) first (suc k) number t e at some =
    list_any-append (is_item (composite_owner number) (size_of t)) (composite_item first x) (composite_items (first + 1) ts)
    ∙ or_right (has_item (composite_item first x) (composite_owner number) (size_of t)) (has_item (composite_items (first + 1) ts) (composite_owner number) (size_of t))
    (composite_among ts (first + 1) k number t (omega (arith, e)) at some)

-- a lump that is needed is asked for
pub items_lump : (loaded : LoadedValue) (lump : ℕ) → is_needed loaded.files.lumps (art_with loaded.scene (loaded_pictures loaded)) lump ≡ true → lump < length loaded.files.lumps →
    has_item (loaded_items loaded) (lump_owner lump) (lump_at loaded.files.lumps lump).size ≡ true
unfolding loaded_items loaded_lumps needed_lumps
items_lump loaded lump needed there =
    let lumps = loaded.files.lumps in
    let size = (lump_at lumps lump).size in
    let numbers = needed_lumps lumps (art_with loaded.scene (loaded_pictures loaded)) in
    let is_among_needed = any_passed (is_needed lumps (art_with loaded.scene (loaded_pictures loaded))) 0 (length lumps) lump (omega arith) (omega (arith, there)) ∙ needed in
    list_any-append (is_item (lump_owner lump) size) (map (lump_item lumps) numbers) (composite_items 0 loaded.scene.prepared)
    ∙ or_left (has_item (map (lump_item lumps) numbers) (lump_owner lump) size) (has_item (composite_items 0 loaded.scene.prepared) (lump_owner lump) size) (item_among lumps numbers lump is_among_needed)

-- a composite that has bytes is asked for
pub items_composite : (loaded : LoadedValue) (number : ℕ) (t : PreparedTexture) → prepared_at loaded.scene.prepared number ≡ Some t → 0 < size_of t → has_item (loaded_items loaded) (composite_owner number) (size_of t) ≡ true
unfolding loaded_items
items_composite loaded number t at some =
    let items = map (lump_item loaded.files.lumps) (loaded_lumps loaded) in
    list_any-append (is_item (composite_owner number) (size_of t)) items (composite_items 0 loaded.scene.prepared)
    ∙ or_right (has_item items (composite_owner number) (size_of t)) (has_item (composite_items 0 loaded.scene.prepared) (composite_owner number) (size_of t))
    (composite_among loaded.scene.prepared 0 number number t (omega arith) at some)

-- a zone that is roomy has room for all of them
pub items_roomy : (loaded : LoadedValue) (zone : ℕ) → (loaded_sizes loaded).roomy ≤ zone → AreRoomy zone (loaded_items loaded)
unfolding loaded_items loaded_lumps loaded_sizes zone_sizes roomy needed_lumps
items_roomy loaded zone fits =
    let lumps = loaded.files.lumps in
    let prepared = loaded.scene.prepared in
    let needed = is_needed lumps (art_with loaded.scene (loaded_pictures loaded)) in
    let numbers = filter needed (range_with_len 0 (length lumps)) in
    let joined_sum = sum_by-append item_block (map (lump_item lumps) numbers) (composite_items 0 prepared) in
    let lump_blocks_sum = lump_blocks lumps numbers in
    let composite_blocks_sum = composite_blocks prepared 0 in
    record {
      distinct = lumps_distinct lumps needed 0 (length lumps) (composite_items 0 prepared) (λ k. composites_of_lump prepared 0 k) (composites_distinct prepared 0);
      room = omega (arith, joined_sum, lump_blocks_sum, composite_blocks_sum, fits);
    }

-- what is live of them has no more bytes that are read than the needed lumps
pub items_read : (loaded : LoadedValue) (blocks : List Block) → live_sum lump_size (loaded_items loaded) blocks ≤ lumps_size loaded
unfolding loaded_items lumps_size
items_read loaded blocks =
    let lumps = loaded.files.lumps in
    let prepared = loaded.scene.prepared in
    let items = map (lump_item lumps) (loaded_lumps loaded) in
    let live_at_most = live_most lump_size (items ++ composite_items 0 prepared) blocks in
    let joined_sum = sum_by-append lump_size items (composite_items 0 prepared) in
    let lump_sizes_sum = lumps_read lumps (loaded_lumps loaded) in
    let composites_read_none = composites_unread prepared 0 in
    omega (arith, live_at_most, joined_sum, lump_sizes_sum, composites_read_none)

-- a call that keeps a zone in order for them reads no more than the needed lumps
pub lumps_taken : (loaded : LoadedValue) {old new : Heap} {before after : ℕ} → KeepsOrder (loaded_items loaded) old new before after → after ≤ before + lumps_size loaded
lumps_taken loaded {new} keeps = omega (arith, keeps.taken, items_read loaded new.blocks)
