-- Where a search starts. What a search finds and purges, by the index at which it starts.
use Rattle.zone_rules.proofs.Common.{◌≡◌, ℕ, ◌+◌, ◌<◌, ◌≤◌, suc, Bool, true, false, cond, not, List, [], ◌∷◌, drop, find, Some, None, refl, sym, ap, ◌∙◌, arith, inl, inr, one-add, ◌-◌, ◌++◌, length, take, map, subst, ap₂, option_map, count_by, add-zero, zero-add, ◌==◌, ◌⊎◌, position_or_len, cond-true, cond-false, le-leb, lt-leb, ne_eqb, or_left, or_from, or_right, and_right, false≢true, cases_lt, append_assoc, take-append-drop, take-map, drop-map}
use Rattle.zone_heap.specs.Rules.{Block, Tiles, blocks_from, count_among, ends_free_at, first_place, first_room, gaps, has_place, holds, is_free, is_purgeable, least_front, passed_blocks, place_or, purge_among, purge_block, start_in, stretches}
use Rattle.zone_heap.specs.Walks.{starts_at, fit_from, SearchIs}
use Rattle.zone_rules.proofs.GapLemmas.{all_from}
use Rattle.zone_heap.proofs.WalkLemmas.{passed_by_walk, found_by_walk}
use Rattle.zone_heap.proofs.FitLemmas.{FitMeans, fit_walk}
use Rattle.zone_rules.proofs.PurgeLemmas.{unpinned, Covers, Misses, covers_itself, covers_after, covers_kept, purge_covered, purge_missed, purge_among-append, purge_twice, misses_kept, count_covered, count_missed, count_among-append, count_twice, tiles_cut, misses_after, misses_before, misses_below, tiles_within, unpinned_within, Sized-tiles}

-- the blocks, the purgeable ones freed among the first so many, or behind these
abbrev pub purged_to : ℕ → List Block → List Block
purged_to n bs = map purge_block (take n bs) ++ drop n bs

abbrev pub purged_from : ℕ → List Block → List Block
purged_from n bs = take n bs ++ map purge_block (drop n bs)

-- no block ends at a place that lies before all of them
none_ends : (r p q : ℕ) (bs : List Block) → Tiles p q bs → r ≤ p → find (ends_free_at r) bs ≡ None
none_ends r p q [] t h = refl
none_ends r p q (b ∷ bs) t h =
    let rover_not_at_end : (b.place + b.size == r) ≡ false = ne_eqb (b.place + b.size) r (λ e. omega arith) in
    let not_ending : ends_free_at r b ≡ false = and_right (is_free b) _ rover_not_at_end in
    rw not_ending (none_ends r (p + b.size) q bs t.2 (omega arith))

-- the place of a block does not lie before the first one
pub has_low : (r p q : ℕ) (bs : List Block) → Tiles p q bs → has_place r bs ≡ true → p ≤ r
has_low r p q [] t h = absurd (false≢true h)
has_low r p q (b ∷ bs) t h = elim (cases_lt r p) [ inl lt ↦ (let not_at_rover : (b.place == r) ≡ false = ne_eqb b.place r (λ e. omega arith) in let place_behind : has_place r bs ≡ true = rw not_at_rover at h in let end_at_most_rover = has_low r (p + b.size) q bs t.2 place_behind in absurd (omega arith)) | inr le ↦ le ]

start_low : (x r p q : ℕ) (bs : List Block) → x ≤ p → x ≤ r → Tiles p q bs → x ≤ start_in r bs
start_low x r p q [] h k t = k
start_low x r p q (b ∷ bs) h k t = go (ends_free_at r b) (start_low x r (p + b.size) q bs (omega arith) k t.2) where
  go : (u : Bool) → x ≤ place_or r (find (ends_free_at r) bs) → x ≤ place_or r (cond u (Some b) (find (ends_free_at r) bs))
  go true l = omega arith
  go false l = l

module _ (r p q : ℕ) (b : Block) (bs : List Block) (t : Tiles p q (b ∷ bs)) where
  begins : starts_at r b ≡ true → position_or_len (starts_at r) (b ∷ bs) ≡ 0
  begins e = cond-false _ _ _ (ap not e)

  at_once : r ≡ p → blocks_from (start_in r (b ∷ bs)) (b ∷ bs) ≡ drop (position_or_len (starts_at r) (b ∷ bs)) (b ∷ bs)
  at_once e =
      let starts_at_rover : start_in r (b ∷ bs) ≡ r = ap (place_or r) (none_ends r p q (b ∷ bs) t (omega arith)) in
      ap (λ k. blocks_from k (b ∷ bs)) starts_at_rover ∙ all_from r p q (b ∷ bs) t (omega arith)
      ∙ sym (ap (λ n. drop n (b ∷ bs)) (begins (or_left _ _ (le-leb r b.place (omega arith)))))

  at_free : ends_free_at r b ≡ true → blocks_from (start_in r (b ∷ bs)) (b ∷ bs) ≡ drop (position_or_len (starts_at r) (b ∷ bs)) (b ∷ bs)
  at_free e =
      let starts_at_block : start_in r (b ∷ bs) ≡ b.place = ap (place_or r) (cond-true (ends_free_at r b) (Some b) (find (ends_free_at r) bs) e) in
      ap (λ k. blocks_from k (b ∷ bs)) starts_at_block ∙ all_from b.place p q (b ∷ bs) t (omega arith) ∙ sym (ap (λ n. drop n (b ∷ bs)) (begins (or_right _ _ e)))

  further : p < r → ends_free_at r b ≡ false → p + b.size ≤ r → blocks_from (start_in r bs) bs ≡ drop (position_or_len (starts_at r) bs) bs
      → blocks_from (start_in r (b ∷ bs)) (b ∷ bs) ≡ drop (position_or_len (starts_at r) (b ∷ bs)) (b ∷ bs)
  further h e k rest =
      let starts_behind : start_in r (b ∷ bs) ≡ start_in r bs = ap (place_or r) (cond-false (ends_free_at r b) (Some b) (find (ends_free_at r) bs) e) in
      let low = start_low (p + b.size) r (p + b.size) q bs (omega arith) k t.2 in
      let not_at_rover : starts_at r b ≡ false = or_from _ _ (lt-leb r b.place (omega arith)) e in
      let position_step : position_or_len (starts_at r) (b ∷ bs) ≡ suc (position_or_len (starts_at r) bs) = cond-true _ _ _ (ap not not_at_rover) ∙ one-add _ in
      ap (λ k. blocks_from k (b ∷ bs)) starts_behind ∙ cond-false _ _ _ (lt-leb (start_in r bs) b.place (omega arith)) ∙ rest ∙ sym (ap (λ n. drop n (b ∷ bs)) position_step)

-- the blocks from the start on are those from the first that starts the search on
pub start_is : (r p q : ℕ) (bs : List Block) → Tiles p q bs → has_place r bs ≡ true → blocks_from (start_in r bs) bs ≡ drop (position_or_len (starts_at r) bs) bs
start_is r p q [] t h = refl
start_is r p q (b ∷ bs) t h = pick (cases_lt p r) (ends_free_at r b) refl (λ k. start_is r (p + b.size) q bs t.2 k) where
  pick : (p < r) ⊎ (r ≤ p) → (u : Bool) → ends_free_at r b ≡ u
      → (has_place r bs ≡ true → blocks_from (start_in r bs) bs ≡ drop (position_or_len (starts_at r) bs) bs)
      → blocks_from (start_in r (b ∷ bs)) (b ∷ bs) ≡ drop (position_or_len (starts_at r) (b ∷ bs)) (b ∷ bs)
  pick (inr l) u e rest = let low = has_low r p q (b ∷ bs) t h in at_once r p q b bs t (omega arith)
  pick (inl l) true e rest = at_free r p q b bs t e
  pick (inl l) false e rest =
      let not_at_rover : (b.place == r) ≡ false = ne_eqb b.place r (λ x. omega arith) in let place_behind : has_place r bs ≡ true = rw not_at_rover at h in
      further r p q b bs t l e (has_low r (p + b.size) q bs t.2 place_behind) (rest place_behind)

-- a gap that holds is looked for in the first list, and then in the second
pub found_later : (w : ℕ) (gs hs : List (List Block)) → first_room w gs ≡ None
    → (first_room w (gs ++ hs) ≡ first_room w hs) × (passed_blocks w (gs ++ hs) ≡ passed_blocks w gs ++ passed_blocks w hs)
found_later w [] hs e = (refl, refl)
found_later w (g ∷ gs) hs e = go (holds w g) e (λ k. found_later w gs hs k) where
  go : (t : Bool) → option_map first_place (cond t (Some g) (find (holds w) gs)) ≡ None
      → (first_room w gs ≡ None → (first_room w (gs ++ hs) ≡ first_room w hs) × (passed_blocks w (gs ++ hs) ≡ passed_blocks w gs ++ passed_blocks w hs))
      → (option_map first_place (cond t (Some g) (find (holds w) (gs ++ hs))) ≡ first_room w hs) × (cond t (least_front w g) (g ++ passed_blocks w (gs ++ hs)) ≡ cond t (least_front w g) (g ++ passed_blocks w gs) ++ passed_blocks w hs)
  go true e rest = cc
  go false e rest =
      let found_behind = rest e in (found_behind.0, ap (λ xs. g ++ xs) found_behind.1 ∙ sym (append_assoc g (passed_blocks w gs) (passed_blocks w hs)))

pub found_first : (w p : ℕ) (gs hs : List (List Block)) → first_room w gs ≡ Some p
    → (first_room w (gs ++ hs) ≡ Some p) × (passed_blocks w (gs ++ hs) ≡ passed_blocks w gs)
found_first w p [] hs e = cc
found_first w p (g ∷ gs) hs e = go (holds w g) e (λ k. found_first w p gs hs k) where
  go : (t : Bool) → option_map first_place (cond t (Some g) (find (holds w) gs)) ≡ Some p
      → (first_room w gs ≡ Some p → (first_room w (gs ++ hs) ≡ Some p) × (passed_blocks w (gs ++ hs) ≡ passed_blocks w gs))
      → (option_map first_place (cond t (Some g) (find (holds w) (gs ++ hs))) ≡ Some p) × (cond t (least_front w g) (g ++ passed_blocks w (gs ++ hs)) ≡ cond t (least_front w g) (g ++ passed_blocks w gs))
  go true e rest = (e, refl)
  go false e rest = let found_before = rest e in (found_before.0, ap (λ xs. g ++ xs) found_before.1)

-- what a fit says of the gaps
pub record FitIs (w : ℕ) (bs : List Block) (place upto : ℕ) : Type 0 where
  pub place_is : first_room w (gaps bs) ≡ Some place
  pub upto_le : upto ≤ length bs
  pub passed_is : passed_blocks w (gaps bs) ≡ unpinned (take upto bs)

pub record NoFit (w : ℕ) (bs : List Block) : Type 0 where
  pub none : first_room w (gaps bs) ≡ None
  pub passed_is : passed_blocks w (gaps bs) ≡ unpinned bs

fit_some : (w : ℕ) (bs : List Block) (r : ℕ × ℕ) → FitMeans w w None 0 bs (Some r) → FitIs w bs r.0 r.1
fit_some w bs r m = record {
  place_is = sym (found_by_walk w bs) ∙ m.0;
  upto_le = omega arith;
  passed_is = sym (passed_by_walk w bs) ∙ m.3 ∙ ap (λ n. unpinned (take n bs)) (let upto_is : r.1 - 0 ≡ r.1 = omega arith in upto_is);
}

fit_none : (w : ℕ) (bs : List Block) → FitMeans w w None 0 bs None → NoFit w bs
fit_none w bs m = record { none = sym (found_by_walk w bs) ∙ m.0; passed_is = sym (passed_by_walk w bs) ∙ m.1 }

-- a fit of the walk is the first gap that holds, and no fit is no such gap
pub fit_is : (w p q : ℕ) (bs : List Block) (r : ℕ × ℕ) → 0 < w → Tiles p q bs → fit_from w 0 0 0 bs ≡ Some r → FitIs w bs r.0 r.1
fit_is w p q bs r pos t e = fit_some w bs r (subst (FitMeans w w None 0 bs) e (fit_walk w bs w 0 0 0 (omega arith) pos (Sized-tiles p q bs t)))

pub no_fit : (w p q : ℕ) (bs : List Block) → 0 < w → Tiles p q bs → fit_from w 0 0 0 bs ≡ None → NoFit w bs
no_fit w p q bs pos t e = fit_none w bs (subst (FitMeans w w None 0 bs) e (fit_walk w bs w 0 0 0 (omega arith) pos (Sized-tiles p q bs t)))

-- a purge of what is not pinned in the first of two parts, or in the second
pub purge_part : (p q n : ℕ) (bs : List Block) → Tiles p q bs → purge_among (unpinned (take n bs)) bs ≡ purged_to n bs
purge_part p q n bs t =
    ap (purge_among (unpinned (take n bs))) (sym (take-append-drop n bs)) ∙ purge_among-append (unpinned (take n bs)) (take n bs) (drop n bs)
    ∙ ap₂ ◌++◌ (purge_covered _ (take n bs) (covers_itself (take n bs))) (purge_missed _ (drop n bs) (misses_after p q (take n bs) (drop n bs) (tiles_cut n p q bs t)))

pub count_part : (p q n : ℕ) (bs : List Block) → Tiles p q bs → count_among (unpinned (take n bs)) bs ≡ count_by is_purgeable (take n bs)
count_part p q n bs t =
    ap (count_among (unpinned (take n bs))) (sym (take-append-drop n bs)) ∙ count_among-append (unpinned (take n bs)) (take n bs) (drop n bs)
    ∙ ap₂ ◌+◌ (count_covered _ (take n bs) (covers_itself (take n bs))) (count_missed _ (drop n bs) (misses_after p q (take n bs) (drop n bs) (tiles_cut n p q bs t))) ∙ add-zero _

pub purge_back : (p q n : ℕ) (bs : List Block) → Tiles p q bs → purge_among (unpinned (drop n bs)) bs ≡ purged_from n bs
purge_back p q n bs t =
    ap (purge_among (unpinned (drop n bs))) (sym (take-append-drop n bs)) ∙ purge_among-append (unpinned (drop n bs)) (take n bs) (drop n bs)
    ∙ ap₂ ◌++◌ (purge_missed _ (take n bs) (misses_before p q (take n bs) (drop n bs) (tiles_cut n p q bs t))) (purge_covered _ (drop n bs) (covers_itself (drop n bs)))

pub count_back : (p q n : ℕ) (bs : List Block) → Tiles p q bs → count_among (unpinned (drop n bs)) bs ≡ count_by is_purgeable (drop n bs)
count_back p q n bs t =
    ap (count_among (unpinned (drop n bs))) (sym (take-append-drop n bs)) ∙ count_among-append (unpinned (drop n bs)) (take n bs) (drop n bs)
    ∙ ap₂ ◌+◌ (count_missed _ (take n bs) (misses_before p q (take n bs) (drop n bs) (tiles_cut n p q bs t))) (count_covered _ (drop n bs) (covers_itself (drop n bs))) ∙ zero-add _

module _ (w rover p q : ℕ) (bs : List Block) (t : Tiles p q bs) (at : has_place rover bs ≡ true) (s : ℕ) (starts : s ≡ position_or_len (starts_at rover) bs) where
  stretches_are : stretches rover bs ≡ gaps (drop s bs) ++ gaps bs
  stretches_are = ap (λ xs. gaps xs ++ gaps bs) (start_is rover p q bs t at ∙ ap (λ n. drop n bs) (sym starts))

  -- no block before the start is passed from the start on
  missed_front : (n : ℕ) → Misses (unpinned (take n (drop s bs))) (take s bs)
  missed_front n =
      let front_tiles = tiles_cut s p q bs t in
      let passed_tiles = tiles_cut n front_tiles.at q (drop s bs) front_tiles.second in
      misses_below front_tiles.at passed_tiles.at p front_tiles.at (unpinned (take n (drop s bs))) (take s bs) (unpinned_within front_tiles.at passed_tiles.at (take n (drop s bs)) (tiles_within front_tiles.at passed_tiles.at (take n (drop s bs)) passed_tiles.first)) (omega arith) (tiles_within p front_tiles.at (take s bs) front_tiles.first)

  -- found from the start on
  pub in_first : (place upto : ℕ) → FitIs w (drop s bs) place upto
      → SearchIs w rover bs (Some place) (take s bs ++ purged_to upto (drop s bs)) (count_by is_purgeable (take upto (drop s bs)))
  in_first place upto f =
      let front_tiles = tiles_cut s p q bs t in
      let found_from_start = found_first w place (gaps (drop s bs)) (gaps bs) f.place_is in
      let unpinned_passed : passed_blocks w (stretches rover bs) ≡ unpinned (take upto (drop s bs)) =
      ap (passed_blocks w) stretches_are ∙ found_from_start.1 ∙ f.passed_is in
      record {
        place_is = ap (first_room w) stretches_are ∙ found_from_start.0;
        after_is =
            ap (λ ch. purge_among ch bs) unpinned_passed ∙ ap (purge_among (unpinned (take upto (drop s bs)))) (sym (take-append-drop s bs))
            ∙ purge_among-append _ (take s bs) (drop s bs)
            ∙ ap₂ ◌++◌ (purge_missed _ (take s bs) (missed_front upto)) (purge_part front_tiles.at q upto (drop s bs) front_tiles.second);
        count_is =
            ap (λ ch. count_among ch bs) unpinned_passed ∙ ap (count_among (unpinned (take upto (drop s bs)))) (sym (take-append-drop s bs))
            ∙ count_among-append _ (take s bs) (drop s bs)
            ∙ ap₂ ◌+◌ (count_missed _ (take s bs) (missed_front upto)) (count_part front_tiles.at q upto (drop s bs) front_tiles.second) ∙ zero-add _;
      }

  abbrev cleared : List Block
  cleared = purged_from s bs

  -- found from place 0 on
  pub in_second : (place upto : ℕ) → NoFit w (drop s bs) → FitIs w bs place upto
      → SearchIs w rover bs (Some place) (purged_to upto cleared) (count_by is_purgeable (drop s bs) + count_by is_purgeable (take upto cleared))
  in_second place upto n f =
      let behind_start = unpinned (drop s bs) in let front = unpinned (take upto bs) in
      let found_from_zero = found_later w (gaps (drop s bs)) (gaps bs) n.none in
      let passed_are : passed_blocks w (stretches rover bs) ≡ behind_start ++ front = ap (passed_blocks w) stretches_are ∙ found_from_zero.1 ∙ ap₂ ◌++◌ n.passed_is f.passed_is in
      let purged_is_cleared : purge_among behind_start bs ≡ cleared = purge_back p q s bs t in
      let top : purge_among behind_start (take upto bs) ≡ take upto cleared = sym (take-map _ upto bs) ∙ ap (take upto) purged_is_cleared in
      let bottom : purge_among behind_start (drop upto bs) ≡ drop upto cleared = sym (drop-map _ upto bs) ∙ ap (drop upto) purged_is_cleared in
      let purged_by_halves : purge_among behind_start bs ≡ purge_among behind_start (take upto bs) ++ purge_among behind_start (drop upto bs) =
      ap (purge_among behind_start) (sym (take-append-drop upto bs)) ∙ purge_among-append behind_start (take upto bs) (drop upto bs) in
      let is_covered : Covers front (purge_among behind_start (take upto bs)) = covers_kept front behind_start (take upto bs) (covers_itself (take upto bs)) in
      let misses : Misses front (purge_among behind_start (drop upto bs)) =
      misses_kept front behind_start (drop upto bs) (misses_after p q (take upto bs) (drop upto bs) (tiles_cut upto p q bs t)) in
      record {
        place_is = ap (first_room w) stretches_are ∙ found_from_zero.0 ∙ f.place_is;
        after_is =
            ap (λ c. purge_among c bs) passed_are ∙ purge_twice behind_start front bs ∙ ap (purge_among front) purged_by_halves
            ∙ purge_among-append front (purge_among behind_start (take upto bs)) (purge_among behind_start (drop upto bs))
            ∙ ap₂ ◌++◌ (purge_covered front _ is_covered ∙ ap (map purge_block) top) (purge_missed front _ misses ∙ bottom);
        count_is =
            ap (λ c. count_among c bs) passed_are ∙ count_twice behind_start front bs ∙ ap₂ ◌+◌ (count_back p q s bs t)
            (ap (count_among front) purged_by_halves ∙ count_among-append front (purge_among behind_start (take upto bs)) (purge_among behind_start (drop upto bs)) ∙ ap₂ ◌+◌ (count_covered front _ is_covered ∙ ap (count_by is_purgeable) top) (count_missed front _ misses) ∙ add-zero _);
      }

  -- not found
  pub nowhere : NoFit w (drop s bs) → NoFit w bs → SearchIs w rover bs None (map purge_block bs) (count_by is_purgeable bs)
  nowhere n f =
      let found_from_zero = found_later w (gaps (drop s bs)) (gaps bs) n.none in
      let passed_are : passed_blocks w (stretches rover bs) ≡ unpinned (drop s bs) ++ unpinned bs =
      ap (passed_blocks w) stretches_are ∙ found_from_zero.1 ∙ ap₂ ◌++◌ n.passed_is f.passed_is in
      let covers_all = covers_after (unpinned (drop s bs)) (unpinned bs) bs (covers_itself bs) in
      record {
        place_is = ap (first_room w) stretches_are ∙ found_from_zero.0 ∙ f.none;
        after_is = ap (λ c. purge_among c bs) passed_are ∙ purge_covered _ bs covers_all;
        count_is = ap (λ c. count_among c bs) passed_are ∙ count_covered _ bs covers_all;
      }

module _ (w rover p q : ℕ) (bs : List Block) (pos : 0 < w) (t : Tiles p q bs) (at : has_place rover bs ≡ true) (s : ℕ)
    (starts : s ≡ position_or_len (starts_at rover) bs) where
  pub fit_first : (place upto : ℕ) → Some (place, upto) ≡ fit_from w 0 0 0 (drop s bs)
      → SearchIs w rover bs (Some place) (take s bs ++ purged_to upto (drop s bs)) (count_by is_purgeable (take upto (drop s bs)))
  fit_first place upto e = let front_tiles = tiles_cut s p q bs t in
      in_first w rover p q bs t at s starts place upto (fit_is w front_tiles.at q (drop s bs) (place, upto) pos front_tiles.second (sym e))

  pub fit_second : (place upto : ℕ) → None ≡ fit_from w 0 0 0 (drop s bs) → Some (place, upto) ≡ fit_from w 0 0 0 bs
      → SearchIs w rover bs (Some place) (purged_to upto (purged_from s bs)) (count_by is_purgeable (drop s bs) + count_by is_purgeable (take upto (purged_from s bs)))
  fit_second place upto n e = let front_tiles = tiles_cut s p q bs t in in_second w rover p q bs t at s starts place upto (no_fit w front_tiles.at q (drop s bs) pos front_tiles.second (sym n)) (fit_is w p q bs (place, upto) pos t (sym e))

  pub fit_never : None ≡ fit_from w 0 0 0 (drop s bs) → None ≡ fit_from w 0 0 0 bs → SearchIs w rover bs None (map purge_block bs) (count_by is_purgeable bs)
  fit_never n e = let front_tiles = tiles_cut s p q bs t in
      nowhere w rover p q bs t at s starts (no_fit w front_tiles.at q (drop s bs) pos front_tiles.second (sym n)) (no_fit w p q bs pos t (sym e))
