-- The run of blocks that a fit stands for, and what stands before it. After a search that found something, a free block of that size stands where it said.
use Rattle.zone_rules.proofs.Common.{◌≡◌, ℕ, ◌+◌, ◌<◌, ◌≤◌, suc, Bool, true, false, cond, not, List, [], ◌∷◌, ◌++◌, length, take, Some, refl, sym, subst, ap, ◌∙◌, arith, inl, inr, length-append, one-add, drop, map, Option, None, ap₂, ⊤, ◌==◌, nat_le, is_none, position_or_len, cond-true, cond-false, ne_eqb, eq-eqb, le-leb, leb-true, and_from, and_cases, or_left, or_right, false≢true, cases_lt, cases_Bool, or_cases, and_parts, append_assoc, map-append, take_at, drop_at, take-map, take-append-drop, sum_by_push}
use Rattle.zone_heap.specs.Rules.{Apart, Block, Holding, RoomAt, Tiles, ends_free_at, free_block, has_place, is_free, is_pinned, is_purgeable, is_purgeable_tag, join_free, pins, purge_block, total}
use Rattle.zone_heap.specs.Walks.{fit_from, run_place, starts_at}
use Rattle.zone_rules.proofs.GapLemmas.{total-cons}
use Rattle.zone_rules.proofs.PurgeLemmas.{Sized, purged_place, purged_twice, pinned_stays, Sized-tiles, tiles_cut}
use Rattle.zone_rules.proofs.JoinLemmas.{EndsHeld, AllFree, join_free-append, run_begins}
use Rattle.zone_heap.proofs.SearchLemmas.{has_low, purged_from, purged_to}

-- no block is pinned; the last one, if any, is pinned; the first one, if any, stands at the place
abbrev pub AllOpen : List Block → Type 0
AllOpen [] = ⊤
AllOpen (b ∷ bs) = (is_pinned b ≡ false) × AllOpen bs

abbrev pub EndsPinned : List Block → Type 0
EndsPinned [] = ⊤
EndsPinned (b ∷ []) = is_pinned b ≡ true
EndsPinned (b ∷ c ∷ bs) = EndsPinned (c ∷ bs)

abbrev pub Heads : ℕ → List Block → Type 0
Heads place [] = ⊤
Heads place (b ∷ bs) = b.place ≡ place

-- the same of a list with one block more
open_push : (xs : List Block) (b : Block) → AllOpen xs → is_pinned b ≡ false → AllOpen (xs ++ b ∷ [])
open_push [] b o p = (p, tt)
open_push (x ∷ xs) b o p = (o.0, open_push xs b o.1 p)

sized_push : (xs : List Block) (b : Block) → Sized xs → 0 < b.size → Sized (xs ++ b ∷ [])
sized_push [] b o p = (p, tt)
sized_push (x ∷ xs) b o p = (o.0, sized_push xs b o.1 p)

ends_push : (xs : List Block) (b : Block) → is_pinned b ≡ true → EndsPinned (xs ++ b ∷ [])
ends_push [] b p = p
ends_push (x ∷ []) b p = p
ends_push (x ∷ y ∷ xs) b p = ends_push (y ∷ xs) b p

heads_push : (place sum : ℕ) (xs : List Block) (b : Block) → Heads place xs → Sized xs → sum ≡ total xs → Heads (run_place place sum b.place) (xs ++ b ∷ [])
heads_push place sum [] b h s e = sym (cond-true (sum == 0) b.place place (eq-eqb sum 0 e))
heads_push place sum (x ∷ xs) b h s e =
    let total_is = total-cons x xs in h ∙ sym (cond-false (sum == 0) b.place place (ne_eqb sum 0 (λ z. let size_positive = s.0 in omega arith)))

total_push : (xs : List Block) (b : Block) → total (xs ++ b ∷ []) ≡ total xs + b.size
total_push xs b = sum_by_push (λ (c : Block). c.size) xs b

-- the list is what stands before the run, the run, and the rest
pub record RunIs (w place upto : ℕ) (bs : List Block) : Type 0 where
  pub before : List Block
  pub run : List Block
  pub rest : List Block
  pub is : bs ≡ before ++ (run ++ rest)
  pub open' : AllOpen run
  pub pinned : EndsPinned before
  pub heads : Heads place run
  pub large : w ≤ total run
  pub upto_is : upto ≡ length before + length run

move_run : (w place upto : ℕ) (bs cs : List Block) → bs ≡ cs → RunIs w place upto bs → RunIs w place upto cs
move_run w place upto bs cs e r = record { before = r.before; run = r.run; rest = r.rest; is = sym e ∙ r.is; open' = r.open'; pinned = r.pinned; heads = r.heads; large = r.large; upto_is = r.upto_is }

regroup : (before run bs : List Block) (b : Block) → before ++ ((run ++ b ∷ []) ++ bs) ≡ before ++ (run ++ b ∷ bs)
regroup before run bs b = ap (λ xs. before ++ xs) (append_assoc run (b ∷ []) bs)

module _ (w : ℕ) (b : Block) (bs : List Block) (place sum i : ℕ) (before run : List Block) (e : sum ≡ total run) (o : AllOpen run) (s : Sized run)
    (size : 0 < b.size) (h : Heads place run) (p : EndsPinned before) (n : i ≡ length before + length run) where
  run_step : (t u : Bool) → is_pinned b ≡ t → nat_le w (sum + b.size) ≡ u
      → (is_pinned b ≡ true → (r : ℕ × ℕ) → fit_from w place 0 (i + 1) bs ≡ Some r → RunIs w r.0 r.1 ((before ++ (run ++ b ∷ [])) ++ ([] ++ bs)))
      → (is_pinned b ≡ false → (r : ℕ × ℕ) → fit_from w (run_place place sum b.place) (sum + b.size) (i + 1) bs ≡ Some r → RunIs w r.0 r.1 (before ++ ((run ++ b ∷ []) ++ bs))) → (r : ℕ × ℕ)
      → cond t (fit_from w place 0 (i + 1) bs) (cond u (Some (run_place place sum b.place, i + 1)) (fit_from w (run_place place sum b.place) (sum + b.size) (i + 1) bs)) ≡ Some r → RunIs w r.0 r.1 (before ++ (run ++ b ∷ bs))
  run_step true u x y anew on r f = move_run w r.0 r.1 _ _ (append_assoc before (run ++ b ∷ []) bs ∙ regroup before run bs b) (anew x r f)
  run_step false false x y anew on r f = move_run w r.0 r.1 _ _ (regroup before run bs b) (on x r f)
  run_step false true x y anew on r f =
      let pair : (run_place place sum b.place ≡ r.0) × (i + 1 ≡ r.1) = some_parts (run_place place sum b.place) (i + 1) r f in
      let total_grown = total_push run b in let large_enough = leb-true w (sum + b.size) y in
      let run_grown = length-append run (b ∷ []) in
      record {
        before = before;
        run = run ++ b ∷ [];
        rest = bs;
        is = sym (regroup before run bs b);
        open' = open_push run b o x;
        pinned = p;
        heads = subst (λ k. Heads k (run ++ b ∷ [])) pair.0 (heads_push place sum run b h s e);
        large = omega arith;
        upto_is = omega arith;
      } where
        some_parts : (x y : ℕ) (r : ℕ × ℕ) → Some (x, y) ≡ Some r → (x ≡ r.0) × (y ≡ r.1)
        some_parts x y r f = let pair_is : ◌≡◌ {A = ℕ × ℕ} (x, y) r = cc in (ap (λ (q : ℕ × ℕ). q.0) pair_is, ap (λ (q : ℕ × ℕ). q.1) pair_is)

-- what the walk found is a run behind the blocks gone over
pub run_found : (w : ℕ) (bs : List Block) (place sum i : ℕ) (before run : List Block) → sum ≡ total run → AllOpen run → Sized run → Sized bs → Heads place run
    → EndsPinned before → i ≡ length before + length run → (r : ℕ × ℕ) → fit_from w place sum i bs ≡ Some r
    → RunIs w r.0 r.1 (before ++ (run ++ bs))
run_found w [] place sum i before run e o s z h p n r f = cc
run_found w (b ∷ bs) place sum i before run e o s z h p n r f =
    run_step w b bs place sum i before run e o s z.0 h p n (is_pinned b) (nat_le w (sum + b.size)) refl refl
    (λ x. run_found w bs place 0 (i + 1) (before ++ (run ++ b ∷ [])) [] refl tt tt z.1 tt (subst EndsPinned (append_assoc before run (b ∷ [])) (ends_push (before ++ run) b x)) (let before_grown = length-append before (run ++ b ∷ []) in let run_grown = length-append run (b ∷ []) in omega (arith, before_grown, run_grown)))
    (λ x. run_found w bs (run_place place sum b.place) (sum + b.size) (i + 1) before (run ++ b ∷ []) (let total_grown = total_push run b in omega arith) (open_push run b o x) (sized_push run b s z.0) z.1 (heads_push place sum run b h s e) p (let run_grown = length-append run (b ∷ []) in omega arith))
    r f

pub run_is : (w place upto : ℕ) (bs : List Block) → Sized bs → Some (place, upto) ≡ fit_from w 0 0 0 bs → RunIs w place upto bs
run_is w place upto bs z f = run_found w bs 0 0 0 [] [] refl tt tt z tt tt refl (place, upto) (sym f)

-- before the start no free block stands last
module _ (r p q : ℕ) (b : Block) (bs : List Block) (t : Tiles p q (b ∷ bs)) (a : Apart (b ∷ bs)) (skip : starts_at r b ≡ false) where
  above : p < r
  above = elim (cases_lt p r) [ inl l ↦ l | inr l ↦ absurd (false≢true (sym skip ∙ or_left _ _ (le-leb r b.place (omega arith)))) ]

  not_ending : b.place + b.size ≡ r → is_free b ≡ false
  not_ending e = go (is_free b) refl where
    go : (u : Bool) → is_free b ≡ u → u ≡ false
    go true x = absurd (false≢true (sym skip ∙ or_right _ _ (and_from (is_free b) (b.place + b.size == r) x (eq-eqb _ _ e))))
    go false x = refl

-- the index of the block that starts the search, by whether it is the first
pos_zero : (r : ℕ) (b : Block) (bs : List Block) → starts_at r b ≡ true → position_or_len (starts_at r) (b ∷ bs) ≡ 0
pos_zero r b bs e = cond-false _ _ _ (ap not e)

pos_suc : (r : ℕ) (b : Block) (bs : List Block) → starts_at r b ≡ false → position_or_len (starts_at r) (b ∷ bs) ≡ suc (position_or_len (starts_at r) bs)
pos_suc r b bs e = cond-true _ _ _ (ap not e) ∙ one-add _

at_start : (r : ℕ) (b : Block) (bs : List Block) → starts_at r b ≡ true → EndsHeld (take (position_or_len (starts_at r) (b ∷ bs)) (b ∷ bs))
at_start r b bs e = subst (λ n. EndsHeld (take n (b ∷ bs))) (sym (pos_zero r b bs e)) tt

-- where the next block starts the search
module _ (r p q : ℕ) (b c : Block) (bs : List Block) (t : Tiles p q (b ∷ c ∷ bs)) (a : Apart (b ∷ c ∷ bs)) (h : has_place r (b ∷ c ∷ bs) ≡ true)
    (skip : starts_at r b ≡ false) where
  low : p + b.size ≤ r
  low =
      let place_below_rover = above r p q b (c ∷ bs) t a skip in let not_at_rover : (b.place == r) ≡ false = ne_eqb b.place r (λ e. omega arith) in
      let place_behind : has_place r (c ∷ bs) ≡ true = rw not_at_rover at h in has_low r (p + b.size) q (c ∷ bs) t.2 place_behind

  next_place : has_place r (c ∷ bs) ≡ true
  next_place =
      let place_below_rover = above r p q b (c ∷ bs) t a skip in let not_here : (b.place == r) ≡ false = ne_eqb b.place r (λ e. omega arith) in rw not_here at h

  held_here : starts_at r c ≡ true → is_free b ≡ false
  held_here e = elim (or_cases (nat_le r c.place) (ends_free_at r c) e) [
    | inl x ↦ (let rover_at_most_place = leb-true r c.place x in let ends_low = low in not_ending r p q b (c ∷ bs) t a skip (omega arith))
    | inr x ↦ (let free_behind = (and_parts (is_free c) _ x).0 in elim (and_cases (is_free b) (is_free c) a.0) [ inl y ↦ y | inr y ↦ absurd (false≢true (sym y ∙ free_behind)) ])
  ]

  held_next : (u : Bool) → starts_at r c ≡ u → EndsHeld (take (position_or_len (starts_at r) (c ∷ bs)) (c ∷ bs))
      → EndsHeld (take (position_or_len (starts_at r) (b ∷ c ∷ bs)) (b ∷ c ∷ bs))
  held_next true e k = subst (λ n. EndsHeld (take n (b ∷ c ∷ bs))) (sym (pos_suc r b (c ∷ bs) skip ∙ ap suc (pos_zero r c bs e))) (held_here e)
  held_next false e k =
      subst (λ n. EndsHeld (take n (b ∷ c ∷ bs))) (sym (pos_suc r b (c ∷ bs) skip ∙ ap suc (pos_suc r c bs e))) (subst (λ n. EndsHeld (take n (c ∷ bs))) (pos_suc r c bs e) k)

last_start : (r p q : ℕ) (b : Block) → Tiles p q (b ∷ []) → Apart (b ∷ []) → has_place r (b ∷ []) ≡ true → starts_at r b ≡ false
    → EndsHeld (take (position_or_len (starts_at r) (b ∷ [])) (b ∷ []))
last_start r p q b t a h skip =
    let place_below_rover = above r p q b [] t a skip in let not_at_rover : (b.place == r) ≡ false = ne_eqb b.place r (λ e. omega arith) in
    let no_place : false ≡ true = rw not_at_rover at h in absurd (false≢true no_place)

-- the blocks before the start of a search end with one that is not free
pub start_held : (r p q : ℕ) (bs : List Block) → Tiles p q bs → Apart bs → has_place r bs ≡ true → EndsHeld (take (position_or_len (starts_at r) bs) bs)
start_held r p q [] t a h = tt
start_held r p q (b ∷ []) t a h = elim (cases_Bool (starts_at r b)) [ inl e ↦ at_start r b [] e | inr e ↦ last_start r p q b t a h e ]
start_held r p q (b ∷ c ∷ bs) t a h =
    elim (cases_Bool (starts_at r b)) [
      | inl e ↦ at_start r b (c ∷ bs) e
      | inr e ↦ held_next r p q b c bs t a h e (starts_at r c) refl (start_held r (p + b.size) q (c ∷ bs) t.2 a.1 (next_place r p q b c bs t a h e))
    ]

-- a purge frees what is not pinned, leaves what is pinned, and keeps sizes
open_frees : (h : Option Holding) → pins h ≡ false → (place size : ℕ) → is_free (purge_block (record { place = place; size = size; holding = h })) ≡ true
open_frees None e place size = refl
open_frees (Some h) e place size = go (is_purgeable_tag h.tag) e where
  go : (t : Bool) → not t ≡ false → is_free (cond t (free_block place size) (record { place = place; size = size; holding = Some h })) ≡ true
  go true e = refl
  go false e = absurd (false≢true (sym e))

pinned_held : (h : Option Holding) → pins h ≡ true → is_none h ≡ false
pinned_held None e = absurd (false≢true e)
pinned_held (Some h) e = refl

purged_held : (b : Block) → is_pinned b ≡ true → is_free (purge_block b) ≡ false
purged_held b e = let block_stays : purge_block b ≡ b = cond-false _ _ _ (pinned_stays b.holding e) in ap is_free block_stays ∙ pinned_held b.holding e

purged_size : (b : Block) → (purge_block b).size ≡ b.size
purged_size b = go (is_purgeable b) where
  go : (t : Bool) → (cond t (free_block b.place b.size) b).size ≡ b.size
  go true = refl
  go false = refl

all_freed : (bs : List Block) → AllOpen bs → AllFree (map purge_block bs)
all_freed [] o = tt
all_freed (b ∷ bs) o = (open_frees b.holding o.0 b.place b.size, all_freed bs o.1)

pub total-purge_block : (bs : List Block) → total (map purge_block bs) ≡ total bs
total-purge_block [] = refl
total-purge_block (b ∷ bs) = total-cons (purge_block b) (map purge_block bs) ∙ ap₂ ◌+◌ (purged_size b) (total-purge_block bs) ∙ sym (total-cons b bs)

-- purged blocks behind others end with one that is not free, if they ended with a pinned one
held_append : (xs ys : List Block) → EndsHeld xs → EndsPinned ys → EndsHeld (xs ++ map purge_block ys)
held_append [] [] h p = tt
held_append [] (y ∷ []) h p = purged_held y p
held_append [] (y ∷ z ∷ ys) h p = held_append [] (z ∷ ys) h p
held_append (x ∷ []) [] h p = h
held_append (x ∷ []) (y ∷ []) h p = purged_held y p
held_append (x ∷ []) (y ∷ z ∷ ys) h p = held_append [] (y ∷ z ∷ ys) tt p
held_append (x ∷ z ∷ xs) ys h p = held_append (z ∷ xs) ys h p

-- a purged run behind blocks that end with one that is not free becomes room at its place
room_in : (w place : ℕ) (front run rest : List Block) → 0 < w → EndsHeld front → AllOpen run → Heads place run → w ≤ total run
    → RoomAt place w (join_free (front ++ (map purge_block run ++ rest)))
room_in w place front [] rest pos e o h l = absurd (let none_wanted : w ≤ 0 = l in omega arith)
room_in w place front (b ∷ run) rest pos e o h l =
    let joined_run = run_begins (purge_block b) (map purge_block run) rest (all_freed (b ∷ run) o) in
    let total_same = total-purge_block (b ∷ run) in
    record {
      front = join_free front;
      size = joined_run.size;
      rest = joined_run.rest;
      is = join_free-append front (map purge_block (b ∷ run) ++ rest) e ∙ ap (λ xs. join_free front ++ xs) joined_run.is
          ∙ ap (λ n. join_free front ++ (free_block n joined_run.size ∷ joined_run.rest)) (purged_place b ∙ h);
      large = let run_large = joined_run.large in omega arith;
    }

-- so many blocks are those before the run, and the run
parts_taken : (before run rest : List Block) (n : ℕ) → n ≡ length before + length run
    → (take n (before ++ (run ++ rest)) ≡ before ++ run) × (drop n (before ++ (run ++ rest)) ≡ rest)
parts_taken before run rest n e =
    let front_length : length (before ++ run) ≡ n = length-append before run ∙ sym e in
    let grouped = sym (append_assoc before run rest) in (
      ap (take n) grouped ∙ take_at (before ++ run) rest n front_length,
      ap (drop n) grouped ∙ drop_at (before ++ run) rest n front_length,
    )

room_at_run : (w place upto : ℕ) (front bs : List Block) → 0 < w → EndsHeld front → RunIs w place upto bs → RoomAt place w (join_free (front ++ purged_to upto bs))
room_at_run w place upto front bs pos e r =
    let cut = parts_taken r.before r.run r.rest upto r.upto_is in
    let shape : front ++ purged_to upto bs ≡ (front ++ map purge_block r.before) ++ (map purge_block r.run ++ r.rest) =
    ap (λ xs. front ++ purged_to upto xs) r.is ∙ ap₂ (λ xs ys. front ++ (map purge_block xs ++ ys)) cut.0 cut.1
    ∙ ap (λ xs. front ++ (xs ++ r.rest)) (map-append purge_block r.before r.run)
    ∙ ap (λ xs. front ++ xs) (append_assoc (map purge_block r.before) (map purge_block r.run) r.rest)
    ∙ sym (append_assoc front (map purge_block r.before) (map purge_block r.run ++ r.rest)) in
    subst (λ xs. RoomAt place w (join_free xs)) (sym shape) (room_in w place (front ++ map purge_block r.before) r.run r.rest pos (held_append front r.before e r.pinned) r.open' r.heads r.large)

map_purged_twice : (bs : List Block) → map purge_block (map purge_block bs) ≡ map purge_block bs
map_purged_twice [] = refl
map_purged_twice (b ∷ bs) = ap₂ ◌∷◌ (purged_twice b) (map_purged_twice bs)

-- a purge of all frees the same after a purge of some
cleared_purged : (s : ℕ) (bs : List Block) → map purge_block (purged_from s bs) ≡ map purge_block bs
cleared_purged s bs =
    map-append purge_block (take s bs) (map purge_block (drop s bs)) ∙ ap (λ xs. map purge_block (take s bs) ++ xs) (map_purged_twice (drop s bs))
    ∙ sym (map-append purge_block (take s bs) (drop s bs)) ∙ ap (map purge_block) (take-append-drop s bs)

module _ (w rover p q : ℕ) (bs : List Block) (pos : 0 < w) (t : Tiles p q bs) (a : Apart bs) (at : has_place rover bs ≡ true) (s : ℕ)
    (starts : s ≡ position_or_len (starts_at rover) bs) where
  pub room_first : (place upto : ℕ) → Some (place, upto) ≡ fit_from w 0 0 0 (drop s bs) → RoomAt place w (join_free (take s bs ++ purged_to upto (drop s bs)))
  room_first place upto e =
      let tiles = tiles_cut s p q bs t in
      let new_holding : EndsHeld (take s bs) = subst (λ n. EndsHeld (take n bs)) (sym starts) (start_held rover p q bs t a at) in
      room_at_run w place upto (take s bs) (drop s bs) pos new_holding (run_is w place upto (drop s bs) (Sized-tiles tiles.at q (drop s bs) tiles.second) e)

  pub room_second : (place upto : ℕ) → Some (place, upto) ≡ fit_from w 0 0 0 bs → RoomAt place w (join_free (purged_to upto (purged_from s bs)))
  room_second place upto e =
      let cleared = purged_from s bs in let run_there = run_is w place upto bs (Sized-tiles p q bs t) e in
      let cut = parts_taken run_there.before run_there.run run_there.rest upto run_there.upto_is in
      let top : map purge_block (take upto cleared) ≡ map purge_block run_there.before ++ map purge_block run_there.run =
      sym (take-map purge_block upto cleared) ∙ ap (take upto) (cleared_purged s bs) ∙ take-map purge_block upto bs
      ∙ ap (λ xs. map purge_block (take upto xs)) run_there.is ∙ ap (map purge_block) cut.0 ∙ map-append purge_block run_there.before run_there.run in
      let shape : purged_to upto cleared ≡ map purge_block run_there.before ++ (map purge_block run_there.run ++ drop upto cleared) =
      ap (λ xs. xs ++ drop upto cleared) top ∙ append_assoc (map purge_block run_there.before) (map purge_block run_there.run) (drop upto cleared) in
      subst (λ xs. RoomAt place w (join_free xs)) (sym shape) (room_in w place (map purge_block run_there.before) run_there.run (drop upto cleared) pos (held_append [] run_there.before tt run_there.pinned) run_there.open' run_there.heads run_there.large)
