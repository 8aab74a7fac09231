use Rattle.zone_rules.proofs.Common.{arith, ◌≡◌, ◌+◌, ◌++◌, ◌≤◌, [], ap, ap₂, sym, ◌∙◌, take, drop, subst, map, count_by, length, List, ℕ, Option, Some, None, position_or_len, take_at, drop_at, take_all, drop_all, append-nil, length-append}
use Rattle.zone_heap.specs.Rules.{Block, RoomAt, Tiles, is_purgeable, join_free, purge_block}
use Rattle.zone_heap.specs.declared.homes.Homes.{Homes}
use Rattle.zone_heap.specs.Walks.{fit_from, starts_at, CanSearch, SearchIs}
use Rattle.zone_heap.proofs.SearchLemmas.{fit_first, fit_second, fit_never, purged_from, purged_to}
use Rattle.zone_heap.proofs.RunLemmas.{room_first, room_second}
use Rattle.zone_rules.proofs.SoundLemmas.{few_tiles}
use Rattle.zone_heap.specs.Regions.{blocks_in, blocks_from, IsLaid, IsSplit}
use Rattle.zone_heap.proofs.PartLemmas.{split_first, blocks_laid, blocks_split, length-blocks, tiles_laid}
use Rattle.zone_heap.proofs.search.clear_way.Goals as goal

with_after : (w rover : ℕ) (bs : List Block) (place : Option ℕ) (new new' : List Block) (n n' : ℕ) → SearchIs w rover bs place new n → new' ≡ new → n' ≡ n
    → SearchIs w rover bs place new' n'
with_after w rover bs place new new' n n' s e f = record { place_is = s.place_is; after_is = s.after_is ∙ sym e; count_is = s.count_is ∙ sym f }

pub tiles_region : (region : List ℕ) → IsLaid region → Tiles 0 (length region) (blocks_in region)
tiles_region region l =
    subst (Tiles 0 (length region)) (sym (blocks_laid region l)) (subst (λ n. Tiles 0 n (blocks_from 0 l.parts)) (let region_length = ap length l.is in omega arith) (tiles_laid 0 l.parts l.whole))

module _ (region : List ℕ) (laid : IsLaid region) (start : ℕ) (s : IsSplit region start) where
  abbrev bs : List Block
  bs = blocks_in region

  abbrev front : List Block
  front = blocks_from 0 s.front

  abbrev rest : List Block
  rest = blocks_from start s.rest

  parted : bs ≡ front ++ rest
  parted = blocks_split region start s

  front_is : take (length s.front) bs ≡ front
  front_is = ap (take (length s.front)) parted ∙ take_at front rest (length s.front) (length-blocks 0 s.front)

  rest_is : drop (length s.front) bs ≡ rest
  rest_is = ap (drop (length s.front)) parted ∙ drop_at front rest (length s.front) (length-blocks 0 s.front)

  few : length bs ≤ length region
  few = let blocks_few = few_tiles 0 (length region) bs (tiles_region region laid) in omega arith

  few_rest : length rest ≤ length region
  few_rest = let blocks_few = few in let both_length = ap length parted ∙ length-append front rest in omega arith

  -- the rest purged whole
  cleared : (new : List Block) → new ≡ front ++ purged_to (length region) rest → new ≡ purged_from (length s.front) bs
  cleared new e =
      e ∙ ap₂ (λ xs ys. front ++ (map purge_block xs ++ ys)) (take_all (length region) rest few_rest) (drop_all (length region) rest few_rest)
      ∙ ap (λ xs. front ++ xs) (append-nil (map purge_block rest))
      ∙ ap₂ (λ xs ys. xs ++ map purge_block ys) (sym front_is) (sym rest_is)

  counted : count_by is_purgeable (take (length region) rest) ≡ count_by is_purgeable (drop (length s.front) bs)
  counted = ap (count_by is_purgeable) (take_all (length region) rest few_rest ∙ sym rest_is)

  parts_again : (new : List Block) (e : ℕ) → new ≡ front ++ purged_to e rest → new ≡ take (length s.front) bs ++ purged_to e (drop (length s.front) bs)
  parts_again new e k = k ∙ ap₂ (λ xs ys. xs ++ purged_to e ys) (sym front_is) (sym rest_is)

-- a purge from the region's start
from_first : (region : List ℕ) (laid : IsLaid region) (new : List Block) (e : ℕ) → new ≡ [] ++ purged_to e (blocks_from 0 laid.parts)
    → new ≡ purged_to e (blocks_in region)
from_first region laid new e k = k ∙ ap (purged_to e) (sym (blocks_laid region laid))

-- what a search that ended from the start on, or from the front on, found and left
module _ (homes : Homes) (rover wanted : ℕ) (region : List ℕ) (q : CanSearch homes rover wanted region) (start : ℕ)
    (split : (s : IsSplit region start) × (length s.front ≡ position_or_len (starts_at rover) (blocks_in region))) (place e : ℕ) where
  abbrev s : IsSplit region start
  s = split.0

  found_first : ((s : IsSplit region start) → Some (place, e) ≡ fit_from wanted 0 0 0 (blocks_from start s.rest)) → (new : List Block)
      → ((s : IsSplit region start) → new ≡ blocks_from 0 s.front ++ purged_to e (blocks_from start s.rest))
      → (n : ℕ) → ((s : IsSplit region start) → n ≡ count_by is_purgeable (take e (blocks_from start s.rest)))
      → SearchIs wanted rover (blocks_in region) (Some place) new n × RoomAt place wanted (join_free new)
  found_first fit new left n count =
      let rest_same = sym (rest_is region q.laid start s) in let fit_here = fit s ∙ ap (fit_from wanted 0 0 0) rest_same in
      let blocks_are = parts_again region q.laid start s new e (left s) in
      let search_is =
      fit_first _ _ _ _ _ q.positive (tiles_region region q.laid) q.rover_is _ split.1 place e fit_here in (
        with_after _ _ _ _ _ _ _ _ search_is blocks_are (count s ∙ ap (λ bs. count_by is_purgeable (take e bs)) rest_same),
        subst (λ bs. RoomAt place wanted (join_free bs)) (sym blocks_are) (room_first _ rover _ _ _ q.positive (tiles_region region q.laid) q.apart q.rover_is (length s.front) split.1 place e fit_here),
      )

  found_second : ((s : IsSplit region start) → None ≡ fit_from wanted 0 0 0 (blocks_from start s.rest))
      → ((s : IsSplit region 0) → Some (place, e) ≡ fit_from wanted 0 0 0 (blocks_from 0 s.rest))
      → (later : List ℕ) → IsLaid later
      → ((s : IsSplit region start) → blocks_in later ≡ blocks_from 0 s.front ++ purged_to (length region) (blocks_from start s.rest))
      → (m : ℕ) → ((s : IsSplit region start) → m ≡ count_by is_purgeable (take (length region) (blocks_from start s.rest)))
      → (new : List Block) → ((s : IsSplit later 0) → new ≡ blocks_from 0 s.front ++ purged_to e (blocks_from 0 s.rest))
      → (n : ℕ) → ((s : IsSplit later 0) → n ≡ count_by is_purgeable (take e (blocks_from 0 s.rest)))
      → SearchIs wanted rover (blocks_in region) (Some place) new (m + n) × RoomAt place wanted (join_free new)
  found_second none fit later laid cleared_is m cleared_count new left n count =
      let none_from_start = none s ∙ ap (fit_from wanted 0 0 0) (sym (rest_is region q.laid start s)) in
      let fit_from_zero = fit (split_first region q.laid) ∙ ap (fit_from wanted 0 0 0) (sym (blocks_laid region q.laid)) in
      let cleared_blocks_are = cleared region q.laid start s (blocks_in later) (cleared_is s) in
      let blocks_are = from_first later laid new e (left (split_first later laid)) ∙ ap (purged_to e) cleared_blocks_are in
      let search_is = fit_second _ _ _ _ _ q.positive (tiles_region region q.laid) q.rover_is _ split.1 place e none_from_start fit_from_zero in (
        with_after _ _ _ _ _ _ _ _ search_is blocks_are (ap₂ ◌+◌ (cleared_count s ∙ counted region q.laid start s) (count (split_first later laid) ∙ ap (λ bs. count_by is_purgeable (take e bs)) (sym (blocks_laid later laid) ∙ cleared_blocks_are))),
        subst (λ bs. RoomAt place wanted (join_free bs)) (sym blocks_are) (room_second _ rover _ _ _ q.positive (tiles_region region q.laid) q.apart q.rover_is (length s.front) split.1 place e fit_from_zero),
      )

pub first_fit-requires-2-clause-split : goal.first_fit-requires-2-clause-split
first_fit-requires-2-clause-split c = split_first c.args.region.now c.requires.laid

pub purge-earlier-requires-clause-split : goal.purge-earlier-requires-clause-split
purge-earlier-requires-clause-split c = split_first c.purge-later.new.region c.purge-later.ensures.laid

pub purge-purges-requires-2-clause-split : goal.purge-purges-requires-2-clause-split
purge-purges-requires-2-clause-split c = split_first c.args.region.now c.requires.laid

pub returns-in-Some-clause-search : goal.returns-in-Some-clause-search
returns-in-Some-clause-search c = (found_first _ _ _ _ c.requires _ c.start_place-start.ensures.split c.in-Some.fit.place c.in-Some.fit.end c.in-Some.ensures.value _ c.purge-purges.ensures.blocks _ c.purge-purges.ensures.count).0

pub returns-in-Some-clause-room : goal.returns-in-Some-clause-room
returns-in-Some-clause-room c = (found_first _ _ _ _ c.requires _ c.start_place-start.ensures.split c.in-Some.fit.place c.in-Some.fit.end c.in-Some.ensures.value _ c.purge-purges.ensures.blocks _ c.purge-purges.ensures.count).1

pub returns-in-Some-first_fit-clause-search : goal.returns-in-Some-first_fit-clause-search
returns-in-Some-first_fit-clause-search c = (found_second _ _ _ _ c.requires _ c.start_place-start.ensures.split c.in-Some-first_fit.fit.place c.in-Some-first_fit.fit.end c.in_default.ensures.value c.in-Some-first_fit.ensures.value _ c.purge-later.ensures.laid c.purge-later.ensures.blocks _ c.purge-later.ensures.count _ c.purge-earlier.ensures.blocks _ c.purge-earlier.ensures.count).0

pub returns-in-Some-first_fit-clause-room : goal.returns-in-Some-first_fit-clause-room
returns-in-Some-first_fit-clause-room c = (found_second _ _ _ _ c.requires _ c.start_place-start.ensures.split c.in-Some-first_fit.fit.place c.in-Some-first_fit.fit.end c.in_default.ensures.value c.in-Some-first_fit.ensures.value _ c.purge-later.ensures.laid c.purge-later.ensures.blocks _ c.purge-later.ensures.count _ c.purge-earlier.ensures.blocks _ c.purge-earlier.ensures.count).1

pub returns-clause-search : goal.returns-clause-search
returns-clause-search c =
    let region = c.args.region.now in let region_laid = c.requires.laid in let start = c.start_place-start.result in
    let start_split = c.start_place-start.ensures.split.0 in let start_told = c.start_place-start.ensures.split.1 in
    let whole_split = split_first region region_laid in
    let none_from_start = c.in_default.ensures.value start_split ∙ ap (fit_from c.args.wanted 0 0 0) (sym (rest_is region region_laid start start_split)) in
    let fit_from_zero = c.in_default-first_fit.ensures.value whole_split ∙ ap (fit_from c.args.wanted 0 0 0) (sym (blocks_laid region region_laid)) in
    let search_is = fit_never _ _ _ _ _ c.requires.positive (tiles_region region region_laid) c.requires.rover_is _ start_told none_from_start fit_from_zero in
    with_after _ _ _ _ _ _ _ _ search_is (cleared region region_laid 0 whole_split _ (c.purge-purges-2.ensures.blocks whole_split)) (c.purge-purges-2.ensures.count whole_split ∙ counted region region_laid 0 whole_split)
