-- A walk over blocks goes over the gaps in order, and meets the widest of them.
use Rattle.zone_rules.proofs.Common.{◌≡◌, ℕ, ◌+◌, ◌-◌, ◌<◌, ◌≤◌, Bool, true, false, cond, not, List, [], ◌∷◌, ◌++◌, find, Option, Some, None, refl, ◌∙◌, arith, unwrap_or, option_map, inl, inr, max, ap, nat_le, le-leb, lt-leb, leb-true, leb-false, cases_lt}
use Rattle.zone_heap.specs.Rules.{Block, first_place, first_room, gaps, holds, in_front, is_pinned, least_front, opens, passed_blocks, total, widest}
use Rattle.zone_heap.specs.Walks.{widest_from}
use Rattle.zone_rules.proofs.GapLemmas.{total-cons}

-- what a walk goes over, with v of w still missing in the run at hand
abbrev pub walk : ℕ → ℕ → List Block → List Block
walk v w [] = []
walk v w (b ∷ bs) = cond (is_pinned b) (walk w w bs) (b ∷ cond (nat_le v b.size) [] (walk (v - b.size) w bs))

-- where the run begins that holds, with the place of the run at hand
abbrev pub walk_place : ℕ → ℕ → Option ℕ → List Block → Option ℕ
walk_place v w f [] = None
walk_place v w f (b ∷ bs) = cond (is_pinned b) (walk_place w w None bs) (cond (nat_le v b.size) (Some (unwrap_or f b.place)) (walk_place (v - b.size) w (Some (unwrap_or f b.place)) bs))

-- the same over gaps, the first of which may have begun before
abbrev pub passed_on : ℕ → ℕ → Bool → List (List Block) → List Block
passed_on v w false gs = passed_blocks w gs
passed_on v w true [] = []
passed_on v w true (g ∷ gs) = cond (holds v g) (least_front v g) (g ++ passed_blocks w gs)

abbrev pub found_on : ℕ → ℕ → Option ℕ → Bool → List (List Block) → Option ℕ
found_on v w f false gs = first_room w gs
found_on v w f true [] = None
found_on v w f true (g ∷ gs) = cond (holds v g) (Some (unwrap_or f (first_place g))) (first_room w gs)

passed_on_same : (w : ℕ) (o : Bool) (gs : List (List Block)) → passed_on w w o gs ≡ passed_blocks w gs
passed_on_same w false gs = refl
passed_on_same w true [] = refl
passed_on_same w true (g ∷ gs) = refl

found_on_same : (w : ℕ) (o : Bool) (gs : List (List Block)) → found_on w w None o gs ≡ first_room w gs
found_on_same w false gs = refl
found_on_same w true [] = refl
found_on_same w true (g ∷ gs) = go (holds w g) where
  go : (t : Bool) → cond t (Some (first_place g)) (first_room w gs) ≡ option_map first_place (cond t (Some g) (find (holds w) gs))
  go true = refl
  go false = refl

holds_now : (v : ℕ) (b : Block) (g : List Block) → v ≤ b.size → holds v (b ∷ g) ≡ true
holds_now v b g h = let total_is = total-cons b g in le-leb v (total (b ∷ g)) (omega arith)

holds_later : (v : ℕ) (b : Block) (g : List Block) → b.size < v → holds v (b ∷ g) ≡ holds (v - b.size) g
holds_later v b g h = let total_is = total-cons b g in go (nat_le (v - b.size) (total g)) refl where
  go : (t : Bool) → nat_le (v - b.size) (total g) ≡ t → holds v (b ∷ g) ≡ t
  go true t = let total_is = total-cons b g in let rest_at_most_total = leb-true (v - b.size) (total g) t in le-leb v (total (b ∷ g)) (omega arith)
  go false t = let total_is = total-cons b g in let total_is_less = leb-false (v - b.size) (total g) t in lt-leb v (total (b ∷ g)) (omega arith)

holds_none : (v : ℕ) → 0 < v → holds v [] ≡ false
holds_none v h = lt-leb v 0 h

front : (v w : ℕ) (b : Block) (o : Bool) (gs : List (List Block)) (rest : List Block) → rest ≡ passed_on (v - b.size) w o gs
    → b ∷ cond (nat_le v b.size) [] rest ≡ passed_on v w true (in_front b o gs)
front v w b o gs rest e = elim (cases_lt b.size v) [ inl h ↦ later o gs e h | inr h ↦ now o gs h ] where
  now : (o : Bool) (gs : List (List Block)) → v ≤ b.size → b ∷ cond (nat_le v b.size) [] rest ≡ passed_on v w true (in_front b o gs)
  now false gs h = rw (le-leb v b.size h, holds_now v b [] h) refl
  now true [] h = rw (le-leb v b.size h, holds_now v b [] h) refl
  now true (g ∷ gs) h = rw (le-leb v b.size h, holds_now v b g h) refl

  later : (o : Bool) (gs : List (List Block)) → rest ≡ passed_on (v - b.size) w o gs → b.size < v
      → b ∷ cond (nat_le v b.size) [] rest ≡ passed_on v w true (in_front b o gs)
  later false gs e h = rw (lt-leb v b.size h, holds_later v b [] h, holds_none (v - b.size) (omega arith), e) refl
  later true [] e h = rw (lt-leb v b.size h, holds_later v b [] h, holds_none (v - b.size) (omega arith), e) refl
  later true (g ∷ gs) e h = rw (lt-leb v b.size h, holds_later v b g h, e) (pick (holds (v - b.size) g)) where
    pick : (t : Bool) → b ∷ cond t (least_front (v - b.size) g) (g ++ passed_blocks w gs) ≡ cond t (b ∷ least_front (v - b.size) g) ((b ∷ g) ++ passed_blocks w gs)
    pick true = refl
    pick false = refl

walk_step : (v w : ℕ) (b : Block) (bs : List Block) → walk w w bs ≡ passed_on w w (opens bs) (gaps bs)
    → walk (v - b.size) w bs ≡ passed_on (v - b.size) w (opens bs) (gaps bs) → (t : Bool)
    → cond t (walk w w bs) (b ∷ cond (nat_le v b.size) [] (walk (v - b.size) w bs)) ≡ passed_on v w (not t) (cond t (gaps bs) (in_front b (opens bs) (gaps bs)))
walk_step v w b bs anew on true = anew ∙ passed_on_same w (opens bs) (gaps bs)
walk_step v w b bs anew on false = front v w b (opens bs) (gaps bs) (walk (v - b.size) w bs) on

pub walk_is : (v w : ℕ) (bs : List Block) → walk v w bs ≡ passed_on v w (opens bs) (gaps bs)
walk_is v w [] = refl
walk_is v w (b ∷ bs) = walk_step v w b bs (walk_is w w bs) (walk_is (v - b.size) w bs) (is_pinned b)

front_place : (v w : ℕ) (f : Option ℕ) (b : Block) (o : Bool) (gs : List (List Block)) (rest : Option ℕ)
    → rest ≡ found_on (v - b.size) w (Some (unwrap_or f b.place)) o gs
    → cond (nat_le v b.size) (Some (unwrap_or f b.place)) rest ≡ found_on v w f true (in_front b o gs)
front_place v w f b o gs rest e = elim (cases_lt b.size v) [ inl h ↦ later o gs e h | inr h ↦ now o gs h ] where
  now : (o : Bool) (gs : List (List Block)) → v ≤ b.size → cond (nat_le v b.size) (Some (unwrap_or f b.place)) rest ≡ found_on v w f true (in_front b o gs)
  now false gs h = rw (le-leb v b.size h, holds_now v b [] h) refl
  now true [] h = rw (le-leb v b.size h, holds_now v b [] h) refl
  now true (g ∷ gs) h = rw (le-leb v b.size h, holds_now v b g h) refl

  later : (o : Bool) (gs : List (List Block)) → rest ≡ found_on (v - b.size) w (Some (unwrap_or f b.place)) o gs → b.size < v
      → cond (nat_le v b.size) (Some (unwrap_or f b.place)) rest ≡ found_on v w f true (in_front b o gs)
  later false gs e h = rw (lt-leb v b.size h, holds_later v b [] h, holds_none (v - b.size) (omega arith), e) refl
  later true [] e h = rw (lt-leb v b.size h, holds_later v b [] h, holds_none (v - b.size) (omega arith), e) refl
  later true (g ∷ gs) e h = rw (lt-leb v b.size h, holds_later v b g h, e) refl

place_step : (v w : ℕ) (f : Option ℕ) (b : Block) (bs : List Block) → walk_place w w None bs ≡ found_on w w None (opens bs) (gaps bs)
    → walk_place (v - b.size) w (Some (unwrap_or f b.place)) bs ≡ found_on (v - b.size) w (Some (unwrap_or f b.place)) (opens bs) (gaps bs) → (t : Bool)
    → cond t (walk_place w w None bs) (cond (nat_le v b.size) (Some (unwrap_or f b.place)) (walk_place (v - b.size) w (Some (unwrap_or f b.place)) bs)) ≡ found_on v w f (not t) (cond t (gaps bs) (in_front b (opens bs) (gaps bs)))
place_step v w f b bs anew on true = anew ∙ found_on_same w (opens bs) (gaps bs)
place_step v w f b bs anew on false = front_place v w f b (opens bs) (gaps bs) (walk_place (v - b.size) w (Some (unwrap_or f b.place)) bs) on

pub walk_place_is : (v w : ℕ) (f : Option ℕ) (bs : List Block) → walk_place v w f bs ≡ found_on v w f (opens bs) (gaps bs)
walk_place_is v w f [] = refl
walk_place_is v w f (b ∷ bs) = place_step v w f b bs (walk_place_is w w None bs) (walk_place_is (v - b.size) w (Some (unwrap_or f b.place)) bs) (is_pinned b)

pub passed_by_walk : (w : ℕ) (bs : List Block) → walk w w bs ≡ passed_blocks w (gaps bs)
passed_by_walk w bs = walk_is w w bs ∙ passed_on_same w (opens bs) (gaps bs)

pub found_by_walk : (w : ℕ) (bs : List Block) → walk_place w w None bs ≡ first_room w (gaps bs)
found_by_walk w bs = walk_place_is w w None bs ∙ found_on_same w (opens bs) (gaps bs)

abbrev pub widest_on : ℕ → Bool → List (List Block) → ℕ
widest_on run false gs = widest gs
widest_on run true [] = 0
widest_on run true (g ∷ gs) = max (run + total g) (widest gs)

on_same : (o : Bool) (gs : List (List Block)) → widest_on 0 o gs ≡ widest gs
on_same false gs = refl
on_same true [] = refl
on_same true (g ∷ gs) = omega arith

front_widest : (best run : ℕ) (b : Block) (o : Bool) (gs : List (List Block))
    → max (max best (run + b.size)) (widest_on (run + b.size) o gs) ≡ max best (widest_on run true (in_front b o gs))
front_widest best run b false gs = let total_is = total-cons b [] in omega arith
front_widest best run b true [] = let total_is = total-cons b [] in omega arith
front_widest best run b true (g ∷ gs) = let total_is = total-cons b g in omega arith

widest_step : (best run : ℕ) (b : Block) (bs : List Block) → widest_from best 0 bs ≡ max best (widest_on 0 (opens bs) (gaps bs))
    → widest_from (max best (run + b.size)) (run + b.size) bs ≡ max (max best (run + b.size)) (widest_on (run + b.size) (opens bs) (gaps bs)) → (t : Bool)
    → cond t (widest_from best 0 bs) (widest_from (max best (run + b.size)) (run + b.size) bs) ≡ max best (widest_on run (not t) (cond t (gaps bs) (in_front b (opens bs) (gaps bs))))
widest_step best run b bs anew on true = anew ∙ ap (max best) (on_same (opens bs) (gaps bs))
widest_step best run b bs anew on false = on ∙ front_widest best run b (opens bs) (gaps bs)

widest_from_is : (best run : ℕ) (bs : List Block) → widest_from best run bs ≡ max best (widest_on run (opens bs) (gaps bs))
widest_from_is best run [] = omega arith
widest_from_is best run (b ∷ bs) = widest_step best run b bs (widest_from_is best 0 bs) (widest_from_is (max best (run + b.size)) (run + b.size) bs) (is_pinned b)

pub widest_is : (bs : List Block) → widest_from 0 0 bs ≡ widest (gaps bs)
widest_is bs = let widest_walked = widest_from_is 0 0 bs in let opens_same = on_same (opens bs) (gaps bs) in omega arith
