-- A zone without a live block is one free block, and the first block stands at its place 0.
use Rattle.zone_rules.proofs.Common.{◌≡◌, ℕ, ◌+◌, ◌<◌, ◌≤◌, Bool, true, false, cond, List, [], ◌∷◌, Option, Some, None, refl, sym, subst, ap, ◌∙◌, arith, inl, inr, ◌==◌, ◌⊎◌, All, cond-true, cond-false, and_from, eq-eqb, eqb-true, cases_lt, false≢true, All-nil, All-cons}
use Rattle.zone_rules.specs.Zones.{Owner, Holding, Block, Heap, IsSound, Tiles, Apart, is_free, is_held_by, holds_for, same_owner, owned_block, free_block, has_place}
use Rattle.zone_rules.specs.Requests.{gaps, stretches, first_room, total}
use Rattle.zone_rules.proofs.{GapLemmas.total-cons, PurgeLemmas.tiles_le, SoundLemmas.full_some}
use Rattle.zone_rules.proofs.OrderRequestLemmas.{rest_found}

no_holding : (b : Block) (bs : List Block) → ((o : Owner) → owned_block o (b ∷ bs) ≡ None) → b.holding ≡ None
no_holding b bs e = go b.holding refl where
  go : (h : Option Holding) → b.holding ≡ h → h ≡ None
  go None k = refl
  go (Some h) k =
      let owner_same : same_owner h.owner h.owner ≡ true = and_from (h.owner.kind == h.owner.kind) (h.owner.number == h.owner.number) (eq-eqb h.owner.kind h.owner.kind refl) (eq-eqb h.owner.number h.owner.number refl) in
      let impossible : Some b ≡ None = sym (cond-true (is_held_by h.owner b) (Some b) (owned_block h.owner bs) (ap (holds_for h.owner) k ∙ owner_same))
      ∙ e h.owner in cc

none_free : (b : Block) → b.holding ≡ None → is_free b ≡ true
none_free b e = ap (λ h. is_free (record b { holding = h })) e

pub empty_is : (q : ℕ) (bs : List Block) → Tiles 0 q bs → Apart bs → ((o : Owner) → owned_block o bs ≡ None) → 0 < q → bs ≡ free_block 0 q ∷ []
empty_is q [] t a e pos = absurd (omega (arith, t, pos))
empty_is q (b ∷ []) t a e pos =
    let holds_none = no_holding b [] e in
    let size_is : b.size ≡ q = omega (arith, t.2) in
    let place_is = t.0 in
    let is_free_block : b ≡ free_block 0 q = λ i. record { place = place_is i; size = size_is i; holding = holds_none i } in
    ap (λ (c : Block). c ∷ []) is_free_block
empty_is q (b ∷ c ∷ bs) t a e pos =
    let holds_none = no_holding b (c ∷ bs) e in
    let next_holds_none = no_holding c bs (λ o. sym (cond-false (is_held_by o b) (Some b) (owned_block o (c ∷ bs)) (ap (holds_for o) holds_none)) ∙ e o) in
    absurd (false≢true (sym a.0 ∙ and_from (is_free b) (is_free c) (none_free b holds_none) (none_free c next_holds_none)))

pub sound_size : (z : Heap) → IsSound z → 0 < z.size
sound_size z s = go z.blocks s.tiles s.rover where
  go : (bs : List Block) → Tiles 0 z.size bs → has_place z.rover bs ≡ true → 0 < z.size
  go [] t r = absurd (false≢true r)
  go (b ∷ bs) t r = let rest_fits = tiles_le (0 + b.size) z.size bs t.2 in omega (arith, rest_fits, t.1)

-- where a request of an empty zone goes
pub empty_place : (w p : ℕ) (z : Heap) → IsSound z → 0 < w → ((o : Owner) → owned_block o z.blocks ≡ None) → first_room w (stretches z.rover z.blocks) ≡ Some p → p ≡ 0
empty_place w p z s pos e found = go (cases_lt z.size w) where
  size : 0 < z.size
  size = sound_size z s

  is : z.blocks ≡ free_block 0 z.size ∷ []
  is = empty_is z.size z.blocks s.tiles s.apart e size

  rover_is : z.rover ≡ 0
  rover_is = sym (eqb-true 0 z.rover (here (0 == z.rover) (subst (λ bs. has_place z.rover bs ≡ true) is s.rover))) where
    here : (t : Bool) → cond t true false ≡ true → t ≡ true
    here true k = refl
    here false k = k

  go : (z.size < w) ⊎ (w ≤ z.size) → p ≡ 0
  go (inl small) =
      let total_is = total-cons (free_block 0 z.size) [] in
      let no_gap_fits = All-cons (λ g. total g < w) (free_block 0 z.size ∷ []) [] (omega (arith, total_is, small)) (All-nil (λ g. total g < w)) in
      absurd (full_some w z.rover p z.size z.blocks pos s.tiles found (subst (λ bs. All (λ g. total g < w) (gaps bs)) (sym is) no_gap_fits))
  go (inr large) =
      let found_at_start : first_room w (stretches z.rover z.blocks) ≡ Some 0 = ap (λ bs. first_room w (stretches z.rover bs)) is ∙ ap (λ r. first_room w (stretches r (free_block 0 z.size ∷ []))) rover_is ∙ rest_found w 0 z.size size large [] tt tt in
      let same_place : Some p ≡ Some 0 = sym found ∙ found_at_start in
      cc
