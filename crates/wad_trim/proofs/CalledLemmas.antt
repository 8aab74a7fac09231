-- The lumps that are found by their names.
use Rattle.art_rules.proofs.Common.{[], ap, append-nil, append_assoc, arith, Bool, cond, false, filter, filter-append, length, List, list_any, nat_lt, nat_tests, not, Option, range_with_len, refl, suc, true, zero, ℕ, ◌&&◌, ◌++◌, ◌+◌, ◌-◌, ◌<◌, ◌==◌, ◌∙◌, ◌∷◌, ◌≡◌, ◌≤◌}
use Rattle.wad_trim.specs.Rules.{COLORMAP, Lump, PLAYPAL, PNAMES, PreparedTexture, TEXTURE1, TEXTURE2, called_lumps, filled, fixed_lumps, is_patch_of_any, listed_last, name_of, patch_lumps}
use Rattle.texture_build.proofs.JudgeLemmas.{pnames_name, texture1_name, texture2_name}

-- the patches among the first numbers, out of those among more
below_kept : (p q : ℕ → Bool) (a n top : ℕ) → a + n ≤ top → filter (λ k. nat_lt k top && q k) (filter p (range_with_len a n)) ≡ filter q (filter p (range_with_len a n))
below_kept p q a zero top l = refl
below_kept p q a (suc n) top l = by_value (p a) (below_kept p q (a + 1) n top (omega (arith, l))) where
  less : nat_lt a top ≡ true
  less = let number_below_top : a < top = omega (arith, l) in grind (arith, nat_tests)

  by_value : (b : Bool) → filter (λ k. nat_lt k top && q k) (filter p (range_with_len (a + 1) n)) ≡ filter q (filter p (range_with_len (a + 1) n)) →
      filter (λ k. nat_lt k top && q k) (cond b (a ∷ filter p (range_with_len (a + 1) n)) (filter p (range_with_len (a + 1) n)))
      ≡ filter q (cond b (a ∷ filter p (range_with_len (a + 1) n)) (filter p (range_with_len (a + 1) n)))
  by_value true more =
      ap (λ (t : Bool). cond (t && q a) (a ∷ filter (λ k. nat_lt k top && q k) (filter p (range_with_len (a + 1) n))) (filter (λ k. nat_lt k top && q k) (filter p (range_with_len (a + 1) n)))) less
      ∙ ap (λ (xs : List ℕ). cond (q a) (a ∷ xs) xs) more
  by_value false more = more

above_gone : (p q : ℕ → Bool) (a n top : ℕ) → top ≤ a → filter (λ k. nat_lt k top && q k) (filter p (range_with_len a n)) ≡ []
above_gone p q a zero top l = refl
above_gone p q a (suc n) top l = by_value (p a) (above_gone p q (a + 1) n top (omega (arith, l))) where
  past : nat_lt a top ≡ false
  past = grind (arith, nat_tests)

  by_value : (b : Bool) → filter (λ k. nat_lt k top && q k) (filter p (range_with_len (a + 1) n)) ≡ [] →
      filter (λ k. nat_lt k top && q k) (cond b (a ∷ filter p (range_with_len (a + 1) n)) (filter p (range_with_len (a + 1) n))) ≡ []
  by_value true more =
      ap (λ (t : Bool). cond (t && q a) (a ∷ filter (λ k. nat_lt k top && q k) (filter p (range_with_len (a + 1) n))) (filter (λ k. nat_lt k top && q k) (filter p (range_with_len (a + 1) n)))) past
      ∙ more
  by_value false more = more

range_parts : (a m n : ℕ) → range_with_len a (m + n) ≡ range_with_len a m ++ range_with_len (a + m) n
range_parts a zero n =
    let count_same : 0 + n ≡ n = omega arith in
    let start_same : a ≡ a + 0 = omega arith in
    ap (range_with_len a) count_same ∙ ap (λ (k : ℕ). range_with_len k n) start_same
range_parts a (suc m) n =
    let next_start_is : a + 1 + m ≡ a + suc m = omega arith in
    let count_is : suc m + n ≡ suc (m + n) = omega arith in
    ap (range_with_len a) count_is
    ∙ ap (λ (xs : List ℕ). a ∷ xs) (range_parts (a + 1) m n ∙ ap (λ (k : ℕ). range_with_len (a + 1) m ++ range_with_len k n) next_start_is)

pub patches-below : (prepared : List (Option PreparedTexture)) (q : ℕ → Bool) (n most : ℕ) → n ≤ most →
    filter (λ k. nat_lt k n && q k) (patch_lumps prepared most) ≡ filter q (patch_lumps prepared n)
unfolding patch_lumps
patches-below prepared q n most l =
    let is_patch = is_patch_of_any prepared in
    let test : ℕ → Bool = λ k. nat_lt k n && q k in
    let most_is_sum : most ≡ n + (most - n) = omega (arith, l) in
    ap (λ (m : ℕ). filter test (filter is_patch (range_with_len 0 m))) most_is_sum
    ∙ ap (λ (xs : List ℕ). filter test (filter is_patch xs)) (range_parts 0 n (most - n))
    ∙ ap (filter test) (filter-append is_patch (range_with_len 0 n) (range_with_len (0 + n) (most - n)))
    ∙ filter-append test (filter is_patch (range_with_len 0 n)) (filter is_patch (range_with_len (0 + n) (most - n)))
    ∙ ap (λ (xs : List ℕ). filter test (filter is_patch (range_with_len 0 n)) ++ xs) (above_gone is_patch q (0 + n) (most - n) n (omega arith))
    ∙ append-nil (filter test (filter is_patch (range_with_len 0 n)))
    ∙ below_kept is_patch q 0 n n (omega arith)

-- the fixed lumps, and the patches that are none of them
pub called-is : (lumps : List Lump) (prepared : List (Option PreparedTexture)) (fixed start given patches called : List ℕ) (count most : ℕ) → count ≡ length lumps → count ≤ most →
    fixed ≡ fixed_lumps lumps → start ≡ fixed → given ≡ fixed → patches ≡ patch_lumps prepared most →
    called ≡ start ++ filter (λ k. nat_lt k count && not (list_any (λ m. m == k) given)) patches → called ≡ called_lumps lumps prepared
unfolding called_lumps
called-is lumps prepared fixed start given patches called count most c l f s g p e =
    e
    ∙ ap (λ (some : List ℕ). some ++ filter (λ k. nat_lt k count && not (list_any (λ m. m == k) given)) patches) (s ∙ f)
    ∙ ap (λ (some : List ℕ). fixed_lumps lumps ++ filter (λ k. nat_lt k count && not (list_any (λ m. m == k) some)) patches) (g ∙ f)
    ∙ ap (λ (some : List ℕ). fixed_lumps lumps ++ filter (λ k. nat_lt k count && not (list_any (λ m. m == k) (fixed_lumps lumps))) some) p
    ∙ ap (λ (some : List ℕ). fixed_lumps lumps ++ some) (patches-below prepared (λ k. not (list_any (λ m. m == k) (fixed_lumps lumps))) count most l)
    ∙ ap (λ (n : ℕ). fixed_lumps lumps ++ filter (λ k. not (list_any (λ m. m == k) (fixed_lumps lumps))) (patch_lumps prepared n)) c

-- names that are spelled as a directory spells them
spelled_playpal : name_of PLAYPAL ≡ PLAYPAL
unfolding filled
spelled_playpal = refl

spelled_colormap : name_of COLORMAP ≡ COLORMAP
unfolding filled
spelled_colormap = refl

regroup : (a b c d e : List ℕ) → (((a ++ b) ++ c) ++ d) ++ e ≡ a ++ (b ++ (c ++ (d ++ e)))
regroup a b c d e = simp append_assoc

-- the lumps of colours and the lists, one after the other
pub fixed-is : (lumps : List Lump) (a b c d e f : List ℕ) → a ≡ [] → b ≡ a ++ listed_last lumps (name_of PLAYPAL) → c ≡ b ++ listed_last lumps (name_of COLORMAP) →
    d ≡ c ++ listed_last lumps (name_of PNAMES) → e ≡ d ++ listed_last lumps (name_of TEXTURE1) → f ≡ e ++ listed_last lumps (name_of TEXTURE2) → f ≡ fixed_lumps lumps
unfolding fixed_lumps
fixed-is lumps a b c d e f none p q r s t =
    let last = listed_last lumps in
    (t ∙ ap (λ (n : List ℕ). e ++ last n) texture2_name)
    ∙ ap (λ (v : List ℕ). v ++ last TEXTURE2) ((s ∙ ap (λ (n : List ℕ). d ++ last n) texture1_name)
    ∙ ap (λ (v : List ℕ). v ++ last TEXTURE1) ((r ∙ ap (λ (n : List ℕ). c ++ last n) pnames_name)
    ∙ ap (λ (v : List ℕ). v ++ last PNAMES) ((q ∙ ap (λ (n : List ℕ). b ++ last n) spelled_colormap)
    ∙ ap (λ (v : List ℕ). v ++ last COLORMAP) ((p ∙ ap (λ (n : List ℕ). a ++ last n) spelled_playpal)
    ∙ ap (λ (v : List ℕ). v ++ last PLAYPAL) none))))
    ∙ regroup (last PLAYPAL) (last COLORMAP) (last PNAMES) (last TEXTURE1) (last TEXTURE2)
