-- The least lump of parts that has the name of a mark.
use Rattle.art_rules.proofs.Common.{[], ap, arith, Bool, cond, eq-false_above, eq-same, false, get_or, IfSome, length, List, list_any, list_any_more, min, nat_tests, None, Option, option_map, refl, Some, suc, sym, take, true, zero, ℕ, ◌&&◌, ◌+◌, ◌<◌, ◌==◌, ◌||◌, ◌∙◌, ◌∷◌, ◌≡◌}
use Rattle.wad_trim.specs.Rules.{Lump, LumpNo, TrimPart, is_lump_part, is_mark, least, lump_at, marked_lump, or_else}
use Rattle.art_rules.proofs.Laws.{least-is, least-none, least-some}
use Rattle.wad_trim.specs.Lessers.{lesser}

-- one number more, by what was found below it and by whether it passes
lesser_step : (n : ℕ) (a b : Option ℕ) (p q : Bool) → IfSome a (λ m. m < n) → IfSome b (λ m. m < n) →
    or_else (lesser a b) (cond (p || q) (Some n) None) ≡ lesser (or_else a (cond p (Some n) None)) (or_else b (cond q (Some n) None))
lesser_step n None None true true l m = ap Some (same n) where
  same : (k : ℕ) → k ≡ min k k
  same k = omega arith
lesser_step n None None true false l m = refl
lesser_step n None None false true l m = refl
lesser_step n None None false false l m = refl
lesser_step n (Some a) None p true l m = ap Some (omega (arith, l))
lesser_step n (Some a) None p false l m = refl
lesser_step n None (Some b) true q l m = ap Some (omega (arith, m))
lesser_step n None (Some b) false q l m = refl
lesser_step n (Some a) (Some b) p q l m = refl

least_below : (p : ℕ → Bool) (n : ℕ) → IfSome (least p n) (λ m. m < n)
least_below p n = by_value (least p n) refl where
  by_value : (o : Option ℕ) → least p n ≡ o → IfSome o (λ m. m < n)
  by_value None e = tt
  by_value (Some m) e = (least-is p n m e).0

-- the least that passes one of two tests
least_either : (p q : ℕ → Bool) (n : ℕ) → least (λ k. p k || q k) n ≡ lesser (least p n) (least q n)
unfolding least
least_either p q zero = refl
least_either p q (suc n) =
    ap (λ (o : Option ℕ). or_else o (cond (p n || q n) (Some n) None)) (least_either p q n)
    ∙ lesser_step n (least p n) (least q n) (p n) (q n) (least_below p n) (least_below q n)

and_or : (a b c : Bool) → ((a || b) && c) ≡ ((a && c) || (b && c))
and_or true true true = refl
and_or true true false = refl
and_or true false true = refl
and_or true false false = refl
and_or false b c = refl

or_false : (a : Bool) → (a || false) ≡ a
or_false true = refl
or_false false = refl

marked_either : (lumps : List Lump) (parts : List TrimPart) (i : ℕ) (d : TrimPart) (n : ℕ) → i < length parts →
    (list_any (is_lump_part n) (take (i + 1) parts) && is_mark (lump_at lumps n).name)
    ≡ ((list_any (is_lump_part n) (take i parts) && is_mark (lump_at lumps n).name) || (list_any (is_lump_part n) (get_or parts i d ∷ []) && is_mark (lump_at lumps n).name))
marked_either lumps parts i d n l =
    let mark = is_mark (lump_at lumps n).name in
    ap (λ (b : Bool). b && mark) (list_any_more (is_lump_part n) parts i d l)
    ∙ and_or (list_any (is_lump_part n) (take i parts)) (is_lump_part n (get_or parts i d)) mark
    ∙ ap (λ (b : Bool). (list_any (is_lump_part n) (take i parts) && mark) || (b && mark)) (sym (or_false (is_lump_part n (get_or parts i d))))

-- one part more
pub marked-more : (lumps : List Lump) (parts : List TrimPart) (i : ℕ) (d : TrimPart) → i < length parts →
    marked_lump lumps (take (i + 1) parts) ≡ lesser (marked_lump lumps (take i parts)) (marked_lump lumps (get_or parts i d ∷ []))
unfolding marked_lump
marked-more lumps parts i d l =
    let so_far : ℕ → Bool = λ n. list_any (is_lump_part n) (take i parts) && is_mark (lump_at lumps n).name in
    let by_this_part : ℕ → Bool = λ n. list_any (is_lump_part n) (get_or parts i d ∷ []) && is_mark (lump_at lumps n).name in
    let next : ℕ → Bool = λ n. list_any (is_lump_part n) (take (i + 1) parts) && is_mark (lump_at lumps n).name in
    let next_is_either : next ≡ (λ n. so_far n || by_this_part n) = λ j n. marked_either lumps parts i d n l j in
    ap (λ (f : ℕ → Bool). least f (length lumps)) next_is_either ∙ least_either so_far by_this_part (length lumps)

-- no part at all
pub marked-none : (lumps : List Lump) → marked_lump lumps [] ≡ None
unfolding marked_lump
marked-none lumps = least-none (λ n. list_any (is_lump_part n) [] && is_mark (lump_at lumps n).name) (length lumps) (λ k l. refl)

-- a part without a lump
pub marked-unlisted : (lumps : List Lump) (part : TrimPart) → ((n : ℕ) → is_lump_part n part ≡ false) → marked_lump lumps (part ∷ []) ≡ None
unfolding marked_lump
marked-unlisted lumps part is =
    least-none (λ n. list_any (is_lump_part n) (part ∷ []) && is_mark (lump_at lumps n).name) (length lumps)
    (λ k l. ap (λ (b : Bool). (b || false) && is_mark (lump_at lumps k).name) (is k))

only : (m : ℕ) (mark : ℕ → Bool) (top : ℕ) (b : Bool) → mark m ≡ b → m < top → least (λ n. ((m == n) || false) && mark n) top ≡ cond b (Some m) None
only m mark top true e l =
    least-some (λ n. ((m == n) || false) && mark n) top m l (ap (λ (t : Bool). (t || false) && mark m) (eq-same m) ∙ e)
    (λ k s. ap (λ (t : Bool). (t || false) && mark k) (eq-false_above m k s))
only m mark top false e l = least-none (λ n. ((m == n) || false) && mark n) top (λ k s. unmarked k (m == k) refl) where
  unmarked : (k : ℕ) (t : Bool) → (m == k) ≡ t → ((t || false) && mark k) ≡ false
  unmarked k true same = let number_same : m ≡ k = grind (arith, nat_tests) in ap mark (sym number_same) ∙ e
  unmarked k false same = refl

-- a part with a lump, by whether that has the name of a mark
pub marked-listed : (lumps : List Lump) (part : TrimPart) (m : ℕ) → ((n : ℕ) → is_lump_part n part ≡ (m == n)) → m < length lumps →
    marked_lump lumps (part ∷ []) ≡ cond (is_mark (lump_at lumps m).name) (Some m) None
unfolding marked_lump
marked-listed lumps part m is l =
    let mark : ℕ → Bool = λ n. is_mark (lump_at lumps n).name in
    let marks_same : (λ (n : ℕ). list_any (is_lump_part n) (part ∷ []) && mark n) ≡ (λ n. ((m == n) || false) && mark n) = λ j n. ap (λ (b : Bool). (b || false) && mark n) (is n) j in
    ap (λ (f : ℕ → Bool). least f (length lumps)) marks_same ∙ only m mark (length lumps) (mark m) refl l

-- the number of a lump that is there where a test passes
pub number-cond : (b : Bool) (lump : LumpNo) → option_map (λ (l : LumpNo). l.0) (cond b (Some lump) None) ≡ cond b (Some lump.0) None
number-cond true lump = refl
number-cond false lump = refl
