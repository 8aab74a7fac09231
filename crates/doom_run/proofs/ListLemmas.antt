-- The lines of the items of a view.
use Rattle.picture_rules.proofs.Common.{[], add-zero, ap, append-nil, append_assoc, arith, drop, drop-cons, get_or, length, length-take-le, List, Ok, refl, subst, suc, sym, take, take-append-drop, take_more, ℕ, ◌++◌, ◌+◌, ◌<◌, ◌∙◌, ◌∷◌, ◌≡◌}
use Rattle.doom_run.specs.Rules.{Counts, ViewListValue, Writes}
use Rattle.art_rules.proofs.Laws.{writes_none}
use Rattle.doom_run.specs.Lists.{fragment_line, items_lines, lines_from, plane_line, sprite_line, sums_line}

-- a part that was added, and what came behind it
pub added : (start part rest line all : List ℕ) → line ≡ start ++ part → all ≡ line ++ rest → all ≡ start ++ (part ++ rest)
added start part rest line all h e = e ∙ ap (λ (v : List ℕ). v ++ rest) h ∙ append_assoc start part rest

-- a line to which six parts were added, one after the other, has them in order
pub six_added : (start a b c d e f zero one two three four five six : List ℕ) →
    zero ≡ start → one ≡ zero ++ a → two ≡ one ++ b → three ≡ two ++ c → four ≡ three ++ d → five ≡ four ++ e → six ≡ five ++ f →
    six ≡ start ++ (a ++ (b ++ (c ++ (d ++ (e ++ f)))))
six_added start a b c d e f zero one two three four five six h0 h1 h2 h3 h4 h5 h6 =
    added start a (b ++ (c ++ (d ++ (e ++ f)))) one six (h1 ∙ ap (λ (v : List ℕ). v ++ a) h0)
    (added one b (c ++ (d ++ (e ++ f))) two six h2
    (added two c (d ++ (e ++ f)) three six h3
    (added three d (e ++ f) four six h4
    (added four e f five six h5 h6))))

-- the same of seven
pub seven_added : (start a b c d e f g zero one two three four five six seven : List ℕ) →
    zero ≡ start → one ≡ zero ++ a → two ≡ one ++ b → three ≡ two ++ c → four ≡ three ++ d → five ≡ four ++ e → six ≡ five ++ f → seven ≡ six ++ g →
    seven ≡ start ++ (a ++ (b ++ (c ++ (d ++ (e ++ (f ++ g))))))
seven_added start a b c d e f g zero one two three four five six seven h0 h1 h2 h3 h4 h5 h6 h7 =
    added start a (b ++ (c ++ (d ++ (e ++ (f ++ g))))) one seven (h1 ∙ ap (λ (v : List ℕ). v ++ a) h0)
    (six_added one b c d e f g one two three four five six seven refl h2 h3 h4 h5 h6 h7)

-- before the first item there is no line
pub lines-none : {A : Type 0} (line : ℕ → A → List ℕ) (xs : List A) → [] ≡ lines_from line 0 (take 0 xs)
unfolding lines_from
lines-none line xs = refl

lines-append : {A : Type 0} (line : ℕ → A → List ℕ) (k : ℕ) (xs ys : List A) → lines_from line k (xs ++ ys) ≡ lines_from line k xs ++ lines_from line (k + length xs) ys
unfolding lines_from
lines-append line k [] ys = ap (λ (n : ℕ). lines_from line n ys) (sym (add-zero k))
lines-append line k (x ∷ xs) ys =
    let next_number_is : k + 1 + length xs ≡ k + length (x ∷ xs) = omega arith in
    ap (λ (v : List ℕ). line k x ++ v) (lines-append line (k + 1) xs ys)
    ∙ sym (append_assoc (line k x) (lines_from line (k + 1) xs) (lines_from line (k + 1 + length xs) ys))
    ∙ ap (λ (n : ℕ). (line k x ++ lines_from line (k + 1) xs) ++ lines_from line n ys) next_number_is

lines-one : {A : Type 0} (line : ℕ → A → List ℕ) (k : ℕ) (x : A) (xs : List A) → lines_from line k (x ∷ xs) ≡ line k x ++ lines_from line (k + 1) xs
unfolding lines_from
lines-one line k x xs = refl

lines-last : {A : Type 0} (line : ℕ → A → List ℕ) (k : ℕ) (x : A) → lines_from line k (x ∷ []) ≡ line k x
unfolding lines_from
lines-last line k x = append-nil (line k x)

-- the lines behind an index
abbrev pub lines_behind : {A : Type 0} → (ℕ → A → List ℕ) → List A → ℕ → List ℕ
lines_behind line xs i = lines_from line (i + 1) (drop (suc i) xs)

-- the lines so far, the next one, and those behind it
pub lines-left : {A : Type 0} (line : ℕ → A → List ℕ) (xs : List A) (i : ℕ) (x : A) → x ≡ get_or xs i x → i < length xs →
    lines_from line 0 (take i xs) ++ (line i x ++ lines_behind line xs i) ≡ lines_from line 0 xs
lines-left line xs i x is l =
    let length_of_taken = length-take-le i xs (omega arith) in
    let taken_length : 0 + length (take i xs) ≡ i = omega (arith, length_of_taken) in
    ap (λ (v : List ℕ). lines_from line 0 (take i xs) ++ v)
    (ap (λ y. line i y ++ lines_behind line xs i) is ∙ sym (lines-one line i (get_or xs i x) (drop (suc i) xs)) ∙ ap (lines_from line i) (sym (drop-cons xs i x l)) ∙ ap (λ (k : ℕ). lines_from line k (drop i xs)) (sym taken_length))
    ∙ sym (lines-append line 0 (take i xs) (drop i xs))
    ∙ ap (lines_from line 0) (take-append-drop i xs)

-- one line more
pub lines-more : {A : Type 0} (line : ℕ → A → List ℕ) (xs : List A) (i : ℕ) (x : A) → x ≡ get_or xs i x → i < length xs →
    lines_from line 0 (take i xs) ++ line i x ≡ lines_from line 0 (take (i + 1) xs)
lines-more line xs i x is l =
    let length_of_taken = length-take-le i xs (omega arith) in
    let taken_length : 0 + length (take i xs) ≡ i = omega (arith, length_of_taken) in
    ap (λ (v : List ℕ). lines_from line 0 (take i xs) ++ v) (ap (line i) is ∙ sym (lines-last line i (get_or xs i x)) ∙ ap (λ (k : ℕ). lines_from line k (get_or xs i x ∷ [])) (sym taken_length))
    ∙ sym (lines-append line 0 (take i xs) (get_or xs i x ∷ []))
    ∙ ap (lines_from line 0) (sym (take_more xs i x l))

-- nothing was written of no line
pub none_put : {E A : Type 0} (line : ℕ → A → List ℕ) (xs : List A) (a : List ℕ → Type 0) (i : ℕ) → Writes {E = E} a a i i (lines_from line 0 (take 0 xs)) (Ok tt)
none_put {E} line xs a i = subst (λ (bytes : List ℕ). Writes {E = E} a a i i bytes (Ok tt)) (lines-none line xs) (writes_none a i)

-- the lines of a view are those of its items, kind by kind, and that of its sums
pub items_are : (view : ℕ) (counts : Counts) (list : ViewListValue) →
    lines_from (fragment_line view) 0 list.fragments ++ (lines_from (plane_line view) 0 list.planes ++ (lines_from (sprite_line view) 0 list.sprites ++ sums_line view counts list)) ≡ items_lines view counts list
unfolding items_lines
items_are view counts list = refl
