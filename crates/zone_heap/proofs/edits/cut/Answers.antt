use Rattle.zone_rules.proofs.Common.{arith, ◌≡◌, ◌≤◌, ◌+◌, ◌-◌, ◌++◌, ◌∙◌, ap, ap₂, sym, length, take, drop, List, ℕ, take-append-drop, append_assoc, length-append, length-take, length-drop}
use Rattle.zone_heap.specs.Headers.{FREE_OWNER, with_word, with_use}
use Rattle.zone_heap.proofs.WordLemmas.{written_within, used_within, length-with_word, length-with_use}
use Rattle.zone_heap.specs.Rules.{HEADER_SIZE}
use Rattle.zone_heap.proofs.edits.cut.Goals as goal

-- the three writes, in the part that is cut
module _ (a c b : List ℕ) (place wanted : ℕ) (at : length a ≡ place) (room : wanted + HEADER_SIZE ≤ length c) (large : HEADER_SIZE ≤ wanted) (n : ℕ) where
  abbrev f : List ℕ
  f = take wanted c

  abbrev g : List ℕ
  g = drop wanted c

  abbrev f1 : List ℕ
  f1 = with_word f 0 wanted

  f_len : length f ≡ wanted
  f_len = simp length-take (omega arith)

  g_len : length g ≡ length c - wanted
  g_len = length-drop wanted c

  f1_len : length f1 ≡ wanted
  f1_len = let front_length = f_len in length-with_word f 0 wanted (omega arith) ∙ front_length

  pub writes : with_use (with_word (with_word (a ++ (c ++ b)) place wanted) (place + wanted) n) (place + wanted) 0 FREE_OWNER 0 ≡ a ++ (f1 ++ (with_use (with_word g 0 n) 0 0 FREE_OWNER 0 ++ b))
  writes =
      let front_length = f_len in let rest_length = g_len in let written_length = f1_len in
      let whole : a ++ (c ++ b) ≡ a ++ (f ++ (g ++ b)) = ap (λ xs. a ++ xs) (ap (λ xs. xs ++ b) (sym (take-append-drop wanted c)) ∙ append_assoc f g b) in
      let size_written : with_word (a ++ (c ++ b)) place wanted ≡ (a ++ f1) ++ (g ++ b) =
      ap (λ xs. with_word xs place wanted) whole ∙ written_within a f (g ++ b) 0 place wanted (omega arith) (omega arith) ∙ sym (append_assoc a f1 (g ++ b)) in
      let rest_start : place + wanted ≡ length (a ++ f1) + 0 = let place_is = length-append a f1 in omega arith in
      let rest_place_is : place + wanted ≡ length (a ++ f1) = let place_is = length-append a f1 in omega arith in
      let rest_written = ap (λ xs. with_word xs (place + wanted) n) size_written ∙ written_within (a ++ f1) g b 0 (place + wanted) n rest_start (omega arith) in
      let rest_kept = length-with_word g 0 n (omega arith) in
      ap (λ xs. with_use xs (place + wanted) 0 FREE_OWNER 0) rest_written ∙ used_within (a ++ f1) (with_word g 0 n) b (place + wanted) 0 FREE_OWNER 0 rest_place_is (omega arith) ∙ append_assoc a f1 (with_use (with_word g 0 n) 0 0 FREE_OWNER 0 ++ b)

pub returns-clause-parts : goal.returns-clause-parts
returns-clause-parts c = λ a d b is at room told.
    let rest_length_same : c.word_at.result - c.args.wanted ≡ length d - c.args.wanted = ap (λ n. n - c.args.wanted) (c.word_at.ensures ∙ told) in
    c.set_free.ensures ∙ ap (λ xs. with_use xs (c.args.place + c.args.wanted) 0 FREE_OWNER 0) (c.set_word-2.ensures ∙ ap₂ (λ xs n. with_word xs (c.args.place + c.args.wanted) n) (c.set_word.ensures ∙ ap (λ xs. with_word xs c.args.place c.args.wanted) is) rest_length_same)
    ∙ writes a d b c.args.place c.args.wanted at room c.requires.large (length d - c.args.wanted)

pub returns-clause-len : goal.returns-clause-len
returns-clause-len c =
    let rest_fits = c.requires.inside in
    let size_kept = ap length c.set_word.ensures ∙ length-with_word c.args.region.now c.args.place c.args.wanted (omega arith) in
    let rest_kept = ap length c.set_word-2.ensures
    ∙ length-with_word c.set_word.new.region (c.args.place + c.args.wanted) (c.word_at.result - c.args.wanted) (omega arith) in
    ap length c.set_free.ensures ∙ length-with_use c.set_word-2.new.region (c.args.place + c.args.wanted) 0 FREE_OWNER 0 (omega arith) ∙ rest_kept ∙ size_kept
