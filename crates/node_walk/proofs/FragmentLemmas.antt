-- A fragment among those that are listed.
use Rattle.word_rules.proofs.Common.{[], All-contains, ap, arith, Bool, Contains, Contains-append_right, List, map, map-append, refl, subst, sym, ℕ, ◌++◌, ◌∙◌, ◌∷◌, ◌≡◌}
use Rattle.node_walk.specs.Rules.{FragmentEvent, IsFragment, fragments}
use Rattle.level_rules.proofs.walk.RunLemmas.{fragments-are}

-- the one that comes next is within first to last
pub next_fragment : (columns : List Bool) (first last p q : ℕ) (before items rest : List (ℕ × ℕ)) → items ≡ (p, q) ∷ rest → before ++ items ≡ fragments columns first last → IsFragment columns first last p q
next_fragment columns first last p q before items rest e all =
    let all_fragments : before ++ ((p, q) ∷ rest) ≡ fragments columns first last = ap (λ (xs : List (ℕ × ℕ)). before ++ xs) (sym e) ∙ all in
    let contains_it : Contains (before ++ ((p, q) ∷ rest)) (p, q) = Contains-append_right before ((p, q) ∷ rest) (p, q) (0, omega arith, refl) in
    All-contains (λ r. IsFragment columns first last r.0 r.1) (fragments columns first last) (p, q) (fragments-are columns first last) (subst (λ (xs : List (ℕ × ℕ)). Contains xs (p, q)) all_fragments contains_it)

-- the events of those that were listed, of the next one, and of the rest
pub fragments_left : (seg : ℕ) (before items rest all : List (ℕ × ℕ)) (p q : ℕ) → items ≡ (p, q) ∷ rest → before ++ items ≡ all →
    map (λ r. FragmentEvent seg r.0 r.1) before ++ ((FragmentEvent seg p q ∷ []) ++ map (λ r. FragmentEvent seg r.0 r.1) rest) ≡ map (λ r. FragmentEvent seg r.0 r.1) all
fragments_left seg before items rest all p q e h =
    sym (map-append (λ r. FragmentEvent seg r.0 r.1) before ((p, q) ∷ rest))
    ∙ ap (map (λ r. FragmentEvent seg r.0 r.1)) (ap (λ (xs : List (ℕ × ℕ)). before ++ xs) (sym e) ∙ h)
