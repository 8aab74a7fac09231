-- A list in pieces, each element of which gives some bytes.
use Rattle.art_rules.proofs.Common.{◌≡◌, ℕ, ◌+◌, List, ◌++◌, take, drop, ap, sym, ◌∙◌, flat_map, flat_map-append, take-append-drop, take-add}

-- one piece more
pub pieces_more : (f : ℕ → List ℕ) (frame : List ℕ) (k n m : ℕ) → k + n ≡ m →
    flat_map f (take k frame) ++ flat_map f (take n (drop k frame)) ≡ flat_map f (take m frame)
pieces_more f frame k n m e =
    sym (flat_map-append f (take k frame) (take n (drop k frame))) ∙ ap (flat_map f) (sym (take-add k n frame) ∙ ap (λ i. take i frame) e)

-- the pieces so far, the next one, and what is left
pub pieces_left : (f : ℕ → List ℕ) (frame : List ℕ) (k n : ℕ) →
    flat_map f (take k frame) ++ (flat_map f (take n (drop k frame)) ++ flat_map f (drop n (drop k frame))) ≡ flat_map f frame
pieces_left f frame k n =
    ap (λ v. flat_map f (take k frame) ++ v) (sym (flat_map-append f (take n (drop k frame)) (drop n (drop k frame))) ∙ ap (flat_map f) (take-append-drop n (drop k frame)))
    ∙ sym (flat_map-append f (take k frame) (drop k frame)) ∙ ap (flat_map f) (take-append-drop k frame)
