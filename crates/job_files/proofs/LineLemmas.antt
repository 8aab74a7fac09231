-- A line of three parts.
use Rattle.std.proofs.Common.{◌≡◌, ℕ, List, [], ◌++◌, ap, ◌∙◌, append_assoc}

-- a line to which three parts were added, one after the other, has them in order
pub three_added : (a b c : List ℕ) (start one two three : List ℕ) → start ≡ [] → one ≡ start ++ a → two ≡ one ++ b → three ≡ two ++ c → three ≡ a ++ (b ++ c)
three_added a b c start one two three e f g h =
    h ∙ ap (λ (v : List ℕ). v ++ c) (g ∙ ap (λ (v : List ℕ). v ++ b) (f ∙ ap (λ (v : List ℕ). v ++ a) e)) ∙ append_assoc a b c
