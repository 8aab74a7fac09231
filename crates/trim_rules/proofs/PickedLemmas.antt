-- What is picked of a book whose lumps are moved is the same shape, moved.
use Rattle.art_rules.proofs.Common.{[], ap, Bool, cond, false, find, List, map, None, Option, option_and_then, option_map, refl, slice_get, Some, suc, true, zero, ℕ, ◌∙◌, ◌∷◌, ◌≡◌}
use Rattle.trim_rules.specs.Rules.{Frame, Shape, is_frame, picked}
use Rattle.trim_rules.proofs.BookLemmas.{move_frame, move_shape}

module _ (σ : ℕ → ℕ) where
  shape-at : (ss : List Shape) (n : ℕ) → slice_get (map (move_shape σ) ss) n ≡ option_map (move_shape σ) (slice_get ss n)
  shape-at [] n = refl
  shape-at (s ∷ ss) zero = refl
  shape-at (s ∷ ss) (suc n) = shape-at ss n

  frame-same : (sprite : List ℕ) (letter : ℕ) (f : Frame) → is_frame sprite letter (move_frame σ f) ≡ is_frame sprite letter f
  unfolding is_frame
  frame-same sprite letter f = refl

  find_step : (b : Bool) (f : Frame) (o : Option Frame) → cond b (Some (move_frame σ f)) (option_map (move_frame σ) o) ≡ option_map (move_frame σ) (cond b (Some f) o)
  find_step true f o = refl
  find_step false f o = refl

  find-moved : (sprite : List ℕ) (letter : ℕ) (book : List Frame) → find (is_frame sprite letter) (map (move_frame σ) book) ≡ option_map (move_frame σ) (find (is_frame sprite letter) book)
  find-moved sprite letter [] = refl
  find-moved sprite letter (f ∷ fs) = rw (frame-same sprite letter f, find-moved sprite letter fs) (find_step (is_frame sprite letter f) f (find (is_frame sprite letter) fs))

  picked_step : (rotation : ℕ) (o : Option Frame) → option_and_then (λ (f : Frame). slice_get f.shapes rotation) (option_map (move_frame σ) o)
      ≡ option_map (move_shape σ) (option_and_then (λ (f : Frame). slice_get f.shapes rotation) o)
  picked_step rotation None = refl
  picked_step rotation (Some f) = shape-at f.shapes rotation

  pub picked-moved : (book : List Frame) (sprite : List ℕ) (letter rotation : ℕ) → picked (map (move_frame σ) book) sprite letter rotation ≡ option_map (move_shape σ) (picked book sprite letter rotation)
  unfolding picked
  picked-moved book sprite letter rotation =
      ap (option_and_then (λ (f : Frame). slice_get f.shapes rotation)) (find-moved sprite letter book) ∙ picked_step rotation (find (is_frame sprite letter) book)
