-- Laws of the clips of a column: by the last fragment that has it, and with one fragment more.
use Rattle.word_rules.proofs.Common.{[], ap, arith, Bool, cond, false, length, List, None, Option, refl, slice_get, Some, suc, true, zero, ℕ, ◌++◌, ◌<◌, ◌∙◌, ◌∷◌, ◌≡◌, ◌≤◌}
use Rattle.picture_rules.specs.Rules.{ViewShape, greatest}
use Rattle.picture_rules.specs.declared.wall.ColumnClip.{ColumnClip}
use Rattle.picture_rules.specs.wall.Walls.{Wall, has_column, past_wall, past_some, clip_before, clip_past, some_has, wall_has, last_wall, clip_by}

pub past_wall-other : (shape : ViewShape) (x : ℕ) (w : Wall) (clip : ColumnClip) → has_column w x ≡ false → past_wall shape x w clip ≡ clip
unfolding past_wall
past_wall-other shape x w clip h = rw h refl

some_other : (shape : ViewShape) (x : ℕ) (o : Option Wall) (clip : ColumnClip) → some_has x o ≡ false → past_some shape x o clip ≡ clip
unfolding past_some some_has
some_other shape x None clip h = refl
some_other shape x (Some w) clip h = past_wall-other shape x w clip h

by_step : (shape : ViewShape) (walls : List Wall) (x k : ℕ) (r : Option ℕ) (b : Bool) → wall_has walls x k ≡ b →
    clip_before shape walls k x ≡ clip_by shape walls x r → clip_before shape walls (suc k) x ≡ clip_by shape walls x (cond b (Some k) r)
unfolding clip_before clip_by clip_past wall_has
by_step shape walls x k r true e i = refl
by_step shape walls x k r false e i = some_other shape x (slice_get walls k) (clip_before shape walls k x) e ∙ i

none_before : (shape : ViewShape) (walls : List Wall) (x : ℕ) → clip_before shape walls 0 x ≡ clip_by shape walls x None
unfolding clip_before clip_by
none_before shape walls x = refl

-- the clip before fragment k is what the greatest fragment before it that has the column leaves
pub clip_before-last : (shape : ViewShape) (walls : List Wall) (k x : ℕ) → clip_before shape walls k x ≡ clip_by shape walls x (last_wall walls x k)
unfolding last_wall greatest
clip_before-last shape walls zero x = none_before shape walls x
clip_before-last shape walls (suc k) x =
    by_step shape walls x k (greatest (wall_has walls x) k) (wall_has walls x k) refl (clip_before-last shape walls k x)

get_front : (walls more : List Wall) (k : ℕ) → k < length walls → slice_get (walls ++ more) k ≡ slice_get walls k
get_front [] more k l = absurd (omega arith)
get_front (w ∷ ws) more zero l = refl
get_front (w ∷ ws) more (suc k) l = get_front ws more k (omega arith)

get_next : (walls : List Wall) (w : Wall) (n : ℕ) → n ≡ length walls → slice_get (walls ++ w ∷ []) n ≡ Some w
get_next [] w n e = rw e refl
get_next (u ∷ us) w n e = rw e (get_next us w (length us) refl)

-- fragments that come later change nothing before them
pub clip_before-front : (shape : ViewShape) (walls more : List Wall) (k x : ℕ) → k ≤ length walls → clip_before shape (walls ++ more) k x ≡ clip_before shape walls k x
unfolding clip_before
clip_before-front shape walls more zero x l = refl
clip_before-front shape walls more (suc k) x l =
    ap (λ (o : Option Wall). past_some shape x o (clip_before shape (walls ++ more) k x)) (get_front walls more k (omega arith))
    ∙ ap (past_some shape x (slice_get walls k)) (clip_before-front shape walls more k x (omega arith))

pub clip_past-front : (shape : ViewShape) (walls more : List Wall) (k x : ℕ) → k < length walls → clip_past shape (walls ++ more) k x ≡ clip_past shape walls k x
unfolding clip_past
clip_past-front shape walls more k x l = clip_before-front shape walls more (suc k) x (omega arith)

-- one fragment more
pub clip_past-next : (shape : ViewShape) (walls : List Wall) (w : Wall) (n x : ℕ) → n ≡ length walls →
    clip_past shape (walls ++ w ∷ []) n x ≡ past_wall shape x w (clip_before shape walls n x)
unfolding clip_past clip_before past_some
clip_past-next shape walls w n x e =
    rw (get_next walls w n e) (ap (past_wall shape x w) (clip_before-front shape walls (w ∷ []) n x (omega arith)))
