-- The pictures of a frame by the mentions of fewer lumps: where those that are its pictures are kept, they stay so.
use Rattle.art_rules.proofs.Common.{[], ap, Bool, cond, false, filter, List, None, Option, refl, Some, suc, sym, true, ℕ, ◌==◌, ◌∙◌, ◌∷◌, ◌≡◌}
use Rattle.trim_rules.specs.Rules.{Mention, frame_picture, is_of_frame, is_of_rotation, last_that, or_else, picture_by, picture_if}

-- none passes among fewer
fewer_none : (passes keep : Mention → Bool) (x : Mention) (rest : List Mention) (kept : Bool)
    → (last_that passes rest ≡ None → last_that passes (filter keep rest) ≡ None)
    → (r : Option Mention) (b : Bool) → last_that passes rest ≡ r → passes x ≡ b → or_else r (cond b (Some x) None) ≡ None
    → last_that passes (cond kept (x ∷ filter keep rest) (filter keep rest)) ≡ None
unfolding last_that
fewer_none passes keep x rest kept h (Some v) b f q e = cc
fewer_none passes keep x rest kept h None true f q e = cc
fewer_none passes keep x rest true h None false f q e = rw (h f, q) refl
fewer_none passes keep x rest false h None false f q e = h f

pub last_that-fewer_none : (passes keep : Mention → Bool) (all : List Mention)
    → last_that passes all ≡ None → last_that passes (filter keep all) ≡ None
unfolding last_that
last_that-fewer_none passes keep [] e = refl
last_that-fewer_none passes keep (x ∷ rest) e =
    fewer_none passes keep x rest (keep x) (last_that-fewer_none passes keep rest) (last_that passes rest) (passes x) refl refl e

-- the last that passes is kept, and is the last of fewer
fewer_some : (passes keep : Mention → Bool) (x m : Mention) (rest : List Mention)
    → (last_that passes rest ≡ Some m → last_that passes (filter keep rest) ≡ Some m)
    → keep m ≡ true
    → (kept : Bool) → keep x ≡ kept
    → (r : Option Mention) (b : Bool) → last_that passes rest ≡ r → passes x ≡ b → or_else r (cond b (Some x) None) ≡ Some m
    → last_that passes (cond kept (x ∷ filter keep rest) (filter keep rest)) ≡ Some m
unfolding last_that
fewer_some passes keep x m rest h k true g (Some v) b f q e = rw (h (f ∙ e)) refl
fewer_some passes keep x m rest h k false g (Some v) b f q e = h (f ∙ e)
fewer_some passes keep x m rest h k true g None true f q e = rw (last_that-fewer_none passes keep rest f, q) e
fewer_some passes keep x m rest h k false g None true f q e = let mentions_same : x ≡ m = cc in absurd (cc)
fewer_some passes keep x m rest h k kept g None false f q e = cc

pub last_that-fewer : (passes keep : Mention → Bool) (all : List Mention) (m : Mention)
    → last_that passes all ≡ Some m → keep m ≡ true → last_that passes (filter keep all) ≡ Some m
unfolding last_that
last_that-fewer passes keep [] m e k = cc
last_that-fewer passes keep (x ∷ rest) m e k =
    fewer_some passes keep x m rest (λ f. last_that-fewer passes keep rest m f k) k (keep x) refl (last_that passes rest) (passes x) refl refl e

-- the picture of a frame from a rotation, where the last mention of the frame and this picture are kept
picture_fewer : (keep : Mention → Bool) (all : List Mention) (frame k : ℕ) (last m : Mention)
    → keep m ≡ true → (b : Bool) → (last.rotation == 0) ≡ b
    → cond b (Some last) (last_that (is_of_rotation frame (suc k)) all) ≡ Some m
    → cond b (Some last) (last_that (is_of_rotation frame (suc k)) (filter keep all)) ≡ Some m
picture_fewer keep all frame k last m kept true z e = e
picture_fewer keep all frame k last m kept false z e = last_that-fewer (is_of_rotation frame (suc k)) keep all m e kept

pub frame_picture-fewer : (keep : Mention → Bool) (all : List Mention) (frame k : ℕ) (last m : Mention)
    → last_that (is_of_frame frame) all ≡ Some last → keep last ≡ true
    → frame_picture all frame k ≡ Some m → keep m ≡ true
    → frame_picture (filter keep all) frame k ≡ Some m
unfolding frame_picture picture_if picture_by
frame_picture-fewer keep all frame k last m l kl e km =
    let picture_is : cond (last.rotation == 0) (Some last) (last_that (is_of_rotation frame (suc k)) all) ≡ Some m =
    ap (λ o. picture_if all frame o k) (sym l) ∙ e in
    ap (λ o. picture_if (filter keep all) frame o k) (last_that-fewer (is_of_frame frame) keep all last l kl)
    ∙ picture_fewer keep all frame k last m km (last.rotation == 0) refl picture_is
