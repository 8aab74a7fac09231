-- Laws of the columns of a picture, by its bytes and those of the colormap.
use Rattle.picture_rules.proofs.Common.{[], ap, Bool, cond, false, int_le, int_lt, List, pos, sym, true, ℕ, ℤ, ◌&&◌, ◌∙◌, ◌≡◌}
use Rattle.brush.specs.Rules.{Dot, MaskedColumn, Painter, Post, ViewShape, byte_at, column_place, half_at, natural, posts, posts_dots}
use Rattle.pixel_strips.specs.Canvases.{CanvasView, with_dots}
use Rattle.pixel_strips.proofs.CanvasLemmas.{dots_none}
use Rattle.texture_build.specs.{Arts.own_posts}
use Rattle.brush.proofs.PostLemmas.{posts-nil}

-- a column that the picture does not have
pub own-outside : (mark : Painter → ℕ → ℕ) (shape : ViewShape) (x : ℕ) (column : MaskedColumn) (bytes : List ℕ) (shade_of : ℕ → ℕ) (own : ℤ)
    (canvas : CanvasView) →
    (int_le (pos 0) own && int_lt own (pos (half_at bytes 0))) ≡ false →
    canvas ≡ with_dots mark (posts_dots shape canvas.painter x column (byte_at bytes) shade_of (own_posts bytes own)) canvas
own-outside mark shape x column bytes shade_of own canvas out =
    let no_posts : own_posts bytes own ≡ [] = ap (λ (b : Bool). cond b (posts bytes (column_place bytes (natural own))) []) out in
    dots_none mark canvas
    ∙ ap (λ (dots : List Dot). with_dots mark dots canvas) (sym (ap (posts_dots shape canvas.painter x column (byte_at bytes) shade_of) no_posts ∙ posts-nil shape canvas.painter x column (byte_at bytes) shade_of))

pub natural_of : (z : ℤ) (n : ℕ) → z ≡ pos n → natural z ≡ n
unfolding natural
natural_of z n e = ap natural e

-- one that it has
pub own-inside : (mark : Painter → ℕ → ℕ) (shape : ViewShape) (x : ℕ) (column : MaskedColumn) (bytes : List ℕ) (shade_of : ℕ → ℕ) (place n : ℕ) (own : ℤ)
    (old new : CanvasView) →
    (int_le (pos 0) own && int_lt own (pos (half_at bytes 0))) ≡ true → own ≡ pos n → place ≡ column_place bytes n →
    new ≡ with_dots mark (posts_dots shape old.painter x column (byte_at bytes) shade_of (posts bytes place)) old →
    new ≡ with_dots mark (posts_dots shape old.painter x column (byte_at bytes) shade_of (own_posts bytes own)) old
own-inside mark shape x column bytes shade_of place n own old new inside here at h =
    let posts_same : posts bytes place ≡ own_posts bytes own =
    ap (posts bytes) (at ∙ ap (column_place bytes) (sym (natural_of own n here)))
    ∙ sym (ap (λ (b : Bool). cond b (posts bytes (column_place bytes (natural own))) []) inside) in
    h ∙ ap (λ (ps : List Post). with_dots mark (posts_dots shape old.painter x column (byte_at bytes) shade_of ps) old) posts_same

-- a function of two words, at others
pub same_words : (f : ℤ → ℤ → ℤ) (a b c d : ℤ) → a ≡ b → c ≡ d → f a c ≡ f b d
same_words f a b c d p q = ap (λ (z : ℤ). f z c) p ∙ ap (f b) q
