-- Laws of the strip that a layer shows.
use Rattle.picture_rules.proofs.Common.{[], ap, arith, List, None, Option, refl, Result, ⊤, slice_index_or, subst, suc, sym, unwrap_or, zero, ℕ, ℤ, ◌++◌, ◌-◌, ◌<◌, ◌∙◌, ◌∷◌, ◌≡◌, ◌≤◌}
use Rattle.picture_rules.specs.Words.{Art, Dot, joined_lists, listed_from, lump_source, MaskedColumn, Painter, painter_of, picture_column, posts_dots, ViewValue, WEAPON, weapon_column, weapon_dots, weapon_iscale, weapon_map, weapon_masked, WeaponLayer}
use Rattle.pixel_strips.specs.{Canvases.CanvasView, Standing.StandsInFrame}
use Rattle.texture_build.specs.{CacheFault.CacheFault, Caches.cache_fault, DirectoryView.DirectoryView, Views.TexturesView}
use Rattle.texture_build.specs.Paints.{PaintState, Paints, painted_art}
use Rattle.texture_build.proofs.PaintLemmas.{paints-same, paints-wider}
use Rattle.brush.specs.{Pictures.ArePictureColumns, Pictures.PaintsPicture, Posts.HasClipsIn}
use Rattle.brush.specs.Strips.{PictureStripValue, column_of_picture, picture_dots, picture_masked}
use Rattle.weapon_overlay.specs.Layers.{layer_tools, seen_dots, weapon_strip}
use Rattle.weapon_overlay.specs.Seen.{IsPictureOf, IsSeenIn}
use Rattle.weapon_overlay.proofs.InViewLemmas.{masked_clips}

lists_same : (f g : ℕ → List Dot) (xs : List ℕ) → ((x : ℕ) → f x ≡ g x) → joined_lists f xs ≡ joined_lists g xs
unfolding joined_lists
lists_same f g [] h = refl
lists_same f g (x ∷ xs) h = ap (λ (ys : List Dot). ys ++ joined_lists f xs) (h x) ∙ ap (λ (ys : List Dot). g x ++ ys) (lists_same f g xs h)

-- its lump is that of the layer's picture
pub strip-lump : (v : ViewValue) (l : WeaponLayer) (left : ℤ) (first last lumps : ℕ) (s : PictureStripValue) → s ≡ weapon_strip v l left first last → l.shape.lump < lumps → s.lump < lumps
unfolding weapon_strip
strip-lump v l left first last lumps s is there = subst (λ (p : PictureStripValue). p.lump < lumps) (sym is) there

-- nothing but the view clips a layer
no_clip : (x : ℕ) → slice_index_or {A = Option ℤ} [] x None ≡ None
no_clip zero = refl
no_clip (suc x) = refl

strip-masked : (v : ViewValue) (l : WeaponLayer) (left : ℤ) (first last x : ℕ) → picture_masked (weapon_strip v l left first last) x ≡ weapon_masked v l
unfolding picture_masked weapon_strip
strip-masked v l left first last x =
    let with_rows : Option ℤ → MaskedColumn = λ row. record (weapon_masked v l) { top_clip = unwrap_or row (weapon_masked v l).top_clip; bottom_clip = unwrap_or row (weapon_masked v l).bottom_clip } in
    ap with_rows (no_clip (x - first))

-- the columns of its picture are in the frame and clipped to the view
pub strip-columns : (v : ViewValue) (l : WeaponLayer) (left : ℤ) (first last : ℕ) (canvas : CanvasView) → first ≤ last → last < v.shape.width → StandsInFrame v.shape canvas →
    ArePictureColumns canvas (weapon_strip v l left first last)
unfolding weapon_strip
strip-columns v l left first last canvas ordered within placed = record {
  ordered = ordered;
  last = (omega (arith, within, placed.columns), placed.rows);
  clips = λ x from to. subst (HasClipsIn v.shape.height) (sym (strip-masked v l left first last x)) (masked_clips v l);
}

-- and have the dots of the layer there
column-dots : (v : ViewValue) (art : Art) (l : WeaponLayer) (left : ℤ) (first last x : ℕ) → column_of_picture art (weapon_strip v l left first last) x ≡ weapon_column v art l left x
unfolding column_of_picture weapon_column weapon_strip weapon_masked
column-dots v art l left first last x =
    ap (λ (column : MaskedColumn). posts_dots v.shape (painter_of WEAPON l.row (lump_source l.shape.lump)) x column (art.byte l.shape.lump) (art.shade (weapon_map v l))
    (art.picture_posts l.shape.lump (picture_column l.shape.flip l.shape.width left (weapon_iscale v.shape) x))) (strip-masked v l left first last x)

pub strip-dots : (v : ViewValue) (art : Art) (l : WeaponLayer) (left : ℤ) (first last : ℕ) → picture_dots art (weapon_strip v l left first last) ≡ seen_dots v art l left first last
unfolding picture_dots weapon_strip seen_dots
strip-dots v art l left first last = lists_same (column_of_picture art (weapon_strip v l left first last)) (weapon_column v art l left) (listed_from (λ x. x) first last) (λ x. column-dots v art l left first last x)

-- So a call that paints its strip paints the layer, of which the first of these columns is seen.
pub layer-painted : {mark : Painter → ℕ → ℕ} (v : ViewValue) (l : WeaponLayer) (left : ℤ) (first last : ℕ) (dir : DirectoryView) (colormap : ℕ) (textures : TexturesView) {a b : PaintState} {result : Result (Unit {0}) CacheFault} →
    ((art : Art) → seen_dots v art l left first last ≡ weapon_dots v art l) → IsSeenIn v l first → (s : PictureStripValue) → s ≡ weapon_strip v l left first last →
    PaintsPicture mark (layer_tools dir colormap textures) s a b result →
    Paints cache_fault mark (layer_tools dir colormap textures) (λ (n : ℕ) (own : ℤ). ⊥) (IsPictureOf v l) (λ (q : Unit {0}). ⊤)
    (λ contents q. weapon_dots v (painted_art contents (layer_tools dir colormap textures)) l) a b result
unfolding weapon_strip
layer-painted {mark} v l left first last dir colormap textures {a} {b} {result} are_seen seen s is one =
    let by_strip : PaintsPicture mark (layer_tools dir colormap textures) (weapon_strip v l left first last) a b result =
    subst (λ (p : PictureStripValue). PaintsPicture mark (layer_tools dir colormap textures) p a b result) is one in
    paints-same _ (λ contents q is. strip-dots v (painted_art contents (layer_tools dir colormap textures)) l left first last ∙ are_seen (painted_art contents (layer_tools dir colormap textures)))
    (paints-wider (λ n own is. is) (λ lump is. record { is = is; x = first; seen = seen }) by_strip)
