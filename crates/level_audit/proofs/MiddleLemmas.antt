-- Laws of `is_all_single` and `bad_middle`, and what columns of single patches are read from.
use Rattle.art_rules.proofs.Common.{All, ap, arith, Bool, cases_lt, eq-eqb, false, get_or, get_or-range_with_len, get_or_default, get_or_past, inl, inr, IsSome, length, length-range_with_len, List, list_all, list_all_at, list_any, list_any_at, range_with_len, refl, subst, suc, sym, true, zero, zero-add, ℕ, ◌&&◌, ◌+◌, ◌<◌, ◌∙◌, ◌≡◌, ◌≤◌}
use Rattle.level_audit.specs.Rules.{PreparedTexture, Seg, SideTextures, bad_middle, is_all_single, is_bad_middle, is_bad_side, is_seen_through, is_single, least, mask_of, middle_of, single_place, three_textures}
use Rattle.texture_build.specs.{Sources.own_lookup, Views.TexturesView, Views.is_marked}
use Rattle.sound_scene.specs.Whole.{AllColumnsSingle, IsMiddleSingle, IsNoneOrSingle}

range_all : (p : ℕ → Bool) (a n : ℕ) → ((k : ℕ) → k < a + n → p k ≡ true) → list_all p (range_with_len a n) ≡ true
range_all p a zero all = refl
range_all p a (suc n) all = rw (all a (omega arith)) (range_all p (a + 1) n (λ k l. all k (omega arith)))

-- each column to the mask has one patch
pub all_single : (t : PreparedTexture) (last n : ℕ) → last ≡ mask_of (length t.columns) → last < n → ((x : ℕ) → x < n → is_single t.patches x ≡ true) → is_all_single t ≡ true
unfolding is_all_single
all_single t last n e l all = range_all (is_single t.patches) 0 (mask_of (length t.columns) + 1) (λ k m. all k (omega (arith, e)))

-- one of them has not
pub not_all_single : (t : PreparedTexture) (last x : ℕ) → last ≡ mask_of (length t.columns) → x ≤ last → is_single t.patches x ≡ false → is_all_single t ≡ false
unfolding is_all_single
not_all_single t last x e l other =
    let column_count = mask_of (length t.columns) + 1 in let column_below_count : x < column_count = omega (arith, e) in
    let column_in_range : x < length (range_with_len 0 column_count) = omega (arith, length-range_with_len 0 column_count) in
    list_all_at (is_single t.patches) (range_with_len 0 column_count) x 0 column_in_range
    (ap (is_single t.patches) (get_or-range_with_len 0 column_count x 0 column_below_count ∙ zero-add x) ∙ other)

least_same : (p q : ℕ → Bool) (n : ℕ) → ((k : ℕ) → k < n → p k ≡ q k) → least p n ≡ least q n
unfolding least
least_same p q zero same = refl
least_same p q (suc n) same = rw (least_same p q n (λ k l. same k (omega arith)), same n (omega arith)) refl

-- the sides of segs with a sector behind them are marked
pub bad_middle-marked : (texture : ℕ → PreparedTexture) (segs : List Seg) (sides : List SideTextures) (marks : List Bool) → ((side : ℕ) → side < length sides → is_marked marks side ≡ list_any (is_seen_through side) segs) →
    least (λ side. is_marked marks side && is_bad_middle texture (middle_of sides side)) (length sides) ≡ bad_middle texture segs sides
unfolding bad_middle is_bad_side
bad_middle-marked texture segs sides marks same =
    least_same (λ side. is_marked marks side && is_bad_middle texture (middle_of sides side)) (is_bad_side texture segs sides) (length sides)
    (λ side l. ap (λ b. b && is_bad_middle texture (middle_of sides side)) (same side l))

-- one side, read in a loop
pub marked_read : (texture : ℕ → PreparedTexture) (sides : List SideTextures) (marks : List Bool) (side : ℕ) (d : SideTextures) (marked : Bool) → side < length sides → marked ≡ is_marked marks side →
    (is_marked marks side && is_bad_middle texture (middle_of sides side)) ≡ (marked && is_bad_middle texture (get_or sides side d).middle)
marked_read texture sides marks side d marked l e =
    ap (λ b. b && is_bad_middle texture (middle_of sides side)) (sym e)
    ∙ ap (λ (one : SideTextures). marked && is_bad_middle texture one.middle) (get_or_default sides side (three_textures 0 0 0) d l)

-- each column to the mask is read from one patch
pub all_columns : (t : PreparedTexture) (last n : ℕ) → last ≡ mask_of (length t.columns) → last < n → ((x : ℕ) → x < n → IsSome (single_place (own_lookup t x))) → AllColumnsSingle t
all_columns t last n e l all = λ x m. all x (omega (arith, e, l, m))

-- one side, read in a loop, whose middle is not bad
pub single_read : (textures : TexturesView) (sides : List SideTextures) (marks : List Bool) (side : ℕ) (d : SideTextures) (marked bad : Bool) → side < length sides → marked ≡ is_marked marks side → bad ≡ false →
    (marked ≡ true → bad ≡ false → IsNoneOrSingle textures (get_or sides side d).middle) → is_marked marks side ≡ true → IsNoneOrSingle textures (middle_of sides side)
single_read textures sides marks side d marked bad l e f single on =
    subst (λ (one : SideTextures). IsNoneOrSingle textures one.middle) (sym (get_or_default sides side (three_textures 0 0 0) d l)) (single (e ∙ on) f)

-- the side of a seg with a sector behind it is seen through
seen_seg : (seg : Seg) → IsSome seg.back → is_seen_through seg.side seg ≡ true
unfolding is_seen_through
seen_seg seg behind = rw (eq-eqb seg.side seg.side refl) behind

-- where the middles of all such sides are none or of single columns, so are those of such segs
pub middles_single : (textures : TexturesView) (segs : List Seg) (sides : List SideTextures) →
    ((side : ℕ) → side < length sides → list_any (is_seen_through side) segs ≡ true → IsNoneOrSingle textures (middle_of sides side)) →
    All (IsMiddleSingle textures sides) segs
unfolding three_textures
middles_single textures segs sides single = λ i d l behind.
    let seg = get_or segs i d in
    elim (cases_lt seg.side (length sides)) [
      | inl m ↦ single seg.side m (list_any_at (is_seen_through seg.side) segs i d l (seen_seg seg behind))
      | inr m ↦ inl (ap (λ (side : SideTextures). side.middle) (get_or_past sides seg.side (three_textures 0 0 0) (omega (arith, m))))
    ]
