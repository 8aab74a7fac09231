-- Laws of the strip of a plan that is painted first, and of the one below it.
use Rattle.picture_rules.proofs.Common.{[], AllByRecursion, ap, Bool, cond, false, int_lt, List, not, refl, subst, sym, true, ℕ, ◌&&◌, ◌++◌, ◌∙◌, ◌∷◌, ◌≡◌}
use Rattle.wall_columns.specs.Rules.{ColumnClip, Edges, FragmentNumbers, RowRange, WallStrip, has_texture, joined_lists}
use Rattle.wall_columns.specs.declared.clips.ColumnPlan.{ColumnPlan}
use Rattle.wall_columns.specs.Plans.{HasRowsOf, bottom_strip, first_strip, has_second, middle_strip, no_rows, plan_of, rows_if, strips_by, top_strip}

-- the plan of a fragment has rows of its parts alone
if_none : (is_there : Bool) (rows : RowRange) → is_there ≡ false →
    int_lt (rows_if is_there rows).last (rows_if is_there rows).first ≡ true
if_none is_there rows off = ap (λ (b : Bool). int_lt (rows_if b rows).last (rows_if b rows).first) off

beside_none : (alone : Bool) (rows : RowRange) → alone ≡ true →
    int_lt (cond alone no_rows rows).last (cond alone no_rows rows).first ≡ true
beside_none alone rows on = ap (λ (b : Bool). int_lt (cond b no_rows rows).last (cond b no_rows rows).first) on

wall_none : (alone is_there : Bool) (rows : RowRange) → is_there ≡ false →
    int_lt (cond alone no_rows (rows_if is_there rows)).last (cond alone no_rows (rows_if is_there rows)).first ≡ true
wall_none true is_there rows off = refl
wall_none false is_there rows off = if_none is_there rows off

own : (height : ℕ) (n : FragmentNumbers) (clip : ColumnClip) (e : Edges) → HasRowsOf n (plan_of height n clip e)
unfolding plan_of
own height n clip e = record {
  middle = λ off. if_none (has_texture n.middle_part) _ off;
  top = λ off. wall_none (has_texture n.middle_part) (has_texture n.top_part) _ off;
  beside_top = λ on. beside_none (has_texture n.middle_part) _ on;
  beside_bottom = λ on. beside_none (has_texture n.middle_part) _ on;
}

pub rows-of : (height : ℕ) (n : FragmentNumbers) (clip : ColumnClip) (e : Edges) (plan : ColumnPlan) →
    plan ≡ plan_of height n clip e → HasRowsOf n plan
rows-of height n clip e plan is = subst (HasRowsOf n) (sym is) (own height n clip e)

-- what holds of each strip of a plan holds of the first
pub first-in : (P : WallStrip → Type 0) (n : FragmentNumbers) (plan : ColumnPlan) →
    AllByRecursion P (strips_by n plan) → P (first_strip n plan)
unfolding first_strip
first-in P n plan all = go (has_texture n.middle_part) (has_texture n.top_part) where
  go : (m t : Bool) → P (cond m (middle_strip n plan) (cond t (top_strip n plan) (bottom_strip n plan)))
  go true t = all.0
  go false true = all.1.0
  go false false = all.1.1.0

module _ {X : Type 0} (f : WallStrip → List X) (none : (s : WallStrip) → int_lt s.rows.last s.rows.first ≡ true → f s ≡ []) where
  -- a strip without rows in front of others, and the same strip in front of others that give the same
  pub skip : (s : WallStrip) (ss : List WallStrip) → int_lt s.rows.last s.rows.first ≡ true → joined_lists f (s ∷ ss) ≡ joined_lists f ss
  unfolding joined_lists
  skip s ss no_rows = ap (λ (xs : List X). xs ++ joined_lists f ss) (none s no_rows)

  behind : (s : WallStrip) (xs ys : List WallStrip) → joined_lists f xs ≡ joined_lists f ys → joined_lists f (s ∷ xs) ≡ joined_lists f (s ∷ ys)
  unfolding joined_lists
  behind s xs ys same = ap (λ (zs : List X). f s ++ zs) same

  -- what a plan gives its first strip gives, and the second where it is painted
  strips_painted : (n : FragmentNumbers) (plan : ColumnPlan) → HasRowsOf n plan →
      joined_lists f (first_strip n plan ∷ cond (has_second n plan) (bottom_strip n plan ∷ []) []) ≡ joined_lists f (strips_by n plan)
  unfolding first_strip has_second
  strips_painted n plan rows =
      go (has_texture n.middle_part) (has_texture n.top_part) (int_lt plan.bottom.last plan.bottom.first) refl refl refl where
        m : WallStrip
        m = middle_strip n plan

        t : WallStrip
        t = top_strip n plan

        b : WallStrip
        b = bottom_strip n plan

        go : (is_middle is_top none : Bool) → has_texture n.middle_part ≡ is_middle → has_texture n.top_part ≡ is_top →
            int_lt plan.bottom.last plan.bottom.first ≡ none →
            joined_lists f (cond is_middle m (cond is_top t b) ∷ cond ((not is_middle && is_top) && not none) (b ∷ []) []) ≡ joined_lists f (m ∷ (t ∷ (b ∷ [])))
        go true is_top none_below e same g = behind m [] (t ∷ (b ∷ [])) (sym (skip t (b ∷ []) (rows.beside_top e) ∙ skip b [] (rows.beside_bottom e)))
        go false true true e same g = behind t [] (b ∷ []) (sym (skip b [] g)) ∙ sym (skip m (t ∷ (b ∷ [])) (rows.middle e))
        go false true false e same g = sym (skip m (t ∷ (b ∷ [])) (rows.middle e))
        go false false none_below e same g = sym (skip m (t ∷ (b ∷ [])) (rows.middle e) ∙ skip t (b ∷ []) (rows.top same))

  -- by the strip that is painted first, and whether there is a second
  pub first-painted : (n : FragmentNumbers) (plan : ColumnPlan) (s : WallStrip) (second : Bool) → s ≡ first_strip n plan →
      HasRowsOf n plan → has_second n plan ≡ second →
      joined_lists f (s ∷ cond second (bottom_strip n plan ∷ []) []) ≡ joined_lists f (strips_by n plan)
  first-painted n plan s second is rows on =
      ap (λ (s : WallStrip). joined_lists f (s ∷ cond second (bottom_strip n plan ∷ []) [])) is
      ∙ ap (λ (b : Bool). joined_lists f (first_strip n plan ∷ cond b (bottom_strip n plan ∷ []) [])) (sym on)
      ∙ strips_painted n plan rows
