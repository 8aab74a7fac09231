-- Laws of the plan of a column and of a fragment's strips there: they are rows of the view, of parts that are there.
use Rattle.picture_rules.proofs.Common.{[], All, All-cons, All-nil, ap, append-nil, arith, Bool, cond, false, inl, inr, ints, List, nat_tests, not, pos, refl, subst, sym, true, ℕ, ◌++◌, ◌<ℤ◌, ◌==◌, ◌∙◌, ◌∷◌, ◌≡◌, ◌≢◌, ◌≤◌, AllByRecursion, All-contains, All-from_recursion, Contains}
use Rattle.wall_columns.specs.Rules.{ColumnClip, Edges, FRAME_HEIGHT, FragmentNumbers, Part, RowRange, WallStrip, bottom_rows, ceiling_rows, floor_rows, has_texture, joined_lists, middle_rows, strip_of, top_rows, wall_strips}
use Rattle.picture_rules.proofs.Laws.{joined_lists-append}
use Rattle.wall_columns.specs.{Windows.IsClipIn, declared.clips.ColumnPlan.ColumnPlan}
use Rattle.wall_columns.specs.Plans.{no_rows, rows_if, plan_of, strips_by, AreRowsIn, IsInRows, IsPartTexture, AreEdgeWords}
use Rattle.wall_columns.proofs.ClipLemmas.{middle_rows-in, top_rows-in, bottom_rows-in, ceiling_rows-in, floor_rows-in, clip_after-in}

none_in : (height : ℕ) → AreRowsIn height no_rows
none_in height = λ h. absurd (omega (arith, ints))

if_in : (height : ℕ) (b : Bool) (rows : RowRange) → AreRowsIn height rows → AreRowsIn height (rows_if b rows)
if_in height true rows h = h
if_in height false rows h = none_in height

unless_in : (height : ℕ) (b : Bool) (rows : RowRange) → AreRowsIn height rows → AreRowsIn height (cond b no_rows rows)
unless_in height true rows h = none_in height
unless_in height false rows h = h

abbrev strip : Part → RowRange → WallStrip
strip part rows = record { part = part; rows = rows }

all_three : (P : WallStrip → Type 0) (a b c : WallStrip) → P a → P b → P c → All P (a ∷ (b ∷ (c ∷ [])))
all_three P a b c x y z = All-cons P a (b ∷ (c ∷ [])) x (All-cons P b (c ∷ []) y (All-cons P c [] z (All-nil P)))

-- each strip lies in the view
pub plan_strips-in : (height : ℕ) (n : FragmentNumbers) (clip : ColumnClip) (e : Edges) → height ≤ FRAME_HEIGHT → IsClipIn height clip → AreEdgeWords e →
    All (IsInRows height) (strips_by n (plan_of height n clip e))
unfolding plan_of
plan_strips-in height n clip e s i w =
    all_three (IsInRows height)
    (strip n.middle_part (rows_if (has_texture n.middle_part) (middle_rows clip e)))
    (strip n.top_part (cond (has_texture n.middle_part) no_rows (rows_if (has_texture n.top_part) (top_rows clip e))))
    (strip n.bottom_part (cond (has_texture n.middle_part) no_rows (rows_if (has_texture n.bottom_part) (bottom_rows n clip e))))
    (if_in height (has_texture n.middle_part) (middle_rows clip e) (middle_rows-in height clip e s i w))
    (unless_in height (has_texture n.middle_part) (rows_if (has_texture n.top_part) (top_rows clip e)) (if_in height (has_texture n.top_part) (top_rows clip e) (top_rows-in height clip e s i w)))
    (unless_in height (has_texture n.middle_part) (rows_if (has_texture n.bottom_part) (bottom_rows n clip e)) (if_in height (has_texture n.bottom_part) (bottom_rows n clip e) (bottom_rows-in height n clip e s i w)))

number_there : (part : Part) → has_texture part ≡ true → part.number ≢ 0
unfolding has_texture
number_there part h = λ e. let number_is_zero : not (part.number == 0) ≡ false = grind (arith, nat_tests) in cc

module _ {X : Type 0} (f : WallStrip → List X) (none : (part : Part) → f (strip part no_rows) ≡ []) where
  one_strip : (part : Part) (rows : RowRange) (b : Bool) → f (strip part (rows_if b rows)) ≡ joined_lists f (cond b (strip part rows ∷ []) [])
  unfolding joined_lists
  one_strip part rows true = sym (append-nil (f (strip part rows)))
  one_strip part rows false = none part

  three_lists : (a b c : WallStrip) → joined_lists f (a ∷ (b ∷ (c ∷ []))) ≡ f a ++ (f b ++ f c)
  unfolding joined_lists
  three_lists a b c = ap (λ (xs : List X). f a ++ (f b ++ xs)) (append-nil (f c))

  by_middle : (m t b : Part) (ms ts bs : RowRange) (has_m has_t has_b : Bool) →
      f (strip m (rows_if has_m ms)) ++ (f (strip t (cond has_m no_rows (rows_if has_t ts))) ++ f (strip b (cond has_m no_rows (rows_if has_b bs))))
      ≡ joined_lists f (cond has_m (cond has_m (strip m ms ∷ []) []) (cond has_t (strip t ts ∷ []) [] ++ cond has_b (strip b bs ∷ []) []))
  by_middle m t b ms ts bs true has_t has_b =
      ap (λ (xs : List X). f (strip m ms) ++ (xs ++ f (strip b no_rows))) (none t)
      ∙ ap (λ (xs : List X). f (strip m ms) ++ xs) (none b)
      ∙ append-nil (f (strip m ms)) ∙ one_strip m ms true
  by_middle m t b ms ts bs false has_t has_b =
      ap (λ (xs : List X). xs ++ (f (strip t (rows_if has_t ts)) ++ f (strip b (rows_if has_b bs)))) (none m)
      ∙ ap (λ (xs : List X). xs ++ f (strip b (rows_if has_b bs))) (one_strip t ts has_t)
      ∙ ap (λ (xs : List X). joined_lists f (cond has_t (strip t ts ∷ []) []) ++ xs) (one_strip b bs has_b)
      ∙ sym (joined_lists-append f (cond has_t (strip t ts ∷ []) []) (cond has_b (strip b bs ∷ []) []))

  -- what a plan's strips give, where one without rows gives nothing, the fragment's strips give
  pub plan_strips-same : (height : ℕ) (n : FragmentNumbers) (clip : ColumnClip) (e : Edges) →
      joined_lists f (strips_by n (plan_of height n clip e)) ≡ joined_lists f (wall_strips n clip e)
  unfolding plan_of wall_strips strip_of
  plan_strips-same height n clip e =
      three_lists
      (strip n.middle_part (rows_if (has_texture n.middle_part) (middle_rows clip e)))
      (strip n.top_part (cond (has_texture n.middle_part) no_rows (rows_if (has_texture n.top_part) (top_rows clip e))))
      (strip n.bottom_part (cond (has_texture n.middle_part) no_rows (rows_if (has_texture n.bottom_part) (bottom_rows n clip e))))
      ∙ by_middle n.middle_part n.top_part n.bottom_part (middle_rows clip e) (top_rows clip e) (bottom_rows n clip e)
      (has_texture n.middle_part) (has_texture n.top_part) (has_texture n.bottom_part)

-- rows of a view are rows of a frame
wider : (height : ℕ) (rows : RowRange) → height ≤ FRAME_HEIGHT → AreRowsIn height rows → AreRowsIn FRAME_HEIGHT rows
wider height rows s h = λ r. ((h r).0, (let last_below_height : rows.last <ℤ pos height = (h r).1 in omega (arith, ints)))

-- what a plan marks lies in a frame, and what it leaves open in the view
abbrev pub IsPlanIn : ℕ → ColumnPlan → Type 0
IsPlanIn height plan = AreRowsIn FRAME_HEIGHT plan.ceiling × (AreRowsIn FRAME_HEIGHT plan.floor × IsClipIn height plan.after)

pub plan-in : {own height : ℕ} (n : FragmentNumbers) (clip : ColumnClip) (e : Edges) {plan : ColumnPlan} → plan ≡ plan_of own n clip e → own ≡ height → height ≤ FRAME_HEIGHT → IsClipIn height clip → AreEdgeWords e →
    IsPlanIn height plan
unfolding plan_of
plan-in {own} {height} n clip e p same s i w =
    subst (IsPlanIn height) (sym (p ∙ ap (λ (h : ℕ). plan_of h n clip e) same))
    (wider height (ceiling_rows clip e) s (ceiling_rows-in height clip e s i w), (wider height (floor_rows clip e) s (floor_rows-in height clip e s i w), clip_after-in height n clip e s i w))

-- the texture of a strip of a fragment is of a part that is there
abbrev IsOfPart : FragmentNumbers → WallStrip → Type 0
IsOfPart n s = (s.part.number ≢ 0) × IsPartTexture n s.part.number

of_parts : (n : FragmentNumbers) (ms ts bs : RowRange) (has_m has_t has_b : Bool) → has_texture n.middle_part ≡ has_m → has_texture n.top_part ≡ has_t → has_texture n.bottom_part ≡ has_b →
    AllByRecursion (IsOfPart n) (cond has_m (cond has_m (strip n.middle_part ms ∷ []) []) (cond has_t (strip n.top_part ts ∷ []) [] ++ cond has_b (strip n.bottom_part bs ∷ []) []))
of_parts n ms ts bs true has_t has_b m t b = ((number_there n.middle_part m, inl refl), tt)
of_parts n ms ts bs false true true m t b = ((number_there n.top_part t, inr (inl refl)), ((number_there n.bottom_part b, inr (inr refl)), tt))
of_parts n ms ts bs false true false m t b = ((number_there n.top_part t, inr (inl refl)), tt)
of_parts n ms ts bs false false true m t b = ((number_there n.bottom_part b, inr (inr refl)), tt)
of_parts n ms ts bs false false false m t b = tt

pub wall_strips-there : (n : FragmentNumbers) (clip : ColumnClip) (e : Edges) (s : WallStrip) → Contains (wall_strips n clip e) s →
    (s.part.number ≢ 0) × IsPartTexture n s.part.number
unfolding wall_strips strip_of
wall_strips-there n clip e s among =
    All-contains (IsOfPart n) (wall_strips n clip e) s
    (All-from_recursion (IsOfPart n) (wall_strips n clip e)
    (of_parts n (middle_rows clip e) (top_rows clip e) (bottom_rows n clip e) (has_texture n.middle_part) (has_texture n.top_part) (has_texture n.bottom_part) refl refl refl)) among

-- and its rows, where it has some, are in the view
in_parts : (height : ℕ) (m t b : Part) (ms ts bs : RowRange) (has_m has_t has_b : Bool) → AreRowsIn height ms → AreRowsIn height ts → AreRowsIn height bs →
    AllByRecursion (IsInRows height) (cond has_m (cond has_m (strip m ms ∷ []) []) (cond has_t (strip t ts ∷ []) [] ++ cond has_b (strip b bs ∷ []) []))
in_parts height m t b ms ts bs true has_t has_b middle top bottom = (middle, tt)
in_parts height m t b ms ts bs false true true middle top bottom = (top, (bottom, tt))
in_parts height m t b ms ts bs false true false middle top bottom = (top, tt)
in_parts height m t b ms ts bs false false true middle top bottom = (bottom, tt)
in_parts height m t b ms ts bs false false false middle top bottom = tt

pub wall_strips-in : (height : ℕ) (n : FragmentNumbers) (clip : ColumnClip) (e : Edges) (s : WallStrip) → height ≤ FRAME_HEIGHT → IsClipIn height clip → AreEdgeWords e →
    Contains (wall_strips n clip e) s → IsInRows height s
unfolding wall_strips strip_of
wall_strips-in height n clip e s fits inside words among =
    All-contains (IsInRows height) (wall_strips n clip e) s
    (All-from_recursion (IsInRows height) (wall_strips n clip e)
    (in_parts height n.middle_part n.top_part n.bottom_part (middle_rows clip e) (top_rows clip e) (bottom_rows n clip e) (has_texture n.middle_part) (has_texture n.top_part) (has_texture n.bottom_part)
    (middle_rows-in height clip e fits inside words) (top_rows-in height clip e fits inside words) (bottom_rows-in height n clip e fits inside words))) among
