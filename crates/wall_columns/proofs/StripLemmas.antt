-- Laws of the strips of a fragment: those of a part, of a plan, of a column, and of all its columns.
use Rattle.picture_rules.proofs.Common.{[], All, AllByRecursion, ap, append-nil, arith, Bool, cond, Contains, false, inl, inr, int_lt, ints, List, recursion_from_All, refl, subst, sym, true, ℕ, ℤ, ◌++◌, ◌+◌, ◌<ℤ◌, ◌||◌, ◌∙◌, ◌∷◌, ◌≡◌, ◌≤ℤ◌, ◌≤◌, or_parts}
use Rattle.std.proofs.lemmas.List.Elements.{Contains-push, Contains-push_cases}
use Rattle.wall_columns.specs.Rules.{ColumnClip, Edges, FRAME_HEIGHT, FragmentNumbers, RowRange, ViewShape, ViewValue, WallStrip, has_texture, joined_lists, listed_from, strip_of, wall_strips}
use Rattle.picture_rules.proofs.Laws.{joined_lists-cons, joined_lists-one}
use Rattle.receiver_rules.proofs.FirstLemmas.{IsInFirst, first-cases, first-from, first_lists, joined-cases}
use Rattle.wall_edges.specs.Fragments.{FragmentValue}
use Rattle.brush.specs.Strips.{Strip, Texture}
use Rattle.wall_columns.specs.declared.clips.ColumnPlan.{ColumnPlan}
use Rattle.wall_columns.specs.declared.paint.ColumnLook.{ColumnLook}
use Rattle.wall_columns.specs.Columns.{column_edges, columns_of}
use Rattle.wall_columns.specs.Windows.{IsClipIn}
use Rattle.wall_columns.specs.Plans.{AreEdgeWords, HasNoRows, HasRows, HasRowsOf, IsInRows, bottom_strip, first_strip, has_part, has_second, middle_strip, no_rows, plan_of, strips_by, top_strip}
use Rattle.wall_columns.specs.Strips.{column_strips, fragment_strips, look_at, part_strip, part_strips, plan_strips}
use Rattle.wall_columns.proofs.{FirstLemmas.first-painted, FirstLemmas.skip, PlanLemmas.plan_strips-in, PlanLemmas.plan_strips-same}

-- what holds of each strip of a plan, one by one
pub plan-rows : (height : ℕ) (n : FragmentNumbers) (plan : ColumnPlan) →
    All (IsInRows height) (strips_by n plan) → AllByRecursion (IsInRows height) (strips_by n plan)
plan-rows height n plan all = recursion_from_All (IsInRows height) (strips_by n plan) all

-- the strips of a plan lie in the view
pub strips-in : (height own : ℕ) (n : FragmentNumbers) (clip : ColumnClip) (e : Edges) (plan : ColumnPlan) → plan ≡ plan_of own n clip e → own ≡ height → own ≤ FRAME_HEIGHT →
    IsClipIn own clip → AreEdgeWords e → All (IsInRows height) (strips_by n plan)
strips-in height own n clip e plan is same fits inside words =
    subst (λ (plan : ColumnPlan). All (IsInRows height) (strips_by n plan)) (sym is)
    (subst (λ (rows : ℕ). All (IsInRows rows) (strips_by n (plan_of own n clip e))) same (plan_strips-in own n clip e fits inside words))

module _ (shape : ViewShape) (look : ColumnLook) where
  -- a part without rows is no strip, and one with rows is one
  pub part-none : (s : WallStrip) → int_lt s.rows.last s.rows.first ≡ true → part_strips shape look s ≡ []
  unfolding part_strips
  part-none s none = ap (λ (b : Bool). cond b [] (Texture (part_strip shape look s) ∷ [])) none

  pub part-one : (s : WallStrip) → int_lt s.rows.last s.rows.first ≡ false → part_strips shape look s ≡ Texture (part_strip shape look s) ∷ []
  unfolding part_strips
  part-one s some = ap (λ (b : Bool). cond b [] (Texture (part_strip shape look s) ∷ [])) some

  pub part-there : (s : WallStrip) → int_lt s.rows.last s.rows.first ≡ false → Contains (part_strips shape look s) (Texture (part_strip shape look s))
  part-there s some = subst (λ (strips : List Strip). Contains strips (Texture (part_strip shape look s))) (sym (part-one s some)) (Contains-push [] (Texture (part_strip shape look s)))

  -- a plan without rows has no strip
  past : (rows : RowRange) → rows.last <ℤ rows.first → int_lt rows.last rows.first ≡ true
  past rows h = grind (arith, ints)

  pub plan-nothing : (n : FragmentNumbers) (plan : ColumnPlan) → HasNoRows plan → [] ≡ plan_strips shape look n plan
  unfolding plan_strips joined_lists
  plan-nothing n plan none =
      sym (skip (part_strips shape look) part-none (middle_strip n plan) (top_strip n plan ∷ (bottom_strip n plan ∷ [])) (past plan.middle none.0)
      ∙ skip (part_strips shape look) part-none (top_strip n plan) (bottom_strip n plan ∷ []) (past plan.top none.1.0)
      ∙ skip (part_strips shape look) part-none (bottom_strip n plan) [] (past plan.bottom none.1.1))

  -- the strips of a plan are those of the part that is painted first, and of the second where it is painted
  pub plan-split : (n : FragmentNumbers) (plan : ColumnPlan) (s : WallStrip) (second : Bool) → s ≡ first_strip n plan → HasRowsOf n plan → has_second n plan ≡ second →
      part_strips shape look s ++ joined_lists (part_strips shape look) (cond second (bottom_strip n plan ∷ []) []) ≡ plan_strips shape look n plan
  unfolding plan_strips
  plan-split n plan s second is rows on =
      sym (joined_lists-cons (part_strips shape look) s (cond second (bottom_strip n plan ∷ []) []))
      ∙ first-painted (part_strips shape look) part-none n plan s second is rows on

  pub plan-one : (n : FragmentNumbers) (plan : ColumnPlan) (s : WallStrip) → s ≡ first_strip n plan → HasRowsOf n plan → has_second n plan ≡ false →
      part_strips shape look s ≡ plan_strips shape look n plan
  unfolding joined_lists
  plan-one n plan s is rows on = sym (append-nil (part_strips shape look s)) ∙ plan-split n plan s false is rows on

  pub plan-two : (n : FragmentNumbers) (plan : ColumnPlan) (s : WallStrip) → s ≡ first_strip n plan → HasRowsOf n plan → has_second n plan ≡ true →
      part_strips shape look s ++ part_strips shape look (bottom_strip n plan) ≡ plan_strips shape look n plan
  plan-two n plan s is rows on =
      ap (λ (strips : List Strip). part_strips shape look s ++ strips) (sym (joined_lists-one (part_strips shape look) (bottom_strip n plan))) ∙ plan-split n plan s true is rows on

-- the strips of a column, by the clauses of the calls
pub column-by : (v : ViewValue) (k : ℕ) (f : FragmentValue) (before : ℕ → ColumnClip) (x height : ℕ) (n : FragmentNumbers) (clip : ColumnClip) (e : Edges) (plan : ColumnPlan) →
    plan ≡ plan_of height n clip e → n ≡ f.numbers → clip ≡ before x → e ≡ column_edges f x →
    plan_strips v.shape (look_at v k f x e) n plan ≡ column_strips v k f before x
unfolding plan_strips column_strips
column-by v k f before x height n clip e plan is_plan numbers is_clip edges =
    ap (λ (plan : ColumnPlan). joined_lists (part_strips v.shape (look_at v k f x e)) (strips_by n plan)) is_plan
    ∙ plan_strips-same (part_strips v.shape (look_at v k f x e)) (λ part. part-none v.shape (look_at v k f x e) (record { part = part; rows = no_rows }) refl) height n clip e
    ∙ ap (λ (n : FragmentNumbers). joined_lists (part_strips v.shape (look_at v k f x e)) (wall_strips n clip e)) numbers
    ∙ ap (λ (c : ColumnClip). joined_lists (part_strips v.shape (look_at v k f x e)) (wall_strips f.numbers c e)) is_clip
    ∙ ap (λ (e : Edges). joined_lists (part_strips v.shape (look_at v k f x e)) (wall_strips f.numbers (before x) e)) edges

-- the strips of the columns from the first on
abbrev pub strips_along : ViewValue → ℕ → FragmentValue → (ℕ → ColumnClip) → ℕ → List Strip
strips_along v k f before n = column_strips v k f before (f.first + n)

pub strips-all : (v : ViewValue) (k : ℕ) (f : FragmentValue) (before : ℕ → ColumnClip) → first_lists (strips_along v k f before) (columns_of f) ≡ fragment_strips v k f before
unfolding fragment_strips
strips-all v k f before = first-from (column_strips v k f before) f.first f.last

-- a fragment without a texture has no strip
bare_parts : (n : FragmentNumbers) (clip : ColumnClip) (e : Edges) → has_part n ≡ false → wall_strips n clip e ≡ []
unfolding has_part wall_strips strip_of
bare_parts n clip e h =
    let upper = or_parts (has_texture n.middle_part || has_texture n.top_part) (has_texture n.bottom_part) h in
    let no_middle_or_top = or_parts (has_texture n.middle_part) (has_texture n.top_part) upper.0 in
    rw (no_middle_or_top.0, no_middle_or_top.1, upper.1) refl

bare_column : (v : ViewValue) (k : ℕ) (f : FragmentValue) (before : ℕ → ColumnClip) (x : ℕ) → has_part f.numbers ≡ false → column_strips v k f before x ≡ []
unfolding column_strips joined_lists
bare_column v k f before x h =
    ap (joined_lists (part_strips v.shape (look_at v k f x (column_edges f x)))) (bare_parts f.numbers (before x) (column_edges f x) h)

none_joined : (f : ℕ → List Strip) (xs : List ℕ) → ((x : ℕ) → f x ≡ []) → joined_lists f xs ≡ []
unfolding joined_lists
none_joined f [] none = refl
none_joined f (x ∷ xs) none = ap (λ (ys : List Strip). ys ++ joined_lists f xs) (none x) ∙ none_joined f xs none

pub strips-bare : (v : ViewValue) (k : ℕ) (f : FragmentValue) (before : ℕ → ColumnClip) → has_part f.numbers ≡ false → [] ≡ fragment_strips v k f before
unfolding fragment_strips
strips-bare v k f before h = sym (none_joined (column_strips v k f before) (listed_from (λ x. x) f.first f.last) (λ x. bare_column v k f before x h))

-- what each strip of a fragment is: rows of a part that it has in one of its columns
pub record IsPartOf (v : ViewValue) (k : ℕ) (f : FragmentValue) (before : ℕ → ColumnClip) (strip : Strip) : Type 0 where
  pub x : ℕ
  pub from : f.first ≤ x
  pub to : x ≤ f.last
  pub part : WallStrip
  pub among : Contains (wall_strips f.numbers (before x) (column_edges f x)) part
  pub rows : HasRows part
  pub is : Texture (part_strip v.shape (look_at v k f x (column_edges f x)) part) ≡ strip

none_there : (strip : Strip) → Contains [] strip → ⊥
none_there strip h = omega (arith, h.1)

in_order : (first last : ℤ) → int_lt last first ≡ false → first ≤ℤ last
in_order first last h = grind (arith, ints)

part_cases : (shape : ViewShape) (look : ColumnLook) (s : WallStrip) (b : Bool) (strip : Strip) → int_lt s.rows.last s.rows.first ≡ b →
    Contains (cond b [] (Texture (part_strip shape look s) ∷ [])) strip → HasRows s × (Texture (part_strip shape look s) ≡ strip)
part_cases shape look s true strip is h = absurd (none_there strip h)
part_cases shape look s false strip is h = elim (Contains-push_cases [] (Texture (part_strip shape look s)) strip h) [
  | inl before ↦ absurd (none_there strip before)
  | inr same ↦ (in_order s.rows.first s.rows.last is, same)
]

part-cases : (shape : ViewShape) (look : ColumnLook) (s : WallStrip) (strip : Strip) → Contains (part_strips shape look s) strip → HasRows s × (Texture (part_strip shape look s) ≡ strip)
unfolding part_strips
part-cases shape look s strip h = part_cases shape look s (int_lt s.rows.last s.rows.first) strip refl h

pub fragment-cases : (v : ViewValue) (k : ℕ) (f : FragmentValue) (before : ℕ → ColumnClip) (strip : Strip) → Contains (fragment_strips v k f before) strip → IsPartOf v k f before strip
unfolding column_strips
fragment-cases v k f before strip h =
    let column : IsInFirst (strips_along v k f before) (columns_of f) strip =
    first-cases (strips_along v k f before) (columns_of f) strip (subst (λ (strips : List Strip). Contains strips strip) (sym (strips-all v k f before)) h) in
    let x : ℕ = f.first + column.number in
    let found = joined-cases (part_strips v.shape (look_at v k f x (column_edges f x))) (wall_strips f.numbers (before x) (column_edges f x)) strip column.among in
    let part = part-cases v.shape (look_at v k f x (column_edges f x)) found.0 strip found.1.1 in
    record {
      x = x;
      from = omega arith;
      to = omega (arith, column.within);
      part = found.0;
      among = found.1.0;
      rows = part.0;
      is = part.1;
    }
