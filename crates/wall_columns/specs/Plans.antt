-- What a fragment does in one of its columns: its plan, and the strips that a plan has.
use Rattle.std.specs.Prelude.{◌≡◌, ◌⊎◌, ◌≤ℤ◌, ◌<ℤ◌, ◌||◌, ◌&&◌, ℕ, pos, Bool, true, false, not, int_lt, cond, List, [], ◌∷◌, FitsSigned}
use Rattle.std.specs.Int.{w32}
use Rattle.wall_columns.specs.Rules.{ColumnClip, Edges, FragmentNumbers, RowRange, WallStrip, bottom_rows, ceiling_rows, clip_after, floor_rows, has_texture, middle_rows, minus_one, top_rows}
use Rattle.wall_columns.specs.declared.clips.ColumnPlan.{ColumnPlan}

-- no row, and rows that a part has only where it is there
abbrev pub no_rows : RowRange
no_rows = record { first = pos 0; last = minus_one }

abbrev pub rows_if : Bool → RowRange → RowRange
rows_if is_there rows = cond is_there rows no_rows

-- whether a fragment has a texture
unfoldable pub has_part : FragmentNumbers → Bool
has_part n = (has_texture n.middle_part || has_texture n.top_part) || has_texture n.bottom_part

-- the plan of a fragment in a column with this clip and these edges
unfoldable pub plan_of : ℕ → FragmentNumbers → ColumnClip → Edges → ColumnPlan
plan_of height n clip e = record {
  ceiling = ceiling_rows clip e;
  floor = floor_rows clip e;
  middle = rows_if (has_texture n.middle_part) (middle_rows clip e);
  top = cond (has_texture n.middle_part) no_rows
      (rows_if (has_texture n.top_part) (top_rows clip e));
  bottom = cond (has_texture n.middle_part) no_rows
      (rows_if (has_texture n.bottom_part) (bottom_rows n clip e));
  after = clip_after height n clip e;
}

-- the middle, the upper and the lower strip; one that the fragment lacks has no row
abbrev pub middle_strip : FragmentNumbers → ColumnPlan → WallStrip
middle_strip n plan = record { part = n.middle_part; rows = plan.middle }

abbrev pub top_strip : FragmentNumbers → ColumnPlan → WallStrip
top_strip n plan = record { part = n.top_part; rows = plan.top }

abbrev pub bottom_strip : FragmentNumbers → ColumnPlan → WallStrip
bottom_strip n plan = record { part = n.bottom_part; rows = plan.bottom }

abbrev pub strips_by : FragmentNumbers → ColumnPlan → List WallStrip
strips_by n plan = middle_strip n plan ∷ (top_strip n plan ∷ (bottom_strip n plan ∷ []))

-- A part without a texture has no rows, nor have the two walls where there is a middle.
pub record HasRowsOf (n : FragmentNumbers) (plan : ColumnPlan) : Type 0 where
  pub middle : has_texture n.middle_part ≡ false → int_lt plan.middle.last plan.middle.first ≡ true
  pub top : has_texture n.top_part ≡ false → int_lt plan.top.last plan.top.first ≡ true
  pub beside_top : has_texture n.middle_part ≡ true → int_lt plan.top.last plan.top.first ≡ true
  pub beside_bottom : has_texture n.middle_part ≡ true → int_lt plan.bottom.last plan.bottom.first ≡ true

-- the one that is painted first: the middle, or the upper wall, or else the lower one
unfoldable pub first_strip : FragmentNumbers → ColumnPlan → WallStrip
first_strip n plan = cond (has_texture n.middle_part) (middle_strip n plan)
    (cond (has_texture n.top_part) (top_strip n plan) (bottom_strip n plan))

-- whether the lower wall is painted below an upper one
unfoldable pub has_second : FragmentNumbers → ColumnPlan → Bool
has_second n plan = (not (has_texture n.middle_part) && has_texture n.top_part)
    && not (int_lt plan.bottom.last plan.bottom.first)

-- the strip has rows
abbrev pub HasRows : WallStrip → Type 0
HasRows s = s.rows.first ≤ℤ s.rows.last

-- no strip of a plan has rows
abbrev pub HasNoRows : ColumnPlan → Type 0
HasNoRows plan = (plan.middle.last <ℤ plan.middle.first)
    × ((plan.top.last <ℤ plan.top.first) × (plan.bottom.last <ℤ plan.bottom.first))

-- rows, where there are some, are in a view of that height
abbrev pub AreRowsIn : ℕ → RowRange → Type 0
AreRowsIn height rows = rows.first ≤ℤ rows.last → (pos 0 ≤ℤ rows.first) × (rows.last <ℤ pos height)

abbrev pub IsInRows : ℕ → WallStrip → Type 0
IsInRows height s = HasRows s → (pos 0 ≤ℤ s.rows.first) × (s.rows.last <ℤ pos height)

-- the texture of a strip that has rows
abbrev pub IsStripTexture : WallStrip → ℕ → Type 0
IsStripTexture s number = HasRows s × (number ≡ s.part.number)

-- a texture of one of the parts
abbrev pub IsPartTexture : FragmentNumbers → ℕ → Type 0
IsPartTexture n number = (number ≡ n.middle_part.number)
    ⊎ ((number ≡ n.top_part.number) ⊎ (number ≡ n.bottom_part.number))

-- the four edges are words
pub record AreEdgeWords (e : Edges) : Type 0 where
  pub top : FitsSigned w32 e.top
  pub bottom : FitsSigned w32 e.bottom
  pub high : FitsSigned w32 e.high
  pub low : FitsSigned w32 e.low
