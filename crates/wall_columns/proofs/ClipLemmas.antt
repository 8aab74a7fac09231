-- Laws of the clips of a column: they stay in their ranges, and so do the rows between them.
use Rattle.picture_rules.proofs.Common.{arith, Bool, clamps, cond, false, FitsSigned, int_le, int_shr, int_wrap, int_wrap_fits, ints, List, negsuc, None, Option, pos, refl, SFits-int_wrap, slice_get, Some, subst, suc, sym, true, w32, zero, ℕ, ℤ, ◌+ℤ◌, ◌-ℤ◌, ◌-◌, ◌<ℤ◌, ◌≡◌, ◌≤ℤ◌, ◌≤◌}
use Rattle.wall_columns.specs.Rules.{ColumnClip, Edges, FRAME_HEIGHT, FragmentNumbers, MAX_EDGE_FRACTION, ViewShape, Wall, above_clip, below_clip, bottom_first, bottom_rows, ceiling_after, ceiling_past_none, ceiling_past_top, ceiling_rows, clip_after, clip_before, edge_at, edges_at, floor_after, floor_past_bottom, floor_past_none, floor_rows, greater_word, greatest_clip, has_column, has_texture, least_clip, lesser_word, middle_rows, minus, minus_one, narrowed_clip, open_clip, past_some, past_wall, plus, row_from, row_to, shr_word, shut_clip, step_at, top_last, top_rows, wall_edges, wall_first, wall_last}
use Rattle.picture_rules.proofs.Laws.{greater_word-first, lesser_word-first}
use Rattle.wall_columns.specs.{Windows.IsClipIn, Plans.AreEdgeWords, Plans.AreRowsIn}

-- what lies between two words is a word
fits_between : (z : ℤ) → negsuc 2147483647 ≤ℤ z → z ≤ℤ pos 2147483647 → FitsSigned w32 z
fits_between (pos n) l h = record { sfits = omega (arith, ints) }
fits_between (negsuc n) l h = record { sfits = omega (arith, ints) }

-- near 0 a step does not wrap
plus_near : (z : ℤ) → negsuc 2097151 ≤ℤ z → z ≤ℤ pos 2097152 → plus z (pos 1) ≡ z +ℤ pos 1
unfolding plus
plus_near z l h = int_wrap_fits w32 (z +ℤ pos 1) (fits_between _ (omega (arith, ints)) (omega (arith, ints)))

minus_near : (z : ℤ) → negsuc 2097151 ≤ℤ z → z ≤ℤ pos 2097152 → minus z (pos 1) ≡ z -ℤ pos 1
unfolding minus
minus_near z l h = int_wrap_fits w32 (z -ℤ pos 1) (fits_between _ (omega (arith, ints)) (omega (arith, ints)))

-- a word without its last twelve bits
shifted_low : (z : ℤ) → FitsSigned w32 z → negsuc 524287 ≤ℤ int_shr z 12
shifted_low (pos n) f = omega (arith, ints)
shifted_low (negsuc n) f = let word_fits = f.sfits in omega (arith, ints)

shifted_high : (z : ℤ) → FitsSigned w32 z → int_shr z 12 ≤ℤ pos 524287
shifted_high (pos n) f = let word_fits = f.sfits in omega (arith, ints)
shifted_high (negsuc n) f = omega (arith, ints)

row_from-high : (edge : ℤ) → row_from edge ≤ℤ pos 524287
unfolding row_from shr_word plus
row_from-high edge = shifted_high (int_wrap w32 (edge +ℤ MAX_EDGE_FRACTION)) (SFits-int_wrap w32 (edge +ℤ MAX_EDGE_FRACTION))

row_to-low : (edge : ℤ) → FitsSigned w32 edge → negsuc 524287 ≤ℤ row_to edge
unfolding row_to shr_word
row_to-low edge f = shifted_low edge f

greater-most : (a b c : ℤ) → a ≤ℤ c → b ≤ℤ c → greater_word a b ≤ℤ c
unfolding greater_word
greater-most a b c h k = omega (arith, ints, clamps)

lesser-least : (a b c : ℤ) → c ≤ℤ a → c ≤ℤ b → c ≤ℤ lesser_word a b
unfolding lesser_word
lesser-least a b c h k = omega (arith, ints, clamps)

-- a row that a ceiling clip leaves
record IsFirst (row : ℤ) : Type 0 where
  low : pos 0 ≤ℤ row
  high : row ≤ℤ pos 1048577

-- a row that a floor clip leaves
record IsLast (height : ℕ) (row : ℤ) : Type 0 where
  low : negsuc 1048576 ≤ℤ row
  high : row <ℤ pos height

first_below : (clip row : ℤ) → minus_one ≤ℤ clip → clip ≤ℤ pos 1048576 → row ≤ℤ pos 524287 → IsFirst (below_clip clip row)
unfolding below_clip
first_below clip row l h r =
    let next_is = plus_near clip (omega (arith, ints)) (omega (arith, ints)) in
    let next_from_zero : pos 0 ≤ℤ (clip +ℤ pos 1) = omega (arith, ints) in
    let next_at_most : (clip +ℤ pos 1) ≤ℤ pos 1048577 = omega (arith, ints) in
    let from_clip : (clip +ℤ pos 1) ≤ℤ greater_word (clip +ℤ pos 1) row = greater_word-first (clip +ℤ pos 1) row in
    let to_most : greater_word (clip +ℤ pos 1) row ≤ℤ pos 1048577 = greater-most (clip +ℤ pos 1) row (pos 1048577) next_at_most (omega (arith, ints)) in
    let GreaterIsFirst : ℤ → Type 0 = λ z. IsFirst (greater_word z row) in
    subst GreaterIsFirst (sym next_is) (record { low = omega (arith, ints); high = to_most })

last_above : (height : ℕ) (clip row : ℤ) → height ≤ FRAME_HEIGHT → negsuc 1048575 ≤ℤ clip → clip ≤ℤ pos height → negsuc 1048576 ≤ℤ row → IsLast height (above_clip clip row)
unfolding above_clip
last_above height clip row s l h r =
    let before_is = minus_near clip (omega (arith, ints)) (omega (arith, ints)) in
    let before_at_least : negsuc 1048576 ≤ℤ (clip -ℤ pos 1) = omega (arith, ints) in
    let to_clip : lesser_word (clip -ℤ pos 1) row ≤ℤ (clip -ℤ pos 1) = lesser_word-first (clip -ℤ pos 1) row in
    let from_least : negsuc 1048576 ≤ℤ lesser_word (clip -ℤ pos 1) row = lesser-least (clip -ℤ pos 1) row (negsuc 1048576) before_at_least r in
    let LesserIsLast : ℤ → Type 0 = λ z. IsLast height (lesser_word z row) in
    subst LesserIsLast (sym before_is) (record { low = from_least; high = omega (arith, ints) })

-- the ceiling clip is one of a column
record IsCeiling (row : ℤ) : Type 0 where
  low : minus_one ≤ℤ row
  high : row ≤ℤ pos 1048576

record IsFloor (height : ℕ) (row : ℤ) : Type 0 where
  low : negsuc 1048575 ≤ℤ row
  high : row ≤ℤ pos height

row_before : (first : ℤ) → IsFirst first → IsCeiling (minus first (pos 1))
row_before first f =
    let first_at_least = f.low in let first_at_most = f.high in
    let before_is = minus_near first (omega (arith, ints)) (omega (arith, ints)) in let ClipOfCeiling : ℤ → Type 0 = IsCeiling in
    subst ClipOfCeiling (sym before_is) (record { low = omega (arith, ints); high = omega (arith, ints) })

row_past : (height : ℕ) (last : ℤ) → height ≤ FRAME_HEIGHT → IsLast height last → IsFloor height (plus last (pos 1))
row_past height last s f =
    let last_at_least = f.low in let last_at_most = f.high in
    let past_is = plus_near last (omega (arith, ints)) (omega (arith, ints)) in let ClipOfFloor : ℤ → Type 0 = IsFloor height in
    subst ClipOfFloor (sym past_is) (record { low = omega (arith, ints); high = omega (arith, ints) })

int_le-is : (a b : ℤ) (t : Bool) → int_le a b ≡ t → cond t (a ≤ℤ b) (b <ℤ a)
int_le-is a b true e = grind (arith, ints)
int_le-is a b false e = grind (arith, ints)

past_top : (height : ℕ) (first last : ℤ) (t : Bool) → int_le first last ≡ t → height ≤ FRAME_HEIGHT → IsFirst first → IsLast height last → IsCeiling (cond t last (minus first (pos 1)))
past_top height first last true e s f g =
    let first_to_last = int_le-is first last true e in
    let first_at_least = f.low in let last_at_most = g.high in record { low = omega (arith, ints); high = omega (arith, ints) }
past_top height first last false e s f g = row_before first f

past_bottom : (height : ℕ) (first last : ℤ) (t : Bool) → int_le first last ≡ t → height ≤ FRAME_HEIGHT → IsFirst first → IsLast height last → IsFloor height (cond t first (plus last (pos 1)))
past_bottom height first last true e s f g =
    let first_to_last = int_le-is first last true e in
    let first_at_least = f.low in let last_at_most = g.high in record { low = omega (arith, ints); high = omega (arith, ints) }
past_bottom height first last false e s f g = row_past height last s g

-- what is known of a column before the fragment
record IsOpen (height : ℕ) (clip : ColumnClip) (e : Edges) : Type 0 where
  rows : height ≤ FRAME_HEIGHT
  ceiling : IsCeiling clip.ceiling_clip
  floor : IsFloor height clip.floor_clip
  edges : AreEdgeWords e

opened : (height : ℕ) (clip : ColumnClip) (e : Edges) → height ≤ FRAME_HEIGHT → IsClipIn height clip → AreEdgeWords e → IsOpen height clip e
unfolding greatest_clip least_clip
opened height clip e s i w = record {
  rows = s;
  ceiling = record { low = i.ceiling_low; high = i.ceiling_high };
  floor = record { low = i.floor_low; high = i.floor_high };
  edges = w;
}

closed : (height : ℕ) (clip : ColumnClip) → IsCeiling clip.ceiling_clip → IsFloor height clip.floor_clip → IsClipIn height clip
unfolding greatest_clip least_clip
closed height clip a b = record { ceiling_low = a.low; ceiling_high = a.high; floor_low = b.low; floor_high = b.high }

first_is : (height : ℕ) (clip : ColumnClip) (e : Edges) → IsOpen height clip e → IsFirst (wall_first clip e)
unfolding wall_first
first_is height clip e o = first_below clip.ceiling_clip (row_from e.top) o.ceiling.low o.ceiling.high (row_from-high e.top)

last_is : (height : ℕ) (clip : ColumnClip) (e : Edges) → IsOpen height clip e → IsLast height (wall_last clip e)
unfolding wall_last
last_is height clip e o =
    let row_at_least = row_to-low e.bottom o.edges.bottom in
    last_above height clip.floor_clip (row_to e.bottom) o.rows o.floor.low o.floor.high (omega (arith, ints))

top_last_is : (height : ℕ) (clip : ColumnClip) (e : Edges) → IsOpen height clip e → IsLast height (top_last clip e)
unfolding top_last
top_last_is height clip e o =
    let row_at_least = row_to-low e.high o.edges.high in
    last_above height clip.floor_clip (row_to e.high) o.rows o.floor.low o.floor.high (omega (arith, ints))

none_top : (height : ℕ) (clip : ColumnClip) (e : Edges) (mark : Bool) → IsOpen height clip e → IsCeiling (cond mark (minus (wall_first clip e) (pos 1)) clip.ceiling_clip)
none_top height clip e true o = row_before (wall_first clip e) (first_is height clip e o)
none_top height clip e false o = o.ceiling

none_bottom : (height : ℕ) (clip : ColumnClip) (e : Edges) (mark : Bool) → IsOpen height clip e → IsFloor height (cond mark (plus (wall_last clip e) (pos 1)) clip.floor_clip)
none_bottom height clip e true o = row_past height (wall_last clip e) o.rows (last_is height clip e o)
none_bottom height clip e false o = o.floor

by_top : (height : ℕ) (n : FragmentNumbers) (clip : ColumnClip) (e : Edges) (t : Bool) → IsOpen height clip e →
    IsCeiling (cond t (ceiling_past_top (wall_first clip e) (top_last clip e)) (ceiling_past_none n.ceiling_mark clip.ceiling_clip (wall_first clip e)))
unfolding ceiling_past_top ceiling_past_none
by_top height n clip e true o =
    past_top height (wall_first clip e) (top_last clip e) (int_le (wall_first clip e) (top_last clip e)) refl o.rows (first_is height clip e o) (top_last_is height clip e o)
by_top height n clip e false o = none_top height clip e n.ceiling_mark o

ceiling_is : (height : ℕ) (n : FragmentNumbers) (clip : ColumnClip) (e : Edges) → IsOpen height clip e → IsCeiling (ceiling_after n clip e)
unfolding ceiling_after
ceiling_is height n clip e o = by_top height n clip e (has_texture n.top_part) o

bottom_first_is : (height : ℕ) (n : FragmentNumbers) (clip : ColumnClip) (e : Edges) → IsOpen height clip e → IsFirst (bottom_first n clip e)
unfolding bottom_first
bottom_first_is height n clip e o =
    let ceiling = ceiling_is height n clip e o in
    first_below (ceiling_after n clip e) (row_from e.low) ceiling.low ceiling.high (row_from-high e.low)

by_bottom : (height : ℕ) (n : FragmentNumbers) (clip : ColumnClip) (e : Edges) (t : Bool) → IsOpen height clip e →
    IsFloor height (cond t (floor_past_bottom (bottom_first n clip e) (wall_last clip e)) (floor_past_none n.floor_mark clip.floor_clip (wall_last clip e)))
unfolding floor_past_bottom floor_past_none
by_bottom height n clip e true o =
    past_bottom height (bottom_first n clip e) (wall_last clip e) (int_le (bottom_first n clip e) (wall_last clip e)) refl o.rows (bottom_first_is height n clip e o) (last_is height clip e o)
by_bottom height n clip e false o = none_bottom height clip e n.floor_mark o

floor_is : (height : ℕ) (n : FragmentNumbers) (clip : ColumnClip) (e : Edges) → IsOpen height clip e → IsFloor height (floor_after n clip e)
unfolding floor_after
floor_is height n clip e o = by_bottom height n clip e (has_texture n.bottom_part) o

shut_in : (height : ℕ) → height ≤ FRAME_HEIGHT → IsClipIn height (shut_clip height)
unfolding shut_clip
shut_in height s = closed height _ (record { low = omega (arith, ints); high = omega (arith, ints) }) (record { low = omega (arith, ints); high = omega (arith, ints) })

narrowed_in : (height : ℕ) (n : FragmentNumbers) (clip : ColumnClip) (e : Edges) → IsOpen height clip e → IsClipIn height (narrowed_clip n clip e)
unfolding narrowed_clip
narrowed_in height n clip e o = closed height _ (ceiling_is height n clip e o) (floor_is height n clip e o)

after_in : (height : ℕ) (n : FragmentNumbers) (clip : ColumnClip) (e : Edges) (t : Bool) → IsOpen height clip e → IsClipIn height (cond t (shut_clip height) (narrowed_clip n clip e))
after_in height n clip e true o = shut_in height o.rows
after_in height n clip e false o = narrowed_in height n clip e o

-- the clip after a fragment is in its ranges again
pub clip_after-in : (height : ℕ) (n : FragmentNumbers) (clip : ColumnClip) (e : Edges) → height ≤ FRAME_HEIGHT → IsClipIn height clip → AreEdgeWords e → IsClipIn height (clip_after height n clip e)
unfolding clip_after
clip_after-in height n clip e s i w = after_in height n clip e (has_texture n.middle_part) (opened height clip e s i w)

-- the rows that a fragment marks and paints are rows of the view
rows_in : (height : ℕ) (first last : ℤ) → IsFirst first → IsLast height last → AreRowsIn height (record { first = first; last = last })
rows_in height first last f g = λ h. (f.low, g.high)

pub ceiling_rows-in : (height : ℕ) (clip : ColumnClip) (e : Edges) → height ≤ FRAME_HEIGHT → IsClipIn height clip → AreEdgeWords e → AreRowsIn height (ceiling_rows clip e)
unfolding ceiling_rows
ceiling_rows-in height clip e s i w =
    let is_open = opened height clip e s i w in
    let ceiling_at_least = is_open.ceiling.low in let ceiling_at_most = is_open.ceiling.high in
    let low_bound = (row_before (wall_first clip e) (first_is height clip e is_open)).low in
    let next_is = plus_near clip.ceiling_clip (omega (arith, ints)) (omega (arith, ints)) in
    let above_is_last = last_above height clip.floor_clip (minus (wall_first clip e) (pos 1)) s is_open.floor.low is_open.floor.high (omega (arith, ints)) in
    let next_from_zero : pos 0 ≤ℤ (clip.ceiling_clip +ℤ pos 1) = omega (arith, ints) in
    let AtLeastZero : ℤ → Type 0 = λ z. pos 0 ≤ℤ z in
    λ rows. (subst AtLeastZero (sym next_is) next_from_zero, above_is_last.high)

pub floor_rows-in : (height : ℕ) (clip : ColumnClip) (e : Edges) → height ≤ FRAME_HEIGHT → IsClipIn height clip → AreEdgeWords e → AreRowsIn height (floor_rows clip e)
unfolding floor_rows
floor_rows-in height clip e s i w =
    let is_open = opened height clip e s i w in
    let floor_at_least = is_open.floor.low in let floor_at_most = is_open.floor.high in
    let before_is = minus_near clip.floor_clip (omega (arith, ints)) (omega (arith, ints)) in
    let past_is_floor = row_past height (wall_last clip e) s (last_is height clip e is_open) in
    let past_at_most = past_is_floor.high in
    let below_is_first = first_below clip.ceiling_clip (plus (wall_last clip e) (pos 1)) is_open.ceiling.low is_open.ceiling.high (omega (arith, ints)) in
    let before_below_height : (clip.floor_clip -ℤ pos 1) <ℤ pos height = omega (arith, ints) in
    let BelowHeight : ℤ → Type 0 = λ z. z <ℤ pos height in
    λ rows. (below_is_first.low, subst BelowHeight (sym before_is) before_below_height)

pub middle_rows-in : (height : ℕ) (clip : ColumnClip) (e : Edges) → height ≤ FRAME_HEIGHT → IsClipIn height clip → AreEdgeWords e → AreRowsIn height (middle_rows clip e)
unfolding middle_rows
middle_rows-in height clip e s i w = let clip_opened = opened height clip e s i w in
    rows_in height _ _ (first_is height clip e clip_opened) (last_is height clip e clip_opened)

pub top_rows-in : (height : ℕ) (clip : ColumnClip) (e : Edges) → height ≤ FRAME_HEIGHT → IsClipIn height clip → AreEdgeWords e → AreRowsIn height (top_rows clip e)
unfolding top_rows
top_rows-in height clip e s i w = let clip_opened = opened height clip e s i w in
    rows_in height _ _ (first_is height clip e clip_opened) (top_last_is height clip e clip_opened)

pub bottom_rows-in : (height : ℕ) (n : FragmentNumbers) (clip : ColumnClip) (e : Edges) → height ≤ FRAME_HEIGHT → IsClipIn height clip → AreEdgeWords e → AreRowsIn height (bottom_rows n clip e)
unfolding bottom_rows
bottom_rows-in height n clip e s i w = let clip_opened = opened height clip e s i w in rows_in height _ _ (bottom_first_is height n clip e clip_opened) (last_is height clip e clip_opened)

-- an open column is in its ranges
pub open_clip-in : (height : ℕ) → height ≤ FRAME_HEIGHT → IsClipIn height (open_clip height)
unfolding open_clip
open_clip-in height s = closed height _ (record { low = omega (arith, ints); high = omega (arith, ints) }) (record { low = omega (arith, ints); high = omega (arith, ints) })

edge_word : (shape : ViewShape) (height scale step : ℤ) (k : ℕ) → FitsSigned w32 (edge_at shape height scale step k)
unfolding edge_at step_at plus
edge_word shape height scale step k = SFits-int_wrap w32 _

-- the edges of a fragment are words
pub edges_at-words : (shape : ViewShape) (n : FragmentNumbers) (k : ℕ) → AreEdgeWords (edges_at shape n k)
unfolding edges_at
edges_at-words shape n k = record {
  top = edge_word shape n.world_top n.scale1 n.step k;
  bottom = edge_word shape n.world_bottom n.scale1 n.step k;
  high = edge_word shape n.world_high n.scale1 n.step k;
  low = edge_word shape n.world_low n.scale1 n.step k;
}

past_in : (shape : ViewShape) (x : ℕ) (w : Wall) (clip : ColumnClip) (t : Bool) → shape.height ≤ FRAME_HEIGHT → IsClipIn shape.height clip → IsClipIn shape.height (cond t (clip_after shape.height w.numbers clip (wall_edges shape w x)) clip)
unfolding wall_edges
past_in shape x w clip true s i = clip_after-in shape.height w.numbers clip _ s i (edges_at-words shape w.numbers (x - w.first))
past_in shape x w clip false s i = i

past_some_in : (shape : ViewShape) (x : ℕ) (o : Option Wall) (clip : ColumnClip) → shape.height ≤ FRAME_HEIGHT → IsClipIn shape.height clip → IsClipIn shape.height (past_some shape x o clip)
unfolding past_some past_wall
past_some_in shape x None clip s i = i
past_some_in shape x (Some w) clip s i = past_in shape x w clip (has_column w x) s i

-- so is what fragments leave open
pub clip_before-in : (shape : ViewShape) (walls : List Wall) (k x : ℕ) → shape.height ≤ FRAME_HEIGHT → IsClipIn shape.height (clip_before shape walls k x)
unfolding clip_before
clip_before-in shape walls zero x s = open_clip-in shape.height s
clip_before-in shape walls (suc k) x s = past_some_in shape x (slice_get walls k) (clip_before shape walls k x) s (clip_before-in shape walls k x s)

-- for `search`: what a column's marks and its next window ask for
pub ruleset column_rows = (ceiling_rows-in, floor_rows-in, clip_after-in)
