-- A brush that is asked for the strips of the fragment of a seg draws it: which it takes, what they show, and their dots.
use Rattle.picture_rules.proofs.Common.{[], ap, append-nil, arith, Bool, cases_lt, cond, Contains, Err, err_from_is_err_and, false, false≢true, inl, inr, int_lt, IsErrAnd, IsTrue, ints, length, List, lt-true, nat_lt, negsuc, Ok, pos, refl, Result, subst, sym, true, ℕ, ℤ, ◌+◌, ◌-◌, ◌<ℤ◌, ◌<◌, ◌∙◌, ◌∷◌, ◌≡◌, ◌≢◌, ◌≤ℤ◌, ◌≤◌}
use Rattle.wall_columns.specs.Rules.{Art, ColumnClip, Dot, Edges, FRAME_HEIGHT, FRAME_WIDTH, FragmentNote, MAX_DRAWSEGS, Painter, Plane, PlanesNow, ShelfView, ViewValue, WALL, Wall, WallFacts, WallStrip, clip_before, column_dots, edges_at, fault_above, fragment_numbers, joined_lists, listed_from, natural, painter_of, rows_between, strip_dots, texture_column, wall_colour, wall_column, wall_column_by, wall_dots, wall_edges, wall_of, wall_strips}
use Rattle.picture_rules.proofs.wall.WallLemmas.{clip_before-front}
use Rattle.receiver_rules.proofs.FirstLemmas.{first-from, first-same, joined-joined}
use Rattle.wall_edges.specs.{Fragments.FragmentValue, Fragments.fragment_of, Lines.column_of_line}
use Rattle.pixel_strips.specs.{Canvases.CanvasView, Standing.StandsInFrame}
use Rattle.texture_build.specs.{CacheFault.CacheFault, Caches.cache_fault, Draws.CanDraw}
use Rattle.texture_build.specs.CacheFault.TheVariants as cache
use Rattle.texture_build.specs.Paints.{PaintState, PaintTools, Paints, painted_art}
use Rattle.texture_build.specs.Strips.{texture_colour, texture_dots}
use Rattle.texture_build.proofs.PaintLemmas.{paints-asked, paints-mapped, paints-none, paints-same, paints-wider}
use Rattle.brush.specs.Strips.{IsStripColumn, IsStripLump, ShowsColumn, ShowsLump, Strip, Texture, strips_dots, dots_of_strip}
use Rattle.brush.specs.Works.{BrushValue, CanTake, HasWorked, PaintsStrips, brush_now}
use Rattle.brush.specs.declared.live.LiveBrush.{LiveBrush}
use Rattle.brush.proofs.WorkLemmas.{received-worked}
use Rattle.receiver_rules.specs.Receivers.{Receives}
use Rattle.receiver_rules.proofs.ReceiverLemmas.{receives-value}
use Rattle.picture_rules.specs.declared.LimitKind.{LimitKind}
use Rattle.picture_rules.specs.declared.LimitKind.TheVariants as limit
use Rattle.wall_columns.specs.declared.fault.{DrawFault.DrawFault, WallStop.WallStop}
use Rattle.wall_columns.specs.declared.fault.WallStop.TheVariants.{Brush, Over}
use Rattle.wall_columns.specs.{Built.AreBehind, Built.IsBuilt, Built.with_wall, Columns.column_edges}
use Rattle.wall_columns.specs.Draws.{IsNoPicture, IsSeenOf, IsWallTexture}
use Rattle.wall_columns.specs.Faults.{ReceivesUnlessOver, draw_fault, fault_of_kind, from_cache_fault, from_over, from_stop}
use Rattle.wall_columns.specs.Plans.{IsPartTexture}
use Rattle.wall_columns.specs.Strips.{AreOpenIn, CanShow, column_strips, fragment_strips, look_at, part_strip, part_strips, range_strips}
use Rattle.wall_columns.specs.{declared.column_state.ColumnState.ColumnState, States.walls_view}
use Rattle.wall_columns.specs.Walls.{WallsView, clip_at}
use Rattle.wall_columns.specs.Windows.{IsClipIn, WindowsView, window_at}
use Rattle.wall_columns.proofs.{BuiltLemmas.built-count, ClipLemmas.edges_at-words}
use Rattle.wall_columns.proofs.PlanLemmas.{wall_strips-in, wall_strips-there}
use Rattle.wall_columns.proofs.SightLemmas.{numbers-light, numbers-scale, numbers-texture}
use Rattle.wall_columns.proofs.StripLemmas.{IsPartOf, fragment-cases}

scale_least : (z : ℤ) → pos 0 <ℤ z → pos 0 ≤ℤ z
scale_least z h = omega (arith, ints)

own_scale : (v : ViewValue) (facts : WallFacts) (first last k : ℕ) → k ≤ last - first → pos 0 ≤ℤ (edges_at v.shape (fragment_numbers v facts first last) k).scale
unfolding edges_at
own_scale v facts first last k l = scale_least _ (numbers-scale v facts first last k l)

-- the fragment of a seg can be shown
pub can_show-of : (v : ViewValue) (facts : WallFacts) (first last : ℕ) (f : FragmentValue) → f ≡ fragment_of v facts first last → last < v.shape.width → CanShow v f
can_show-of v facts first last f is within =
    subst (CanShow v) (sym is) (record {
      within = within;
      scales = λ k l. own_scale v facts first last k l;
      light = numbers-light v facts first last;
    })

-- where there is room for a note the strips are the fragment's, else there are none
if_room : (b : Bool) (strips : List Strip) (strip : Strip) → Contains (cond b strips []) strip → (b ≡ true) × Contains strips strip
if_room true strips strip h = (refl, h)
if_room false strips strip h = absurd (omega (arith, h.1))

pub range-none : (v : ViewValue) (state : WallsView) (facts : WallFacts) (first last : ℕ) → nat_lt (length state.notes) MAX_DRAWSEGS ≡ false → [] ≡ range_strips v state facts first last
unfolding range_strips
range-none v state facts first last is = sym (ap (λ (b : Bool). cond b (fragment_strips v (length state.notes) (fragment_of v facts first last) (clip_at state)) []) is)

pub range-some : (v : ViewValue) (state : WallsView) (facts : WallFacts) (first last : ℕ) → length state.notes < MAX_DRAWSEGS →
    fragment_strips v (length state.notes) (fragment_of v facts first last) (clip_at state) ≡ range_strips v state facts first last
unfolding range_strips
range-some v state facts first last room =
    sym (ap (λ (b : Bool). cond b (fragment_strips v (length state.notes) (fragment_of v facts first last) (clip_at state)) []) (lt-true (length state.notes) MAX_DRAWSEGS room))

abbrev IsRangePart : ViewValue → WallsView → WallFacts → ℕ → ℕ → Strip → Type 0
IsRangePart v state facts first last strip = IsPartOf v (length state.notes) (fragment_of v facts first last) (clip_at state) strip

pub range-cases : (v : ViewValue) (state : WallsView) (facts : WallFacts) (first last : ℕ) (strip : Strip) → Contains (range_strips v state facts first last) strip → IsRangePart v state facts first last strip
unfolding range_strips
range-cases v state facts first last strip h =
    fragment-cases v (length state.notes) (fragment_of v facts first last) (clip_at state) strip
    (if_room (nat_lt (length state.notes) MAX_DRAWSEGS) (fragment_strips v (length state.notes) (fragment_of v facts first last) (clip_at state)) strip h).1

-- what is not told to be full has room
pub room-of : (n most : ℕ) (full : Bool) → full ≡ false → (most ≤ n → IsTrue full) → n < most
room-of n most full is says = elim (cases_lt n most) [
  | inl room ↦ room
  | inr none ↦ absurd (let told : full ≡ true = says none in false≢true (sym is ∙ told))
]

-- the same strips by the parts of a state
pub range-is : (v : ViewValue) (facts : WallFacts) (first last number : ℕ) (f : FragmentValue) (notes : List FragmentNote) (columns : ColumnState) (windows : WindowsView) {state : WallsView} →
    walls_view notes columns ≡ state → windows ≡ columns.windows → f ≡ fragment_of v facts first last → number ≡ length notes → length notes < MAX_DRAWSEGS →
    fragment_strips v number f (window_at windows) ≡ range_strips v state facts first last
unfolding clip_at window_at
range-is v facts first last number f notes columns windows view same is count room =
    ap (λ (k : ℕ). fragment_strips v k f (window_at windows)) count
    ∙ ap (λ (f : FragmentValue). fragment_strips v (length notes) f (window_at windows)) is
    ∙ ap (λ (w : WindowsView). fragment_strips v (length notes) (fragment_of v facts first last) (window_at w)) same
    ∙ range-some v (walls_view notes columns) facts first last room
    ∙ ap (λ (w : WallsView). range_strips v w facts first last) view

-- and what is open of each column, by them
pub open-of : (notes : List FragmentNote) (columns : ColumnState) {state : WallsView} → walls_view notes columns ≡ state →
    ((x : ℕ) → x < FRAME_WIDTH → IsClipIn columns.windows.height (window_at columns.windows x)) → AreOpenIn state
unfolding clip_at window_at
open-of notes columns view clips = subst (λ (w : WallsView). AreOpenIn w) view (λ x l. clips x l)

-- a strip in the columns and rows of a view lies in its frame
in_frame : (from to : ℤ) (x left top width height : ℕ) → from ≤ℤ to → pos 0 ≤ℤ from → to <ℤ pos height → x < width → left + width ≤ FRAME_WIDTH → top + height ≤ FRAME_HEIGHT →
    (natural from ≤ natural to) × ((x + left < FRAME_WIDTH) × (natural to + top < FRAME_HEIGHT))
unfolding natural
in_frame (pos a) (pos b) x left top width height ordered least most column columns rows = (omega (arith, ints), (omega (arith, ints), omega (arith, ints)))
in_frame (pos a) (negsuc b) x left top width height ordered least most column columns rows = absurd (omega (arith, ints))
in_frame (negsuc a) to x left top width height ordered least most column columns rows = absurd (omega (arith, ints))

-- a brush takes each of them
pub record CanTakeRange (p : BrushValue) (v : ViewValue) (state : WallsView) (facts : WallFacts) (last : ℕ) : Type 0 where
  pub within : last < v.shape.width
  pub height : state.height ≡ v.shape.height
  pub placed : StandsInFrame v.shape p.state.canvas
  pub slots : length p.tools.dir.lumps ≤ p.state.cache.lumps
  pub colormap : p.tools.colormap < length p.tools.dir.lumps
  pub textures : (number : ℕ) → IsWallTexture facts number → CanDraw p.tools.dir.lumps p.tools.textures p.state.cache number

pub range-taken : (p : BrushValue) (v : ViewValue) (state : WallsView) (facts : WallFacts) (first last : ℕ) → CanTakeRange p v state facts last → AreOpenIn state →
    (strip : Strip) → Contains (range_strips v state facts first last) strip → CanTake p strip
unfolding part_strip look_at column_edges
range-taken p v state facts first last can rows_open strip h =
    let one = range-cases v state facts first last strip h in
    let numbers = fragment_numbers v facts first last in
    let edges = edges_at v.shape numbers (one.x - first) in
    let rows_in_frame = can.placed.rows in
    let width_in_frame = can.placed.columns in
    let last_inside = can.within in
    let rows = wall_strips-in state.height numbers (clip_at state one.x) edges one.part (omega (arith, can.height, rows_in_frame)) (rows_open one.x (omega (arith, one.to, last_inside, width_in_frame))) (edges_at-words v.shape numbers (one.x - first)) one.among one.rows in
    let below : one.part.rows.last <ℤ pos v.shape.height = subst (λ (m : ℕ). one.part.rows.last <ℤ pos m) can.height rows.1 in
    let there = wall_strips-there numbers (clip_at state one.x) edges one.part one.among in
    subst (CanTake p) one.is (record {
      slots = record { lumps = can.slots; colormap = can.colormap };
      texture = can.textures one.part.part.number (there.0, numbers-texture v facts first last one.part.part.number there.0 there.1);
      within = in_frame one.part.rows.first one.part.rows.last one.x p.state.canvas.left p.state.canvas.top v.shape.width v.shape.height one.rows rows.0 below
          (omega (arith, one.to, last_inside)) width_in_frame rows_in_frame;
    })

-- a column of a texture that they show is seen of the fragment
columns-shown : (v : ViewValue) (state : WallsView) (facts : WallFacts) (first last number : ℕ) (own : ℤ) → ShowsColumn (range_strips v state facts first last) number own →
    IsSeenOf v state facts first last number own
unfolding part_strip look_at column_edges wall_of wall_edges texture_column
columns-shown v state facts first last number own shows =
    let one = range-cases v state facts first last shows.strip shows.among in
    let same = subst (λ (s : Strip). IsStripColumn s number own) (sym one.is) shows.is in
    record { x = one.x; from = one.from; to = one.to; strip = one.part; among = one.among; texture = (one.rows, same.0); is = same.1 }

lumps-shown : (v : ViewValue) (state : WallsView) (facts : WallFacts) (first last lump : ℕ) → ShowsLump (range_strips v state facts first last) lump → IsNoPicture lump
lumps-shown v state facts first last lump shows =
    let one = range-cases v state facts first last shows.strip shows.among in
    subst (λ (s : Strip). IsStripLump s lump) (sym one.is) shows.is

-- and its texture is one of the seg's
pub seen-texture : (v : ViewValue) (state : WallsView) (facts : WallFacts) (first last number : ℕ) (own : ℤ) → IsSeenOf v state facts first last number own → IsWallTexture facts number
unfolding wall_of
seen-texture v state facts first last number own h =
    let numbers = fragment_numbers v facts first last in
    let part_there = wall_strips-there numbers (clip_at state h.x) (wall_edges v.shape (wall_of v facts first last) h.x) h.strip h.among in
    let has_number = subst (λ (m : ℕ). m ≢ 0) (sym h.texture.1) part_there.0 in
    (has_number, numbers-texture v facts first last number has_number (subst (IsPartTexture numbers) (sym h.texture.1) part_there.1))

-- the dots of a part, with rows or without
dots_by : (v : ViewValue) (art : Art) (k : ℕ) (f : FragmentValue) (x : ℕ) (e : Edges) (s : WallStrip) (b : Bool) →
    strips_dots art (cond b [] (Texture (part_strip v.shape (look_at v k f x e) s) ∷ []))
    ≡ column_dots (painter_of WALL k (art.texture_source s.part.number (column_of_line v f.line x))) x
    (wall_colour v art s.part f.numbers.light (column_of_line v f.line x) e.scale) (cond b [] (listed_from (λ y. y) (natural s.rows.first) (natural s.rows.last)))
unfolding strips_dots joined_lists column_dots texture_dots texture_colour part_strip look_at wall_colour
dots_by v art k f x e s true = refl
dots_by v art k f x e s false = append-nil (texture_dots art (part_strip v.shape (look_at v k f x e) s))

part_dots : (v : ViewValue) (art : Art) (k : ℕ) (f : FragmentValue) (x : ℕ) (e : Edges) (s : WallStrip) →
    strips_dots art (part_strips v.shape (look_at v k f x e) s) ≡ strip_dots v art k x f.numbers.light (column_of_line v f.line x) e.scale s
unfolding part_strips strip_dots rows_between
part_dots v art k f x e s = dots_by v art k f x e s (int_lt s.rows.last s.rows.first)

-- those of a column
column_dots_are : (v : ViewValue) (art : Art) (k : ℕ) (facts : WallFacts) (first last : ℕ) (before : ℕ → ColumnClip) (x : ℕ) →
    strips_dots art (column_strips v k (fragment_of v facts first last) before x) ≡ wall_column_by v art k x (wall_of v facts first last) (before x) (wall_edges v.shape (wall_of v facts first last) x)
unfolding strips_dots column_strips wall_column_by wall_edges column_edges wall_of texture_column
column_dots_are v art k facts first last before x =
    let f : FragmentValue = fragment_of v facts first last in
    let e : Edges = edges_at v.shape (fragment_numbers v facts first last) (x - first) in
    joined-joined (dots_of_strip art) (part_strips v.shape (look_at v k f x e)) (wall_strips f.numbers (before x) e)
    ∙ ap (λ (g : WallStrip → List Dot). joined_lists g (wall_strips f.numbers (before x) e)) (λ i s. part_dots v art k f x e s i)

column_wall : (v : ViewValue) (art : Art) (ws : List Wall) (k : ℕ) (facts : WallFacts) (first last : ℕ) (before : ℕ → ColumnClip) (x : ℕ) → before x ≡ clip_before v.shape ws k x →
    strips_dots art (column_strips v k (fragment_of v facts first last) before x) ≡ wall_column v art ws k (wall_of v facts first last) x
unfolding wall_column
column_wall v art ws k facts first last before x same =
    column_dots_are v art k facts first last before x
    ∙ ap (λ (c : ColumnClip). wall_column_by v art k x (wall_of v facts first last) c (wall_edges v.shape (wall_of v facts first last) x)) same

-- and those of a fragment
pub fragment_dots : (v : ViewValue) (art : Art) (ws : List Wall) (k : ℕ) (facts : WallFacts) (first last : ℕ) (before : ℕ → ColumnClip) →
    ((x : ℕ) → first ≤ x → x ≤ last → before x ≡ clip_before v.shape ws k x) →
    strips_dots art (fragment_strips v k (fragment_of v facts first last) before) ≡ wall_dots v art ws k (wall_of v facts first last)
unfolding strips_dots fragment_strips wall_dots wall_of
fragment_dots v art ws k facts first last before same =
    let f : FragmentValue = fragment_of v facts first last in
    let columns : ℕ → List Dot = λ x. joined_lists (dots_of_strip art) (column_strips v k f before x) in
    joined-joined (dots_of_strip art) (column_strips v k f before) (listed_from (λ x. x) first last)
    ∙ sym (first-from columns first last)
    ∙ first-same (λ n. columns (first + n)) (λ n. wall_column v art ws k (wall_of v facts first last) (first + n)) (last + 1 - first)
    (λ n l. column_wall v art ws k facts first last before (first + n) (same (first + n) (omega arith) (omega (arith, l))))
    ∙ first-from (wall_column v art ws k (wall_of v facts first last)) first last

range_dots_are : (v : ViewValue) (art : Art) (state : WallsView) (facts : WallFacts) (first last : ℕ) (walls : List Wall) (s : PlanesNow) (planes : List Plane) → last < v.shape.width →
    IsBuilt v walls s state planes → length walls < MAX_DRAWSEGS →
    strips_dots art (range_strips v state facts first last) ≡ wall_dots v art (with_wall walls (wall_of v facts first last)) (length walls) (wall_of v facts first last)
range_dots_are v art state facts first last walls s planes within built room =
    let count = built-count v walls s state planes built in
    let w : Wall = wall_of v facts first last in
    ap (strips_dots art) (sym (range-some v state facts first last (omega arith)))
    ∙ ap (λ (k : ℕ). strips_dots art (fragment_strips v k (fragment_of v facts first last) (clip_at state))) count
    ∙ fragment_dots v art (with_wall walls w) (length walls) facts first last (clip_at state)
    (λ x from to. built.clips x (omega (arith, to, within)) ∙ sym (clip_before-front v.shape walls (w ∷ []) (length walls) x (omega arith)))

-- so a call that paints these strips draws the fragment
pub range-drawn : {mark : Painter → ℕ → ℕ} {a b : PaintState} {result : Result (Unit {0}) CacheFault} (t : PaintTools) (v : ViewValue) (state : WallsView) (facts : WallFacts) (first last : ℕ) (planes : List Plane) → last < v.shape.width →
    PaintsStrips mark t (range_strips v state facts first last) a b result →
    Paints cache_fault mark t (IsSeenOf v state facts first last) IsNoPicture (AreBehind v state planes)
    (λ contents behind. wall_dots v (painted_art contents t) (with_wall behind.0 (wall_of v facts first last)) (length behind.0) (wall_of v facts first last)) a b result
range-drawn t v state facts first last planes within one =
    paints-same _ (λ contents (behind : List Wall × PlanesNow) are. range_dots_are v (painted_art contents t) state facts first last behind.0 behind.1 planes within are.0 are.1)
    (paints-asked {first = λ (q : Unit {0}). Unit {0}} (AreBehind v state planes) (λ behind. tt) (λ behind are. tt)
    (paints-wider (columns-shown v state facts first last) (lumps-shown v state facts first last) one))

-- a fault of the cache is the same fault here
pub cache-above : (e : CacheFault) → draw_fault (from_cache_fault e) ≡ fault_above (λ (never : ⊥). absurd never) (cache_fault e)
cache-above (cache.ZoneFull wanted widest) = refl
cache-above cache.ReadFault = refl

-- a count past its limit is told by a call that paints nothing
refused_by : {mark : Painter → ℕ → ℕ} {t : PaintTools} {among : ℕ → ℤ → Type 0} {pictures : ℕ → Type 0} {Q : Type 0} {asked : Q → Type 0} (dots : List (List ℕ) → Q → List Dot) (st : PaintState) (kind : LimitKind) (count : ℕ) →
    Paints draw_fault mark t among pictures asked dots st st (let answer : Result (Unit {0}) DrawFault = Err (fault_of_kind kind count) in answer)
refused_by {mark} {t} {among} {pictures} {Q} {asked} dots st limit.Planes count =
    let nothing : Paints draw_fault mark t among pictures asked (λ contents q. []) st st (let answer : Result (Unit {0}) DrawFault = Ok tt in answer) = paints-none st tt in
    record {
      painted = λ contents count q hold is. tt;
      fits = λ contents count q hold is. tt;
      draws = record { keeps = nothing.draws.keeps; causes = record { ok = tt; err = refl }; steady = λ contents stand within steady. tt; full = tt; order = λ items wanted all k. nothing.draws.order items wanted all k };
      place = nothing.place;
    }
refused_by {mark} {t} {among} {pictures} {Q} {asked} dots st limit.Openings count =
    let nothing : Paints draw_fault mark t among pictures asked (λ contents q. []) st st (let answer : Result (Unit {0}) DrawFault = Ok tt in answer) = paints-none st tt in
    record {
      painted = λ contents count q hold is. tt;
      fits = λ contents count q hold is. tt;
      draws = record { keeps = nothing.draws.keeps; causes = record { ok = tt; err = refl }; steady = λ contents stand within steady. tt; full = tt; order = λ items wanted all k. nothing.draws.order items wanted all k };
      place = nothing.place;
    }

module _ {S C : Type 0} (shelf : S → ShelfView) (canvas : C → CanvasView) (mark : Painter → ℕ → ℕ) where
  -- a brush over what is lent, and what it says of the strips that it was asked for
  abbrev pub LentReceives : LiveBrush S C → LiveBrush S C → List Strip → Result (Unit {0}) (WallStop CacheFault) → Type 0
  LentReceives old new strips result = ReceivesUnlessOver (λ (p : LiveBrush S C) strip. CanTake (brush_now shelf canvas p) strip)
      (λ (p : LiveBrush S C) (start : BrushValue) strips. HasWorked mark start (brush_now shelf canvas p) strips (Ok tt))
      (λ (p : LiveBrush S C) (start : BrushValue) strips stop. HasWorked mark start (brush_now shelf canvas p) strips (Err stop)) old new strips result

  worked : (old new : LiveBrush S C) (strips : List Strip) (result : Result (Unit {0}) CacheFault) →
      Receives (λ (p : LiveBrush S C) strip. CanTake (brush_now shelf canvas p) strip)
      (λ (p : LiveBrush S C) (start : BrushValue) strips. HasWorked mark start (brush_now shelf canvas p) strips (Ok tt))
      (λ (p : LiveBrush S C) (start : BrushValue) strips stop. HasWorked mark start (brush_now shelf canvas p) strips (Err stop)) old new strips result →
      HasWorked mark (brush_now shelf canvas old) (brush_now shelf canvas new) strips result
  worked old new strips result given = received-worked _ _ strips result (receives-value (brush_now shelf canvas) old new result given)

  -- it is over the same references
  pub names-kept : (old new : LiveBrush S C) (strips : List Strip) (result : Result (Unit {0}) (WallStop CacheFault)) → LentReceives old new strips result →
      (brush_now shelf canvas new).names ≡ (brush_now shelf canvas old).names
  names-kept old new strips (Ok value) given = (worked old new strips (Ok tt) given).names
  names-kept old new strips (Err (Over over)) given = ap (λ (p : LiveBrush S C). (brush_now shelf canvas p).names) given
  names-kept old new strips (Err (Brush stop)) given = (worked old new strips (Err stop) given).names

  -- and where it was asked for the strips of a fragment, the fragment is drawn
  pub range-painted : (old new : LiveBrush S C) (v : ViewValue) (state : WallsView) (facts : WallFacts) (first last : ℕ) (planes : List Plane) (value : Unit {0}) → last < v.shape.width →
      LentReceives old new (range_strips v state facts first last) (Ok value) →
      Paints draw_fault mark (brush_now shelf canvas old).tools (IsSeenOf v state facts first last) IsNoPicture (AreBehind v state planes)
      (λ contents behind. wall_dots v (painted_art contents (brush_now shelf canvas old).tools) (with_wall behind.0 (wall_of v facts first last)) (length behind.0) (wall_of v facts first last))
      (brush_now shelf canvas old).state (brush_now shelf canvas new).state (let answer : Result (Unit {0}) DrawFault = Ok tt in answer)
  range-painted old new v state facts first last planes value within given =
      paints-mapped (λ (never : ⊥). absurd never) from_cache_fault cache-above (Ok tt) (Ok tt) refl
      (range-drawn (brush_now shelf canvas old).tools v state facts first last planes within (worked old new (range_strips v state facts first last) (Ok tt) given).works)

  pub range-stopped : (old new : LiveBrush S C) (v : ViewValue) (state : WallsView) (facts : WallFacts) (first last : ℕ) (planes : List Plane) (stop : WallStop CacheFault) (result : Result (Unit {0}) DrawFault) → last < v.shape.width →
      LentReceives old new (range_strips v state facts first last) (Err stop) → IsErrAnd result (λ e. e ≡ from_stop stop) →
      Paints draw_fault mark (brush_now shelf canvas old).tools (IsSeenOf v state facts first last) IsNoPicture (AreBehind v state planes)
      (λ contents behind. wall_dots v (painted_art contents (brush_now shelf canvas old).tools) (with_wall behind.0 (wall_of v facts first last)) (length behind.0) (wall_of v facts first last))
      (brush_now shelf canvas old).state (brush_now shelf canvas new).state result
  range-stopped old new v state facts first last planes (Over over) result within given is =
      let told = err_from_is_err_and result is in
      let told_is : result ≡ Err (from_over over) = told.1 ∙ ap Err told.2 in
      subst (λ (p : LiveBrush S C). Paints draw_fault mark (brush_now shelf canvas old).tools (IsSeenOf v state facts first last) IsNoPicture (AreBehind v state planes)
      (λ contents behind. wall_dots v (painted_art contents (brush_now shelf canvas old).tools) (with_wall behind.0 (wall_of v facts first last)) (length behind.0) (wall_of v facts first last))
      (brush_now shelf canvas old).state (brush_now shelf canvas p).state result) (sym given)
      (subst (λ (r : Result (Unit {0}) DrawFault). Paints draw_fault mark (brush_now shelf canvas old).tools (IsSeenOf v state facts first last) IsNoPicture (AreBehind v state planes)
      (λ contents behind. wall_dots v (painted_art contents (brush_now shelf canvas old).tools) (with_wall behind.0 (wall_of v facts first last)) (length behind.0) (wall_of v facts first last))
      (brush_now shelf canvas old).state (brush_now shelf canvas old).state r) (sym told_is) (refused_by _ (brush_now shelf canvas old).state over.kind over.count))
  range-stopped old new v state facts first last planes (Brush fault) result within given is =
      paints-mapped (λ (never : ⊥). absurd never) from_cache_fault cache-above (Err fault) result is
      (range-drawn (brush_now shelf canvas old).tools v state facts first last planes within (worked old new (range_strips v state facts first last) (Err fault) given).works)
