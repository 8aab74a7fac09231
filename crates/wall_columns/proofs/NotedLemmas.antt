-- Laws of the notes of a view: their lists are whole and apart, their scales above 0, their clips
-- rows of the view, and behind the seg of a masked one there is a sector.
use Rattle.picture_rules.proofs.Common.{[], All, AllByRecursion, ap, append_assoc, arith, bit_and, Bool, cond, false, from_bool, IfSome, ints, IsSome, length, length-append, List, None, not, Option, pos, recursion_from_All, refl, slice_get, Some, subst, suc, sym, true, zero, ℕ, ℤ, ◌&&◌, ◌*◌, ◌++◌, ◌+◌, ◌-◌, ◌<ℤ◌, ◌<◌, ◌||◌, ◌∙◌, ◌∷◌, ◌≡◌, ◌≢◌, ◌≤ℤ◌, ◌≤◌}
use Rattle.wall_columns.specs.Rules.{AreNoted, ColumnClip, FRAME_HEIGHT, FragmentNote, FragmentNumbers, IsClip, IsClipAmong, IsListAt, IsWholeNote, ListsApart, MAX_DRAWSEGS, SIL_BOTTOM, SIL_TOP, Surface, ViewShape, ViewValue, Wall, WallFacts, bottom_clip, clip_note, clip_past, fragment_numbers, greatest_clip, is_masked, least_clip, minus_one, note_at, notes_from, numbers_by, openings_list, place_if, room_if, saved_by, saved_from, saves_bottom, saves_top, silhouette_of, step_at, top_clip, view_notes, wall_of}
use Rattle.picture_rules.proofs.wall.NoteLemmas.{length-saved_by, note-top_clip, note-bottom_clip}
use Rattle.wall_columns.specs.{Windows.IsClipIn, Built.IsDrawn, Noted.HaveBacks}
use Rattle.wall_columns.proofs.{ClipLemmas.clip_before-in, SightLemmas.numbers-scale}

-- a list that is noted lies among the openings
listed_at : (masked : Bool) (openings : List ℤ) (d : FragmentNote) (place total : ℕ) → (masked ≡ true → place + (d.last + 1 - d.first) ≤ length openings) → IfSome (place_if masked place) (IsListAt openings d)
unfolding place_if
listed_at true openings d place total h = h refl
listed_at false openings d place total h = tt

clip_among : (constant saves : Bool) (row : ℤ) (openings : List ℤ) (d : FragmentNote) (place : ℕ) → (saves ≡ true → place + (d.last + 1 - d.first) ≤ length openings) → IsClipAmong openings d (clip_note constant row saves place)
unfolding clip_note
clip_among true saves row openings d place h = tt
clip_among false true row openings d place h = h refl
clip_among false false row openings d place h = tt

-- a clip that is noted is constant or saved
noted_clip : (constant saves : Bool) (row : ℤ) (place : ℕ) → IsClip (clip_note constant row saves place) → (saves || constant) ≡ true
unfolding clip_note
noted_clip true true row place h = refl
noted_clip true false row place h = refl
noted_clip false true row place h = refl
noted_clip false false row place h = absurd h

is_noted : (constant there masked : Bool) (row : ℤ) (place : ℕ) → (there || masked) ≡ true → IsClip (clip_note constant row ((there || masked) && not constant) place)
unfolding clip_note
is_noted true there masked row place h = tt
is_noted false true masked row place h = tt
is_noted false false true row place h = tt
is_noted false false false row place h = absurd (let false_is_true : false ≡ true = h in cc)

-- a silhouette has its bit
top_bit : (bottom top masked : Bool) → bit_and (SIL_BOTTOM * from_bool bottom + SIL_TOP * from_bool top) SIL_TOP ≢ 0 → (top || masked) ≡ true
top_bit bottom true masked h = refl
top_bit true false masked h = absurd (h refl)
top_bit false false masked h = absurd (h refl)

bottom_bit : (bottom top masked : Bool) → bit_and (SIL_BOTTOM * from_bool bottom + SIL_TOP * from_bool top) SIL_BOTTOM ≢ 0 → (bottom || masked) ≡ true
bottom_bit true top masked h = refl
bottom_bit false true masked h = absurd (h refl)
bottom_bit false false masked h = absurd (h refl)

masked_too : (there masked : Bool) (place : ℕ) → IsSome (place_if masked place) → (there || masked) ≡ true
unfolding place_if
masked_too true masked place h = refl
masked_too false true place h = refl
masked_too false false place h = absurd (let false_is_true : false ≡ true = h in cc)

-- the rows of the clips past a fragment
past_in : (shape : ViewShape) (walls : List Wall) (k x : ℕ) → shape.height ≤ FRAME_HEIGHT → IsClipIn shape.height (clip_past shape walls k x)
unfolding clip_past
past_in shape walls k x s = clip_before-in shape walls (suc k) x s

top_range : (shape : ViewShape) (constant : Bool) (clip : ColumnClip) → shape.height ≤ FRAME_HEIGHT → IsClipIn shape.height clip →
    (minus_one ≤ℤ cond constant (pos shape.height) clip.ceiling_clip) × (cond constant (pos shape.height) clip.ceiling_clip ≤ℤ greatest_clip)
unfolding greatest_clip
top_range shape true clip s i = (omega (arith, ints), omega (arith, ints))
top_range shape false clip s i = (i.ceiling_low, i.ceiling_high)

bottom_range : (shape : ViewShape) (constant : Bool) (clip : ColumnClip) → shape.height ≤ FRAME_HEIGHT → IsClipIn shape.height clip →
    (least_clip ≤ℤ cond constant minus_one clip.floor_clip) × (cond constant minus_one clip.floor_clip ≤ℤ pos shape.height)
unfolding least_clip
bottom_range shape true clip s i = (omega (arith, ints), omega (arith, ints))
bottom_range shape false clip s i = (i.floor_low, i.floor_high)

top_clip-in : (shape : ViewShape) (walls : List Wall) (k : ℕ) (w : Wall) (x : ℕ) → shape.height ≤ FRAME_HEIGHT → (minus_one ≤ℤ top_clip shape walls k w x) × (top_clip shape walls k w x ≤ℤ greatest_clip)
unfolding top_clip
top_clip-in shape walls k w x s = top_range shape w.numbers.top_is_constant (clip_past shape walls k x) s (past_in shape walls k x s)

bottom_clip-in : (shape : ViewShape) (walls : List Wall) (k : ℕ) (w : Wall) (x : ℕ) → shape.height ≤ FRAME_HEIGHT → (least_clip ≤ℤ bottom_clip shape walls k w x) × (bottom_clip shape walls k w x ≤ℤ pos shape.height)
unfolding bottom_clip
bottom_clip-in shape walls k w x s = bottom_range shape w.numbers.bottom_is_constant (clip_past shape walls k x) s (past_in shape walls k x s)

room_true : (b : Bool) (w : Wall) → b ≡ true → room_if b w ≡ w.last + 1 - w.first
unfolding room_if
room_true true w e = refl
room_true false w e = absurd (let false_is_true : false ≡ true = e in cc)

-- the scales of a drawn fragment
drawn_scale : (v : ViewValue) (w : Wall) (k : ℕ) → IsDrawn v w → k ≤ w.last - w.first → pos 0 <ℤ step_at w.numbers.scale1 w.numbers.step k
unfolding wall_of
drawn_scale v w k d l =
    let numbers : w.numbers ≡ fragment_numbers v w.facts w.first w.last = ap (λ (u : Wall). u.numbers) d.is in
    let ScaleAboveZero : FragmentNumbers → Type 0 = λ n. pos 0 <ℤ step_at n.scale1 n.step k in
    subst ScaleAboveZero (sym numbers) (numbers-scale v w.facts w.first w.last k l)

-- a note is whole where its openings lie at its place
whole_note : (v : ViewValue) (walls : List Wall) (k : ℕ) (w : Wall) (before after : List ℤ) (place : ℕ) → length before ≡ place → v.shape.height ≤ FRAME_HEIGHT → IsDrawn v w →
    IsWholeNote v.shape (before ++ (saved_by v walls k w ++ after)) (note_at v w place)
unfolding note_at silhouette_of saves_top saves_bottom
whole_note v walls k w before after place e s d =
    let numbers : FragmentNumbers = w.numbers in let openings : List ℤ = before ++ (saved_by v walls k w ++ after) in
    let total : length openings ≡ length before + (length (saved_by v walls k w) + length after) = length-append before (saved_by v walls k w ++ after) ∙ ap (λ (m : ℕ). length before + m) (length-append (saved_by v walls k w) after) in
    let saved_length = length-saved_by v walls k w in
    let top_place : ℕ = place + room_if numbers.masked w in let bottom_place : ℕ = place + room_if numbers.masked w + room_if (saves_top numbers) w in
    record {
      ordered = d.ordered;
      within = d.within;
      scale = λ x l h. drawn_scale v w (x - w.first) d (omega arith);
      columns = listed_at numbers.masked openings (note_at v w place) place 0 (λ t. let room_is = room_true numbers.masked w t in omega arith);
      top_list = clip_among numbers.top_is_constant (saves_top numbers) (pos v.shape.height) openings (note_at v w place) top_place (λ t. let room_is = room_true (saves_top numbers) w t in omega arith);
      bottom_list = clip_among numbers.bottom_is_constant (saves_bottom numbers) minus_one openings (note_at v w place) bottom_place (λ t. let room_is = room_true (saves_bottom numbers) w t in omega arith);
      top = λ h. is_noted numbers.top_is_constant numbers.top.is_there numbers.masked (pos v.shape.height) top_place
          (top_bit numbers.bottom.is_there numbers.top.is_there numbers.masked h);
      bottom = λ h. is_noted numbers.bottom_is_constant numbers.bottom.is_there numbers.masked minus_one bottom_place
          (bottom_bit numbers.bottom.is_there numbers.top.is_there numbers.masked h);
      masked_top = λ h. is_noted numbers.top_is_constant numbers.top.is_there numbers.masked (pos v.shape.height) top_place
          (masked_too numbers.top.is_there numbers.masked place h);
      masked_bottom = λ h. is_noted numbers.bottom_is_constant numbers.bottom.is_there numbers.masked minus_one bottom_place
          (masked_too numbers.bottom.is_there numbers.masked place h);
      top_rows = λ x l m h. let clip_is = note-top_clip v walls k w before after place x e l m
          (noted_clip numbers.top_is_constant (saves_top numbers) (pos v.shape.height) top_place h) in
          let IsTopClip : ℤ → Type 0 = λ z. (minus_one ≤ℤ z) × (z ≤ℤ greatest_clip) in subst IsTopClip (sym clip_is) (top_clip-in v.shape walls k w x s);
      bottom_rows = λ x l m h. let clip_is = note-bottom_clip v walls k w before after place x e l m
          (noted_clip numbers.bottom_is_constant (saves_bottom numbers) minus_one bottom_place h) in
          let IsBottomClip : ℤ → Type 0 = λ z. (least_clip ≤ℤ z) × (z ≤ℤ pos v.shape.height) in
          subst IsBottomClip (sym clip_is) (bottom_clip-in v.shape walls k w x s);
    }

-- all notes from one on
whole_from : (v : ViewValue) (walls ws : List Wall) (k : ℕ) (before : List ℤ) (place : ℕ) → length before ≡ place → v.shape.height ≤ FRAME_HEIGHT → AllByRecursion (IsDrawn v) ws → (i : ℕ) →
    IfSome (slice_get (notes_from v place ws) i) (IsWholeNote v.shape (before ++ saved_from v walls k ws))
unfolding notes_from saved_from
whole_from v walls [] k before place e s d i = tt
whole_from v walls (w ∷ ws) k before place e s d zero = whole_note v walls k w before (saved_from v walls (k + 1) ws) place e s d.0
whole_from v walls (w ∷ ws) k before place e s d (suc i) =
    let next : ℕ = place + room_if w.numbers.masked w + room_if (saves_top w.numbers) w + room_if (saves_bottom w.numbers) w in
    let length_is : length (before ++ saved_by v walls k w) ≡ next = omega (arith, length-append before (saved_by v walls k w), length-saved_by v walls k w) in
    let IsWholeAt : List ℤ → Type 0 = λ openings. IfSome (slice_get (notes_from v next ws) i) (IsWholeNote v.shape openings) in
    subst IsWholeAt (append_assoc before (saved_by v walls k w) (saved_from v walls (k + 1) ws))
    (whole_from v walls ws (k + 1) (before ++ saved_by v walls k w) next length_is s d.1 i)

-- the lists of later notes begin later
at_place : (masked : Bool) (place low : ℕ) → low ≤ place → IfSome (place_if masked place) (λ (p : ℕ). low ≤ p)
unfolding place_if
at_place true place low l = l
at_place false place low l = tt

places_from : (v : ViewValue) (ws : List Wall) (place low i : ℕ) → low ≤ place → IfSome (slice_get (notes_from v place ws) i) (λ (d : FragmentNote). IfSome d.masked (λ (p : ℕ). low ≤ p))
unfolding notes_from note_at
places_from v [] place low i l = tt
places_from v (w ∷ ws) place low zero l = at_place w.numbers.masked place low l
places_from v (w ∷ ws) place low (suc i) l =
    places_from v ws (place + room_if w.numbers.masked w + room_if (saves_top w.numbers) w + room_if (saves_bottom w.numbers) w) low i (omega arith)

apart_by : (d : FragmentNote) (masked : Bool) (place : ℕ) (other : Option ℕ) → IfSome other (λ (p : ℕ). place + cond masked (d.last + 1 - d.first) 0 ≤ p) → ListsApart d (place_if masked place) other
unfolding place_if
apart_by d true place None h = tt
apart_by d true place (Some p) h = h
apart_by d false place None h = tt
apart_by d false place (Some p) h = tt

some_weaker : {X : Type 0} (P Q : X → Type 0) (o : Option X) → ((x : X) → P x → Q x) → IfSome o P → IfSome o Q
some_weaker P Q None f h = tt
some_weaker P Q (Some x) f h = f x h

first_apart : (v : ViewValue) (w : Wall) (ws : List Wall) (place k : ℕ) →
    IfSome (slice_get (notes_from v (place + room_if w.numbers.masked w + room_if (saves_top w.numbers) w + room_if (saves_bottom w.numbers) w) ws) k)
    (λ (e : FragmentNote). ListsApart (note_at v w place) (note_at v w place).masked e.masked)
unfolding note_at room_if
first_apart v w ws place k =
    some_weaker (λ (e : FragmentNote). IfSome e.masked (λ (p : ℕ). place + cond w.numbers.masked (w.last + 1 - w.first) 0 ≤ p))
    (λ (e : FragmentNote). ListsApart (note_at v w place) (place_if w.numbers.masked place) e.masked)
    _
    (λ e h. apart_by (note_at v w place) w.numbers.masked place e.masked h)
    (places_from v ws _ (place + cond w.numbers.masked (w.last + 1 - w.first) 0) k (omega arith))

apart_from : (v : ViewValue) (ws : List Wall) (place i k : ℕ) → i < k →
    IfSome (slice_get (notes_from v place ws) i) (λ (d : FragmentNote). IfSome (slice_get (notes_from v place ws) k) (λ (e : FragmentNote). ListsApart d d.masked e.masked))
unfolding notes_from
apart_from v [] place i k l = tt
apart_from v (w ∷ ws) place i zero l = absurd (omega arith)
apart_from v (w ∷ ws) place zero (suc k) l = first_apart v w ws place k
apart_from v (w ∷ ws) place (suc i) (suc k) l =
    apart_from v ws (place + room_if w.numbers.masked w + room_if (saves_top w.numbers) w + room_if (saves_bottom w.numbers) w) i k (omega arith)

whole_view : (v : ViewValue) (walls : List Wall) → v.shape.height ≤ FRAME_HEIGHT → All (IsDrawn v) walls → (i : ℕ) → IfSome (slice_get (view_notes v walls) i) (IsWholeNote v.shape (openings_list v walls))
unfolding view_notes openings_list
whole_view v walls s d i = whole_from v walls walls 0 [] 0 refl s (recursion_from_All (IsDrawn v) walls d) i

apart_view : (v : ViewValue) (walls : List Wall) (i k : ℕ) → i < k →
    IfSome (slice_get (view_notes v walls) i) (λ (d : FragmentNote). IfSome (slice_get (view_notes v walls) k) (λ (e : FragmentNote). ListsApart d d.masked e.masked))
unfolding view_notes
apart_view v walls i k l = apart_from v walls 0 i k l

-- the notes of a view, and the openings
pub noted-view : (v : ViewValue) (walls : List Wall) (notes : List FragmentNote) (openings : List ℤ) → notes ≡ view_notes v walls → openings ≡ openings_list v walls → length notes ≤ MAX_DRAWSEGS →
    v.shape.height ≤ FRAME_HEIGHT → All (IsDrawn v) walls → AreNoted v.shape notes openings
noted-view v walls notes openings e f few s d =
    let AreWhole : List FragmentNote → List ℤ → Type 0 = λ ds os. (i : ℕ) → IfSome (slice_get ds i) (IsWholeNote v.shape os) in
    let AreApart : List FragmentNote → Type 0 = λ ds. (i k : ℕ) → i < k → IfSome (slice_get ds i) (λ (d : FragmentNote). IfSome (slice_get ds k) (λ (e : FragmentNote). ListsApart d d.masked e.masked)) in
    let whole : AreWhole (view_notes v walls) (openings_list v walls) = whole_view v walls s d in
    record {
      few = few;
      whole = subst (λ (ds : List FragmentNote). AreWhole ds openings) (sym e) (subst (AreWhole (view_notes v walls)) (sym f) whole);
      apart = subst AreApart (sym e) (apart_view v walls);
    }

-- behind the seg of a masked fragment there is a sector
back_there : (facts : WallFacts) (back : Option Surface) (place : ℕ) → IsSome (place_if (is_masked facts back) place) → IsSome back
unfolding is_masked place_if
back_there facts None place h = h
back_there facts (Some back) place h = refl

drawn_masked : (v : ViewValue) (w : Wall) → IsDrawn v w → w.numbers.masked ≡ is_masked w.facts w.facts.back
unfolding wall_of fragment_numbers numbers_by
drawn_masked v w d = ap (λ (u : Wall). u.numbers.masked) d.is

backs_from : (v : ViewValue) (ws : List Wall) (place : ℕ) → AllByRecursion (IsDrawn v) ws → (k : ℕ) →
    IfSome (slice_get ws k) (λ (w : Wall). IfSome (slice_get (notes_from v place ws) k) (λ (d : FragmentNote). IsSome d.masked → IsSome w.facts.back))
unfolding notes_from note_at
backs_from v [] place d k = tt
backs_from v (w ∷ ws) place d zero = λ h.
    let HasPlace : Bool → Type 0 = λ b. IsSome (place_if b place) in
    back_there w.facts w.facts.back place (subst HasPlace (drawn_masked v w d.0) h)
backs_from v (w ∷ ws) place d (suc k) =
    backs_from v ws (place + room_if w.numbers.masked w + room_if (saves_top w.numbers) w + room_if (saves_bottom w.numbers) w) d.1 k

backs_of : (v : ViewValue) (walls : List Wall) → All (IsDrawn v) walls → (k : ℕ) →
    IfSome (slice_get walls k) (λ (w : Wall). IfSome (slice_get (view_notes v walls) k) (λ (d : FragmentNote). IsSome d.masked → IsSome w.facts.back))
unfolding view_notes
backs_of v walls d k = backs_from v walls 0 (recursion_from_All (IsDrawn v) walls d) k

pub backs-view : (v : ViewValue) (walls : List Wall) (notes : List FragmentNote) → notes ≡ view_notes v walls → All (IsDrawn v) walls → HaveBacks walls notes
backs-view v walls notes e d =
    let HaveTheirBacks : List FragmentNote → Type 0 = λ ds. (k : ℕ) → IfSome (slice_get walls k) (λ (w : Wall). IfSome (slice_get ds k) (λ (d : FragmentNote). IsSome d.masked → IsSome w.facts.back)) in
    record { at = subst HaveTheirBacks (sym e) (backs_of v walls d) }
