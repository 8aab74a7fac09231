-- Laws of the parts of a wall state: windows, openings and the planes of a leaf.
use Rattle.picture_rules.proofs.Common.{[], All-replicate, All-set, ap, append_assoc, arith, Bool, cond, drop, false, get_or, get_or-replicate, ints, is_none, length, length-append, length-drop, length-replicate, length-set, length-take, length-take-le, List, None, Option, pos, replicate, slice_get, slice_index_or, Some, sym, take, take-append-drop, take-append-le, true, ℕ, ℤ, ◌++◌, ◌+◌, ◌-◌, ◌<◌, ◌∙◌, ◌∷◌, ◌≡◌, ◌≤ℤ◌, ◌≤◌, set, between, drop-append-le, take_at, get_or-between, length-between}
use Rattle.wall_columns.specs.Rules.{ColumnClip, FRAME_HEIGHT, FRAME_WIDTH, Plane, PlaneKey, add, check, check_plane, check_some, empty_plane, find, greatest_clip, is_free, least_clip, listed_from, minus_one, number_of}
use Rattle.picture_rules.proofs.Laws.{get_or-listed_from, length-listed_from, listed-all}
use Rattle.picture_rules.proofs.plane.PlaneLemmas.{length-check, length-find}
use Rattle.wall_columns.specs.Walls.{AreClips}
use Rattle.wall_columns.specs.Saved.{OpeningsView, with_list, with_saved}
use Rattle.wall_columns.specs.Windows.{IsClipIn, WindowsView, ceilings_in, floors_in, window_at, windows_view}

-- a window is narrowed
pub are_clips-set : (height : ℕ) (ceilings floors : List ℤ) (x : ℕ) (clip : ColumnClip) → AreClips height ceilings floors → IsClipIn height clip →
    AreClips height (set ceilings x clip.ceiling_clip) (set floors x clip.floor_clip)
are_clips-set height ceilings floors x clip a i = record {
  rows = a.rows;
  ceiling_columns = length-set ceilings x clip.ceiling_clip ∙ a.ceiling_columns;
  floor_columns = length-set floors x clip.floor_clip ∙ a.floor_columns;
  ceilings_low = All-set (λ row. minus_one ≤ℤ row) ceilings x clip.ceiling_clip i.ceiling_low a.ceilings_low;
  ceilings_high = All-set (λ row. row ≤ℤ greatest_clip) ceilings x clip.ceiling_clip i.ceiling_high a.ceilings_high;
  floors_low = All-set (λ row. least_clip ≤ℤ row) floors x clip.floor_clip i.floor_low a.floors_low;
  floors_high = All-set (λ row. row ≤ℤ pos height) floors x clip.floor_clip i.floor_high a.floors_high;
}

ceiling_high : (z : ℤ) → z ≤ℤ pos 0 → z ≤ℤ greatest_clip
unfolding greatest_clip
ceiling_high z h = omega (arith, ints)

floor_low : (z : ℤ) → pos 0 ≤ℤ z → least_clip ≤ℤ z
unfolding least_clip
floor_low z h = omega (arith, ints)

-- each window is opened
pub are_clips-open : (height : ℕ) → height ≤ FRAME_HEIGHT → AreClips height (replicate FRAME_WIDTH minus_one) (replicate FRAME_WIDTH (pos height))
are_clips-open height s = record {
  rows = s;
  ceiling_columns = length-replicate FRAME_WIDTH minus_one;
  floor_columns = length-replicate FRAME_WIDTH (pos height);
  ceilings_low = All-replicate (λ row. minus_one ≤ℤ row) FRAME_WIDTH minus_one (omega (arith, ints));
  ceilings_high = All-replicate (λ row. row ≤ℤ greatest_clip) FRAME_WIDTH minus_one (ceiling_high minus_one (omega (arith, ints)));
  floors_low = All-replicate (λ row. least_clip ≤ℤ row) FRAME_WIDTH (pos height) (floor_low (pos height) (omega (arith, ints)));
  floors_high = All-replicate (λ row. row ≤ℤ pos height) FRAME_WIDTH (pos height) (omega (arith, ints));
}

-- and the windows that memory holds at first, of a view without rows
pub are_clips-blank : AreClips 0 (replicate FRAME_WIDTH (pos 0)) (replicate FRAME_WIDTH (pos 0))
are_clips-blank = record {
  rows = omega arith;
  ceiling_columns = length-replicate FRAME_WIDTH (pos 0);
  floor_columns = length-replicate FRAME_WIDTH (pos 0);
  ceilings_low = All-replicate (λ row. minus_one ≤ℤ row) FRAME_WIDTH (pos 0) (omega (arith, ints));
  ceilings_high = All-replicate (λ row. row ≤ℤ greatest_clip) FRAME_WIDTH (pos 0) (ceiling_high (pos 0) (omega (arith, ints)));
  floors_low = All-replicate (λ row. least_clip ≤ℤ row) FRAME_WIDTH (pos 0) (floor_low (pos 0) (omega (arith, ints)));
  floors_high = All-replicate (λ row. row ≤ℤ pos 0) FRAME_WIDTH (pos 0) (omega (arith, ints));
}

pub are_clips-new : (ceilings floors : List ℤ) → ceilings ≡ replicate FRAME_WIDTH (pos 0) → floors ≡ replicate FRAME_WIDTH (pos 0) → AreClips 0 ceilings floors
are_clips-new ceilings floors e f = rw (e, f) are_clips-blank

pub are_clips-filled : (height : ℕ) (ceilings floors : List ℤ) → height ≤ FRAME_HEIGHT → ceilings ≡ replicate FRAME_WIDTH minus_one → floors ≡ replicate FRAME_WIDTH (pos height) → AreClips height ceilings floors
are_clips-filled height ceilings floors s e f = rw (e, f) (are_clips-open height s)

-- a check loses no plane
pub longer_check : (planes : List Plane) (i first last : ℕ) → length planes ≤ length (check planes i first last).planes
longer_check planes i first last = length-check planes i first last

-- and makes one at most
added_one : (planes : List Plane) (key : PlaneKey) → length (add planes key).planes ≡ length planes + 1
unfolding add
added_one planes key = length-append planes (empty_plane key ∷ [])

at_most_check : (t : Bool) (planes : List Plane) (i : ℕ) (key : PlaneKey) → length (cond t (record { number = i; planes = planes }) (add planes key)).planes ≤ length planes + 1
at_most_check true planes i key = omega arith
at_most_check false planes i key = omega (arith, added_one planes key)

at_most_some : (planes : List Plane) (i : ℕ) (o : Option Plane) (first last : ℕ) → length (check_some planes i o first last).planes ≤ length planes + 1
unfolding check_some check_plane
at_most_some planes i None first last = omega arith
at_most_some planes i (Some p) first last = at_most_check (is_free p.runs first last) planes i p.key

one_check : (planes : List Plane) (i first last : ℕ) → length (check planes i first last).planes ≤ length planes + 1
unfolding check
one_check planes i first last = at_most_some planes i (slice_get planes i) first last

at_most_one : (b : Bool) → cond b 1 0 ≤ 1
at_most_one true = omega arith
at_most_one false = omega arith

-- the count of the planes where one passes the room
pub count_checked : (planes : List Plane) (i first last room count : ℕ) → length planes ≤ room → room < length (check planes i first last).planes → count ≡ room + 1 →
    count ≡ length (check planes i first last).planes
count_checked planes i first last room count l h e = omega (arith, one_check planes i first last)

pub count_found : (planes : List Plane) (key : PlaneKey) (room count : ℕ) → length planes ≤ room → room < length (find planes key).planes → count ≡ room + 1 →
    count ≡ length (find planes key).planes
count_found planes key room count l h e = omega (arith, length-find planes key, at_most_one (is_none (number_of planes key)))

abbrev shown : List ℤ → ℕ → OpeningsView
shown xs room = record { saved = xs; room = room }

-- a list that is written among the openings that are used
take-with_list : (xs list : List ℤ) (used place : ℕ) → used ≤ length xs → place + length list ≤ used →
    take used (with_list xs place list) ≡ with_list (take used xs) place list
unfolding with_list
take-with_list xs list used place long room =
    let front : List ℤ = take used xs in
    let past_used : List ℤ = drop used xs in
    let values_before : List ℤ = take place front in
    let values_behind : List ℤ = drop (place + length list) front in
    let whole : length front ≡ used = length-take-le used xs long in
    let split_is : xs ≡ front ++ past_used = sym (take-append-drop used xs) in
    let joined : (values_before ++ (list ++ values_behind)) ++ past_used ≡ values_before ++ (list ++ (values_behind ++ past_used)) =
    append_assoc values_before (list ++ values_behind) past_used ∙ ap (λ (ys : List ℤ). values_before ++ ys) (append_assoc list values_behind past_used) in
    ap (λ (ys : List ℤ). take used (take place ys ++ (list ++ drop (place + length list) ys))) split_is
    ∙ ap (λ (ys : List ℤ). take used (ys ++ (list ++ drop (place + length list) (front ++ past_used)))) (take-append-le place front past_used (omega arith))
    ∙ ap (λ (ys : List ℤ). take used (values_before ++ (list ++ ys))) (drop-append-le (place + length list) front past_used (omega arith))
    ∙ ap (take used) (sym joined)
    ∙ take_at (values_before ++ (list ++ values_behind)) past_used used (omega (
      arith,
      length-append values_before (list ++ values_behind),
      length-append list values_behind,
      length-take-le place front (omega arith),
      length-drop (place + length list) front,
    ))

-- the openings after a list is saved
pub saved_view : (list new values : List ℤ) (used place : ℕ) (old : OpeningsView) (p : Option ℕ) →
    used ≤ length list → old ≡ shown (take used list) (length list) →
    p ≡ Some place → place + length values ≤ length old.saved → new ≡ with_list list place values → take used new ≡ with_saved old.saved p values
unfolding with_saved
saved_view list new values used place old p long view is room written =
    let saved_fits : length old.saved ≤ used = omega (arith, ap (λ (o : OpeningsView). length o.saved) view, length-take used list) in
    ap (take used) written ∙ take-with_list list values used place long (omega arith)
    ∙ ap (λ (o : OpeningsView). with_list o.saved place values) (sym view) ∙ ap (λ (o : Option ℕ). with_saved old.saved o values) (sym is)

-- a list from first to last, by its entries
pub listed_from-all : (f : ℕ → ℤ) (xs : List ℤ) (first last : ℕ) → length xs ≡ last + 1 - first →
    ((k : ℕ) → first + k ≤ last → get_or xs k (pos 0) ≡ f (first + k)) → xs ≡ listed_from f first last
listed_from-all f xs first last long each =
    let entry : ℕ → ℤ = λ k. f (first + k) in
    listed-all entry xs (last + 1 - first) (pos 0) long (λ k l. each k (omega arith))
    ∙ sym (listed-all entry (listed_from f first last) (last + 1 - first) (pos 0) (length-listed_from f first last)
    (λ k l. get_or-listed_from f first last k (pos 0) (omega arith)))

-- the clips of some columns
clips_between : (clips : List ℤ) (first last : ℕ) → last < length clips →
    between first (last + 1) clips ≡ listed_from (λ x. slice_index_or clips x (pos 0)) first last
clips_between clips first last within =
    listed_from-all (λ x. slice_index_or clips x (pos 0)) (between first (last + 1) clips) first last (length-between clips first (last + 1) (omega arith))
    (λ k l. get_or-between clips first (last + 1) k (pos 0) (omega arith))

pub ceilings-lent : (w : WindowsView) (ceilings floors : List ℤ) (height first last : ℕ) → windows_view ceilings floors height ≡ w → last < length ceilings →
    between first (last + 1) ceilings ≡ ceilings_in w first last
unfolding window_at
ceilings-lent w ceilings floors height first last view within =
    clips_between ceilings first last within ∙ ap (λ (w : WindowsView). ceilings_in w first last) view

pub floors-lent : (w : WindowsView) (ceilings floors : List ℤ) (height first last : ℕ) → windows_view ceilings floors height ≡ w → last < length floors →
    between first (last + 1) floors ≡ floors_in w first last
unfolding window_at
floors-lent w ceilings floors height first last view within =
    clips_between floors first last within ∙ ap (λ (w : WindowsView). floors_in w first last) view

-- for `search`, of each part
pub ruleset narrowed = (are_clips-set)

pub ruleset opened = (are_clips-open, are_clips-new, get_or-replicate)

pub ruleset counts = (longer_check, count_checked, count_found)
