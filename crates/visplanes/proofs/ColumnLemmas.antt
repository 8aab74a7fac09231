-- Laws of how a plane keeps its runs: what a column has, and what is left where one is marked.
use Rattle.picture_rules.proofs.Common.{[], and_parts, ap, arith, cases_eq, cases_lt, cond, drop, eq-eqb, false, get_or, get_or-drop, get_or-replicate, get_or-set_other, get_or-set_same, get_or-take, get_or_past, inl, inr, is_none, leb-true, length, length-drop, length-replicate, length-set, length-take, List, list_all, list_all_at, max, min, nat_le, ne_eqb, None, Option, refl, replicate, slice_index, slice_range, Some, suc, sym, true, ℕ, ◌&&◌, ◌+◌, ◌-◌, ◌<◌, ◌==◌, ◌∙◌, ◌∷◌, ◌≡◌, ◌≢◌, ◌≤◌, set}
use Rattle.visplanes.specs.Rules.{FRAME_HEIGHT, FRAME_WIDTH, Plane, PlaneKey, column, empty_plane, holds, holds_row, is_free, listed, with_run}
use Rattle.picture_rules.proofs.Laws.{get_or-listed, length-listed, listed-all}
use Rattle.visplanes.specs.declared.columns.TheConstants.{NO_RUN}
use Rattle.visplanes.specs.Columns.{run_at, runs_of, plane_of, IsKept, HasRun}

-- a column has no run where its top says so, else the run of its bytes
pub run_at-none : (tops bottoms : List ℕ) (x : ℕ) → slice_index tops x ≡ NO_RUN → run_at tops bottoms x ≡ None
unfolding run_at
run_at-none tops bottoms x e = rw (eq-eqb (slice_index tops x) NO_RUN e) refl

pub run_at-some : (tops bottoms : List ℕ) (x : ℕ) → slice_index tops x ≢ NO_RUN → run_at tops bottoms x ≡ Some (slice_index tops x, slice_index bottoms x)
unfolding run_at
run_at-some tops bottoms x n = rw (ne_eqb (slice_index tops x) NO_RUN n) refl

run_at-same : (tops bottoms ts bs : List ℕ) (x : ℕ) → slice_index tops x ≡ slice_index ts x → slice_index bottoms x ≡ slice_index bs x → run_at tops bottoms x ≡ run_at ts bs x
unfolding run_at
run_at-same tops bottoms ts bs x e f =
    ap (λ (t : ℕ). cond (t == NO_RUN) None (Some (t, slice_index bottoms x))) e
    ∙ ap (λ (b : ℕ). cond (slice_index ts x == NO_RUN) None (Some (slice_index ts x, b))) f

pub length-runs_of : (tops bottoms : List ℕ) → length (runs_of tops bottoms) ≡ FRAME_WIDTH
unfolding runs_of
length-runs_of tops bottoms = length-listed (run_at tops bottoms) FRAME_WIDTH

-- the run of a column of the plane, none right of a frame
pub column-kept : (key : PlaneKey) (tops bottoms : List ℕ) (x : ℕ) → x < FRAME_WIDTH → column (plane_of key tops bottoms) x ≡ run_at tops bottoms x
unfolding column runs_of
column-kept key tops bottoms x l = get_or-listed (run_at tops bottoms) FRAME_WIDTH x None l

pub column-past : (key : PlaneKey) (tops bottoms : List ℕ) (x : ℕ) → FRAME_WIDTH ≤ x → column (plane_of key tops bottoms) x ≡ None
unfolding column
column-past key tops bottoms x l = get_or_past (runs_of tops bottoms) x None (omega (arith, length-runs_of tops bottoms))

pub holds-none : (p : Plane) (y x : ℕ) → column p x ≡ None → holds p y x ≡ false
unfolding holds holds_row
holds-none p y x e = rw e refl

-- outside the marked columns there is no run
pub kept-before : (key : PlaneKey) (tops bottoms : List ℕ) (first last x : ℕ) → IsKept tops bottoms first last → x < first → column (plane_of key tops bottoms) x ≡ None
kept-before key tops bottoms first last x k before =
    elim (cases_lt x FRAME_WIDTH) [
      | inl l ↦ column-kept key tops bottoms x l ∙ run_at-none tops bottoms x (k.before x l before)
      | inr l ↦ column-past key tops bottoms x l
    ]

pub kept-behind : (key : PlaneKey) (tops bottoms : List ℕ) (first last x : ℕ) → IsKept tops bottoms first last → last < x → column (plane_of key tops bottoms) x ≡ None
kept-behind key tops bottoms first last x k behind =
    elim (cases_lt x FRAME_WIDTH) [
      | inl l ↦ column-kept key tops bottoms x l ∙ run_at-none tops bottoms x (k.after x l behind)
      | inr l ↦ column-past key tops bottoms x l
    ]

-- so a column that holds a row is one of them
pub kept-marked : (key : PlaneKey) (tops bottoms : List ℕ) (first last x y : ℕ) → IsKept tops bottoms first last → holds (plane_of key tops bottoms) y x ≡ true → (first ≤ x) × (x ≤ last)
kept-marked key tops bottoms first last x y k h =
    elim (cases_lt x first) [
      | inl a ↦ (let no_row = holds-none (plane_of key tops bottoms) y x (kept-before key tops bottoms first last x k a) in absurd (cc))
      | inr a ↦ elim (cases_lt last x) [
        | inl b ↦ (let no_row = holds-none (plane_of key tops bottoms) y x (kept-behind key tops bottoms first last x k b) in absurd (cc))
        | inr b ↦ (a, b)
      ]
    ]

-- and it is in a frame, as the row is
row_of_run : (p : Plane) (x y : ℕ) (r : ℕ × ℕ) → column p x ≡ Some r → holds p y x ≡ true → y ≤ r.1
unfolding holds holds_row
row_of_run p x y r e h =
    let in_run : (nat_le r.0 y && nat_le y r.1) ≡ true = ap (λ (o : Option (ℕ × ℕ)). holds_row o y) (sym e) ∙ h in
    leb-true y r.1 (and_parts (nat_le r.0 y) (nat_le y r.1) in_run).1

frame_row : (key : PlaneKey) (tops bottoms : List ℕ) (first last x y : ℕ) → IsKept tops bottoms first last → holds (plane_of key tops bottoms) y x ≡ true → x < FRAME_WIDTH → y < FRAME_HEIGHT
frame_row key tops bottoms first last x y k h l =
    elim (cases_eq (slice_index tops x) NO_RUN) [
      | inl e ↦ (let no_row = holds-none (plane_of key tops bottoms) y x (column-kept key tops bottoms x l ∙ run_at-none tops bottoms x e) in absurd (cc))
      | inr n ↦
          (let row_in_run = row_of_run (plane_of key tops bottoms) x y (slice_index tops x, slice_index bottoms x) (column-kept key tops bottoms x l ∙ run_at-some tops bottoms x n) h in
          omega (arith, row_in_run, k.rows x l))
    ]

pub kept-frame : (key : PlaneKey) (tops bottoms : List ℕ) (first last x y : ℕ) → IsKept tops bottoms first last → holds (plane_of key tops bottoms) y x ≡ true → (x < FRAME_WIDTH) × (y < FRAME_HEIGHT)
kept-frame key tops bottoms first last x y k h =
    elim (cases_lt x FRAME_WIDTH) [
      | inl l ↦ (l, frame_row key tops bottoms first last x y k h l)
      | inr l ↦ (let no_row = holds-none (plane_of key tops bottoms) y x (column-past key tops bottoms x l) in absurd (cc))
    ]

-- no column is marked
pub kept-empty : (tops bottoms : List ℕ) → length tops ≡ FRAME_WIDTH → length bottoms ≡ FRAME_WIDTH →
    ((x : ℕ) → x < FRAME_WIDTH → slice_index tops x ≡ NO_RUN) → ((x : ℕ) → x < FRAME_WIDTH → slice_index bottoms x < FRAME_HEIGHT) → IsKept tops bottoms FRAME_WIDTH 0
kept-empty tops bottoms l m t b = record {
  top_bytes = l;
  bottom_bytes = m;
  before = λ x h a. t x h;
  after = λ x h a. t x h;
  start = omega arith;
  within = omega arith;
  least = λ l. absurd (omega (arith, l));
  greatest = λ l. absurd (omega (arith, l));
  none = λ e. refl;
  ordered = λ x h. inl (t x h);
  rows = b;
}

-- where the first marked column is the frame's width, no column has a run; else that column has one
pub kept-blank : (key : PlaneKey) (tops bottoms : List ℕ) (first last x : ℕ) → IsKept tops bottoms first last → first ≡ FRAME_WIDTH → column (plane_of key tops bottoms) x ≡ None
kept-blank key tops bottoms first last x k e =
    elim (cases_lt x FRAME_WIDTH) [
      | inl l ↦ column-kept key tops bottoms x l ∙ run_at-none tops bottoms x (k.before x l (omega (arith, l, e)))
      | inr l ↦ column-past key tops bottoms x l
    ]

pub kept-run : (key : PlaneKey) (tops bottoms : List ℕ) (first last : ℕ) → IsKept tops bottoms first last → first < FRAME_WIDTH →
    column (plane_of key tops bottoms) first ≡ Some (slice_index tops first, slice_index bottoms first)
kept-run key tops bottoms first last k l = column-kept key tops bottoms first l ∙ run_at-some tops bottoms first (k.least l)

-- and so has the last of them
pub kept-last : (key : PlaneKey) (tops bottoms : List ℕ) (first last : ℕ) → IsKept tops bottoms first last → first < FRAME_WIDTH →
    column (plane_of key tops bottoms) last ≡ Some (slice_index tops last, slice_index bottoms last)
kept-last key tops bottoms first last k l = column-kept key tops bottoms last k.within ∙ run_at-some tops bottoms last (k.greatest l)

pub plane_of-empty : (key : PlaneKey) (tops bottoms : List ℕ) → ((x : ℕ) → x < FRAME_WIDTH → slice_index tops x ≡ NO_RUN) → plane_of key tops bottoms ≡ empty_plane key
unfolding empty_plane runs_of
plane_of-empty key tops bottoms t =
    ap (λ (runs : List (Option (ℕ × ℕ))). record { key = key; runs = runs })
    (sym (listed-all (run_at tops bottoms) (replicate FRAME_WIDTH None) FRAME_WIDTH None (length-replicate {A = Option (ℕ × ℕ)} FRAME_WIDTH None)
    (λ x l. get_or-replicate FRAME_WIDTH x None None l ∙ sym (run_at-none tops bottoms x (t x l)))))

-- one column is marked
set_here : (xs : List ℕ) (x v k : ℕ) → x < length xs → k ≡ x → slice_index (set xs x v) k ≡ v
set_here xs x v k l e = ap (slice_index (set xs x v)) e ∙ get_or-set_same xs x v 0 l

set_there : (xs : List ℕ) (x v k : ℕ) → k ≢ x → slice_index (set xs x v) k ≡ slice_index xs k
set_there xs x v k n = get_or-set_other xs x k v 0 n

-- a column is marked where it was before, or is the one that is marked now
run_there : (tops : List ℕ) (x top k : ℕ) → x < length tops → top ≢ NO_RUN → (k ≢ x → slice_index tops k ≢ NO_RUN) → slice_index (set tops x top) k ≢ NO_RUN
run_there tops x top k l n h =
    elim (cases_eq k x) [
      | inl e ↦ (λ q. n (sym (set_here tops x top k l e) ∙ q))
      | inr d ↦ (λ q. h d (sym (set_there tops x top k d) ∙ q))
    ]

pub kept-more : (tops bottoms : List ℕ) (first last x top bottom : ℕ) → IsKept tops bottoms first last → x < FRAME_WIDTH → top ≤ bottom →
    bottom < FRAME_HEIGHT → IsKept (set tops x top) (set bottoms x bottom) (min first x) (max last x)
kept-more tops bottoms first last x top bottom k l m h =
    let is_run : top ≢ NO_RUN = λ e. absurd (omega (arith, e)) in
    let in_tops : x < length tops = omega (arith, k.top_bytes) in
    let in_bottoms : x < length bottoms = omega (arith, k.bottom_bytes) in
    record {
      top_bytes = length-set tops x top ∙ k.top_bytes;
      bottom_bytes = length-set bottoms x bottom ∙ k.bottom_bytes;
      before = λ i b a. set_there tops x top i (λ e. absurd (omega (arith, e, a))) ∙ k.before i b (omega (arith, a));
      after = λ i b a. set_there tops x top i (λ e. absurd (omega (arith, e, a))) ∙ k.after i b (omega (arith, a));
      start = omega (arith, k.start);
      within = omega (arith, k.within);
      least = λ b. run_there tops x top (min first x) in_tops is_run
          (λ d. let same_first : min first x ≡ first = omega (arith, d) in λ q. k.least (omega (arith, d)) (ap (slice_index tops) (sym same_first) ∙ q));
      greatest = λ b. run_there tops x top (max last x) in_tops is_run
          (λ d. let same_last : max last x ≡ last = omega (arith, d) in
          let first_in_frame : first < FRAME_WIDTH = elim (cases_lt first FRAME_WIDTH) [
            | inl c ↦ c
            | inr c ↦ absurd (let was_empty : first ≡ FRAME_WIDTH = omega (arith, c, k.start) in omega (arith, d, k.none was_empty))
          ] in λ q. k.greatest first_in_frame (ap (slice_index tops) (sym same_last) ∙ q));
      none = λ e. absurd (omega (arith, e));
      ordered = λ i b. elim (cases_eq i x) [
        | inl e ↦ inr (omega (arith, set_here tops x top i in_tops e, set_here bottoms x bottom i in_bottoms e))
        | inr d ↦ elim (k.ordered i b) [
          | inl e ↦ inl (set_there tops x top i d ∙ e)
          | inr o ↦ inr (omega (arith, set_there tops x top i d, set_there bottoms x bottom i d, o))
        ]
      ];
      rows = λ i b. elim (cases_eq i x) [
        | inl e ↦ omega (arith, set_here bottoms x bottom i in_bottoms e)
        | inr d ↦ omega (arith, set_there bottoms x bottom i d, k.rows i b)
      ];
    }

marked_run : (tops bottoms : List ℕ) (x top bottom k : ℕ) → x < length tops → x < length bottoms → x < FRAME_WIDTH → top ≢ NO_RUN → k < FRAME_WIDTH →
    get_or (set (runs_of tops bottoms) x (Some (top, bottom))) k None ≡ run_at (set tops x top) (set bottoms x bottom) k
unfolding runs_of
marked_run tops bottoms x top bottom k l m h n j =
    elim (cases_eq k x) [
      | inl e ↦
          let top_is : slice_index (set tops x top) x ≡ top = get_or-set_same tops x top 0 l in
          let bottom_is : slice_index (set bottoms x bottom) x ≡ bottom = get_or-set_same bottoms x bottom 0 m in
          let is_there : x < length (listed (run_at tops bottoms) FRAME_WIDTH) = omega (arith, length-listed (run_at tops bottoms) FRAME_WIDTH) in
          ap (λ (i : ℕ). get_or (set (listed (run_at tops bottoms) FRAME_WIDTH) x (Some (top, bottom))) i None) e
          ∙ get_or-set_same (listed (run_at tops bottoms) FRAME_WIDTH) x (Some (top, bottom)) None is_there
          ∙ sym (run_at-some (set tops x top) (set bottoms x bottom) x (λ q. n (sym top_is ∙ q)) ∙ ap (λ (v : ℕ). Some (v, slice_index (set bottoms x bottom) x)) top_is ∙ ap (λ (v : ℕ). Some (top, v)) bottom_is)
          ∙ ap (run_at (set tops x top) (set bottoms x bottom)) (sym e)
      | inr e ↦
          get_or-set_other (listed (run_at tops bottoms) FRAME_WIDTH) x k (Some (top, bottom)) None e
          ∙ get_or-listed (run_at tops bottoms) FRAME_WIDTH k None j
          ∙ run_at-same tops bottoms (set tops x top) (set bottoms x bottom) k (sym (get_or-set_other tops x k top 0 e)) (sym (get_or-set_other bottoms x k bottom 0 e))
    ]

runs_all : (tops bottoms : List ℕ) (runs : List (Option (ℕ × ℕ))) → length runs ≡ FRAME_WIDTH → ((k : ℕ) → k < FRAME_WIDTH → get_or runs k None ≡ run_at tops bottoms k) → runs ≡ runs_of tops bottoms
unfolding runs_of
runs_all tops bottoms runs l h = listed-all (run_at tops bottoms) runs FRAME_WIDTH None l h

marked_runs : (tops bottoms : List ℕ) (x top bottom : ℕ) → length tops ≡ FRAME_WIDTH → length bottoms ≡ FRAME_WIDTH → x < FRAME_WIDTH → top ≢ NO_RUN →
    set (runs_of tops bottoms) x (Some (top, bottom)) ≡ runs_of (set tops x top) (set bottoms x bottom)
marked_runs tops bottoms x top bottom l m h n =
    runs_all (set tops x top) (set bottoms x bottom) (set (runs_of tops bottoms) x (Some (top, bottom)))
    (length-set (runs_of tops bottoms) x (Some (top, bottom)) ∙ length-runs_of tops bottoms)
    (λ k j. marked_run tops bottoms x top bottom k (omega arith) (omega arith) h n j)

pub plane_of-marked : (key : PlaneKey) (tops bottoms : List ℕ) (x top bottom : ℕ) → length tops ≡ FRAME_WIDTH → length bottoms ≡ FRAME_WIDTH → x < FRAME_WIDTH →
    top ≢ NO_RUN → plane_of key (set tops x top) (set bottoms x bottom) ≡ with_run (plane_of key tops bottoms) x (top, bottom)
unfolding with_run
plane_of-marked key tops bottoms x top bottom l m h n =
    ap (λ (runs : List (Option (ℕ × ℕ))). record { key = key; runs = runs }) (sym (marked_runs tops bottoms x top bottom l m h n))

-- the columns first to last of a plane are free where none of them among the marked ones has a run
free_item : (r : Option (ℕ × ℕ)) → r ≡ None → is_none r ≡ true
free_item r e = ap (λ (o : Option (ℕ × ℕ)). is_none o) e

all_none : (rs : List (Option (ℕ × ℕ))) → ((k : ℕ) → k < length rs → get_or rs k None ≡ None) → list_all (λ r. is_none r) rs ≡ true
all_none [] h = refl
all_none (r ∷ rs) h = rw (free_item r (h 0 (omega arith))) (all_none rs (λ k l. h (suc k) (omega arith)))

part_at : (rs : List (Option (ℕ × ℕ))) (first last k : ℕ) → k < last + 1 - first → get_or (slice_range rs first (last + 1)) k None ≡ get_or rs (first + k) None
part_at rs first last k l = get_or-take (last + 1 - first) (drop first rs) k None l ∙ get_or-drop first rs k None

length_part : (rs : List (Option (ℕ × ℕ))) (first last : ℕ) → last < length rs → length (slice_range rs first (last + 1)) ≡ last + 1 - first
length_part rs first last l = length-take (last + 1 - first) (drop first rs) ∙ (let dropped = length-drop first rs in omega arith)

pub is_free-true : (rs : List (Option (ℕ × ℕ))) (first last : ℕ) → last < length rs → ((x : ℕ) → first ≤ x → x ≤ last → get_or rs x None ≡ None) → is_free rs first last ≡ true
unfolding is_free
is_free-true rs first last l h =
    all_none (slice_range rs first (last + 1))
    (λ k m. (let is_in_part : k < last + 1 - first = omega (arith, length_part rs first last l) in part_at rs first last k is_in_part ∙ h (first + k) (omega arith) (omega arith)))

pub is_free-false : (rs : List (Option (ℕ × ℕ))) (first last x : ℕ) (r : ℕ × ℕ) → last < length rs → first ≤ x → x ≤ last → get_or rs x None ≡ Some r → is_free rs first last ≡ false
unfolding is_free
is_free-false rs first last x r l m n e =
    let is_in_part : x - first < last + 1 - first = omega arith in
    let same_column : first + (x - first) ≡ x = omega arith in
    let has_run : get_or (slice_range rs first (last + 1)) (x - first) None ≡ Some r =
    part_at rs first last (x - first) is_in_part ∙ ap (λ (j : ℕ). get_or rs j None) same_column ∙ e in
    list_all_at (λ r. is_none r) (slice_range rs first (last + 1)) (x - first) None (omega (arith, length_part rs first last l)) (ap (λ o. is_none o) has_run)

-- the plane itself: only the columns among the marked ones count
free_column : (tops bottoms : List ℕ) (x : ℕ) → x < FRAME_WIDTH → slice_index tops x ≡ NO_RUN → get_or (runs_of tops bottoms) x None ≡ None
unfolding runs_of
free_column tops bottoms x l e = get_or-listed (run_at tops bottoms) FRAME_WIDTH x None l ∙ run_at-none tops bottoms x e

free_within : (tops bottoms : List ℕ) (least greatest first last x : ℕ) → IsKept tops bottoms least greatest → last < FRAME_WIDTH →
    ((x : ℕ) → max first least ≤ x → x ≤ min last greatest → slice_index tops x ≡ NO_RUN) → first ≤ x → x ≤ last → get_or (runs_of tops bottoms) x None ≡ None
free_within tops bottoms least greatest first last x k l h a b =
    free_column tops bottoms x (omega arith)
    (elim (cases_lt x least) [
      | inl m ↦ k.before x (omega arith) m
      | inr m ↦ elim (cases_lt greatest x) [ inl n ↦ k.after x (omega arith) n | inr n ↦ h x (omega arith) (omega arith) ]
    ])

pub kept-free : (tops bottoms : List ℕ) (least greatest first last : ℕ) → IsKept tops bottoms least greatest → last < FRAME_WIDTH →
    ((x : ℕ) → max first least ≤ x → x ≤ min last greatest → slice_index tops x ≡ NO_RUN) → is_free (runs_of tops bottoms) first last ≡ true
kept-free tops bottoms least greatest first last k l h =
    is_free-true (runs_of tops bottoms) first last (omega (arith, length-runs_of tops bottoms))
    (λ x a b. free_within tops bottoms least greatest first last x k l h a b)

pub kept-taken : (tops bottoms : List ℕ) (least greatest first last : ℕ) → last < FRAME_WIDTH →
    HasRun tops (max first least) (min last greatest) → is_free (runs_of tops bottoms) first last ≡ false
unfolding runs_of
kept-taken tops bottoms least greatest first last l r =
    let from_first : first ≤ r.x = omega (arith, r.from) in
    let to_last : r.x ≤ last = omega (arith, r.to) in
    is_free-false (listed (run_at tops bottoms) FRAME_WIDTH) first last r.x (slice_index tops r.x, slice_index bottoms r.x)
    (omega (arith, length-listed (run_at tops bottoms) FRAME_WIDTH)) from_first to_last
    (get_or-listed (run_at tops bottoms) FRAME_WIDTH r.x None (omega arith) ∙ run_at-some tops bottoms r.x r.run)
