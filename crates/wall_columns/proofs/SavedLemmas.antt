-- Laws of what a fragment saves: how its texture columns are written one by one, and that its three
-- lists stand one after the other behind the openings that there were.
use Rattle.picture_rules.proofs.Common.{[], ap, append-nil, append_assoc, arith, Bool, drop, drop-drop, drop_all, false, get_or, length, length-append, length-drop, List, pos, refl, sym, take, take-append-drop, true, ℕ, ℤ, ◌++◌, ◌+◌, ◌-◌, ◌∙◌, ◌≡◌, ◌≤◌, set, drop_at, take_at, paste_all, paste_more, paste_none}
use lib.Seq.{paste}
use borrow.Rule.Slice.PartMut.{put_mid}
use Rattle.wall_columns.specs.Rules.{FragmentNumbers, listed_from, place_if, saved_if, saves_bottom, saves_top}
use Rattle.picture_rules.proofs.Laws.{get_or-listed_from, length-listed_from}
use Rattle.wall_columns.specs.Places.{room_of, places_of}
use Rattle.wall_columns.specs.Saved.{with_list, with_saved, lists_saved}

-- a list that is copied over others
pub put_mid-list : (xs ys list : List ℤ) (place k : ℕ) → ys ≡ list → k ≡ length list → put_mid place k xs ys ≡ with_list xs place list
unfolding with_list
put_mid-list xs ys list place k same long =
    ap (λ (zs : List ℤ). put_mid place k xs zs) same ∙ ap (λ (m : ℕ). put_mid place m xs list) long
    ∙ ap (λ (zs : List ℤ). take place xs ++ (list ++ zs)) (drop-drop (length list) place xs)

-- no column is written yet
pub columns-none : (xs list : List ℤ) (place first : ℕ) → xs ≡ paste xs place list (first - first)
columns-none xs list place first =
    let count_is_zero : 0 ≡ first - first = omega arith in paste_none xs place list ∙ ap (paste xs place list) count_is_zero

-- one more
pub columns-more : (column : ℕ → ℤ) (xs now : List ℤ) (place first last x : ℕ) (value written : ℤ) →
    first ≤ x → x ≤ last → place + (last + 1 - first) ≤ length xs →
    written ≡ value → value ≡ column x → now ≡ paste xs place (listed_from column first last) (x - first) →
    set now (place + (x - first)) written ≡ paste xs place (listed_from column first last) (x + 1 - first)
columns-more column xs now place first last x value written from to room same is before =
    let list : List ℤ = listed_from column first last in
    let column_at : first + (x - first) ≡ x = omega arith in
    let written_is : written ≡ get_or list (x - first) (pos 0) =
    same ∙ is ∙ ap column (sym column_at) ∙ sym (get_or-listed_from column first last (x - first) (pos 0) (omega arith)) in
    let offset_next : x - first + 1 ≡ x + 1 - first = omega arith in
    ap (λ (zs : List ℤ). set zs (place + (x - first)) written) before
    ∙ ap (λ (z : ℤ). set (paste xs place list (x - first)) (place + (x - first)) z) written_is
    ∙ paste_more xs place list (x - first) (pos 0) (omega arith) (omega (arith, length-listed_from column first last))
    ∙ ap (paste xs place list) offset_next

-- and all of them
pub columns-all : (column : ℕ → ℤ) (xs : List ℤ) (place first last x : ℕ) → x ≡ last + 1 →
    paste xs place (listed_from column first last) (x - first) ≡ with_list xs place (listed_from column first last)
unfolding with_list
columns-all column xs place first last x end =
    let list : List ℤ = listed_from column first last in
    let count : x - first ≡ length list = omega (arith, length-listed_from column first last) in
    paste_all xs place list (x - first) count ∙ ap (λ (m : ℕ). take place xs ++ (list ++ drop (place + m) xs)) count

length_saved : (saves : Bool) (list : List ℤ) (columns : ℕ) → length list ≡ columns → length (saved_if saves list) ≡ room_of saves columns
unfolding saved_if
length_saved true list columns long = long
length_saved false list columns long = refl

-- a list that is saved behind others, before those that there are
saved_behind : (saves : Bool) (before rest list : List ℤ) (place : ℕ) → length before ≡ place →
    with_saved (before ++ rest) (place_if saves place) list ≡ (before ++ saved_if saves list) ++ drop (room_of saves (length list)) rest
unfolding with_saved with_list place_if saved_if
saved_behind true before rest list place end =
    ap (λ (xs : List ℤ). xs ++ (list ++ drop (place + length list) (before ++ rest))) (take_at before rest place end)
    ∙ ap (λ (xs : List ℤ). before ++ (list ++ xs))
    (sym (drop-drop (length list) place (before ++ rest)) ∙ ap (drop (length list)) (drop_at before rest place end))
    ∙ sym (append_assoc before list (drop (length list) rest))
saved_behind false before rest list place end = ap (λ (xs : List ℤ). xs ++ rest) (sym (append-nil before))

-- what a fragment saves, where the places were taken behind the openings that there were
pub lists_saved-behind : (n : FragmentNumbers) (count : ℕ) (before xs columns ceilings floors : List ℤ) →
    length columns ≡ count → length ceilings ≡ count → length floors ≡ count →
    take (length before) xs ≡ before → length xs ≡ (places_of n (length before) count).end →
    lists_saved (places_of n (length before) count) columns ceilings floors xs
    ≡ before ++ (saved_if n.masked columns ++ (saved_if (saves_top n) ceilings ++ saved_if (saves_bottom n) floors))
unfolding lists_saved places_of
lists_saved-behind n count before xs columns ceilings floors middle_count top_count bottom_count front long =
    let top_place : ℕ = length before + room_of n.masked count in
    let bottom_place : ℕ = length before + room_of n.masked count + room_of (saves_top n) count in
    let middles : List ℤ = saved_if n.masked columns in
    let tops : List ℤ = saved_if (saves_top n) ceilings in
    let bottoms : List ℤ = saved_if (saves_bottom n) floors in
    let values_after : List ℤ = drop (length before) xs in
    let behind_middles : List ℤ = drop (room_of n.masked (length columns)) values_after in
    let behind_tops : List ℤ = drop (room_of (saves_top n) (length ceilings)) behind_middles in
    let total : length xs ≡ length before + room_of n.masked count + room_of (saves_top n) count + room_of (saves_bottom n) count = long in
    let middle_room = ap (room_of n.masked) middle_count in
    let top_room = ap (room_of (saves_top n)) top_count in
    let bottom_room = ap (room_of (saves_bottom n)) bottom_count in
    let split_is : xs ≡ before ++ values_after = sym (take-append-drop (length before) xs) ∙ ap (λ (ys : List ℤ). ys ++ values_after) front in
    let to_middles : length (before ++ middles) ≡ top_place = omega (arith, length-append before middles, length_saved n.masked columns count middle_count) in
    let to_tops : length ((before ++ middles) ++ tops) ≡ bottom_place =
    omega (arith, to_middles, length-append (before ++ middles) tops, length_saved (saves_top n) ceilings count top_count) in
    let none_behind_tops : drop (room_of (saves_bottom n) (length floors)) behind_tops ≡ [] =
    drop_all (room_of (saves_bottom n) (length floors)) behind_tops (omega (
      arith,
      length-drop (length before) xs,
      length-drop (room_of n.masked (length columns)) values_after,
      length-drop (room_of (saves_top n) (length ceilings)) behind_middles,
    )) in
    ap (λ (ys : List ℤ). with_saved (with_saved (with_saved ys (place_if n.masked (length before)) columns) (place_if (saves_top n) top_place) ceilings)
    (place_if (saves_bottom n) bottom_place) floors) split_is
    ∙ ap (λ (ys : List ℤ). with_saved (with_saved ys (place_if (saves_top n) top_place) ceilings) (place_if (saves_bottom n) bottom_place) floors)
    (saved_behind n.masked before values_after columns (length before) refl)
    ∙ ap (λ (ys : List ℤ). with_saved ys (place_if (saves_bottom n) bottom_place) floors)
    (saved_behind (saves_top n) (before ++ middles) behind_middles ceilings top_place to_middles)
    ∙ saved_behind (saves_bottom n) ((before ++ middles) ++ tops) behind_tops floors bottom_place to_tops
    ∙ ap (λ (ys : List ℤ). (((before ++ middles) ++ tops) ++ bottoms) ++ ys) none_behind_tops ∙ append-nil (((before ++ middles) ++ tops) ++ bottoms)
    ∙ append_assoc (before ++ middles) tops bottoms ∙ append_assoc before middles (tops ++ bottoms)
