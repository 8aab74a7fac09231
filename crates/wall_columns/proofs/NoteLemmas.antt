-- Laws of a fragment's note and of the places of its lists.
use Rattle.std.proofs.Common.{◌≡◌, ℕ, ◌+◌, ◌-◌, ◌≤◌, Bool, true, false, ℤ, pos, Option, refl, ap, sym, subst, ◌∙◌, arith}
use Rattle.wall_columns.specs.Rules.{Clip, FragmentNote, FragmentNumbers, ViewValue, WallFacts, clip_note, fragment_numbers, minus_one, note_at, place_if, room_if, saves_bottom, saves_top, silhouette_of, wall_of}
use Rattle.wall_columns.specs.declared.notes.SavePlaces.{SavePlaces}
use Rattle.wall_columns.specs.Places.{room_of, places_of, clip_noted}
use Rattle.wall_columns.specs.Columns.{IsPlaceIn, ArePlacesIn}

-- the note by a fragment's numbers
note_by : ViewValue → WallFacts → ℕ → ℕ → ℕ → FragmentNumbers → FragmentNote
note_by v facts first last place n = record {
  seg_no = facts.seg_no;
  first = first;
  last = last;
  scale1 = n.scale1;
  scale2 = n.scale2;
  step = n.step;
  silhouette = silhouette_of n;
  bottom_height = n.bottom.height;
  top_height = n.top.height;
  masked = place_if n.masked place;
  top_clip = clip_note n.top_is_constant (pos v.shape.height) (saves_top n) (place + room_of n.masked (last + 1 - first));
  bottom_clip = clip_note n.bottom_is_constant minus_one (saves_bottom n)
      (place + room_of n.masked (last + 1 - first) + room_of (saves_top n) (last + 1 - first));
}

note_at-by : (v : ViewValue) (facts : WallFacts) (first last place : ℕ) → note_by v facts first last place (fragment_numbers v facts first last) ≡ note_at v (wall_of v facts first last) place
unfolding note_by note_at wall_of room_if
note_at-by v facts first last place = refl

clip_noted-is : (is_constant : Bool) (row : ℤ) (saves : Bool) (place : ℕ) → clip_noted is_constant row (place_if saves place) ≡ clip_note is_constant row saves place
unfolding clip_note place_if
clip_noted-is true row saves place = refl
clip_noted-is false row true place = refl
clip_noted-is false row false place = refl

abbrev note_from : ℕ → ℕ → ℕ → ℤ → ℤ → ℤ → ℕ → ℤ → ℤ → Option ℕ → Clip → Clip → FragmentNote
note_from seg_no first last scale1 scale2 step silhouette bottom_height top_height masked top_clip bottom_clip = record {
  seg_no = seg_no;
  first = first;
  last = last;
  scale1 = scale1;
  scale2 = scale2;
  step = step;
  silhouette = silhouette;
  bottom_height = bottom_height;
  top_height = top_height;
  masked = masked;
  top_clip = top_clip;
  bottom_clip = bottom_clip;
}

by_numbers : (v : ViewValue) (facts : WallFacts) (first last place : ℕ) (n : FragmentNumbers) (places : SavePlaces) (seg_no silhouette height : ℕ) (scale1 scale2 step bottom_height top_height row low : ℤ) (top_clip bottom_clip : Clip) →
    places ≡ places_of n place (last + 1 - first) → seg_no ≡ facts.seg_no → height ≡ v.shape.height →
    scale1 ≡ n.scale1 → scale2 ≡ n.scale2 → step ≡ n.step → silhouette ≡ silhouette_of n → bottom_height ≡ n.bottom.height → top_height ≡ n.top.height →
    row ≡ pos height → low ≡ minus_one →
    top_clip ≡ clip_noted n.top_is_constant row places.top → bottom_clip ≡ clip_noted n.bottom_is_constant low places.bottom →
    note_from seg_no first last scale1 scale2 step silhouette bottom_height top_height places.masked top_clip bottom_clip ≡ note_by v facts first last place n
unfolding note_by places_of
by_numbers v facts first last place n places seg_no silhouette height scale1 scale2 step bottom_height top_height row low top_clip bottom_clip p0 p1 p2 p3 p4 p5 p6 p7 p8 p9 p10 p11 p12 =
    let top = clip_noted-is n.top_is_constant (pos v.shape.height) (saves_top n) (place + room_of n.masked (last + 1 - first)) in
    let bottom = clip_noted-is n.bottom_is_constant minus_one (saves_bottom n) (place + room_of n.masked (last + 1 - first) + room_of (saves_top n) (last + 1 - first)) in
    rw (p11, p12, p1, p3, p4, p5, p6, p7, p8, p9, p10, p2, p0, top, bottom) refl

-- a note is made of its parts
pub note_of-parts : (v : ViewValue) (facts : WallFacts) (first last place : ℕ) (n : FragmentNumbers) (places : SavePlaces) (seg_no silhouette height : ℕ) (scale1 scale2 step bottom_height top_height row low : ℤ) (top_clip bottom_clip : Clip) →
    n ≡ fragment_numbers v facts first last →
    places ≡ places_of n place (last + 1 - first) → seg_no ≡ facts.seg_no → height ≡ v.shape.height →
    scale1 ≡ n.scale1 → scale2 ≡ n.scale2 → step ≡ n.step → silhouette ≡ silhouette_of n → bottom_height ≡ n.bottom.height → top_height ≡ n.top.height →
    row ≡ pos height → low ≡ minus_one →
    top_clip ≡ clip_noted n.top_is_constant row places.top → bottom_clip ≡ clip_noted n.bottom_is_constant low places.bottom →
    note_from seg_no first last scale1 scale2 step silhouette bottom_height top_height places.masked top_clip bottom_clip ≡ note_at v (wall_of v facts first last) place
note_of-parts v facts first last place n places seg_no silhouette height scale1 scale2 step bottom_height top_height row low top_clip bottom_clip e p0 p1 p2 p3 p4 p5 p6 p7 p8 p9 p10 p11 p12 =
    by_numbers v facts first last place n places seg_no silhouette height scale1 scale2 step bottom_height top_height row low top_clip bottom_clip p0 p1 p2 p3 p4 p5 p6 p7 p8 p9 p10 p11 p12
    ∙ ap (note_by v facts first last place) e ∙ note_at-by v facts first last place

place_in : (b : Bool) (n total place : ℕ) → (b ≡ true → place + n ≤ total) → IsPlaceIn n total (place_if b place)
unfolding place_if
place_in true n total place h = h refl
place_in false n total place h = tt

ends_later : (b : Bool) (n place rest total : ℕ) → place + room_of b n + rest ≤ total → b ≡ true → place + n ≤ total
ends_later true n place rest total h e = omega arith
ends_later false n place rest total h e = absurd (let false_is_true : false ≡ true = e in cc)

-- the lists lie before the end
pub places_of-in : (n : FragmentNumbers) (place columns total : ℕ) → (places_of n place columns).end ≤ total → ArePlacesIn columns total (places_of n place columns)
unfolding places_of
places_of-in n place columns total h =
    let masked_room : ℕ = room_of n.masked columns in let top_room : ℕ = room_of (saves_top n) columns in
    let bottom_room : ℕ = room_of (saves_bottom n) columns in
    let all_within : place + masked_room + top_room + bottom_room ≤ total = h in
    record {
      masked = place_in n.masked columns total place (ends_later n.masked columns place (top_room + bottom_room) total (omega arith));
      top = place_in (saves_top n) columns total (place + masked_room) (ends_later (saves_top n) columns (place + masked_room) bottom_room total (omega arith));
      bottom = place_in (saves_bottom n) columns total (place + masked_room + top_room)
          (ends_later (saves_bottom n) columns (place + masked_room + top_room) 0 total (omega arith));
    }

at_most : (b : Bool) (n : ℕ) → room_of b n ≤ n
at_most true n = omega arith
at_most false n = omega arith

pub places_of-end : (n : FragmentNumbers) (place columns : ℕ) → place ≤ (places_of n place columns).end × ((places_of n place columns).end ≤ place + columns + columns + columns)
unfolding places_of
places_of-end n place columns =
    (omega arith, omega (arith, at_most n.masked columns, at_most (saves_top n) columns, at_most (saves_bottom n) columns))

pub places_of-within : (n : FragmentNumbers) (place columns total : ℕ) (places : SavePlaces) → places ≡ places_of n place columns → places.end ≤ total → ArePlacesIn columns total places
places_of-within n place columns total places e h =
    let PlacesIn : SavePlaces → Type 0 = λ p. ArePlacesIn columns total p in
    let end_is = ap (λ (p : SavePlaces). p.end) e in
    subst PlacesIn (sym e) (places_of-in n place columns total (omega arith))
