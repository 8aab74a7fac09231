-- Laws of what fragments save: how much, where the notes say that it lies, and one fragment more.
use Rattle.word_rules.proofs.Common.{[], ap, append-nil, append_assoc, arith, Bool, cond, false, from_bool, get_or, get_or-append_right, get_or_append_left, length, length-append, List, map, pos, range_with_len, refl, sym, true, ℕ, ℤ, ◌*◌, ◌++◌, ◌+◌, ◌-◌, ◌<◌, ◌||◌, ◌∙◌, ◌∷◌, ◌≡◌, ◌≤◌}
use Rattle.picture_rules.specs.Rules.{ViewValue, listed_from}
use Rattle.word_rules.proofs.ListedLemmas.{length-listed_from, get_or-listed_from}
use Rattle.picture_rules.specs.declared.wall.ColumnClip.{ColumnClip}
use Rattle.picture_rules.specs.declared.wall.FragmentNote.{FragmentNote}
use Rattle.picture_rules.specs.{wall.Walls.Wall, wall.Walls.clip_past, wall.Columns.texture_column}
use Rattle.picture_rules.specs.wall.Openings.{saves_top, saves_bottom, openings_of, top_clip, bottom_clip}
use Rattle.picture_rules.specs.wall.Notes.{saved_if, middle_columns, top_clips, bottom_clips, saved_by, saved_from, openings_list, room_if, clip_note, note_at, notes_from, view_notes, clip_row_at}
use Rattle.picture_rules.proofs.wall.WallLemmas.{clip_past-front}

length_if : (b : Bool) (f : ℕ → ℤ) (w : Wall) → length (saved_if b (listed_from f w.first w.last)) ≡ room_if b w
unfolding saved_if room_if
length_if true f w = length-listed_from f w.first w.last
length_if false f w = refl

-- a fragment saves as many as its three rooms, and as are counted
pub length-saved_by : (v : ViewValue) (walls : List Wall) (k : ℕ) (w : Wall) →
    length (saved_by v walls k w) ≡ room_if w.numbers.masked w + room_if (saves_top w.numbers) w + room_if (saves_bottom w.numbers) w
unfolding saved_by middle_columns top_clips bottom_clips
length-saved_by v walls k w =
    let middle_length = length_if w.numbers.masked (texture_column v w.facts) w in
    let top_length = length_if (saves_top w.numbers) (λ x. (clip_past v.shape walls k x).ceiling_clip) w in
    let bottom_length = length_if (saves_bottom w.numbers) (λ x. (clip_past v.shape walls k x).floor_clip) w in
    simp length-append (omega arith)

rooms_of : (n : ℕ) (a b c : Bool) → cond a n 0 + cond b n 0 + cond c n 0 ≡ n * (from_bool a + from_bool b + from_bool c)
rooms_of n true true true = omega arith
rooms_of n true true false = omega arith
rooms_of n true false true = omega arith
rooms_of n true false false = omega arith
rooms_of n false true true = omega arith
rooms_of n false true false = omega arith
rooms_of n false false true = omega arith
rooms_of n false false false = omega arith

pub length-saved_openings : (v : ViewValue) (walls : List Wall) (k : ℕ) (w : Wall) → length (saved_by v walls k w) ≡ openings_of w
unfolding openings_of room_if
length-saved_openings v walls k w =
    length-saved_by v walls k w ∙ rooms_of (w.last + 1 - w.first) w.numbers.masked (saves_top w.numbers) (saves_bottom w.numbers)

-- fragments that come later change nothing of what was saved
mapped_alike : (f g : ℕ → ℤ) (xs : List ℕ) → ((x : ℕ) → f x ≡ g x) → map f xs ≡ map g xs
mapped_alike f g [] h = refl
mapped_alike f g (x ∷ xs) h = ap (λ (z : ℤ). z ∷ map f xs) (h x) ∙ ap (λ (zs : List ℤ). g x ∷ zs) (mapped_alike f g xs h)

listed_alike : (f g : ℕ → ℤ) (first last : ℕ) → ((x : ℕ) → f x ≡ g x) → listed_from f first last ≡ listed_from g first last
unfolding listed_from
listed_alike f g first last h = mapped_alike f g (range_with_len first (last + 1 - first)) h

saved_front : (v : ViewValue) (walls more : List Wall) (k : ℕ) (w : Wall) → k < length walls → saved_by v (walls ++ more) k w ≡ saved_by v walls k w
unfolding saved_by top_clips bottom_clips
saved_front v walls more k w l =
    let same_tops = listed_alike (λ x. (clip_past v.shape (walls ++ more) k x).ceiling_clip) (λ x. (clip_past v.shape walls k x).ceiling_clip) w.first w.last (λ x. ap (λ (c : ColumnClip). c.ceiling_clip) (clip_past-front v.shape walls more k x l)) in
    let same_bottoms = listed_alike (λ x. (clip_past v.shape (walls ++ more) k x).floor_clip) (λ x. (clip_past v.shape walls k x).floor_clip) w.first w.last (λ x. ap (λ (c : ColumnClip). c.floor_clip) (clip_past-front v.shape walls more k x l)) in cc

saved_fronts : (v : ViewValue) (walls more : List Wall) (k : ℕ) (ws : List Wall) → k + length ws ≤ length walls → saved_from v (walls ++ more) k ws ≡ saved_from v walls k ws
unfolding saved_from
saved_fronts v walls more k [] l = refl
saved_fronts v walls more k (w ∷ ws) l =
    ap (λ (s : List ℤ). s ++ saved_from v (walls ++ more) (k + 1) ws) (saved_front v walls more k w (omega arith))
    ∙ ap (λ (s : List ℤ). saved_by v walls k w ++ s) (saved_fronts v walls more (k + 1) ws (omega arith))

saved_last : (v : ViewValue) (walls : List Wall) (k : ℕ) (ws : List Wall) (w : Wall) (n : ℕ) → k + length ws ≡ n → saved_from v walls k (ws ++ w ∷ []) ≡ saved_from v walls k ws ++ saved_by v walls n w
unfolding saved_from
saved_last v walls k [] w n e = append-nil (saved_by v walls k w) ∙ (let is_last : k ≡ n = omega arith in ap (λ (m : ℕ). saved_by v walls m w) is_last)
saved_last v walls k (u ∷ us) w n e =
    ap (λ (s : List ℤ). saved_by v walls k u ++ s) (saved_last v walls (k + 1) us w n (omega arith)) ∙ sym (append_assoc (saved_by v walls k u) (saved_from v walls (k + 1) us) (saved_by v walls n w))

-- one fragment more saves behind the others
pub openings_list-more : (v : ViewValue) (walls : List Wall) (w : Wall) →
    openings_list v (walls ++ w ∷ []) ≡ openings_list v walls ++ saved_by v (walls ++ w ∷ []) (length walls) w
unfolding openings_list
openings_list-more v walls w =
    saved_last v (walls ++ w ∷ []) 0 walls w (length walls) (omega arith)
    ∙ ap (λ (s : List ℤ). s ++ saved_by v (walls ++ w ∷ []) (length walls) w) (saved_fronts v walls (w ∷ []) 0 walls (omega arith))

notes_last : (v : ViewValue) (walls : List Wall) (k place : ℕ) (ws : List Wall) (w : Wall) → notes_from v place (ws ++ w ∷ []) ≡ notes_from v place ws ++ note_at v w (place + length (saved_from v walls k ws)) ∷ []
unfolding notes_from saved_from
notes_last v walls k place [] w = let same_place : place ≡ place + 0 = omega arith in ap (λ (p : ℕ). note_at v w p ∷ []) same_place
notes_last v walls k place (u ∷ us) w =
    let next_place : ℕ = place + room_if u.numbers.masked u + room_if (saves_top u.numbers) u + room_if (saves_bottom u.numbers) u in
    let places_add : next_place + length (saved_from v walls (k + 1) us) ≡ place + length (saved_by v walls k u ++ saved_from v walls (k + 1) us) =
    omega (arith, length-append (saved_by v walls k u) (saved_from v walls (k + 1) us), length-saved_by v walls k u) in
    ap (λ ns. note_at v u place ∷ ns) (notes_last v walls (k + 1) next_place us w ∙ ap (λ (q : ℕ). notes_from v next_place us ++ note_at v w q ∷ []) places_add)

-- and its note has its place there
pub view_notes-more : (v : ViewValue) (walls : List Wall) (w : Wall) →
    view_notes v (walls ++ w ∷ []) ≡ view_notes v walls ++ note_at v w (length (openings_list v walls)) ∷ []
unfolding view_notes openings_list
view_notes-more v walls w = notes_last v walls 0 0 walls w ∙ (let same_place : 0 + length (saved_from v walls 0 walls) ≡ length (saved_from v walls 0 walls) = omega arith in ap (λ (p : ℕ). notes_from v 0 walls ++ note_at v w p ∷ []) same_place)

-- an entry of the middle of five lists
read_second : (before xs ys zs after : List ℤ) (p r i : ℕ) → length before ≡ p → length xs ≡ r → i < length ys →
    get_or (before ++ ((xs ++ (ys ++ zs)) ++ after)) (p + r + i) (pos 0) ≡ get_or ys i (pos 0)
read_second before xs ys zs after p r i e f l =
    get_or-append_right before ((xs ++ (ys ++ zs)) ++ after) p (p + r + i) (pos 0) e (omega arith)
    ∙ get_or_append_left (xs ++ (ys ++ zs)) after (pos 0) (p + r + i - p) (omega (arith, length-append xs (ys ++ zs), length-append ys zs))
    ∙ get_or-append_right xs (ys ++ zs) r (p + r + i - p) (pos 0) f (omega arith)
    ∙ get_or_append_left ys zs (pos 0) (p + r + i - p - r) (omega arith)
    ∙ (let same_place : p + r + i - p - r ≡ i = omega arith in ap (λ (j : ℕ). get_or ys j (pos 0)) same_place)

read_third : (before xs ys zs after : List ℤ) (p r s i : ℕ) → length before ≡ p → length xs ≡ r → length ys ≡ s → i < length zs →
    get_or (before ++ ((xs ++ (ys ++ zs)) ++ after)) (p + r + s + i) (pos 0) ≡ get_or zs i (pos 0)
read_third before xs ys zs after p r s i e f g l =
    get_or-append_right before ((xs ++ (ys ++ zs)) ++ after) p (p + r + s + i) (pos 0) e (omega arith)
    ∙ get_or_append_left (xs ++ (ys ++ zs)) after (pos 0) (p + r + s + i - p) (omega (arith, length-append xs (ys ++ zs), length-append ys zs))
    ∙ get_or-append_right xs (ys ++ zs) r (p + r + s + i - p) (pos 0) f (omega arith)
    ∙ get_or-append_right ys zs s (p + r + s + i - p - r) (pos 0) g (omega arith)
    ∙ (let same_place : p + r + s + i - p - r - s ≡ i = omega arith in ap (λ (j : ℕ). get_or zs j (pos 0)) same_place)

read_first : (before xs ys after : List ℤ) (p i : ℕ) → length before ≡ p → i < length xs → get_or (before ++ ((xs ++ ys) ++ after)) (p + i) (pos 0) ≡ get_or xs i (pos 0)
read_first before xs ys after p i e l =
    get_or-append_right before ((xs ++ ys) ++ after) p (p + i) (pos 0) e (omega arith)
    ∙ get_or_append_left (xs ++ ys) after (pos 0) (p + i - p) (omega (arith, length-append xs ys))
    ∙ get_or_append_left xs ys (pos 0) (p + i - p) (omega arith)
    ∙ (let same_place : p + i - p ≡ i = omega arith in ap (λ (j : ℕ). get_or xs j (pos 0)) same_place)

length_middle : (v : ViewValue) (w : Wall) → length (saved_if w.numbers.masked (middle_columns v w)) ≡ room_if w.numbers.masked w
unfolding middle_columns
length_middle v w = length_if w.numbers.masked (texture_column v w.facts) w

length_tops : (v : ViewValue) (walls : List Wall) (k : ℕ) (w : Wall) → length (saved_if (saves_top w.numbers) (top_clips v walls k w)) ≡ room_if (saves_top w.numbers) w
unfolding top_clips
length_tops v walls k w = length_if (saves_top w.numbers) (λ x. (clip_past v.shape walls k x).ceiling_clip) w

-- a clip that is constant or saved reads as the constant, or as what was saved
clip_read : (openings : List ℤ) (first x place : ℕ) (constant saves : Bool) (row saved : ℤ) → (saves || constant) ≡ true →
    (saves ≡ true → get_or openings (place + (x - first)) (pos 0) ≡ saved) → clip_row_at openings first (clip_note constant row saves place) x ≡ cond constant row saved
unfolding clip_row_at clip_note
clip_read openings first x place true saves row saved h read = refl
clip_read openings first x place false false row saved h read = cc
clip_read openings first x place false true row saved h read = read refl

-- what is saved of a fragment's upper clip
top_read : (v : ViewValue) (walls : List Wall) (k : ℕ) (w : Wall) (before after : List ℤ) (place x : ℕ) → length before ≡ place → w.first ≤ x → x ≤ w.last → saves_top w.numbers ≡ true →
    get_or (before ++ (saved_by v walls k w ++ after)) (place + room_if w.numbers.masked w + (x - w.first)) (pos 0) ≡ (clip_past v.shape walls k x).ceiling_clip
unfolding saved_by top_clips saved_if
top_read v walls k w before after place x e l m s =
    let clip_at : ℕ → ℤ = λ x. (clip_past v.shape walls k x).ceiling_clip in
    rw s
    (read_second before (saved_if w.numbers.masked (middle_columns v w)) (listed_from clip_at w.first w.last) (saved_if (saves_bottom w.numbers) (bottom_clips v walls k w)) after place (room_if w.numbers.masked w) (x - w.first) e
    (length_middle v w) (omega (arith, length-listed_from clip_at w.first w.last))
    ∙ get_or-listed_from clip_at w.first w.last (x - w.first) (pos 0) (omega arith)
    ∙ (let same_column : w.first + (x - w.first) ≡ x = omega arith in ap clip_at same_column))

-- the note of a fragment whose openings lie at its place says its top clip, where it is constant or saved
pub note-top_clip : (v : ViewValue) (walls : List Wall) (k : ℕ) (w : Wall) (before after : List ℤ) (place x : ℕ) → length before ≡ place → w.first ≤ x →
    x ≤ w.last → (saves_top w.numbers || w.numbers.top_is_constant) ≡ true →
    clip_row_at (before ++ (saved_by v walls k w ++ after)) w.first (note_at v w place).top_clip x ≡ top_clip v.shape walls k w x
unfolding note_at top_clip
note-top_clip v walls k w before after place x e l m h = clip_read _ w.first x _ _ _ _ _ h (top_read v walls k w before after place x e l m)

-- and of its lower clip
bottom_read : (v : ViewValue) (walls : List Wall) (k : ℕ) (w : Wall) (before after : List ℤ) (place x : ℕ) → length before ≡ place → w.first ≤ x → x ≤ w.last → saves_bottom w.numbers ≡ true →
    get_or (before ++ (saved_by v walls k w ++ after)) (place + room_if w.numbers.masked w + room_if (saves_top w.numbers) w + (x - w.first)) (pos 0) ≡ (clip_past v.shape walls k x).floor_clip
unfolding saved_by bottom_clips saved_if
bottom_read v walls k w before after place x e l m s =
    let clip_at : ℕ → ℤ = λ x. (clip_past v.shape walls k x).floor_clip in
    rw s
    (read_third before (saved_if w.numbers.masked (middle_columns v w)) (saved_if (saves_top w.numbers) (top_clips v walls k w)) (listed_from clip_at w.first w.last) after place (room_if w.numbers.masked w) (room_if (saves_top w.numbers) w) (x - w.first) e
    (length_middle v w) (length_tops v walls k w) (omega (arith, length-listed_from clip_at w.first w.last))
    ∙ get_or-listed_from clip_at w.first w.last (x - w.first) (pos 0) (omega arith)
    ∙ (let same_column : w.first + (x - w.first) ≡ x = omega arith in ap clip_at same_column))

-- its bottom clip
pub note-bottom_clip : (v : ViewValue) (walls : List Wall) (k : ℕ) (w : Wall) (before after : List ℤ) (place x : ℕ) → length before ≡ place → w.first ≤ x →
    x ≤ w.last → (saves_bottom w.numbers || w.numbers.bottom_is_constant) ≡ true →
    clip_row_at (before ++ (saved_by v walls k w ++ after)) w.first (note_at v w place).bottom_clip x ≡ bottom_clip v.shape walls k w x
unfolding note_at bottom_clip
note-bottom_clip v walls k w before after place x e l m h = clip_read _ w.first x _ _ _ _ _ h (bottom_read v walls k w before after place x e l m)

-- and, where it is masked, its texture columns
pub note-middle_column : (v : ViewValue) (walls : List Wall) (k : ℕ) (w : Wall) (before after : List ℤ) (place x : ℕ) → length before ≡ place → w.first ≤ x →
    x ≤ w.last → w.numbers.masked ≡ true → get_or (before ++ (saved_by v walls k w ++ after)) (place + (x - w.first)) (pos 0) ≡ texture_column v w.facts x
unfolding saved_by middle_columns saved_if
note-middle_column v walls k w before after place x e l m h =
    let clips_saved : List ℤ = saved_if (saves_top w.numbers) (top_clips v walls k w) ++ saved_if (saves_bottom w.numbers) (bottom_clips v walls k w) in
    ap (λ (b : Bool). get_or (before ++ ((saved_if b (middle_columns v w) ++ clips_saved) ++ after)) (place + (x - w.first)) (pos 0)) h
    ∙ read_first before (listed_from (texture_column v w.facts) w.first w.last) clips_saved after place (x - w.first) e
    (omega (arith, length-listed_from (texture_column v w.facts) w.first w.last))
    ∙ get_or-listed_from (texture_column v w.facts) w.first w.last (x - w.first) (pos 0) (omega arith)
    ∙ (let same_column : w.first + (x - w.first) ≡ x = omega arith in ap (texture_column v w.facts) same_column)
