-- The layers of the rows of a weapon table, one row after the other, and their pictures.
use Rattle.picture_rules.proofs.Common.{[], ap, append-nil, append_assoc, arith, Bool, cond, Contains, Contains-append_cases, Contains-append_left, Contains-append_right, eq-eqb, false, find, get_or, inl, inr, length, length-take, List, map, ne_eqb, None, Option, option_and_then, option_map, option_to_list, refl, slice_get, Some, subst, suc, sym, take, take-length, take_more, true, zero, ℕ, ℤ, ◌++◌, ◌+◌, ◌<◌, ◌==◌, ◌∙◌, ◌∷◌, ◌≡◌, ◌≢◌}
use Rattle.doom_run.specs.Rules.{Art, Dot, Frame, Shape, ViewValue, WeaponLayer, book_lumps, is_frame, joined_lists, picked, shape_lumps, weapon_dots}
use Rattle.picture_rules.proofs.Laws.{joined_lists-append, joined_lists-cons}
use Rattle.csv_tables.specs.declared.weapons.WeaponRow.{WeaponRow}
use Rattle.sound_scene.proofs.MemberLemmas.{among_first, among_later}
use Rattle.doom_run.specs.Layers.{layer_of, layer_with, layers_from}

-- the layers of one row
abbrev row_layers : List Frame → ℤ → ℕ → ℕ → WeaponRow → List WeaponLayer
row_layers book light k n row = cond (row.view == k) (option_to_list (layer_of book light n row)) []

-- those of some rows, and then of others
layers_from-append : (book : List Frame) (light : ℤ) (k n : ℕ) (xs ys : List WeaponRow) → layers_from book light k n (xs ++ ys) ≡ layers_from book light k n xs ++ layers_from book light k (n + length xs) ys
unfolding layers_from
layers_from-append book light k n [] ys = let number_same : n ≡ n + 0 = omega arith in ap (λ (m : ℕ). layers_from book light k m ys) number_same
layers_from-append book light k n (x ∷ xs) ys =
    let next_number_is : n + 1 + length xs ≡ n + length (x ∷ xs) = omega arith in
    ap (λ (ls : List WeaponLayer). row_layers book light k n x ++ ls) (layers_from-append book light k (n + 1) xs ys)
    ∙ sym (append_assoc (row_layers book light k n x) (layers_from book light k (n + 1) xs) (layers_from book light k (n + 1 + length xs) ys))
    ∙ ap (λ (m : ℕ). (row_layers book light k n x ++ layers_from book light k (n + 1) xs) ++ layers_from book light k m ys) next_number_is

-- the dots of the layers of rows, of which the first has number n
abbrev pub rows_dots : ViewValue → List Frame → ℤ → ℕ → ℕ → List WeaponRow → Art → List Dot
rows_dots v book light k n rows art = joined_lists (weapon_dots v art) (layers_from book light k n rows)

pub rows_dots-none : (v : ViewValue) (book : List Frame) (light : ℤ) (k : ℕ) (art : Art) → rows_dots v book light k 1 [] art ≡ []
unfolding layers_from joined_lists
rows_dots-none v book light k art = refl

-- one row more
dots_more : (v : ViewValue) (book : List Frame) (light : ℤ) (k i : ℕ) (rows : List WeaponRow) (row : WeaponRow) (art : Art) → i < length rows →
    rows_dots v book light k 1 (take (i + 1) rows) art ≡ rows_dots v book light k 1 (take i rows) art ++ rows_dots v book light k (i + 1) (get_or rows i row ∷ []) art
dots_more v book light k i rows row art there =
    let row_number_is : 1 + length (take i rows) ≡ i + 1 = omega (arith, length-take i rows) in
    ap (λ (xs : List WeaponRow). rows_dots v book light k 1 xs art) (take_more rows i row there)
    ∙ ap (joined_lists (weapon_dots v art)) (layers_from-append book light k 1 (take i rows) (get_or rows i row ∷ []))
    ∙ joined_lists-append (weapon_dots v art) (layers_from book light k 1 (take i rows)) (layers_from book light k (1 + length (take i rows)) (get_or rows i row ∷ []))
    ∙ ap (λ (m : ℕ). rows_dots v book light k 1 (take i rows) art ++ rows_dots v book light k m (get_or rows i row ∷ []) art) row_number_is

pub rows_dots-more : (v : ViewValue) (book : List Frame) (light lit : ℤ) (k i : ℕ) (rows : List WeaponRow) (row : WeaponRow) (art : Art) → lit ≡ light → i < length rows →
    rows_dots v book light k 1 (take i rows) art ++ rows_dots v book lit k (i + 1) (get_or rows i row ∷ []) art ≡ rows_dots v book light k 1 (take (i + 1) rows) art
rows_dots-more v book light lit k i rows row art same there =
    ap (λ (z : ℤ). rows_dots v book light k 1 (take i rows) art ++ rows_dots v book z k (i + 1) (get_or rows i row ∷ []) art) same ∙ sym (dots_more v book light k i rows row art there)

pub rows_dots-all : (v : ViewValue) (book : List Frame) (light lit : ℤ) (k i : ℕ) (rows : List WeaponRow) (art : Art) → lit ≡ light → i ≡ length rows → rows_dots v book lit k 1 (take i rows) art ≡ rows_dots v book light k 1 rows art
rows_dots-all v book light lit k i rows art same end =
    ap (λ (n : ℕ). rows_dots v book lit k 1 (take n rows) art) end
    ∙ ap (λ (xs : List WeaponRow). rows_dots v book lit k 1 xs art) (take-length rows)
    ∙ ap (λ (z : ℤ). rows_dots v book z k 1 rows art) same

-- a row of another view has none, nor has one whose frame has no picture; else they are those of its layer
abbrev row_dots : ViewValue → Art → Option WeaponLayer → Bool → List Dot
row_dots v art layer own = joined_lists (weapon_dots v art) (cond own (option_to_list layer) [] ++ [])

row_is : (v : ViewValue) (book : List Frame) (light : ℤ) (k n : ℕ) (row : WeaponRow) (art : Art) → rows_dots v book light k n (row ∷ []) art ≡ row_dots v art (layer_of book light n row) (row.view == k)
unfolding layers_from
row_is v book light k n row art = refl

no_row : (v : ViewValue) (art : Art) (layer : Option WeaponLayer) → row_dots v art layer false ≡ []
unfolding joined_lists
no_row v art layer = refl

no_layer : (v : ViewValue) (art : Art) (own : Bool) → row_dots v art None own ≡ []
unfolding joined_lists
no_layer v art true = refl
no_layer v art false = refl

one_layer : (v : ViewValue) (art : Art) (layer : WeaponLayer) → row_dots v art (Some layer) true ≡ weapon_dots v art layer
unfolding joined_lists
one_layer v art layer = append-nil (weapon_dots v art layer)

pub row_dots-other : (v : ViewValue) (book : List Frame) (light : ℤ) (k n : ℕ) (row : WeaponRow) (art : Art) → row.view ≢ k → rows_dots v book light k n (row ∷ []) art ≡ []
row_dots-other v book light k n row art other =
    row_is v book light k n row art ∙ ap (row_dots v art (layer_of book light n row)) (ne_eqb row.view k other) ∙ no_row v art (layer_of book light n row)

pub row_dots-bare : (v : ViewValue) (book : List Frame) (light lit : ℤ) (k n : ℕ) (row : WeaponRow) (art : Art) → lit ≡ light → None ≡ layer_of book lit n row → rows_dots v book light k n (row ∷ []) art ≡ []
row_dots-bare v book light lit k n row art same none =
    ap (λ (z : ℤ). rows_dots v book z k n (row ∷ []) art) (sym same)
    ∙ row_is v book lit k n row art ∙ ap (λ (o : Option WeaponLayer). row_dots v art o (row.view == k)) (sym none) ∙ no_layer v art (row.view == k)

pub row_dots-own : (v : ViewValue) (book : List Frame) (light lit : ℤ) (k n : ℕ) (row : WeaponRow) (layer : WeaponLayer) (art : Art) → lit ≡ light → row.view ≡ k → Some layer ≡ layer_of book lit n row →
    weapon_dots v art layer ≡ rows_dots v book light k n (row ∷ []) art
row_dots-own v book light lit k n row layer art same own is =
    sym (row_is v book lit k n row art ∙ ap (λ (o : Option WeaponLayer). row_dots v art o (row.view == k)) (sym is) ∙ ap (row_dots v art (Some layer)) (eq-eqb row.view k own) ∙ one_layer v art layer)
    ∙ ap (λ (z : ℤ). rows_dots v book z k n (row ∷ []) art) same

-- the lump of a picture that is picked is one of the book's
shape_has : (rotation : ℕ) (shapes : List Shape) (shape : Shape) → slice_get shapes rotation ≡ Some shape → Contains (map (λ (s : Shape). s.lump.0) shapes) shape.lump.0
shape_has rotation [] shape e = absurd (cc)
shape_has zero (first ∷ rest) shape e =
    let shape_is : first ≡ shape = cc in subst
    (λ (s : Shape). Contains (map (λ (s : Shape). s.lump.0) (first ∷ rest)) s.lump.0) shape_is (among_first first.lump.0 (map (λ (s : Shape). s.lump.0) rest))
shape_has (suc rotation) (first ∷ rest) shape e = among_later first.lump.0 (map (λ (s : Shape). s.lump.0) rest) shape.lump.0 (shape_has rotation rest shape e)

found_by : (passes : Bool) (first frame : Frame) (later : Option Frame) (rest : List ℕ) (lump : ℕ) → cond passes (Some first) later ≡ Some frame → Contains (shape_lumps frame) lump →
    (later ≡ Some frame → Contains rest lump) → Contains (shape_lumps first ++ rest) lump
found_by true first frame later rest lump e has after =
    let frame_same : first ≡ frame = cc in
    Contains-append_left (shape_lumps first) rest lump (subst (λ (f : Frame). Contains (shape_lumps f) lump) (sym frame_same) has)
found_by false first frame later rest lump e has after = Contains-append_right (shape_lumps first) rest lump (after e)

found_has : (test : Frame → Bool) (book : List Frame) (frame : Frame) (lump : ℕ) → find test book ≡ Some frame → Contains (shape_lumps frame) lump → Contains (joined_lists shape_lumps book) lump
found_has test [] frame lump e has = absurd (cc)
found_has test (first ∷ rest) frame lump e has =
    subst (λ (lumps : List ℕ). Contains lumps lump) (sym (joined_lists-cons shape_lumps first rest))
    (found_by (test first) first frame (find test rest) (joined_lists shape_lumps rest) lump e has (λ later. found_has test rest frame lump later has))

picked_from : (lumps : List ℕ) (rotation : ℕ) (frame : Option Frame) (shape : Shape) → option_and_then (λ (f : Frame). slice_get f.shapes rotation) frame ≡ Some shape →
    ((f : Frame) → frame ≡ Some f → Contains (shape_lumps f) shape.lump.0 → Contains lumps shape.lump.0) → Contains lumps shape.lump.0
unfolding shape_lumps
picked_from lumps rotation None shape e found = absurd (cc)
picked_from lumps rotation (Some f) shape e found = found f refl (shape_has rotation f.shapes shape e)

picked_among : (book : List Frame) (sprite : List ℕ) (letter rotation : ℕ) (shape : Shape) → picked book sprite letter rotation ≡ Some shape → Contains (book_lumps book) shape.lump.0
unfolding picked book_lumps
picked_among book sprite letter rotation shape e =
    picked_from (joined_lists shape_lumps book) rotation (find (is_frame sprite letter) book) shape e (λ f is has. found_has (is_frame sprite letter) book f shape.lump.0 is has)

layer_from : (book : List Frame) (light : ℤ) (n : ℕ) (row : WeaponRow) (shape : Option Shape) (layer : WeaponLayer) → picked book row.sprite row.frame 0 ≡ shape → Some layer ≡ option_map (layer_with light n row) shape →
    Contains (book_lumps book) layer.shape.lump
unfolding layer_with
layer_from book light n row None layer at is = absurd (cc)
layer_from book light n row (Some shape) layer at is =
    let layer_same : layer_with light n row shape ≡ layer = cc in
    subst (λ (l : WeaponLayer). Contains (book_lumps book) l.shape.lump) layer_same (picked_among book row.sprite row.frame 0 shape at)

-- so is that of a row's layer
pub layer_among : (book : List Frame) (light : ℤ) (n : ℕ) (row : WeaponRow) (layer : WeaponLayer) → Some layer ≡ layer_of book light n row → Contains (book_lumps book) layer.shape.lump
unfolding layer_of
layer_among book light n row layer is = layer_from book light n row (picked book row.sprite row.frame 0) layer refl is

-- the layers of row number i of a table are among those of the table
pub row_layers-among : (book : List Frame) (light : ℤ) (k n i : ℕ) (rows : List WeaponRow) (row : WeaponRow) (layer : WeaponLayer) → i < length rows →
    Contains (layers_from book light k (n + i) (get_or rows i row ∷ [])) layer → Contains (layers_from book light k n rows) layer
unfolding layers_from
row_layers-among book light k n i [] row layer there has = absurd (omega (arith, there))
row_layers-among book light k n zero (x ∷ xs) row layer there has =
    let number_same : n + 0 ≡ n = omega arith in
    Contains-append_left (row_layers book light k n x) (layers_from book light k (n + 1) xs) layer
    (subst (λ (ls : List WeaponLayer). Contains ls layer) (append-nil (row_layers book light k n x))
    (subst (λ (m : ℕ). Contains (row_layers book light k m x ++ []) layer) number_same has))
row_layers-among book light k n (suc j) (x ∷ xs) row layer there has =
    let number_same : n + suc j ≡ n + 1 + j = omega arith in
    Contains-append_right (row_layers book light k n x) (layers_from book light k (n + 1) xs) layer
    (row_layers-among book light k (n + 1) j xs row layer (omega (arith, there))
    (subst (λ (m : ℕ). Contains (layers_from book light k m (get_or xs j row ∷ [])) layer) number_same has))

-- that of a row of this view is the row's own
pub row_layer-own : (book : List Frame) (light lit : ℤ) (k n : ℕ) (row : WeaponRow) (layer : WeaponLayer) → lit ≡ light → row.view ≡ k → Some layer ≡ layer_of book lit n row →
    Contains (layers_from book light k n (row ∷ [])) layer
unfolding layers_from
row_layer-own book light lit k n row layer same own is =
    subst (λ (ls : List WeaponLayer). Contains (ls ++ []) layer)
    (ap (λ (o : Option WeaponLayer). cond true (option_to_list o) []) (is ∙ ap (λ (z : ℤ). layer_of book z n row) same)
    ∙ ap (λ (b : Bool). cond b (option_to_list (layer_of book light n row)) []) (sym (eq-eqb row.view k own)))
    (among_first layer [])

-- the lump of a layer of a table is one of the book's
by_row : (book : List Frame) (light : ℤ) (n : ℕ) (row : WeaponRow) (own : Bool) (found : Option WeaponLayer) (layer : WeaponLayer) → found ≡ layer_of book light n row →
    Contains (cond own (option_to_list found) []) layer → Contains (book_lumps book) layer.shape.lump
by_row book light n row true None layer is has = absurd (let below_zero : has.0 < 0 = has.1 in omega (arith, below_zero))
by_row book light n row true (Some one) layer is (zero, within, same) =
    subst (λ (l : WeaponLayer). Contains (book_lumps book) l.shape.lump) same (layer_among book light n row one is)
by_row book light n row true (Some one) layer is (suc k, within, same) = absurd (let number_below_one : suc k < 1 = within in omega (arith, number_below_one))
by_row book light n row false found layer is has = absurd (let below_zero : has.0 < 0 = has.1 in omega (arith, below_zero))

pub table_layer-among : (book : List Frame) (light : ℤ) (k n : ℕ) (rows : List WeaponRow) (layer : WeaponLayer) → Contains (layers_from book light k n rows) layer → Contains (book_lumps book) layer.shape.lump
unfolding layers_from
table_layer-among book light k n [] layer has = absurd (let below_zero : has.0 < 0 = has.1 in omega (arith, below_zero))
table_layer-among book light k n (x ∷ xs) layer has =
    elim (Contains-append_cases (row_layers book light k n x) (layers_from book light k (n + 1) xs) layer has) [
      | inl own ↦ by_row book light n x (x.view == k) (layer_of book light n x) layer refl own
      | inr later ↦ table_layer-among book light k (n + 1) xs layer later
    ]

-- those of row number i, whose layers have number i + 1
pub row_layers-first : (book : List Frame) (light : ℤ) (k i : ℕ) (rows : List WeaponRow) (row : WeaponRow) (layer : WeaponLayer) → i < length rows →
    Contains (layers_from book light k (i + 1) (get_or rows i row ∷ [])) layer → Contains (layers_from book light k 1 rows) layer
row_layers-first book light k i rows row layer there has =
    let is_next : i + 1 ≡ 1 + i = omega arith in
    row_layers-among book light k 1 i rows row layer there (subst (λ (m : ℕ). Contains (layers_from book light k m (get_or rows i row ∷ [])) layer) is_next has)
