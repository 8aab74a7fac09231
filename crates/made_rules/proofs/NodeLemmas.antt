-- Laws of the nodes: both parts of a division are smaller, their nodes and one more are those of the
-- whole, and the number of a node is the number of those before it.
use Rattle.word_rules.proofs.Common.{[], ap, arith, Bool, common_steps, cond, false, length, length-append, List, mul-add, mul-le, nat_tests, one-le-mul, refl, subst, suc, sym, true, zero, ℕ, ◌*◌, ◌++◌, ◌+◌, ◌-◌, ◌/◌, ◌<◌, ◌^◌, ◌∙◌, ◌∷◌, ◌≡◌, ◌≤◌, add-mul}
use Rattle.made_rules.specs.{declared.map.Part.Part, Bytes.half, Bytes.halves}
use Rattle.made_rules.specs.declared.map.TheConstants.{CELL_SIZE, NODE_SIZE}
use Rattle.made_rules.specs.Nodes.{IsPart, width, height, node_count, is_one_cell, divides_columns, made_middle_column, middle_row, front_part, back_part, line_halves, box_halves, child_number, node_bytes, nodes_within, part_nodes}

-- a part with room for a division
pub record IsDivisible (part : Part) : Type 0 where
  pub columns : part.west < part.east
  pub rows : part.south < part.north
  pub size : 3 ≤ width part + height part

-- a part of a part
pub record IsPiece (part piece : Part) : Type 0 where
  pub columns : piece.west < piece.east
  pub rows : piece.south < piece.north
  pub smaller : width piece + height piece < width part + height part
  pub east : piece.east ≤ part.east
  pub north : piece.north ≤ part.north

-- a part that is not one cell has room
pub divisible : (part : Part) → part.west < part.east → part.south < part.north → is_one_cell part ≡ false → IsDivisible part
unfolding is_one_cell
divisible part p q e = record { columns = p; rows = q; size = grind (arith, nat_tests, e) }

-- both parts of a division
pieces_by : (part : Part) (b : Bool) → divides_columns part ≡ b → IsDivisible part →
    IsPiece part (cond b (record part { west = made_middle_column part }) (record part { north = middle_row part })) × IsPiece part (cond b (record part { east = made_middle_column part }) (record part { south = middle_row part }))
unfolding divides_columns made_middle_column middle_row
pieces_by part true e d =
    let not_higher_than_wide : height part ≤ width part = grind (arith, nat_tests, e) in
    (record { columns = omega arith; rows = omega arith; smaller = omega arith; east = omega arith; north = omega arith }, record { columns = omega arith; rows = omega arith; smaller = omega arith; east = omega arith; north = omega arith })
pieces_by part false e d =
    let high : width part < height part = grind (arith, nat_tests, e) in
    (record { columns = omega arith; rows = omega arith; smaller = omega arith; east = omega arith; north = omega arith }, record { columns = omega arith; rows = omega arith; smaller = omega arith; east = omega arith; north = omega arith })

pub front-piece : (part : Part) → IsDivisible part → IsPiece part (front_part part)
unfolding front_part
front-piece part d = (pieces_by part (divides_columns part) refl d).0

pub back-piece : (part : Part) → IsDivisible part → IsPiece part (back_part part)
unfolding back_part
back-piece part d = (pieces_by part (divides_columns part) refl d).1

-- the same of parts that are not one cell
pub front-is_part : (part piece : Part) → IsPart part → is_one_cell part ≡ false → piece ≡ front_part part → IsPart piece
front-is_part part piece p e f =
    let front : IsPiece part (front_part part) = front-piece part (divisible part p.columns p.rows e) in
    let front_within : IsPart (front_part part) = record { columns = front.columns; rows = front.rows; east = omega arith; north = omega arith } in
    subst IsPart (sym f) front_within

pub back-is_part : (part piece : Part) → IsPart part → is_one_cell part ≡ false → piece ≡ back_part part → IsPart piece
back-is_part part piece p e f =
    let back_piece : IsPiece part (back_part part) = back-piece part (divisible part p.columns p.rows e) in
    let back_within : IsPart (back_part part) = record { columns = back_piece.columns; rows = back_piece.rows; east = omega arith; north = omega arith } in
    subst IsPart (sym f) back_within

pub front-smaller :
    (part piece : Part) → IsPart part → is_one_cell part ≡ false → piece ≡ front_part part → width piece + height piece < width part + height part
front-smaller part piece p e f =
    subst (λ (q : Part). width q + height q < width part + height part) (sym f) (front-piece part (divisible part p.columns p.rows e)).smaller

pub back-smaller :
    (part piece : Part) → IsPart part → is_one_cell part ≡ false → piece ≡ back_part part → width piece + height piece < width part + height part
back-smaller part piece p e f =
    subst (λ (q : Part). width q + height q < width part + height part) (sym f) (back-piece part (divisible part p.columns p.rows e)).smaller

-- the areas of two pieces, side by side and one above the other
beside : (a b h n : ℕ) → 1 ≤ a → 1 ≤ b → 1 ≤ h → n ≡ a + b → n * h - 1 ≡ (a * h - 1) + (b * h - 1) + 1
beside a b h n p q r e =
    let whole : n * h ≡ a * h + b * h = ap (λ (m : ℕ). m * h) e ∙ add-mul a b h in
    omega (arith, one-le-mul p r, one-le-mul q r)

above : (a b w n : ℕ) → 1 ≤ a → 1 ≤ b → 1 ≤ w → n ≡ a + b → w * n - 1 ≡ (w * a - 1) + (w * b - 1) + 1
above a b w n p q r e =
    let whole : w * n ≡ w * a + w * b = ap (λ (m : ℕ). w * m) e ∙ mul-add w a b in
    omega (arith, one-le-mul r p, one-le-mul r q)

count_by_cases :
    (part : Part) (b : Bool)
    → divides_columns part ≡ b
    → IsDivisible part
    → node_count part
    ≡ node_count (cond b (record part { west = made_middle_column part }) (record part { north = middle_row part }))
    + node_count (cond b (record part { east = made_middle_column part }) (record part { south = middle_row part }))
    + 1
unfolding node_count divides_columns made_middle_column middle_row
count_by_cases part true e d =
    let not_higher_than_wide : height part ≤ width part = grind (arith, nat_tests, e) in
    let column_between = (part.west + part.east) / 2 in
    beside (part.east - column_between) (column_between - part.west) (height part) (width part) (omega arith) (omega arith) (omega arith) (omega arith)
count_by_cases part false e d =
    let high : width part < height part = grind (arith, nat_tests, e) in
    let row_between = (part.south + part.north) / 2 in
    above (row_between - part.south) (part.north - row_between) (width part) (height part) (omega arith) (omega arith) (omega arith) (omega arith)

-- the nodes of both parts and one more
node_count_of : (part : Part) → IsDivisible part → node_count part ≡ node_count (front_part part) + node_count (back_part part) + 1
unfolding front_part back_part
node_count_of part d = count_by_cases part (divides_columns part) refl d

pub node_count-parts : (part : Part) → IsPart part → is_one_cell part ≡ false → node_count part ≡ node_count (front_part part) + node_count (back_part part) + 1
node_count-parts part p e = node_count_of part (divisible part p.columns p.rows e)

-- a part that is not one cell has a node
pub node_count-some : (part : Part) → IsPart part → is_one_cell part ≡ false → 1 ≤ node_count part
node_count-some part p e = omega (arith, node_count-parts part p e)

-- a square of 256 by 256 has fewer nodes than cells
pub node_count-most : (part : Part) → IsPart part → node_count part ≤ 2 ^ 16
unfolding node_count
node_count-most part p = omega (arith, mul-le (width part) (height part) (2 ^ 8) (2 ^ 8) (omega arith) (omega arith))

-- one of two lists, where only the second can be
second_list : (b : Bool) (xs ys : List ℕ) → (b ≡ false → xs ≡ ys) → cond b [] xs ≡ cond b [] ys
second_list true xs ys h = refl
second_list false xs ys h = h refl

-- enough depth is any depth that the part needs
enough : (a b side first : ℕ) (part : Part) → part.west < part.east → part.south < part.north → width part + height part ≤ a → width part + height part ≤ b → nodes_within a side first part ≡ nodes_within b side first part
unfolding nodes_within
enough zero b side first part p q m n = absurd (omega arith)
enough (suc a) zero side first part p q m n = absurd (omega arith)
enough (suc a) (suc b) side first part p q m n =
    second_list (is_one_cell part) _ _ (λ (e : is_one_cell part ≡ false).
    let part_divisible : IsDivisible part = divisible part p q e in
    let front : IsPiece part (front_part part) = front-piece part part_divisible in
    let back_piece : IsPiece part (back_part part) = back-piece part part_divisible in
    let front_nodes_same : nodes_within a side first (front_part part) ≡ nodes_within b side first (front_part part)
    = enough a b side first (front_part part) front.columns front.rows (omega arith) (omega arith) in
    let back_nodes_same : nodes_within a side (first + node_count (front_part part)) (back_part part) ≡ nodes_within b side (first + node_count (front_part part)) (back_part part)
    = enough a b side (first + node_count (front_part part)) (back_part part) back_piece.columns back_piece.rows (omega arith) (omega arith) in
    (cc))

no_list : (b : Bool) (xs : List ℕ) → b ≡ true → cond b [] xs ≡ []
no_list true xs e = refl
no_list false xs e = (cc)

this_list : (b : Bool) (xs : List ℕ) → b ≡ false → cond b [] xs ≡ xs
this_list true xs e = (cc)
this_list false xs e = refl

leaf_within : (depth side first : ℕ) (part : Part) → is_one_cell part ≡ true → nodes_within depth side first part ≡ []
unfolding nodes_within
leaf_within zero side first part e = refl
leaf_within (suc depth) side first part e = no_list (is_one_cell part) _ e

-- a leaf has no node
pub part_nodes-leaf : (bytes : List ℕ) (side first : ℕ) (part : Part) → is_one_cell part ≡ true → bytes ≡ bytes ++ part_nodes side first part
unfolding part_nodes
part_nodes-leaf bytes side first part e = grind (arith, common_steps, leaf_within (width part + height part) side first part e)

joined : (bytes xs ys zs us vs whole : List ℕ) → us ≡ xs → vs ≡ ys → whole ≡ us ++ vs ++ zs → ((bytes ++ xs) ++ ys) ++ zs ≡ bytes ++ whole
joined bytes xs ys zs us vs whole f g e = grind (arith, common_steps)

-- the nodes of another part: those in front, those behind, and its own
pub part_nodes-parts :
    (bytes : List ℕ) (side first : ℕ) (part : Part)
    → IsPart part
    → is_one_cell part ≡ false
    → ((bytes ++ part_nodes side first (front_part part)) ++ part_nodes side (first + node_count (front_part part)) (back_part part)) ++ node_bytes side first part
    ≡ bytes ++ part_nodes side first part
unfolding part_nodes nodes_within
part_nodes-parts bytes side first part within e =
    let columns_ordered = within.columns in
    let rows_ordered = within.rows in
    let part_divisible : IsDivisible part = divisible part columns_ordered rows_ordered e in
    let front : IsPiece part (front_part part) = front-piece part part_divisible in
    let back_piece : IsPiece part (back_part part) = back-piece part part_divisible in
    let depth = width part + height part in
    let front_nodes_are : nodes_within depth side first (front_part part) ≡ part_nodes side first (front_part part)
    = enough depth (width (front_part part) + height (front_part part)) side first (front_part part) front.columns front.rows (omega arith) (omega arith) in
    let back_nodes_are : nodes_within depth side (first + node_count (front_part part)) (back_part part) ≡ part_nodes side (first + node_count (front_part part)) (back_part part)
    = enough depth (width (back_part part) + height (back_part part)) side (first + node_count (front_part part)) (back_part part) back_piece.columns back_piece.rows (omega arith) (omega arith) in
    let nodes_one_deeper : part_nodes side first part ≡ nodes_within (suc depth) side first part
    = enough depth (suc depth) side first part columns_ordered rows_ordered (omega arith) (omega arith) in
    let nodes_are_joined :
    part_nodes side first part
    ≡ nodes_within depth side first (front_part part)
    ++ nodes_within depth side (first + node_count (front_part part)) (back_part part)
    ++ node_bytes side first part
    = nodes_one_deeper ∙ this_list (is_one_cell part) _ e in
    joined bytes (part_nodes side first (front_part part)) (part_nodes side (first + node_count (front_part part)) (back_part part)) (node_bytes side first part) _ _ _ front_nodes_are back_nodes_are nodes_are_joined

line_length : (part : Part) (b : Bool) → length (cond b (halves ((CELL_SIZE * made_middle_column part) ∷ (CELL_SIZE * part.south) ∷ 0 ∷ (CELL_SIZE * height part) ∷ [])) (halves ((CELL_SIZE * part.west) ∷ (CELL_SIZE * middle_row part) ∷ (CELL_SIZE * width part) ∷ 0 ∷ []))) ≡ 8
unfolding halves half
line_length part true = refl
line_length part false = refl

box_length : (part : Part) → length (box_halves part) ≡ 8
unfolding box_halves halves half
box_length part = refl

pair_length : (a b : ℕ) → length (halves (a ∷ b ∷ [])) ≡ 4
unfolding halves half
pair_length a b = refl

node_length : (side first : ℕ) (part : Part) → length (node_bytes side first part) ≡ NODE_SIZE
unfolding node_bytes line_halves
node_length side first part =
    simp length-append (omega (arith, line_length part (divides_columns part), box_length (front_part part), box_length (back_part part), pair_length (child_number side first (front_part part)) (child_number side (first + node_count (front_part part)) (back_part part))))

one_cell_count : (part : Part) → is_one_cell part ≡ true → 0 ≡ NODE_SIZE * node_count part
unfolding is_one_cell node_count
one_cell_count part e =
    let width_is_one : width part ≡ 1 = grind (arith, nat_tests, e) in
    let height_is_one : height part ≡ 1 = grind (arith, nat_tests, e) in
    rw (width_is_one, height_is_one) refl

length_of_choice : (b : Bool) (xs : List ℕ) (n : ℕ) → (b ≡ true → 0 ≡ n) → (b ≡ false → length xs ≡ n) → length (cond b [] xs) ≡ n
length_of_choice true xs n none some = none refl
length_of_choice false xs n none some = some refl

length_within : (depth side first : ℕ) (part : Part) → IsPart part → width part + height part ≤ depth → length (nodes_within depth side first part) ≡ NODE_SIZE * node_count part
unfolding nodes_within
length_within zero side first part p m = absurd (omega arith)
length_within (suc depth) side first part p m =
    length_of_choice (is_one_cell part) _ _ (one_cell_count part) (λ (e : is_one_cell part ≡ false).
    let front : IsPart (front_part part) = front-is_part part (front_part part) p e refl in
    let back_is_part : IsPart (back_part part) = back-is_part part (back_part part) p e refl in
    let front_is_smaller : width (front_part part) + height (front_part part) < width part + height part = front-smaller part (front_part part) p e refl in
    let back_is_smaller : width (back_part part) + height (back_part part) < width part + height part = back-smaller part (back_part part) p e refl in
    simp length-append
    (omega (arith, node_count-parts part p e, length_within depth side first (front_part part) front (omega arith), length_within depth side (first + node_count (front_part part)) (back_part part) back_is_part (omega arith), node_length side first part)))

-- for `grind`: the walk that puts the nodes
pub ruleset node_parts = (part_nodes-leaf, part_nodes-parts, node_count-parts, node_count-some, node_count-most)
