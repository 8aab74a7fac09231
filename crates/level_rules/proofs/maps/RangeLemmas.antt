-- What holds of a record that is not refused.
use Rattle.word_rules.proofs.Common.{arith, Bool, cond, false, le-from_lt_false, length, List, ltb-true, nat_lt, None, not, Option, refl, Some, suc, true, zero, ℕ, ◌&&◌, ◌+◌, ◌-◌, ◌<◌, ◌==◌, ◌||◌, ◌≡◌, ◌≤◌}
use Rattle.level_rules.specs.{declared.Side.Side, declared.Node.Node, Levels.child_on}
use Rattle.level_rules.specs.declared.maps.records.MapLine.{MapLine}
use Rattle.level_rules.specs.declared.maps.records.MapSeg.{MapSeg}
use Rattle.level_rules.specs.declared.maps.records.MapLeaf.{MapLeaf}
use Rattle.level_rules.specs.declared.maps.lumps.MapLump.{MapLump}
use Rattle.level_rules.specs.declared.maps.lumps.MapLump.TheVariants as lump
use Rattle.level_rules.specs.{declared.maps.lumps.TheConstants.NO_SIDE, maps.Levels.has_back}
use Rattle.level_rules.specs.maps.Ranges.{has_side, index_refusal, is_side, is_there, leaf_field, leaf_refusal, line_by, line_field, line_refusal, node_field, node_refusal, seg_field, seg_refusal, side_field, side_on, side_refusal}

-- a test whose failure would be refused was passed
pub cond-none : {X : Type 0} (b : Bool) (rest : Option X) (x : X) → cond b rest (Some x) ≡ None → (b ≡ true) × (rest ≡ None)
cond-none true rest x e = (refl, e)
cond-none false rest x e = cc

pub cond-none_else : {X : Type 0} (b : Bool) (rest : Option X) (x : X) → cond b (Some x) rest ≡ None → (b ≡ false) × (rest ≡ None)
cond-none_else true rest x e = cc
cond-none_else false rest x e = (refl, e)

pub index_refusal-none : (lump : MapLump) (n : ℕ) (field : Option ℕ) → index_refusal lump n field ≡ None → field ≡ None
unfolding index_refusal
index_refusal-none lump n None e = refl
index_refusal-none lump n (Some f) e = cc

is_side-go : (b : Bool) (n sides : ℕ) → (b || nat_lt n sides) ≡ true → b ≡ false → n < sides
is_side-go true n sides e f = cc
is_side-go false n sides e f = ltb-true n sides e

-- a side that is there is one of the sides
pub is_side-there : (sides n : ℕ) → is_side sides n ≡ true → (n == NO_SIDE) ≡ false → n < sides
unfolding is_side
is_side-there sides n e f = is_side-go (n == NO_SIDE) n sides e f

pub line_field-none : (sides : ℕ) (line : MapLine) → line_field sides line ≡ None → (is_side sides line.front ≡ true) × (is_side sides line.back ≡ true)
unfolding line_field
line_field-none sides line e =
    let front = cond-none (is_side sides line.front) _ _ e in
    let back_is_side = cond-none (is_side sides line.back) _ _ front.1 in
    (front.0, back_is_side.0)

side_on-go : (sides front back : ℕ) (b : Bool) → is_side sides front ≡ true → is_side sides back ≡ true → (cond b front back == NO_SIDE) ≡ false → cond b front back < sides
side_on-go sides front back true e f h = is_side-there sides front e h
side_on-go sides front back false e f h = is_side-there sides back f h

-- of a line that is not refused, a side that is there is one of the sides
pub side_on-there : (sides k : ℕ) (line : MapLine) → line_field sides line ≡ None → (side_on line k == NO_SIDE) ≡ false → side_on line k < sides
unfolding side_on
side_on-there sides k line e h =
    let both_are_sides = line_field-none sides line e in side_on-go sides line.front line.back (k == 0) both_are_sides.0 both_are_sides.1 h

not-true : (b : Bool) → not b ≡ true → b ≡ false
not-true true e = cc
not-true false e = refl

has_side-go : (b c : Bool) → cond b (not c) false ≡ true → (b ≡ true) × (c ≡ false)
has_side-go true c e = (refl, not-true c e)
has_side-go false c e = cc

pub has_side-parts : (line : MapLine) (side : ℕ) → has_side line side ≡ true → (side < 2) × ((side_on line side == NO_SIDE) ≡ false)
unfolding has_side
has_side-parts line side e =
    let number_and_side = has_side-go (nat_lt side 2) (side_on line side == NO_SIDE) e in (ltb-true side 2 number_and_side.0, number_and_side.1)

-- a seg that is not refused has two vertices and a line, and that line has its side
pub seg_field-none : (vertexes : ℕ) (lines : List MapLine) (seg : MapSeg) → seg_field vertexes lines seg ≡ None → (seg.start < vertexes) × (seg.end < vertexes) × (seg.line < length lines) × (has_side (line_by lines seg.line) seg.side ≡ true)
unfolding seg_field
seg_field-none vertexes lines seg e =
    let start = cond-none (nat_lt seg.start vertexes) _ _ e in
    let end_there = cond-none (nat_lt seg.end vertexes) _ _ start.1 in
    let line = cond-none (nat_lt seg.line (length lines)) _ _ end_there.1 in
    let side = cond-none (has_side (line_by lines seg.line) seg.side) _ _ line.1 in
    (ltb-true _ _ start.0, ltb-true _ _ end_there.0, ltb-true _ _ line.0, side.0)

pub side_field-none : (sectors : ℕ) (side : Side) → side_field sectors side ≡ None → side.sector < sectors
unfolding side_field
side_field-none sectors side e = ltb-true _ _ (cond-none (nat_lt side.sector sectors) _ _ e).0

pub leaf_field-none : (segs : ℕ) (leaf : MapLeaf) → leaf_field segs leaf ≡ None → leaf.first + leaf.count ≤ segs
unfolding leaf_field
leaf_field-none segs leaf e = le-from_lt_false _ _ (cond-none_else (nat_lt segs (leaf.first + leaf.count)) _ _ e).0

eqb-false : (n : ℕ) → (n == 0) ≡ false → 0 < n
eqb-false zero e = cc
eqb-false (suc n) e = omega arith

-- a leaf that is not refused has a seg, and its last seg is there
pub leaf_refusal-none : (segs n : ℕ) (leaf : MapLeaf) → leaf_refusal segs n leaf ≡ None → (0 < leaf.count) × (leaf.first + leaf.count ≤ segs)
unfolding leaf_refusal
leaf_refusal-none segs n leaf e =
    let leaf_has_seg = cond-none_else (leaf.count == 0) _ _ e in
    (eqb-false leaf.count leaf_has_seg.0, leaf_field-none segs leaf (index_refusal-none lump.Ssectors n _ leaf_has_seg.1))

-- a node that is not refused has both its children
pub node_refusal-none : (nodes leaves n : ℕ) (node : Node) → node_refusal nodes leaves n node ≡ None → (is_there nodes leaves (child_on node 0) ≡ true) × (is_there nodes leaves (child_on node 1) ≡ true)
unfolding node_refusal node_field
node_refusal-none nodes leaves n node e =
    let front = cond-none (is_there nodes leaves (child_on node 0)) _ _ (index_refusal-none lump.Nodes n _ e) in
    let back_child_there = cond-none (is_there nodes leaves (child_on node 1)) _ _ front.1 in
    (front.0, back_child_there.0)

pub line_refusal-none : (sides n : ℕ) (line : MapLine) → line_refusal sides n line ≡ None → line_field sides line ≡ None
unfolding line_refusal
line_refusal-none sides n line e = index_refusal-none lump.Linedefs n _ e

pub side_refusal-none : (sectors n : ℕ) (side : Side) → side_refusal sectors n side ≡ None → side.sector < sectors
unfolding side_refusal
side_refusal-none sectors n side e = side_field-none sectors side (index_refusal-none lump.Sidedefs n _ e)

pub seg_refusal-none : (vertexes : ℕ) (lines : List MapLine) (n : ℕ) (seg : MapSeg) → seg_refusal vertexes lines n seg ≡ None → seg_field vertexes lines seg ≡ None
unfolding seg_refusal
seg_refusal-none vertexes lines n seg e = index_refusal-none lump.Segs n _ e

has_back-go : (b c : Bool) → (b && not c) ≡ true → c ≡ false
has_back-go true c e = not-true c e
has_back-go false c e = cc

-- where a sector is seen behind, the other side is there
pub has_back-side : (line : MapLine) (side : ℕ) → has_back line side ≡ true → (side_on line (1 - side) == NO_SIDE) ≡ false
unfolding has_back
has_back-side line side e = has_back-go _ _ e

-- for `grind`: the segs of records that are not refused
pub ruleset segs_in_range = (seg_field-none, has_side-parts, side_on-there, has_back-side)
