-- The tables file: 10240 sines, 4096 tangents and 2049 angles in words of 32 bits, the lowest byte
-- first; and the first thing that is wrong with it. That these are refused is this project's own.
use Rattle.std.specs.Prelude.{ℕ, ◌+◌, ◌-◌, ◌*◌, ℤ, pos, neg_ℤ, Bool, ◌||◌, ◌&&◌, true, cond, int_lt, nat_lt, ◌==◌, Option, Some, None, List, length, slice_index, slice_index_or}
use Rattle.word_rules.specs.{declared.TheConstants.WORD_SIZE, Bytes.word_at, Words.signed_of, Least.least, Least.or_else, Listed.listed}
use Rattle.view_rules.specs.declared.TheConstants.{SINES, TANGENTS, SLOPE_ANGLES, TABLES_BYTES, MAX_SINE, MAX_SLOPE_ANGLE, FINE_AHEAD, EDGE_TANGENT, MIN_EDGE_TANGENT, MAX_EDGE_TANGENT}
use Rattle.view_rules.specs.{declared.TablesRefusal.TablesRefusal, declared.ViewShape.ViewShape}
use Rattle.view_rules.specs.declared.TablesRefusal.TheVariants.{Length, Sine, Tangent, Angle, FieldOfView}
use Rattle.view_rules.specs.{Angles.Angles, Angles.tangent_at, Shape.shape_of_size}
use Rattle.view_rules.specs.Tables.{first_seen_by}

-- word i of a file, unsigned and signed
unfoldable pub word_in : List ℕ → ℕ → ℕ
word_in bytes i = word_at bytes (WORD_SIZE * i)

unfoldable pub signed_in : List ℕ → ℕ → ℤ
signed_in bytes i = signed_of (word_in bytes i)

-- the n words of a file from word first on, unsigned and signed
unfoldable pub words_from : List ℕ → ℕ → ℕ → List ℕ
words_from bytes first n = listed (λ i. word_in bytes (first + i)) n

unfoldable pub signed_from : List ℕ → ℕ → ℕ → List ℤ
signed_from bytes first n = listed (λ i. signed_in bytes (first + i)) n

-- the three tables of a file
unfoldable pub angles_in : List ℕ → Angles
angles_in bytes = record {
  sine = signed_from bytes 0 SINES;
  tangent = signed_from bytes SINES TANGENTS;
  angle = words_from bytes (SINES + TANGENTS) SLOPE_ANGLES;
}

-- sine i is past one, up or down
unfoldable pub is_wrong_sine : List ℤ → ℕ → Bool
is_wrong_sine sine i = int_lt (slice_index_or sine i (pos 0)) (neg_ℤ MAX_SINE) || int_lt MAX_SINE (slice_index_or sine i (pos 0))

-- tangent i is below the one before it
unfoldable pub is_wrong_tangent : List ℤ → ℕ → Bool
is_wrong_tangent tangent i = nat_lt 0 i && int_lt (slice_index_or tangent i (pos 0)) (slice_index_or tangent (i - 1) (pos 0))

-- angle i is past an eighth of a turn, or below the one before it
unfoldable pub is_wrong_angle : List ℕ → ℕ → Bool
is_wrong_angle angle i = nat_lt MAX_SLOPE_ANGLE (slice_index angle i) || (nat_lt 0 i && nat_lt (slice_index angle i) (slice_index angle (i - 1)))

-- the tangent of the view's edge is less than a half or more than two
unfoldable pub is_wrong_edge : Angles → Bool
is_wrong_edge t = int_lt (tangent_at t EDGE_TANGENT) MIN_EDGE_TANGENT || int_lt MAX_EDGE_TANGENT (tangent_at t EDGE_TANGENT)

-- the fine angle of a left edge is not left of straight ahead, or there is none
abbrev pub is_wrong_left : Option ℕ → Bool
is_wrong_left None = true
is_wrong_left (Some i) = nat_lt i (FINE_AHEAD + 1)

unfoldable pub is_wrong_view : Angles → ViewShape → Bool
is_wrong_view t shape = is_wrong_edge t || is_wrong_left (first_seen_by t shape 0)

-- the refusal that names the index, where there is one
abbrev pub refused_at : (ℕ → TablesRefusal) → Option ℕ → Option TablesRefusal
refused_at refusal None = None
refused_at refusal (Some i) = Some (refusal i)

-- the first wrong entry of each table
unfoldable pub sine_refusal : List ℤ → Option TablesRefusal
sine_refusal sine = refused_at Sine (least (is_wrong_sine sine) SINES)

unfoldable pub tangent_refusal : List ℤ → Option TablesRefusal
tangent_refusal tangent = refused_at Tangent (least (is_wrong_tangent tangent) TANGENTS)

unfoldable pub angle_refusal : List ℕ → Option TablesRefusal
angle_refusal angle = refused_at Angle (least (is_wrong_angle angle) SLOPE_ANGLES)

unfoldable pub view_refusal : Angles → ViewShape → Option TablesRefusal
view_refusal t shape = cond (is_wrong_view t shape) (Some FieldOfView) None

-- the first refusal of the tables: of a sine, a tangent, an angle, the view
unfoldable pub angles_refusal : Angles → ViewShape → Option TablesRefusal
angles_refusal t shape =
    or_else (sine_refusal t.sine) (or_else (tangent_refusal t.tangent) (or_else (angle_refusal t.angle) (view_refusal t shape)))

-- the first refusal of a file for views of a size: of its length, then of its tables
unfoldable pub tables_refusal : List ℕ → ℕ → Option TablesRefusal
tables_refusal bytes size =
    cond (length bytes == TABLES_BYTES) (angles_refusal (angles_in bytes) (shape_of_size size)) (Some (Length (length bytes)))
