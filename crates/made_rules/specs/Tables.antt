-- The file of made angle tables: sines and tangents by formula, and the angles of slopes.
use Rattle.std.specs.Prelude.{ℕ, ◌*◌, ◌^◌, List, ◌++◌, count_by, nat_lt}
use Rattle.word_rules.specs.{declared.TheConstants.FINE_SHIFT, Words.bits_of, Listed.listed}
use Rattle.view_rules.specs.declared.formula.TheConstants.{QUARTER}
use Rattle.view_rules.specs.Formulas.{upper_tangent, made_sine, made_tangent}
use Rattle.made_rules.specs.declared.tables.TheConstants.{SLOPE_STEP, SINES, TANGENTS, SLOPES}
use Rattle.made_rules.specs.Bytes.{word_bytes, records}

-- the angle of slope i, in 2048 steps of the slope: a fine angle for each tangent below the slope
unfoldable pub made_angle : ℕ → ℕ
made_angle i = 2 ^ FINE_SHIFT * count_by (λ tangent. nat_lt tangent (SLOPE_STEP * i)) (listed upper_tangent QUARTER)

-- the bytes of entry i of each table
unfoldable pub sine_bytes : ℕ → List ℕ
sine_bytes i = word_bytes (bits_of (made_sine i))

unfoldable pub tangent_bytes : ℕ → List ℕ
tangent_bytes i = word_bytes (bits_of (made_tangent i))

unfoldable pub angle_bytes : ℕ → List ℕ
angle_bytes i = word_bytes (made_angle i)

-- the tables file: sines, tangents and angles, four bytes each
unfoldable pub made_tables : List ℕ
made_tables =
    records sine_bytes SINES
    ++ records tangent_bytes TANGENTS
    ++ records angle_bytes SLOPES
