-- The tables of angles that have a formula for each entry.
use Rattle.std.specs.Prelude.{ℕ, List}
use Rattle.level_maker.specs.Rules.{SINES, TANGENTS, sine_bytes, tangent_bytes}
use Rattle.level_maker.specs.declared.tables.Curve.{Curve}
use Rattle.level_maker.specs.declared.tables.Curve.TheVariants.{Sine, Tangent}

-- how many entries a table has
abbrev pub curve_length : Curve → ℕ
curve_length Sine = SINES
curve_length Tangent = TANGENTS

-- the bytes of an entry
abbrev pub curve_bytes : Curve → ℕ → List ℕ
curve_bytes Sine = sine_bytes
curve_bytes Tangent = tangent_bytes
