-- What the fields of the three tables hold, and the tables one by one.
use Rattle.std.specs.Prelude.{◌≡◌, ℕ, Bool, length}
use Rattle.angle_tables.specs.Rules.{Angle, Angles, SINES, SLOPE_ANGLES, Sine, TANGENTS, TablesRefusal, Tangent, is_wrong_angle, is_wrong_sine, is_wrong_tangent}
use Rattle.angle_tables.specs.declared.lists.AngleList.{AngleList}
use Rattle.angle_tables.specs.declared.lists.AngleList.TheVariants.{Sines, SlopeAngles, Tangents}
use Rattle.angle_tables.specs.declared.lists.AngleLists.TheInside.{Inside}

abbrev pub angles_of : Inside → Angles
angles_of t = record { sine = t.sine.items; tangent = t.tangent.items; angle = t.angle.items }

pub record HasLengths (t : Inside) : Type 0 where
  pub sines : length t.sine.items ≡ SINES
  pub tangents : length t.tangent.items ≡ TANGENTS
  pub angles : length t.angle.items ≡ SLOPE_ANGLES

-- how many entries a table has
abbrev pub length_in : AngleList → ℕ
length_in Sines = SINES
length_in Tangents = TANGENTS
length_in SlopeAngles = SLOPE_ANGLES

-- an entry of a table is wrong
abbrev pub is_wrong_in : Angles → AngleList → ℕ → Bool
is_wrong_in t Sines = is_wrong_sine t.sine
is_wrong_in t Tangents = is_wrong_tangent t.tangent
is_wrong_in t SlopeAngles = is_wrong_angle t.angle

-- the refusal of an entry of a table
abbrev pub refusal_in : AngleList → ℕ → TablesRefusal
refusal_in Sines = Sine
refusal_in Tangents = Tangent
refusal_in SlopeAngles = Angle
