-- The ranges of the numbers of a command.
use Rattle.std.specs.Prelude.{◌≡◌, ℕ, ◌≤◌, ◌%◌}
use Rattle.job_rules.specs.declared.command.Settings.{Settings}
use Rattle.job_rules.specs.declared.ranges.TheConstants.{MOST_OPENINGS, MAX_PLANES, MAX_SIZE, MAX_SKILL, MAX_ZONE, MIN_OPENINGS, MIN_PLANES, MIN_SIZE, MIN_SKILL, MIN_ZONE, ZONE_STEP}

-- a number from low to high
pub record IsWithin (low high n : ℕ) : Type 0 where
  pub least : low ≤ n
  pub most : n ≤ high

-- a size that a zone can have
pub record IsZone (size : ℕ) : Type 0 where
  pub least : MIN_ZONE ≤ size
  pub most : size ≤ MAX_ZONE
  pub step : size % ZONE_STEP ≡ 0

-- a skill
abbrev pub IsSkill : ℕ → Type 0
IsSkill skill = (MIN_SKILL ≤ skill) × (skill ≤ MAX_SKILL)

-- the numbers of a job over a level are in their ranges
pub record AreSettings (numbers : Settings) : Type 0 where
  pub zone : IsZone numbers.zone
  pub skill : IsWithin MIN_SKILL MAX_SKILL numbers.skill
  pub size : IsWithin MIN_SIZE MAX_SIZE numbers.size
  pub planes : IsWithin MIN_PLANES MAX_PLANES numbers.planes
  pub openings : IsWithin MIN_OPENINGS MOST_OPENINGS numbers.openings
