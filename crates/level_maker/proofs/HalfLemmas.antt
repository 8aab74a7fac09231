-- The two parts of a part.
use Rattle.std.proofs.Common.{◌≡◌, ◌+◌, ◌<◌, false}
use Rattle.level_maker.specs.Rules.{IsPart, Part, back_part, front_part, height, is_one_cell, width}
use Rattle.made_rules.proofs.NodeLemmas.{front-is_part, front-smaller, back-is_part, back-smaller}

-- both are parts and smaller
pub record AreHalves (part front back : Part) : Type 0 where
  pub front_is : front ≡ front_part part
  pub back_is : back ≡ back_part part
  pub front_within : IsPart front
  pub back_within : IsPart back
  pub front_smaller : width front + height front < width part + height part
  pub back_smaller : width back + height back < width part + height part

-- since the whole is not one cell
pub halves_are : (part front back : Part) → IsPart part → is_one_cell part ≡ false → front ≡ front_part part → back ≡ back_part part → AreHalves part front back
halves_are part front back p divisible f b = record {
  front_is = f;
  back_is = b;
  front_within = front-is_part part front p divisible f;
  back_within = back-is_part part back p divisible b;
  front_smaller = front-smaller part front p divisible f;
  back_smaller = back-smaller part back p divisible b;
}
