-- The lesser of two numbers, where they are there.
use Rattle.std.specs.Prelude.{ℕ, min, Option, Some, None}

abbrev pub lesser : Option ℕ → Option ℕ → Option ℕ
lesser None b = b
lesser (Some a) None = Some a
lesser (Some a) (Some b) = Some (min a b)
