-- What the fields of `Tables` hold, and what callers see of them.
use Rattle.std.specs.Prelude.{◌≡◌, ℕ, ◌+◌, ◌-◌, ◌*◌, ◌/◌, ◌%◌, ◌<◌, ◌≤◌, pos, List, length, slice_index, slice_index_or}
use Rattle.angle_tables.specs.Rules.{DISTANCE_STEPS, IsSound, LIGHT_LEVELS, MAX_SIZE, MIN_SIZE, SCALE_STEPS, TANGENTS, TablesValue, angle_of_column, column_of_angle, dist_scale, distance_light, scale_light, shape_of_size, y_slope}
use Rattle.angle_tables.specs.declared.tables.Tables.TheInside.{Inside}

abbrev pub value_of : Inside → TablesValue
value_of t = record { angles = t.lists; size = t.size; spans = t.spans }

-- a table of so many entries, of each of which the rule is so
pub record IsTable {X : Type 0} (xs : List X) (n : ℕ) (IsRight : ℕ → Type 0) : Type 0 where
  pub len : length xs ≡ n
  pub items : (i : ℕ) → i < n → IsRight i

-- each table has its length and holds the values of its rule
pub record IsDerived (t : Inside) : Type 0 where
  pub least : MIN_SIZE ≤ t.size
  pub greatest : t.size ≤ MAX_SIZE
  pub shaped : t.shape ≡ shape_of_size t.size
  pub sound : IsSound t.lists t.shape
  pub columns : IsTable t.columns.items TANGENTS (λ i. slice_index t.columns.items i ≡ column_of_angle t.lists t.shape i)
  pub angles : IsTable t.angles_from_right.items (t.shape.width + 1) (λ k. slice_index t.angles_from_right.items k ≡ angle_of_column t.lists t.shape (t.shape.width - k))
  pub rows : IsTable t.rows.items t.shape.height (λ y. slice_index_or t.rows.items y (pos 0) ≡ y_slope t.shape y)
  pub scales : IsTable t.scales.items t.shape.width (λ x. slice_index_or t.scales.items x (pos 0) ≡ dist_scale t.lists t.shape x)
  pub scale_lights : IsTable t.scale_lights.items (LIGHT_LEVELS * SCALE_STEPS) (λ n. slice_index t.scale_lights.items n ≡ scale_light t.shape (n / SCALE_STEPS) (n % SCALE_STEPS))
  pub distance_lights : IsTable t.distance_lights.items (LIGHT_LEVELS * DISTANCE_STEPS) (λ n. slice_index t.distance_lights.items n ≡ distance_light (n / DISTANCE_STEPS) (n % DISTANCE_STEPS))
