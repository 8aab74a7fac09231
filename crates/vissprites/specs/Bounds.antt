-- What who draws entries asks of them.
use Rattle.std.specs.Prelude.{ℕ, ◌&&◌, int_le, int_lt, nat_lt, pos, Bool}
use Rattle.picture_rules.specs.declared.sprite.SpriteEntry.{SpriteEntry}

-- the columns lie in a view of that width
unfoldable pub lies_within : ℕ → SpriteEntry → Bool
lies_within width e = int_le (pos 0) e.first && int_lt e.last (pos width)

-- the lump is one of so many
unfoldable pub has_lump_below : ℕ → SpriteEntry → Bool
has_lump_below lumps e = nat_lt e.lump lumps
