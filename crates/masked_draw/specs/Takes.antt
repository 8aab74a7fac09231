-- Which strips of the masked pass a brush takes.
use Rattle.std.specs.Prelude.{◌≡◌, ◌≤◌, ℕ, int_lt, true, false, List, Some, Contains, slice_get}
use Rattle.masked_draw.specs.Rules.{Drawseg, SpriteEntry, ViewValue}
use Rattle.brush.specs.Strips.{Middle, Picture, Strip}
use Rattle.masked_draw.specs.Strips.{masked_column_strip, shown_sprite}

-- it takes the masked columns of fragment number k
pub record TakesColumns {S : Type 0} (takes : S → Strip → Type 0) (brush : S) (v : ViewValue) (k : ℕ) (d : Drawseg) : Type 0 where
  pub each : d.masked ≡ true → (x : ℕ) → d.first ≤ x → x ≤ d.last → takes brush (Middle (masked_column_strip v k d x))

pub record TakesFragments {S : Type 0} (takes : S → Strip → Type 0) (brush : S) (v : ViewValue) (ds : List Drawseg) : Type 0 where
  pub at : (k : ℕ) (d : Drawseg) → slice_get ds k ≡ Some d → TakesColumns takes brush v k d

-- it takes a sprite among these fragments, if that has a column
abbrev pub TakesSprite : {S : Type 0} → (S → Strip → Type 0) → S → ViewValue → List Drawseg → SpriteEntry → Type 0
TakesSprite takes brush v ds e = int_lt e.last e.first ≡ false → takes brush (Picture (shown_sprite v ds e))

-- it takes the masked columns of all fragments, and each of the sprites
pub record TakesMasked {S : Type 0} (takes : S → Strip → Type 0) (brush : S) (v : ViewValue) (ds : List Drawseg)
    (es : List SpriteEntry) : Type 0 where
  pub fragments : TakesFragments takes brush v ds
  pub sprites : (e : SpriteEntry) → Contains es e → TakesSprite takes brush v ds e
