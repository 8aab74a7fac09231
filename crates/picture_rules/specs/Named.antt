-- What a trace names by a painter's kind and number: an item of the view's list.
use Rattle.std.specs.Prelude.{◌≡◌, ◌≤◌, ◌⊎◌, Some, slice_get}
use Rattle.picture_rules.specs.Rules.{Dot, MIDDLE, PLANE, SKY, SPRITE, WALL}
use Rattle.picture_rules.specs.declared.list.ListedFragment.{ListedFragment}
use Rattle.picture_rules.specs.declared.list.ListedPlane.{ListedPlane}
use Rattle.picture_rules.specs.{declared.list.ListedSprite.ListedSprite, Lists.ViewListValue}
use Rattle.picture_rules.specs.declared.plane.Flat4.TheVariants.{Sky, Lump}

-- The painter of a dot is an item of the list: the number is its place, and the dot lies in its columns.
pub record IsListed (list : ViewListValue) (d : Dot) : Type 0 where
  -- of a wall and of a middle texture: the fragment of that number
  pub fragment : (d.painter.kind ≡ WALL) ⊎ (d.painter.kind ≡ MIDDLE) → (f : ListedFragment) × (slice_get list.fragments d.painter.number ≡ Some f) × (f.first ≤ d.x) × (d.x ≤ f.last)
  -- of a plane: the plane of that number, whose flat is the lump that is read
  pub plane : d.painter.kind ≡ PLANE → (p : ListedPlane) × (slice_get list.planes d.painter.number ≡ Some p) × (p.key.flat ≡ Lump d.painter.source)
  pub sky : d.painter.kind ≡ SKY → (p : ListedPlane) × (slice_get list.planes d.painter.number ≡ Some p) × (p.key.flat ≡ Sky)
  -- of a sprite: the sprite of that number, whose picture is the lump that is read
  pub sprite : d.painter.kind ≡ SPRITE → (s : ListedSprite) × (slice_get list.sprites d.painter.number ≡ Some s) × (s.first ≤ d.x) × (d.x ≤ s.last) × (s.lump ≡ d.painter.source)

-- The painter of a dot is of a kind that the list has: a wall, a plane, the sky, a middle texture or a sprite. Weapons are not in it.
abbrev pub IsOfListedKind : Dot → Type 0
IsOfListedKind d = (WALL ≤ d.painter.kind) × (d.painter.kind ≤ SPRITE)
