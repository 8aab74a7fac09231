-- The order in which sprites are drawn: by scale, the least first, equal ones in order of making (R_SortVisSprites, r_things.c).
use Rattle.std.specs.Prelude.{int_lt, int_le, cond, Bool, List, [], ◌∷◌}
use Rattle.picture_rules.specs.declared.sprite.SpriteEntry.{SpriteEntry}

-- e before the first of the entries that is not smaller
unfoldable pub insert_entry : SpriteEntry → List SpriteEntry → List SpriteEntry
insert_entry e [] = e ∷ []
insert_entry e (f ∷ fs) = cond (int_le e.scale f.scale) (e ∷ (f ∷ fs)) (f ∷ insert_entry e fs)

unfoldable pub draw_order : List SpriteEntry → List SpriteEntry
draw_order [] = []
draw_order (e ∷ es) = insert_entry e (draw_order es)

-- a smaller sprite is drawn earlier
unfoldable pub is_smaller : SpriteEntry → SpriteEntry → Bool
is_smaller e f = int_lt e.scale f.scale

-- e before the first of the entries that is greater: where the entry that was made last goes
unfoldable pub insert_last : SpriteEntry → List SpriteEntry → List SpriteEntry
insert_last e [] = e ∷ []
insert_last e (f ∷ fs) = cond (is_smaller e f) (e ∷ (f ∷ fs)) (f ∷ insert_last e fs)
