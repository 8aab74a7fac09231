-- What the rows of a weapon table need, and the book of it.
use Rattle.std.specs.Prelude.{ℕ, ◌<◌, suc, List, [], ◌∷◌, length, All, Option, Some, None, Result, ⊤}
use Rattle.level_audit.specs.Rules.{AuditRefusal, BadPatch, Fault, Frame, Lump, MissingRotation, Need, NoFrame, SpriteRefusal, WeaponArt, WeaponRefusal, each_of, fault_above, first_needs, frame_of, from_below}
use Rattle.csv_tables.specs.declared.weapons.WeaponRow.{WeaponRow}
use Rattle.art_rules.specs.declared.refusal.SpriteRefusal.TheVariants as sprite

-- the frame of a row, which is told by its number
unfoldable pub need_of_row : ℕ → WeaponRow → Need
need_of_row number row = record { thing = number; sprite = row.sprite; frame = row.frame }

-- those of all rows from a number on; the first row has number 1
unfoldable pub needs_from : ℕ → List WeaponRow → List Need
needs_from number [] = []
needs_from number (row ∷ rows) = need_of_row number row ∷ needs_from (suc number) rows

unfoldable pub weapon_needs : List WeaponRow → List Need
weapon_needs rows = needs_from 1 rows

-- a refusal of the book, by the number of the row
abbrev pub weapon_refusal : SpriteRefusal → WeaponRefusal
weapon_refusal (sprite.NoFrame thing) = NoFrame thing
weapon_refusal (sprite.MissingRotation thing rotation) = MissingRotation thing rotation
weapon_refusal (sprite.BadPatch lump) = BadPatch lump

-- a refusal of the book is one of the weapons' art
abbrev pub weapon_art : SpriteRefusal → AuditRefusal
weapon_art refusal = WeaponArt (weapon_refusal refusal)

abbrev pub weapon_fault : Fault SpriteRefusal → Fault AuditRefusal
weapon_fault = fault_above weapon_art

-- the pictures of a book, if there is one, are lumps of the directory
abbrev pub AreThere : List Lump → Option (List Frame) → Type 0
AreThere lumps None = ⊤
AreThere lumps (Some book) = All (λ frame. All (λ shape. shape.lump.0 < length lumps) frame.shapes) book

-- the book of the rows' frames, refused for the first row that lacks something
unfoldable pub weapon_book : (ℕ → List ℕ) → List Lump → List WeaponRow → Result (List Frame) WeaponRefusal
weapon_book bytes lumps rows = from_below weapon_refusal (each_of (frame_of bytes lumps) (first_needs (weapon_needs rows)))
