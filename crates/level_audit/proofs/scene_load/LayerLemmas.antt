-- What is told of the pictures of weapon layers.
use Rattle.std.proofs.Common.{◌≡◌, ℕ, List, Option, Some, None, Result, Ok, Err, refl, IsErrAnd}
use Rattle.level_audit.specs.Rules.{AuditRefusal, Fault, Frame, Heap, Lump, ShelfView, WeaponArt, from_below, itself}
use Rattle.texture_build.specs.{DirectoryView.DirectoryView, Calls.ReadsLumps}
use Rattle.csv_tables.specs.declared.weapons.WeaponRow.{WeaponRow}
use Rattle.texture_build.proofs.CallLemmas.{reads_as, reads_known, reads_stop_first}
use Rattle.sprite_book.specs.Calls.{IsWanted}
use Rattle.level_audit.specs.Weapons.{weapon_book, weapon_needs}
use Rattle.level_audit.specs.{scene_load.Fulls.IsOfLayers, scene_load.Loads.weapons_of}

module _ (bytes : ℕ → List ℕ) (lumps : List Lump) (weapons : Option (List WeaponRow)) where
  -- without a file of layers there is no book
  none_named : weapons ≡ None → weapons_of bytes lumps weapons ≡ Ok None
  unfolding weapons_of
  none_named is = rw is refl

  -- the refusal of the book is that of the layers
  book_refused : (rows : List WeaponRow) (refusal : AuditRefusal) → weapons ≡ Some rows → from_below WeaponArt (weapon_book bytes lumps rows) ≡ Err refusal → weapons_of bytes lumps weapons ≡ Err refusal
  unfolding weapons_of
  book_refused rows refusal is stopped = rw (is, stopped) refl

  -- the book is theirs
  book_accepted : (rows : List WeaponRow) (book : List Frame) → weapons ≡ Some rows → from_below WeaponArt (weapon_book bytes lumps rows) ≡ Ok book → weapons_of bytes lumps weapons ≡ Ok (Some book)
  unfolding weapons_of
  book_accepted rows book is made = rw (is, made) refl

module _ {v : ShelfView} {dir : DirectoryView} {a : Heap} (weapons : Option (List WeaponRow)) where
  -- no file of layers is named
  pub layers_none : weapons ≡ None → ReadsLumps itself v v dir a a (IsOfLayers dir.lumps weapons) (λ (book : Option (List Frame)). book) (λ bytes. weapons_of bytes dir.lumps weapons) (Ok None)
  layers_none is = reads_known v dir a None (λ contents told. none_named _ dir.lumps weapons is)

  module _ {w : ShelfView} {b : Heap} (rows : List WeaponRow) (is : weapons ≡ Some rows) where
    -- their book was not made
    pub book_stopped : (one : Result (List Frame) (Fault AuditRefusal)) (fault : (Fault AuditRefusal)) (result : Result (Option (List Frame)) (Fault AuditRefusal)) →
        ReadsLumps itself v w dir a b (IsWanted dir.lumps (weapon_needs rows)) (λ (book : List Frame). book) (λ bytes. from_below WeaponArt (weapon_book bytes dir.lumps rows)) one → one ≡ Err fault → IsErrAnd result (λ e. e ≡ fault) →
        ReadsLumps itself v w dir a b (IsOfLayers dir.lumps weapons) (λ (book : Option (List Frame)). book) (λ bytes. weapons_of bytes dir.lumps weapons) result
    book_stopped one fault result tells was ends =
        reads_stop_first (λ bytes. weapons_of bytes dir.lumps weapons) one fault result tells was ends (λ lump asked. (rows, is, asked))
        (λ bytes refusal stopped. book_refused bytes dir.lumps weapons rows refusal is stopped)

    -- it was
    pub book_made : (book : List Frame) →
        ReadsLumps itself v w dir a b (IsWanted dir.lumps (weapon_needs rows)) (λ (book : List Frame). book) (λ bytes. from_below WeaponArt (weapon_book bytes dir.lumps rows)) (Ok book) →
        ReadsLumps itself v w dir a b (IsOfLayers dir.lumps weapons) (λ (book : Option (List Frame)). book) (λ bytes. weapons_of bytes dir.lumps weapons) (Ok (Some book))
    book_made book tells = reads_as book (Some book) tells (λ lump asked. (rows, is, asked)) (λ bytes made. book_accepted bytes dir.lumps weapons rows book is made)
