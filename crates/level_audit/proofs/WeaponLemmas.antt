-- What rows of weapon layers need, one row at a time, and faults of their book in the words of an audit.
use Rattle.std.proofs.Common.{◌≡◌, ℕ, zero, suc, ◌+◌, ◌<◌, List, [], ◌∷◌, ◌++◌, length, get_or, take, Result, Ok, Err, refl, sym, subst, ap, ◌∙◌, arith}
use Rattle.level_audit.specs.Rules.{Fault, Frame, Heap, Lump, Need, ShelfView, SpriteRefusal, WeaponArt, each_of, first_needs, frame_of, from_below, itself}
use Rattle.texture_build.specs.{DirectoryView.DirectoryView, Calls.ReadsLumps}
use Rattle.texture_build.proofs.CallLemmas.{result_above, reads_above, reads_wider}
use Rattle.csv_tables.specs.declared.weapons.WeaponRow.{WeaponRow}
use Rattle.sprite_book.specs.Calls.{IsWanted}
use Rattle.level_audit.specs.Weapons.{need_of_row, needs_from, weapon_art, weapon_book, weapon_fault, weapon_needs, weapon_refusal}

-- the needs of one row more
needs_more : (number : ℕ) (rows : List WeaponRow) (i : ℕ) (d : WeaponRow) → i < length rows → needs_from number (take (i + 1) rows) ≡ needs_from number (take i rows) ++ need_of_row (i + number) (get_or rows i d) ∷ []
unfolding needs_from
needs_more number [] i d l = absurd (omega arith)
needs_more number (row ∷ rows) zero d l = let number_same : number ≡ 0 + number = omega arith in ap (λ (n : ℕ). need_of_row n row ∷ []) number_same
needs_more number (row ∷ rows) (suc i) d l =
    let next_index_is : suc i + 1 ≡ suc (i + 1) = omega arith in
    let numbers_add_up : i + suc number ≡ suc i + number = omega arith in
    rw next_index_is (ap (◌∷◌ (need_of_row number row)) (needs_more (suc number) rows i d (omega arith) ∙ ap (λ (n : ℕ). needs_from (suc number) (take i rows) ++ need_of_row n (get_or rows i d) ∷ []) numbers_add_up))

-- of no row
pub needs_none : (rows : List WeaponRow) → [] ≡ weapon_needs (take 0 rows)
unfolding weapon_needs needs_from
needs_none rows = refl

-- of the rows so far, and of one more
pub needs_step : (rows : List WeaponRow) (i : ℕ) (d : WeaponRow) (before after : List Need) (need : Need) → i < length rows → before ≡ weapon_needs (take i rows) → need ≡ need_of_row (i + 1) (get_or rows i d) → after ≡ before ++ need ∷ [] → after ≡ weapon_needs (take (i + 1) rows)
unfolding weapon_needs
needs_step rows i d before after need l is at then =
    then ∙ ap (λ (needs : List Need). needs ++ need ∷ []) is ∙ ap (λ (n : Need). needs_from 1 (take i rows) ++ n ∷ []) at ∙ sym (needs_more 1 rows i d l)

-- refusals of two layers below
below_twice : {A P Q R : Type 0} (f : Q → R) (g : P → Q) (result : Result A P) → from_below (λ e. f (g e)) result ≡ from_below f (from_below g result)
below_twice f g (Ok found) = refl
below_twice f g (Err e) = refl

-- the book of the rows, with its refusals in the words of an audit
book_above : (bytes : ℕ → List ℕ) (lumps : List Lump) (rows : List WeaponRow) (needs : List Need) → needs ≡ weapon_needs rows →
    from_below weapon_art (each_of (frame_of bytes lumps) (first_needs needs)) ≡ from_below WeaponArt (weapon_book bytes lumps rows)
unfolding weapon_book
book_above bytes lumps rows needs same =
    ap (λ (xs : List Need). from_below weapon_art (each_of (frame_of bytes lumps) (first_needs xs))) same
    ∙ below_twice WeaponArt weapon_refusal (each_of (frame_of bytes lumps) (first_needs (weapon_needs rows)))

-- what is told of the book, in the words of an audit
pub weapons_above : {v w : ShelfView} {dir : DirectoryView} {a b : Heap} (rows : List WeaponRow) (needs : List Need) (result : Result (List Frame) (Fault SpriteRefusal)) → needs ≡ weapon_needs rows →
    ReadsLumps itself v w dir a b (IsWanted dir.lumps needs) (λ book. book) (λ bytes. each_of (frame_of bytes dir.lumps) (first_needs needs)) result →
    ReadsLumps itself v w dir a b (IsWanted dir.lumps (weapon_needs rows)) (λ book. book) (λ bytes. from_below WeaponArt (weapon_book bytes dir.lumps rows)) (result_above weapon_fault result)
weapons_above {dir} rows needs result same told =
    reads_wider (result_above weapon_fault result) (λ lump wanted. subst (λ (xs : List Need). IsWanted dir.lumps xs lump) same wanted) (λ bytes. book_above bytes dir.lumps rows needs same)
    (reads_above weapon_art weapon_fault (λ fault. refl) result told)
