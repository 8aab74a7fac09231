use Rattle.art_rules.proofs.Common.{Contains, List, map, subst, sym, ℕ, ◌↔◌}
use Rattle.sprite_book.specs.Rules.{Frame, LumpNo, book_lumps}
use Rattle.sprite_book.proofs.book.SpriteBook.pictures.Goals as goal

pub returns-clause-lumps : goal.returns-clause-lumps
returns-clause-lumps c = let has_book_lumps : List LumpNo → List Frame → Type 0 =
    λ v f. (lump : ℕ) → Contains (map (λ (l : LumpNo). l.0) v) lump ↔ Contains (book_lumps f) lump in subst (has_book_lumps c.deref.result.now) c.self.view_is
    (subst (λ v. has_book_lumps v c.self.inside.list.frames.items) (sym c.deref.ensures.value) c.self.invariant.1.lumps)
