-- What a fetched lump is, as a patch.
use Rattle.art_rules.proofs.Common.{ap, cases_eq, Err, get_or, get_or-set_other, get_or-set_same, IfSome, inl, inr, IsErrAnd, length, length-set, List, None, Ok, ok_or, Option, refl, Result, slice_index_or, Some, subst, sym, ℕ, ◌<◌, ◌∙◌, ◌≡◌, ◌⊎◌, set}
use Rattle.sprite_book.specs.Rules.{BadPatch, Fault, Patch, Refused, ShelfView, SpriteRefusal, itself, lump_bytes, patch_of, patch_or_bad}
use Rattle.lump_cache.specs.{Zones.Heap, DirectoryView.DirectoryView}
use Rattle.lump_cache.specs.Calls.{ReadsLumps, HoldContents}
use Rattle.lump_cache.proofs.CallLemmas.{reads_stop_first, reads_then_found, reads_then_refused}
use Rattle.sprite_book.specs.Calls.{Reads, ArePatchesOf}

patch_is : (bytes : ℕ → List ℕ) (lump : ℕ) (patch : Patch) → patch_of (bytes lump) ≡ Some patch → patch_or_bad bytes lump ≡ Ok patch
unfolding patch_or_bad
patch_is bytes lump patch e = rw e refl

patch_bad : (bytes : ℕ → List ℕ) (lump : ℕ) → patch_of (bytes lump) ≡ None → patch_or_bad bytes lump ≡ Err (BadPatch lump)
unfolding patch_or_bad
patch_bad bytes lump e = rw e refl

found_patch : (o : Option Patch) (e : SpriteRefusal) (patch : Patch) → ok_or o e ≡ Ok patch → o ≡ Some patch
found_patch None e patch h = cc
found_patch (Some x) e patch h = let patch_same : x ≡ patch = cc in ap Some patch_same

patch_was : (bytes : ℕ → List ℕ) (lump : ℕ) (patch : Patch) → patch_or_bad bytes lump ≡ Ok patch → patch_of (bytes lump) ≡ Some patch
unfolding patch_or_bad
patch_was bytes lump patch e = found_patch (patch_of (bytes lump)) (BadPatch lump) patch e

module _ {view after : ShelfView} {dir : DirectoryView} {old new : Heap} (lump : ℕ) where
  -- the lump was not fetched
  pub fetch_stopped : (fetched : Result (Unit {0}) (Fault SpriteRefusal)) (fault : Fault SpriteRefusal) (result : Result Patch (Fault SpriteRefusal)) →
      ReadsLumps itself view after dir old new (λ n. n ≡ lump) (λ (done : Unit {0}). done) (λ bytes. Ok tt) fetched →
      fetched ≡ Err fault → IsErrAnd result (λ e. e ≡ fault) → ReadsLumps itself view after dir old new (λ n. n ≡ lump) (λ (patch : Patch). patch) (λ bytes. patch_or_bad bytes lump) result
  fetch_stopped fetched fault result one was is =
      reads_stop_first (λ bytes. patch_or_bad bytes lump) fetched fault result one was is (λ n same. same) (λ bytes e stopped. absurd (cc))

  -- the lump was fetched, and is judged by its bytes
  module _ (one : ReadsLumps {R = SpriteRefusal} itself view after dir old new (λ n. n ≡ lump) (λ (done : Unit {0}). done) (λ bytes. Ok tt) (Ok tt)) (live : Option Patch) (judged : (contents : List (List ℕ)) → HoldContents view dir old contents → live ≡ patch_of (lump_bytes contents dir.lumps lump)) where
    pub fetch_found : (patch : Patch) → live ≡ Some patch → ReadsLumps itself view after dir old new (λ n. n ≡ lump) (λ (patch : Patch). patch) (λ bytes. patch_or_bad bytes lump) (Ok patch)
    fetch_found patch is =
        reads_then_found patch (λ n same. same) one
        (λ contents told done. patch_is (lump_bytes contents dir.lumps) lump patch (sym (judged contents told) ∙ is))

    pub fetch_bad : (number : ℕ) → number ≡ lump → live ≡ None → ReadsLumps itself view after dir old new (λ n. n ≡ lump) (λ (patch : Patch). patch) (λ bytes. patch_or_bad bytes lump) (Err (Refused (BadPatch number)))
    fetch_bad number e is =
        reads_then_refused (Refused (BadPatch number)) (BadPatch number) refl (λ n same. same) one
        (λ contents told done. patch_bad (lump_bytes contents dir.lumps) lump (sym (judged contents told) ∙ is) ∙ ap (λ n. Err (BadPatch n)) (sym e))

-- the lump was read before
pub read_before : (bytes : ℕ → List ℕ) (patches : List (Option Patch)) (lump : ℕ) (patch : Patch) → ArePatchesOf bytes patches → slice_index_or patches lump None ≡ Some patch → patch_or_bad bytes lump ≡ Ok patch
read_before bytes patches lump patch are is = let lump_is_patch : patch_of (bytes lump) ≡ Some patch =
    subst (λ x. IfSome x (λ p. patch_of (bytes lump) ≡ Some p)) is (are.at lump) in patch_is bytes lump patch lump_is_patch

-- the lump is read now
set_read : (bytes : ℕ → List ℕ) (patches : List (Option Patch)) (lump : ℕ) (patch : Patch) → lump < length patches → ArePatchesOf bytes patches → patch_of (bytes lump) ≡ Some patch → ArePatchesOf bytes (set patches lump (Some patch))
set_read bytes patches lump patch lt are is = record { at = λ n. go n (cases_eq n lump) } where
  go : (n : ℕ) → (n ≡ lump) ⊎ (n ≡ lump → ⊥) → IfSome (get_or (set patches lump (Some patch)) n None) (λ p. patch_of (bytes n) ≡ Some p)
  go n (inl e) =
      let patch_is_kept : IfSome (get_or (set patches lump (Some patch)) lump None) (λ p. patch_of (bytes lump) ≡ Some p) = subst (λ x. IfSome x (λ p. patch_of (bytes lump) ≡ Some p)) (sym (get_or-set_same patches lump (Some patch) None lt)) is in
      subst (λ m. IfSome (get_or (set patches lump (Some patch)) m None) (λ p. patch_of (bytes m) ≡ Some p)) (sym e) patch_is_kept
  go n (inr h) = subst (λ x. IfSome x (λ p. patch_of (bytes n) ≡ Some p)) (sym (get_or-set_other patches lump n (Some patch) None h)) (are.at n)

-- what was read is kept
pub read_kept : {view after : ShelfView} {dir : DirectoryView} {old new : Heap} {wants : ℕ → Type 0} (patches : List (Option Patch)) (lump : ℕ) (patch : Patch) → lump < length patches →
    ReadsLumps itself view after dir old new wants (λ (patch : Patch). patch) (λ bytes. patch_or_bad bytes lump) (Ok patch) →
    Reads view after dir old new patches (set patches lump (Some patch)) wants (λ (patch : Patch). patch) (λ bytes. patch_or_bad bytes lump) (Ok patch)
read_kept {dir} patches lump patch lt one = record {
  keeps = one.keeps;
  read = λ contents told. set_read (lump_bytes contents dir.lumps) patches lump patch lt told.read (patch_was (lump_bytes contents dir.lumps) lump patch (one.answers contents told.hold).ok);
  count = length-set patches lump (Some patch);
  answers = λ contents told. one.answers contents told.hold;
  causes = one.causes;
  full = one.full;
  order = one.order;
}
