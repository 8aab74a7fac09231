-- A lump of a map that was fetched, and what adding it to a builder comes to.
use Rattle.level_scene.specs.Rules.{Fault, Heap, MapLump, MapRefusal, ShelfView, itself, lump_bytes, size_refusal, unless}
use Rattle.art_rules.proofs.Common.{ap, Err, err_from_is_err_and, IsErrAnd, List, MatchResult, None, Ok, OnOk, Option, refl, Result, Some, sym, ℕ, ◌↔◌, ◌∙◌, ◌≡◌}
use Rattle.lump_cache.specs.{DirectoryView.DirectoryView, Calls.ReadsLumps, Calls.HoldContents}
use Rattle.map_lumps.specs.declared.fault.MapFault.{MapFault}
use Rattle.map_lumps.specs.declared.fault.MapFault.TheVariants.{Refused, OutOfMemory}
use Rattle.map_lumps.specs.Builders.{BuilderValue, with_lump}
use Rattle.lump_cache.proofs.CallLemmas.{reads_same}
use Rattle.level_scene.specs.{Faults.map_fault, Lumps.lump_added}

-- two ways to tell an owner's bytes
pub same_bytes : (found : Option (List ℕ)) (live bytes : List ℕ) → found ≡ Some live → found ≡ Some bytes → live ≡ bytes
same_bytes found live bytes e k = cc

none_refused : {R : Type 0} (refusal : Option R) → ((r : R) → refusal ≡ Some r → ⊥) → refusal ≡ None
none_refused None h = refl
none_refused (Some r) h = absurd (h r refl)

-- the lump is not too large, or is
added_of_small : (b : BuilderValue) (lump : MapLump) (bytes : List ℕ) → size_refusal lump bytes ≡ None → lump_added b lump bytes ≡ Ok (with_lump b lump bytes)
unfolding lump_added unless
added_of_small b lump bytes e = rw e refl

added_of_large : (b : BuilderValue) (lump : MapLump) (bytes : List ℕ) (refusal : MapRefusal) → size_refusal lump bytes ≡ Some refusal → lump_added b lump bytes ≡ Err refusal
unfolding lump_added unless
added_of_large b lump bytes refusal e = rw e refl

module _ {v w : ShelfView} {dir : DirectoryView} {a b : Heap} (lump : MapLump) (old new : BuilderValue) (number : ℕ) (live : List ℕ)
    (fetched : ReadsLumps {R = MapRefusal} itself v w dir a b (λ n. n ≡ number) (λ (done : Unit {0}). done) (λ bytes. Ok tt) (Ok tt)) (known : (contents : List (List ℕ)) → HoldContents v dir a contents → live ≡ lump_bytes contents dir.lumps number)
    (r : Result (Unit {0}) MapFault) (sizes : (refusal : MapRefusal) → (r ≡ Err (Refused refusal)) ↔ (size_refusal lump live ≡ Some refusal)) where
  -- the lump was added
  pub add_passed : r ≡ Ok tt → new ≡ with_lump old lump live → ReadsLumps itself v w dir a b (λ n. n ≡ number) (λ (done : Unit {0}). new) (λ bytes. lump_added old lump (bytes number)) (Ok tt)
  add_passed was is =
      let size_not_refused = none_refused (size_refusal lump live) (λ refusal e. let result_is_refusal = (sizes refusal).1 e in cc) in
      record {
        keeps = fetched.keeps;
        answers = λ contents t. record { ok = ap (lump_added old lump) (sym (known contents t)) ∙ added_of_small old lump live size_not_refused ∙ ap Ok (sym is); err = tt };
        causes = record { ok = fetched.causes.ok; err = tt };
        full = tt;
        order = fetched.order;
      }

  -- it was not
  stopped : (fault : MapFault) → r ≡ Err fault → ReadsLumps itself v w dir a b (λ n. n ≡ number) (λ (done : Unit {0}). new) (λ bytes. lump_added old lump (bytes number)) (Err (map_fault fault))
  stopped (Refused refusal) was = record {
    keeps = fetched.keeps;
    answers = λ contents t. record { ok = tt; err = ap (lump_added old lump) (sym (known contents t)) ∙ added_of_large old lump live refusal ((sizes refusal).0 was) };
    causes = record { ok = tt; err = fetched.causes.ok };
    full = tt;
    order = fetched.order;
  }
  stopped OutOfMemory was = record {
    keeps = fetched.keeps;
    answers = λ contents t. record { ok = tt; err = tt };
    causes = record { ok = tt; err = fetched.causes.ok };
    full = tt;
    order = fetched.order;
  }

  pub add_stopped : (fault : MapFault) (result : Result (Unit {0}) (Fault MapRefusal)) → r ≡ Err fault → IsErrAnd result (λ e. e ≡ map_fault fault) → ReadsLumps itself v w dir a b (λ n. n ≡ number) (λ (done : Unit {0}). new) (λ bytes. lump_added old lump (bytes number)) result
  add_stopped fault result was is = reads_same result (map_fault fault) (λ bytes. lump_added old lump (bytes number)) is (stopped fault was)

  pub add_done : (result : Result (Unit {0}) (Fault MapRefusal)) → MatchResult r (λ x. result ≡ Ok x) (λ e. IsErrAnd result (λ f. f ≡ map_fault e)) → OnOk r (new ≡ with_lump old lump live) →
      ReadsLumps itself v w dir a b (λ n. n ≡ number) (λ (done : Unit {0}). new) (λ bytes. lump_added old lump (bytes number)) result
  add_done result is ok = go r refl is ok where
    go : (s : Result (Unit {0}) MapFault) → r ≡ s → MatchResult s (λ x. result ≡ Ok x) (λ e. IsErrAnd result (λ f. f ≡ map_fault e)) → OnOk s (new ≡ with_lump old lump live) →
        ReadsLumps itself v w dir a b (λ n. n ≡ number) (λ (done : Unit {0}). new) (λ bytes. lump_added old lump (bytes number)) result
    go (Ok tt) was e k = rw e (add_passed was k)
    go (Err fault) was e k = add_stopped fault result was e

-- a part of a builder that was changed
pub added_done : {X : Type 0} (part : BuilderValue → X) (old new : BuilderValue) (r : Result (Unit {0}) MapFault) (result : Result (Unit {0}) (Fault MapRefusal)) →
    MatchResult r (λ x. result ≡ Ok x) (λ e. IsErrAnd result (λ f. f ≡ map_fault e)) → OnOk r (new ≡ old) → OnOk result (part new ≡ part old)
added_done part old new (Ok done) result is e = rw is (ap part e)
added_done part old new (Err fault) result is e = let result_is_error = err_from_is_err_and result is in rw result_is_error.1 tt

-- what holds after any answer
pub fits_done : {P : Type 0} (result : Result (Unit {0}) (Fault MapRefusal)) → P → OnOk result P
fits_done (Ok done) p = p
fits_done (Err fault) p = tt
