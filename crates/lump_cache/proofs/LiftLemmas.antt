-- A call of the cache whose fault a layer above tells as its own.
use Rattle.zone_rules.proofs.Common.{◌≡◌, ℕ, Result, Ok, Err, refl, sym, subst, ap, ◌∙◌, IsErrAnd, MatchResult, IfOk, OnOk, err_from_is_err_and}
use Rattle.lump_cache.specs.Rules.{Fault, Heap, ShelfView, fault_above, itself}
use Rattle.wad_dir.specs.DirectoryView.{DirectoryView}
use Rattle.lump_cache.specs.declared.fault.CacheFault.{CacheFault}
use Rattle.lump_cache.specs.declared.fault.CacheFault.TheVariants.{ZoneFull, ReadFault}
use Rattle.lump_cache.specs.{Caches.cache_fault, Caches.from_cache, Calls.ReadsLumps}
use Rattle.lump_cache.proofs.CallLemmas.{result_above, reads_above}

-- the cache refuses nothing, and its faults are the same above
no_refusal : {R : Type 0} → ⊥ → R
no_refusal none = absurd none

same_fault : {R : Type 0} (below : CacheFault) → from_cache {R = R} below ≡ fault_above no_refusal (cache_fault below)
same_fault (ZoneFull wanted widest') = refl
same_fault ReadFault = refl

-- what `map_err(CacheFault::above)` tells of its result
abbrev pub IsLifted : {B R : Type 0} → Result B CacheFault → Result B (Fault R) → Type 0
IsLifted fetched result = MatchResult fetched (λ x. result ≡ Ok x) (λ e. IsErrAnd result (λ f. f ≡ from_cache e))

ok_above : {B : Type 0} (R : Type 0) (P : B → Type 0) (fetched : Result B CacheFault) → IfOk fetched P → IfOk (result_above (from_cache {R = R}) fetched) P
ok_above R P (Ok x) p = p
ok_above R P (Err e) p = tt

on_above : {B : Type 0} (R P : Type 0) (fetched : Result B CacheFault) → OnOk fetched P → OnOk (result_above (from_cache {R = R}) fetched) P
on_above R P (Ok x) p = p
on_above R P (Err e) p = tt

module _ {B R : Type 0} where
  lifted_is : (fetched : Result B CacheFault) (result : Result B (Fault R)) → IsLifted fetched result → result ≡ result_above from_cache fetched
  lifted_is (Ok x) result is = is
  lifted_is (Err e) result is = let error_is = err_from_is_err_and result is in error_is.1 ∙ ap Err error_is.2

  -- what is told of the value, and after an Ok
  pub lifted_ok : (P : B → Type 0) (fetched : Result B CacheFault) (result : Result B (Fault R)) → IsLifted fetched result → IfOk fetched P → IfOk result P
  lifted_ok P fetched result is p = subst (λ (r : Result B (Fault R)). IfOk r P) (sym (lifted_is fetched result is)) (ok_above R P fetched p)

  pub lifted_on : (P : Type 0) (fetched : Result B CacheFault) (result : Result B (Fault R)) → IsLifted fetched result → OnOk fetched P → OnOk result P
  lifted_on P fetched result is p = subst (λ (r : Result B (Fault R)). OnOk r P) (sym (lifted_is fetched result is)) (on_above R P fetched p)

-- what is told of the call
pub lifted_reads : {A B R : Type 0} {v w : ShelfView} {dir : DirectoryView} {a b : Heap} {wants : ℕ → Type 0} {value : B → A} (expected : A) (fetched : Result B CacheFault) (result : Result B (Fault R)) → IsLifted fetched result →
    ReadsLumps cache_fault v w dir a b wants value (λ bytes. Ok expected) fetched → ReadsLumps itself v w dir a b wants value (λ bytes. Ok expected) result
lifted_reads {R} {v} {w} {dir} {a} {b} {wants} {value} expected fetched result is one =
    subst (ReadsLumps {R = R} itself v w dir a b wants value (λ bytes. Ok expected)) (sym (lifted_is fetched result is)) (reads_above no_refusal from_cache same_fault fetched one)
