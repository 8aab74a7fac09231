-- What is told of a call that failed, where the zone is in order for all that is asked for.
use Rattle.art_rules.proofs.Common.{ap, Err, err_from_is_err_and, IsErrAnd, MatchResult, Result, subst, sym, ◌∙◌, ◌≡◌}
use Rattle.art_rules.specs.Words.{Fault, itself, OutOfMemory, ReadFault, Refused, ZoneFull}
use Rattle.texture_build.specs.Calls.{IfFull, InOrderAt}
use Rattle.texture_build.proofs.CallLemmas.{order_at}
use Rattle.job_files.specs.Files.{IsNeverFull}

never_full : {R : Type 0} (P : Type 0) (fault : Fault R) → IfFull fault (λ wanted widest'. ⊥) → P → InOrderAt fault P
never_full P (Refused refusal) none p = p
never_full P ReadFault none p = tt
never_full P (ZoneFull wanted widest') none p = none
never_full P OutOfMemory none p = p

module _ {B R : Type 0} (Q : B → Type 0) (P : Type 0) where
  -- the fault that is returned has it
  returned : (fault : Fault R) (result : Result B (Fault R)) → IsErrAnd result (λ e. e ≡ fault) → InOrderAt (itself fault) P → MatchResult result Q (λ f. InOrderAt (itself f) P)
  returned fault result is p =
      let error_is = err_from_is_err_and result is in
      subst (λ (y : Result B (Fault R)). MatchResult y Q (λ f. InOrderAt (itself f) P)) (sym (error_is.1 ∙ ap Err error_is.2)) p

  -- a call over the cache stopped
  pub call_order : {D : Type 0} (K : Type 0) (r : Result D (Fault R)) (fault : Fault R) (result : Result B (Fault R)) → MatchResult r (λ _. K) (λ f. InOrderAt (itself f) K) → r ≡ Err fault → IsErrAnd result (λ e. e ≡ fault) → (K → P) →
      MatchResult result Q (λ f. InOrderAt (itself f) P)
  call_order {D} K r fault result order was is then =
      returned fault result is (order_at (itself fault) then (subst (λ (y : Result D (Fault R)). MatchResult y (λ _. K) (λ f. InOrderAt (itself f) K)) was order))

  -- a call that puts nothing into the zone stopped
  pub files_order : {D : Type 0} (r : Result D (Fault R)) (fault : Fault R) (result : Result B (Fault R)) → IsNeverFull r → r ≡ Err fault → IsErrAnd result (λ e. e ≡ fault) → P → MatchResult result Q (λ f. InOrderAt (itself f) P)
  files_order {D} r fault result never was is p = returned fault result is (never_full P fault (subst (λ (y : Result D (Fault R)). IsNeverFull y) was never) p)

  -- memory ran out
  pub memory_order : (fault : Fault R) (result : Result B (Fault R)) → itself fault ≡ OutOfMemory → IsErrAnd result (λ e. e ≡ fault) → P → MatchResult result Q (λ f. InOrderAt (itself f) P)
  memory_order fault result tells is p = returned fault result is (subst (λ (f : Fault R). InOrderAt f P) (sym tells) p)
