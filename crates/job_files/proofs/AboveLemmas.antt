-- What is known of a call whose fault is named as the layer above names it.
use Rattle.picture_rules.proofs.Common.{Bool, Err, err_from_is_err_and, IfErr, MatchResult, Ok, refl, Result, ℕ, ◌≡◌}
use Rattle.art_rules.specs.Words.{Fault, fault_above, from_below, HasCauseAt, HasCauses, itself, OutOfMemory, ReadFault, Refused, ResultIs, ZoneFull}
use Rattle.art_rules.proofs.Laws.{IsThrough, cause_above, last_stop}
use Rattle.lump_cache.specs.Calls.{IfFull, InOrderAt}

full_above : {R Q : Type 0} (lift : R → Q) (P : ℕ → ℕ → Type 0) (fault : Fault R) → IfFull fault P → IfFull (fault_above lift fault) P
full_above lift P (Refused reason) h = tt
full_above lift P ReadFault h = tt
full_above lift P (ZoneFull wanted widest) h = h
full_above lift P OutOfMemory h = tt

order_above : {R Q : Type 0} (lift : R → Q) (P : Type 0) (fault : Fault R) → InOrderAt fault P → InOrderAt (fault_above lift fault) P
order_above lift P (Refused reason) h = h
order_above lift P ReadFault h = tt
order_above lift P (ZoneFull wanted widest) h = h
order_above lift P OutOfMemory h = h

module _ {B R Q E : Type 0} (fault_of : E → Fault R) (lift : R → Q) where
  -- the value is the same, and each fault is named as above
  abbrev pub IsNamedAbove : Result B E → Result B (Fault Q) → Type 0
  IsNamedAbove one result = IsThrough (λ below above. above ≡ fault_above lift (fault_of below)) one result

  -- the steps are those below
  pub answers_above : {A : Type 0} {steady : Bool} {value : B → A} (expected : Result A R) (one : Result B E) (result : Result B (Fault Q)) →
      IsNamedAbove one result → ResultIs fault_of steady value expected one → ResultIs itself steady value (from_below lift expected) result
  answers_above expected (Ok x) result is answers = rw is (record { ok = rw answers.ok refl; err = tt })
  answers_above expected (Err fault) result is answers =
      last_stop lift (λ below. fault_above lift (fault_of below)) (λ below. refl) fault result answers refl is

  -- a read that failed has its cause
  pub causes_above : {before now : ℕ} (one : Result B E) (result : Result B (Fault Q)) → IsNamedAbove one result → HasCauses fault_of before now one → HasCauses itself before now result
  causes_above (Ok x) result is causes = rw is (record { ok = causes.ok; err = tt })
  causes_above {before} {now} (Err fault) result is causes =
      let result_is_error = err_from_is_err_and result is in
      let fault_has_cause : HasCauseAt before now (itself result_is_error.0) = rw result_is_error.2 (cause_above lift before now (fault_of fault) causes.err) in
      rw result_is_error.1 (record { ok = tt; err = fault_has_cause })

  -- what is said of a full zone
  pub fulls_above : (P : ℕ → ℕ → Type 0) (one : Result B E) (result : Result B (Fault Q)) → IsNamedAbove one result → IfErr one (λ fault. IfFull (fault_of fault) P) → IfErr result (λ fault. IfFull (itself fault) P)
  fulls_above P (Ok x) result is full = rw is tt
  fulls_above P (Err fault) result is full =
      let result_is_error = err_from_is_err_and result is in
      let tells_of_full_zone : IfFull (itself result_is_error.0) P = rw result_is_error.2 (full_above lift P (fault_of fault) full) in
      rw result_is_error.1 tells_of_full_zone

  -- what is said of a zone in order
  pub orders_above : (P : Type 0) (one : Result B E) (result : Result B (Fault Q)) → IsNamedAbove one result → MatchResult one (λ _. P) (λ fault. InOrderAt (fault_of fault) P) → MatchResult result (λ _. P) (λ fault. InOrderAt (itself fault) P)
  orders_above P (Ok x) result is order = rw is order
  orders_above P (Err fault) result is order =
      let result_is_error = err_from_is_err_and result is in
      let fault_in_order : InOrderAt (itself result_is_error.0) P = rw result_is_error.2 (order_above lift P (fault_of fault) order) in
      rw result_is_error.1 fault_in_order
