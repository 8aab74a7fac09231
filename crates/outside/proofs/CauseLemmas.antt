-- The count of faults over one call and another, and over steps that read nothing.
use Rattle.std.proofs.Common.{◌≡◌, ℕ, Result, Ok, Err, IsErrAnd, IfErr, OnOk, refl, sym, subst, ap, ◌∙◌}
use Rattle.std.proofs.lemmas.Result.{err_from_is_err_and}
use Rattle.outside.specs.{declared.fault.Fault.Fault}
use Rattle.outside.specs.declared.fault.Fault.TheVariants.{Refused, ReadFault, ZoneFull, OutOfMemory}
use Rattle.outside.specs.Faults.{HasCauseAt, HasCauses, fault_above}

-- a fault that is none of a read leaves the count as it was
pub cause_none : {R : Type 0} (n : ℕ) (fault : Fault R) → (fault ≡ ReadFault → ⊥) → HasCauseAt n n fault
cause_none n (Refused reason) other = refl
cause_none n ReadFault other = absurd (other refl)
cause_none n (ZoneFull wanted widest) other = refl
cause_none n OutOfMemory other = refl

-- where the count is as it was before the first call, the second call's cause is that of both
pub cause_then : {R : Type 0} {a b : ℕ} (c : ℕ) (fault : Fault R) → b ≡ a → HasCauseAt b c fault → HasCauseAt a c fault
cause_then c fault same cause = subst (λ n. HasCauseAt n c fault) same cause

-- the same fault of the layer above
pub cause_above : {R Q : Type 0} (lift : R → Q) (before now : ℕ) (fault : Fault R) → HasCauseAt before now fault → HasCauseAt before now (fault_above lift fault)
cause_above lift before now (Refused reason) cause = cause
cause_above lift before now ReadFault cause = cause
cause_above lift before now (ZoneFull wanted widest) cause = cause
cause_above lift before now OutOfMemory cause = cause

-- what the count says of a fault, where the fault is known
pub cause_refused : {R : Type 0} {before now : ℕ} (fault : Fault R) (reason : R) → fault ≡ Refused reason → now ≡ before → HasCauseAt before now fault
cause_refused fault reason is same = rw is same

pub cause_memory : {R : Type 0} {before now : ℕ} (fault : Fault R) → fault ≡ OutOfMemory → now ≡ before → HasCauseAt before now fault
cause_memory fault is same = rw is same

module _ {B R E : Type 0} {fault_of : E → Fault R} where
  -- after a call that ended well, the count is as it was
  pub causes_settled : {a b : ℕ} {result : Result B E} (answer : B) → HasCauses fault_of a b result → result ≡ Ok answer → b ≡ a
  causes_settled {a} {b} {result} answer causes was = subst (λ (r : Result B E). OnOk r (b ≡ a)) was causes.ok

  -- nothing was read
  pub causes_ok : {a b : ℕ} (answer : B) → b ≡ a → HasCauses fault_of a b (Ok answer)
  causes_ok answer same = record { ok = same; err = tt }

  pub causes_memory : {a b : ℕ} (fault : E) (result : Result B E) → fault_of fault ≡ OutOfMemory → IsErrAnd result (λ e. e ≡ fault) → b ≡ a → HasCauses fault_of a b result
  causes_memory {a} {b} fault result is tells same =
      let error_is = err_from_is_err_and result tells in
      subst (HasCauses fault_of a b) (sym (error_is.1 ∙ ap Err error_is.2)) (record { ok = tt; err = cause_memory (fault_of fault) is same })

  pub causes_refused : {a b : ℕ} (fault : E) (reason : R) (result : Result B E) → fault_of fault ≡ Refused reason → IsErrAnd result (λ e. e ≡ fault) → b ≡ a → HasCauses fault_of a b result
  causes_refused {a} {b} fault reason result is tells same =
      let error_is = err_from_is_err_and result tells in
      subst (HasCauses fault_of a b) (sym (error_is.1 ∙ ap Err error_is.2)) (record { ok = tt; err = cause_refused (fault_of fault) reason is same })

  -- a call after one that left the count as it was
  pub causes_then : {a b c : ℕ} {result : Result B E} → b ≡ a → HasCauses fault_of b c result → HasCauses fault_of a c result
  causes_then {c} {result} same causes = subst (λ n. HasCauses fault_of n c result) same causes

  -- the error of a call goes on
  pub causes_stop : {D : Type 0} {a b : ℕ} (one : Result D E) (fault : E) (result : Result B E) → HasCauses fault_of a b one → one ≡ Err fault → IsErrAnd result (λ e. e ≡ fault) → HasCauses fault_of a b result
  causes_stop {D} {a} {b} one fault result causes was tells =
      let error_is = err_from_is_err_and result tells in
      let cause : HasCauseAt a b (fault_of fault) = subst (λ (r : Result D E). IfErr r (λ e. HasCauseAt a b (fault_of e))) was causes.err in
      subst (HasCauses fault_of a b) (sym (error_is.1 ∙ ap Err error_is.2)) (record { ok = tt; err = cause })
