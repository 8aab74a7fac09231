-- What is known of a call whose fault is turned into that of a layer above (`map_err`).
use Rattle.std.proofs.Common.{◌≡◌, Result, Ok, Err, IsErrAnd, MatchResult}
use Rattle.std.specs.Prelude.{IfOk, OnOk}
use Rattle.std.proofs.lemmas.Result.{err_from_is_err_and}

-- the value is the same, and each fault is turned as W says
abbrev pub IsThrough : {A E F : Type 0} → (E → F → Type 0) → Result A E → Result A F → Type 0
IsThrough W one result = MatchResult one (λ x. result ≡ Ok x) (λ e. IsErrAnd result (W e))

module _ {A E F : Type 0} (W : E → F → Type 0) where
  -- what holds of the value, and after an Ok
  pub ok_through : (P : A → Type 0) (one : Result A E) (result : Result A F) → IsThrough W one result → IfOk one P → IfOk result P
  ok_through P (Ok x) result is p = rw is p
  ok_through P (Err e) result is p = let error_is = err_from_is_err_and result is in rw error_is.1 tt

  pub done_through : (P : Type 0) (one : Result A E) (result : Result A F) → IsThrough W one result → OnOk one P → OnOk result P
  done_through P (Ok x) result is p = rw is p
  done_through P (Err e) result is p = let error_is = err_from_is_err_and result is in rw error_is.1 tt

-- what holds of every value
pub if_ok : {A E : Type 0} (P : A → Type 0) (result : Result A E) → ((x : A) → P x) → IfOk result P
if_ok P (Ok x) all = all x
if_ok P (Err e) all = tt
