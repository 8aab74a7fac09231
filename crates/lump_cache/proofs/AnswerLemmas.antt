-- What is said of each answer of a call.
use Rattle.zone_rules.proofs.Common.{◌≡◌, ℕ, Option, Some, None, Result, Ok, Err, refl, sym, subst, IsNone, OnOk}
use Rattle.lump_cache.specs.declared.fault.CacheFault.{CacheFault}
use Rattle.lump_cache.specs.declared.fault.CacheFault.TheVariants.{ZoneFull, ReadFault}
use Rattle.lump_cache.specs.Caches.{MatchAnswer, WhereFull}

pub none_is : {A : Type 0} (x : Option A) → IsNone x → x ≡ None
none_is None k = refl
none_is (Some a) k = cc

-- the answer is Ok
pub answer_at : {P : Type 0} (F : ℕ → ℕ → Type 0) (R : Type 0) (r : Result (Unit {0}) CacheFault) → r ≡ Ok tt → P → MatchAnswer r P F R
answer_at {P} F R r e k = subst (λ (x : Result (Unit {0}) CacheFault). MatchAnswer x P F R) (sym e) k

-- what follows in each case
pub answer_map : {P P' R R' : Type 0} {F F' : ℕ → ℕ → Type 0} (r : Result (Unit {0}) CacheFault) → (P → P') → ((wanted widest' : ℕ) → F wanted widest' → F' wanted widest') → (R → R') → MatchAnswer r P F R → MatchAnswer r P' F' R'
answer_map (Ok done) p f q k = p k
answer_map (Err (ZoneFull wanted widest')) p f q k = f wanted widest' k
answer_map (Err ReadFault) p f q k = q k

-- what is said in each case holds
pub answer_all : {P : Type 0} (r : Result (Unit {0}) CacheFault) → MatchAnswer r P (λ wanted widest'. P) P → P
answer_all (Ok done) k = k
answer_all (Err (ZoneFull wanted widest')) k = k
answer_all (Err ReadFault) k = k

-- what is said of Ok
pub answer_ok : {N : Type 0} (P : Type 0) (F : ℕ → ℕ → Type 0) (R : Type 0) (r : Result (Unit {0}) CacheFault) → (N → MatchAnswer r P F R) → OnOk r (N → P)
answer_ok P F R (Ok done) k = k
answer_ok P F R (Err fault) k = tt

pub answer_both : (P : Type 0) (F : ℕ → ℕ → Type 0) (R Q : Type 0) (r : Result (Unit {0}) CacheFault) → MatchAnswer r P F R → OnOk r Q → MatchAnswer r (P × Q) F R
answer_both P F R Q (Ok done) k q = (k, q)
answer_both P F R Q (Err (ZoneFull wanted widest')) k q = k
answer_both P F R Q (Err ReadFault) k q = k

-- what follows where the zone is full
pub where_full : {F G : ℕ → ℕ → Type 0} (r : Result (Unit {0}) CacheFault) → ((wanted widest' : ℕ) → F wanted widest' → G wanted widest') → WhereFull r F → WhereFull r G
where_full r f k = answer_map r (λ t. t) f (λ t. t) k
