-- Laws of a receiver that is given items until a limit is passed: nothing yet, some items after others, and a Stop.
use Rattle.picture_rules.proofs.Common.{[], append_assoc, Err, List, Ok, refl, Result, subst, sym, ◌++◌, ◌∙◌, ◌≡◌}
use Rattle.receiver_rules.specs.Receivers.{Receives}
use Rattle.receiver_rules.proofs.ReceiverLemmas.{receives-after, receives-none, receives-stop, receives-value}
use Rattle.wall_columns.specs.declared.fault.WallStop.{WallStop}
use Rattle.wall_columns.specs.declared.fault.WallStop.TheVariants.{Brush, Over}
use Rattle.wall_columns.specs.Faults.{ReceivesFirst, ReceivesToLimit, ReceivesUnlessOver}

module _ {S I A E : Type 0} {takes : S → I → Type 0} {stands : S → A → List I → Type 0} {stopped : S → A → List I → E → Type 0} where
  -- a receiver that was given nothing, of some items
  first-none : (a : S) (items : List I) → ReceivesFirst takes stands stopped a a items
  first-none a items = record { some = []; rest = items; joins = refl; given = receives-none a }

  -- unless a limit was passed, and so until it was
  pub limit-unless : {a b : S} {items : List I} (result : Result (Unit {0}) (WallStop E)) → ReceivesUnlessOver takes stands stopped a b items result → ReceivesToLimit takes stands stopped a b items result
  limit-unless (Ok value) given = record { by = given }
  limit-unless {a} {b} {items} (Err (Over over)) same = record { by = subst (λ (s : S). ReceivesFirst takes stands stopped a s items) (sym same) (first-none a items) }
  limit-unless (Err (Brush stop)) given = record { by = given }

  -- no item, whatever was told
  pub limit-nothing : (a : S) → ReceivesToLimit takes stands stopped a a [] (Ok tt)
  limit-nothing a = record { by = receives-none a }

  -- items after others that were given whole
  pub limit-then : {a b c : S} {xs ys : List I} (all : List I) (result : Result (Unit {0}) (WallStop E)) → Receives takes stands stopped a b xs (Ok tt) → ReceivesToLimit takes stands stopped b c ys result → xs ++ ys ≡ all → ReceivesToLimit takes stands stopped a c all result
  limit-then all (Ok value) first next e = record { by = receives-after all first next.by e }
  limit-then {xs = xs} all (Err (Over over)) first next e = record {
    by = record {
      some = xs ++ next.by.some;
      rest = next.by.rest;
      joins = append_assoc xs next.by.some next.by.rest ∙ (λ i. xs ++ next.by.joins i) ∙ e;
      given = receives-after (xs ++ next.by.some) first next.by.given refl;
    };
  }
  limit-then all (Err (Brush stop)) first next e = record { by = receives-after all first next.by e }

  -- what is told of a Stop at some items is told of them with others behind
  pub limit-stop : {a b : S} {xs : List I} (rest all : List I) (stop : WallStop E) → ReceivesToLimit takes stands stopped a b xs (Err stop) → xs ++ rest ≡ all → ReceivesToLimit takes stands stopped a b all (Err stop)
  limit-stop rest all (Over over) given e = record {
    by = record { some = given.by.some; rest = given.by.rest ++ rest; joins = sym (append_assoc given.by.some given.by.rest rest) ∙ (λ i. given.by.joins i ++ rest) ∙ e; given = given.by.given };
  }
  limit-stop rest all (Brush stop) given e = record { by = receives-stop (Err stop) rest all given.by stop refl refl e }

  -- the same items by other words
  pub limit-same : {a b : S} {xs : List I} (all : List I) (result : Result (Unit {0}) (WallStop E)) → xs ≡ all → ReceivesToLimit takes stands stopped a b xs result → ReceivesToLimit takes stands stopped a b all result
  limit-same {a} {b} all result e given = subst (λ (items : List I). ReceivesToLimit takes stands stopped a b items result) e given

-- what is said of the receivers is said of their values
pub limit-value : {P S I A E : Type 0} {takes : S → I → Type 0} {stands : S → A → List I → Type 0} {stopped : S → A → List I → E → Type 0} (value : P → S) (old new : P) {items : List I} (result : Result (Unit {0}) (WallStop E)) →
    ReceivesToLimit (λ (p : P). takes (value p)) (λ (p : P). stands (value p)) (λ (p : P). stopped (value p)) old new items result →
    ReceivesToLimit takes stands stopped (value old) (value new) items result
limit-value value old new (Ok unit) given = record { by = receives-value value old new (Ok tt) given.by }
limit-value value old new (Err (Over over)) given = record {
  by = record { some = given.by.some; rest = given.by.rest; joins = given.by.joins; given = receives-value value old new (Ok tt) given.by.given };
}
limit-value value old new (Err (Brush stop)) given = record { by = receives-value value old new (Err stop) given.by }
