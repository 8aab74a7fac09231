-- Some items after others, as a receiver is given them.
use Rattle.word_rules.proofs.Common.{[], ap, append-nil, append_assoc, arith, Contains-append_left, Contains-append_right, Err, IfErr-weaker, length, length-append, List, Ok, on_ok_weaker, refl, Result, subst, sym, take, take-append-add, take-append-le, ◌++◌, ◌+◌, ◌∙◌, ◌≡◌}
use Rattle.receiver_rules.specs.Receivers.{Grew, Receives, StillTakes, StoppedAt, TakesEach}

module _ {S I A : Type 0} {stands : S → A → List I → Type 0} where
  -- some items, and then others
  grew_more : {a b c : S} {xs ys : List I} (all : List I) → Grew stands a b xs → Grew stands b c ys → xs ++ ys ≡ all → Grew stands a c all
  grew_more {c = c} {xs} {ys} all first second e = record {
    each = λ start before stood.
        subst (stands c start) (append_assoc before xs ys ∙ ap (λ v. before ++ v) e) (second.each start (before ++ xs) (first.each start before stood));
  }

module _ {S I A E : Type 0} {stands : S → A → List I → Type 0} {stopped : S → A → List I → E → Type 0} where
  -- some items, and then a Stop at one of the others
  stopped_later : {a b c : S} {xs ys : List I} {stop : E} (all : List I) →
      Grew stands a b xs → StoppedAt stands stopped b c ys stop → xs ++ ys ≡ all → StoppedAt stands stopped a c all stop
  stopped_later {c = c} {xs} {ys} {stop} all first second e =
      let lengths_add : length xs + length ys ≡ length all = sym (length-append xs ys) ∙ ap length e in
      record {
        count = length xs + second.count;
        some = omega (arith, second.some);
        within = omega (arith, second.within);
        each = λ start before stood.
            subst (λ v. stopped c start v stop)
            (append_assoc before xs (take second.count ys) ∙ ap (λ v. before ++ v) (sym (take-append-add xs ys second.count) ∙ ap (take (length xs + second.count)) e))
            (second.each start (before ++ xs) (first.each start before stood));
      }

  -- a Stop at one of the first items, and none of the rest
  stopped_front : {a c : S} {xs : List I} {stop : E} (rest all : List I) → StoppedAt stands stopped a c xs stop → xs ++ rest ≡ all → StoppedAt stands stopped a c all stop
  stopped_front {c = c} {xs} {stop} rest all first e =
      let lengths_add : length xs + length rest ≡ length all = sym (length-append xs rest) ∙ ap length e in
      record {
        count = first.count;
        some = first.some;
        within = omega (arith, first.within);
        each = λ start before stood.
            subst (λ v. stopped c start v stop) (ap (λ v. before ++ v) (sym (take-append-le first.count xs rest first.within) ∙ ap (take first.count) e)) (first.each start before stood);
      }

module _ {S I : Type 0} {takes : S → I → Type 0} where
  still_more : {a b c : S} → StillTakes takes a b → StillTakes takes b c → StillTakes takes a c
  still_more first second = record { each = λ item h. second.each item (first.each item h) }

module _ {S I A E : Type 0} {takes : S → I → Type 0} {stands : S → A → List I → Type 0} {stopped : S → A → List I → E → Type 0} where
  -- no item yet
  pub receives-none : (a : S) → Receives takes stands stopped a a [] (Ok tt)
  receives-none a = record {
    ok = record { each = λ start before stood. subst (stands a start) (sym (append-nil before)) stood };
    takes_on = record { each = λ item h. h };
    err = tt;
  }

  -- what comes after items that were given whole
  pub receives-after : {a b c : S} {xs ys : List I} {last : Result (Unit {0}) E} (all : List I) →
      Receives takes stands stopped a b xs (Ok tt) → Receives takes stands stopped b c ys last → xs ++ ys ≡ all → Receives takes stands stopped a c all last
  receives-after {xs = xs} {ys} {last} all one next e = record {
    ok = on_ok_weaker last (λ h. grew_more all one.ok h e) next.ok;
    takes_on = on_ok_weaker last (λ h. still_more one.takes_on h) next.takes_on;
    err = IfErr-weaker last (StoppedAt stands stopped _ _ ys) (StoppedAt stands stopped _ _ all) (λ stop h. stopped_later all one.ok h e) next.err;
  }

  pub receives-whole : {a b : S} {xs : List I} {first : Result (Unit {0}) E} (unit : Unit {0}) → first ≡ Ok unit → Receives takes stands stopped a b xs first → Receives takes stands stopped a b xs (Ok tt)
  receives-whole {a} {b} {xs} unit was one = subst (Receives takes stands stopped a b xs) was one

  -- the first items were given whole, and then the next
  pub receives-then : {a b c : S} {xs ys : List I} {first last : Result (Unit {0}) E} (all : List I) →
      Receives takes stands stopped a b xs first → (unit : Unit {0}) → first ≡ Ok unit → Receives takes stands stopped b c ys last → xs ++ ys ≡ all → Receives takes stands stopped a c all last
  receives-then all one unit was next e = receives-after all (receives-whole unit was one) next e

  -- it stopped at one of the first items
  pub receives-stop : {a b : S} {xs : List I} {first : Result (Unit {0}) E} (result : Result (Unit {0}) E) (rest all : List I) →
      Receives takes stands stopped a b xs first → (stop : E) → first ≡ Err stop → result ≡ Err stop → xs ++ rest ≡ all → Receives takes stands stopped a b all result
  receives-stop {a} {b} {xs} result rest all one stop was is e =
      let with_cause : StoppedAt stands stopped a b xs stop = rw was at one.err in
      subst (Receives takes stands stopped a b all) (sym is) (record { ok = tt; takes_on = tt; err = stopped_front rest all with_cause e })

  -- the first items were given whole, and it stopped at one of the next
  pub receives-stopped : {a b c : S} {xs ys : List I} {first last : Result (Unit {0}) E} (result : Result (Unit {0}) E) (rest all : List I) →
      Receives takes stands stopped a b xs first → (unit : Unit {0}) → first ≡ Ok unit → Receives takes stands stopped b c ys last → (stop : E) → last ≡ Err stop → result ≡ Err stop → xs ++ (ys ++ rest) ≡ all → Receives takes stands stopped a c all result
  receives-stopped {xs = xs} {ys} result rest all one unit was next stop was' is e =
      receives-stop result rest all (receives-then (xs ++ ys) one unit was next refl) stop was' is (append_assoc xs ys rest ∙ e)

  -- the same items by other words
  pub receives-same : {a b : S} {xs : List I} {result : Result (Unit {0}) E} (all : List I) → xs ≡ all → Receives takes stands stopped a b xs result → Receives takes stands stopped a b all result
  receives-same {a} {b} {result = result} all e one = subst (λ (items : List I). Receives takes stands stopped a b items result) e one

module _ {S I : Type 0} {takes : S → I → Type 0} where
  -- who takes each of some items takes each of a part of them
  pub takes_each-first : {a : S} (xs ys : List I) → TakesEach takes a (xs ++ ys) → TakesEach takes a xs
  takes_each-first xs ys all = record { each = λ item h. all.each item (Contains-append_left xs ys item h) }

  pub takes_each-rest : {a : S} (xs ys : List I) → TakesEach takes a (xs ++ ys) → TakesEach takes a ys
  takes_each-rest xs ys all = record { each = λ item h. all.each item (Contains-append_right xs ys item h) }

  -- and each of them after items that were given whole
  pub takes_each-later : {a b : S} {xs : List I} → StillTakes takes a b → TakesEach takes a xs → TakesEach takes b xs
  takes_each-later still all = record { each = λ item h. still.each item (all.each item h) }

module _ {P S I A E : Type 0} {takes : S → I → Type 0} {stands : S → A → List I → Type 0} {stopped : S → A → List I → E → Type 0} (value : P → S) where
  -- what is said of a value of two receivers is said of them, and the other way round
  pub receives-by : (old new : P) {items : List I} (result : Result (Unit {0}) E) → Receives takes stands stopped (value old) (value new) items result →
      Receives (λ (p : P). takes (value p)) (λ (p : P). stands (value p)) (λ (p : P). stopped (value p)) old new items result
  receives-by old new (Ok unit) one = record { ok = record { each = one.ok.each }; takes_on = record { each = one.takes_on.each }; err = tt }
  receives-by old new (Err stop) one =
      record { ok = tt; takes_on = tt; err = record { count = one.err.count; some = one.err.some; within = one.err.within; each = one.err.each } }

  pub receives-value : (old new : P) {items : List I} (result : Result (Unit {0}) E) →
      Receives (λ (p : P). takes (value p)) (λ (p : P). stands (value p)) (λ (p : P). stopped (value p)) old new items result →
      Receives takes stands stopped (value old) (value new) items result
  receives-value old new (Ok unit) one = record { ok = record { each = one.ok.each }; takes_on = record { each = one.takes_on.each }; err = tt }
  receives-value old new (Err stop) one =
      record { ok = tt; takes_on = tt; err = record { count = one.err.count; some = one.err.some; within = one.err.within; each = one.err.each } }
