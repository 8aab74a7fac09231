-- One part of a walk after another, as a visitor is given their events.
use Rattle.word_rules.proofs.Common.{[], ap, append_assoc, Bool, Err, List, Ok, on_ok_weaker, OnOk, refl, Result, subst, sym, ℕ, ◌++◌, ◌∙◌, ◌≡◌}
use Rattle.level_rules.specs.walk.Events.{Event, WalkState}
use Rattle.receiver_rules.specs.Receivers.{Receives, StillTakes}
use Rattle.receiver_rules.proofs.ReceiverLemmas.{receives-none, receives-stop, receives-then, receives-whole}
use Rattle.node_walk.specs.Lists.{part_start}
use Rattle.node_walk.specs.Visits.{TakesAll, Walks}
use Rattle.node_walk.proofs.PartLemmas.{behind}

on_ok_given : {T E P : Type 0} (r : Result T E) → P → OnOk r P
on_ok_given (Ok x) p = p
on_ok_given (Err e) p = tt

module _ {V A E : Type 0} {takes : V → Event → Type 0} {stands : V → A → List Event → Type 0} {stopped : V → A → List Event → E → Type 0} where
  -- a visitor that takes every event still does after a part that was given whole
  pub takes_all_after : {u v : V} {xs : List Event} {first : Result (Unit {0}) E} (leaves segs width : ℕ) →
      Receives takes stands stopped u v xs first → (unit : Unit {0}) → first ≡ Ok unit → TakesAll (takes u) leaves segs width → TakesAll (takes v) leaves segs width
  takes_all_after leaves segs width visits unit was all =
      let still = (receives-whole unit was visits).takes_on in
      record {
        leaf = λ n h. still.each _ (all.leaf n h);
        fragment = λ seg first last h o l. still.each _ (all.fragment seg first last h o l);
      }

  -- a part that is nothing
  pub walks_none : (v : V) (state : WalkState) (columns : List Bool) → state ≡ part_start columns → Walks takes stands stopped v v state columns (Ok tt)
  walks_none v state columns e =
      subst (λ (w : WalkState). Walks takes stands stopped v v w columns (Ok tt)) (sym e) (record { visits = receives-none v; covered = refl })

  -- a part by another way to its state
  pub walks_same : {u v : V} {other : WalkState} {columns : List Bool} {result : Result (Unit {0}) E} (state : WalkState) → Walks takes stands stopped u v other columns result → state ≡ other → Walks takes stands stopped u v state columns result
  walks_same {u} {v} {columns = columns} {result} state walks e = subst (λ (w : WalkState). Walks takes stands stopped u v w columns result) (sym e) walks

  -- a part that only gives events
  pub walks_events : {u v : V} {xs : List Event} {result : Result (Unit {0}) E} (state : WalkState) (columns : List Bool) → Receives takes stands stopped u v xs result → state ≡ record { events = xs; covered = columns } → Walks takes stands stopped u v state columns result
  walks_events {u} {v} {result = result} state columns visits e =
      subst (λ (w : WalkState). Walks takes stands stopped u v w columns result) (sym e) (record { visits = visits; covered = on_ok_given result refl })

  -- the same, where they were given whole
  pub walks_whole : {u v : V} {xs : List Event} {first : Result (Unit {0}) E} (state : WalkState) (columns : List Bool) → Receives takes stands stopped u v xs first → (unit : Unit {0}) → first ≡ Ok unit → state ≡ record { events = xs; covered = columns } → Walks takes stands stopped u v state columns (Ok tt)
  walks_whole {u} {v} state columns visits unit was e =
      subst (Walks takes stands stopped u v state columns) was (walks_events state columns visits e)

  -- some events, and then a part
  pub walks_then : {u v w : V} {xs : List Event} {next : WalkState} {columns : List Bool} {first last : Result (Unit {0}) E} (state : WalkState) →
      Receives takes stands stopped u v xs first → (unit : Unit {0}) → first ≡ Ok unit → Walks takes stands stopped v w next columns last → state ≡ behind xs next → Walks takes stands stopped u w state columns last
  walks_then {last = last} state visits unit was walks e = record {
    visits = receives-then state.events visits unit was walks.visits (sym (ap (λ (w : WalkState). w.events) e));
    covered = on_ok_weaker last (λ h. h ∙ sym (ap (λ (w : WalkState). w.covered) e)) walks.covered;
  }

  -- the same, where the part was given whole
  pub walks_more : {u v w : V} {xs : List Event} {next : WalkState} {columns : List Bool} {first last : Result (Unit {0}) E} (state : WalkState) →
      Receives takes stands stopped u v xs first → (unit : Unit {0}) → first ≡ Ok unit → Walks takes stands stopped v w next columns last → (unit' : Unit {0}) → last ≡ Ok unit' → state ≡ behind xs next → Walks takes stands stopped u w state columns (Ok tt)
  walks_more {u} {w = w} {columns = columns} state visits unit was walks unit' was' e =
      subst (Walks takes stands stopped u w state columns) was' (walks_then state visits unit was walks e)

  -- events among which the visitor stopped, and nothing of the rest
  pub walks_stop : {u v : V} {xs : List Event} {first : Result (Unit {0}) E} (result : Result (Unit {0}) E) (state : WalkState) (columns : List Bool) (rest : List Event) →
      Receives takes stands stopped u v xs first → (stop : E) → first ≡ Err stop → result ≡ Err stop → xs ++ rest ≡ state.events → Walks takes stands stopped u v state columns result
  walks_stop result state columns rest visits stop was is e =
      record { visits = receives-stop result rest state.events visits stop was is e; covered = subst (λ r. OnOk r (columns ≡ state.covered)) (sym is) tt }

  -- the same after some events
  pub walks_stopped : {u v w : V} {xs ys : List Event} {first last : Result (Unit {0}) E} (result : Result (Unit {0}) E) (state : WalkState) (columns : List Bool) (rest : List Event) →
      Receives takes stands stopped u v xs first → (unit : Unit {0}) → first ≡ Ok unit → Receives takes stands stopped v w ys last → (stop : E) → last ≡ Err stop → result ≡ Err stop → xs ++ (ys ++ rest) ≡ state.events → Walks takes stands stopped u w state columns result
  walks_stopped {xs = xs} {ys} result state columns rest visits unit was next stop was' is e =
      walks_stop result state columns rest (receives-then (xs ++ ys) visits unit was next refl) stop was' is (append_assoc xs ys rest ∙ e)
