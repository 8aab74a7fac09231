-- Laws of a painter: an event that it was given after others, and a whole walk.
use Rattle.picture_rules.proofs.Common.{[], All-push, ap, append-nil, arith, drop, Err, IfErr, IfErr-weaker, IfSome, IfSome_then, List, None, Ok, on_ok_weaker, OnOk, Option, refl, Result, Some, subst, sym, take, take-append-drop, ℕ, ◌++◌, ◌∙◌, ◌∷◌, ◌≡◌}
use Rattle.frame_core.specs.Rules.{Event, FragmentEvent, IsSound, LeafEvent, Limits, OverLimit, Scene, SceneValue, ViewValue, steps_over, view_events, view_over, view_steps}
use Rattle.brush.specs.Strips.{Strip}
use Rattle.receiver_rules.specs.Receivers.{Receives, StillTakes}
use Rattle.receiver_rules.proofs.ReceiverLemmas.{takes_each-later}
use Rattle.sound_scene.specs.Pictures.{lists_of, scene_of}
use Rattle.wall_columns.specs.declared.fault.WallStop.{WallStop}
use Rattle.wall_columns.specs.declared.fault.WallStop.TheVariants.{Over}
use Rattle.wall_columns.specs.Faults.{ReceivesToLimit, ReceivesUnlessOver, over_in, over_of, over_of_stop}
use Rattle.wall_columns.specs.Strips.{walls_strips}
use Rattle.wall_columns.proofs.LimitLemmas.{limit-nothing, limit-same, limit-then, limit-unless}
use Rattle.frame_core.specs.{declared.bench.Bench.Bench, Views.CanCount}
use Rattle.frame_core.specs.ViewStrips.{event_strips, seen_walls}
use Rattle.frame_core.specs.Walked.{CanTake, HasWalked, IsEventIn}
use Rattle.frame_core.specs.Painters.{AsksWalls, CanPaintNext, HasPainted, HasWalkedNothing, HasWalkedView, PainterValue, TakesWalls, limits_in}
use Rattle.frame_core.proofs.EventStripLemmas.{event-strips, leaf-none, strips-none}
use Rattle.frame_core.proofs.StepLemmas.{over-stays}

-- what holds for each way to read lumps, told after an Ok
pub all-ok : {A E X : Type 0} (P : X → Type 0) (result : Result A E) → ((x : X) → OnOk result (P x)) → OnOk result ((x : X) → P x)
all-ok P (Ok a) h = h
all-ok P (Err e) h = tt

-- and of the limit that a fault tells
all_some : {A X : Type 0} (P : X → A → Type 0) (o : Option A) → ((x : X) → IfSome o (P x)) → IfSome o (λ a. (x : X) → P x a)
all_some P None h = tt
all_some P (Some a) h = h

each_some : {A X : Type 0} (P : X → A → Type 0) (o : Option A) → IfSome o (λ a. (x : X) → P x a) → (x : X) → IfSome o (P x)
each_some P None h x = tt
each_some P (Some a) h x = h x

pub all-over : {A E L X : Type 0} (limit_of : E → Option L) (P : X → L → Type 0) (result : Result A E) → ((x : X) → IfErr result (λ e. IfSome (limit_of e) (P x))) →
    IfErr result (λ e. IfSome (limit_of e) (λ l. (x : X) → P x l))
all-over limit_of P (Ok a) h = tt
all-over limit_of P (Err e) h = all_some P (limit_of e) h

pub each-over : {A E L X : Type 0} (limit_of : E → Option L) (P : X → L → Type 0) (result : Result A E) → IfErr result (λ e. IfSome (limit_of e) (λ l. (x : X) → P x l)) →
    (x : X) → IfErr result (λ e. IfSome (limit_of e) (P x))
each-over limit_of P (Ok a) h x = tt
each-over limit_of P (Err e) h x = each_some P (limit_of e) h x

-- What a call that was given an event says of a painter: of the bench for all events that it may have had, and what it asked of the
-- brush.
pub record IsGiven {B A E : Type 0} (takes : B → Strip → Type 0) (stands : B → A → List Strip → Type 0) (stopped : B → A → List Strip → E → Type 0)
    (v : ViewValue) (s : SceneValue) (p q : PainterValue B) (e : Event) (result : Result (Unit {0}) (WallStop E)) : Type 0 where
  pub view_before : p.view ≡ v
  pub view : q.view ≡ v
  pub scene_before : p.scene ≡ s
  pub scene : q.scene ≡ s
  pub names : q.names ≡ p.names
  pub limits : limits_in q.bench ≡ limits_in p.bench
  pub there : IsEventIn v s e
  pub walked : (bytes : ℕ → List ℕ) (limits : Limits) (events : List Event) → HasWalked v bytes s limits events p.bench →
      OnOk result (HasWalked v bytes s limits (events ++ e ∷ []) q.bench)
  pub over : (bytes : ℕ → List ℕ) (limits : Limits) (events : List Event) → HasWalked v bytes s limits events p.bench →
      IfErr result (λ stop. IfSome (over_in stop) (λ over. steps_over limits (view_steps v (scene_of bytes s) (events ++ e ∷ [])) ≡ Some over))
  pub next : OnOk result (CanTake v s q.bench)
  pub still : OnOk result (StillTakes takes p.brush q.brush)
  pub asks : (limits : Limits) (events : List Event) → ((bytes : ℕ → List ℕ) → HasWalked v bytes s limits events p.bench) →
      ReceivesToLimit takes stands stopped p.brush q.brush (event_strips v s events e) result

-- what a brush took of the walls it takes as long as it takes what it took
pub walls-later : {B : Type 0} {takes : B → Strip → Type 0} {a b : B} (v : ViewValue) (s : SceneValue) → StillTakes takes a b → TakesWalls takes a v s → TakesWalls takes b v s
walls-later v s still h = record { each = λ state facts sector seg first last are inside there height open_in. takes_each-later still (h.each state facts sector seg first last are inside there height open_in) }

module _ {B A E : Type 0} {takes : B → Strip → Type 0} {stands : B → A → List Strip → Type 0} {stopped : B → A → List Strip → E → Type 0} where
  more_by : (start p q : PainterValue B) (e : Event) (result : Result (Unit {0}) (WallStop E)) (events : List Event) → HasPainted takes stands stopped start p events (Ok tt) →
      IsGiven takes stands stopped start.view start.scene p q e result → HasPainted takes stands stopped start q (events ++ e ∷ []) result
  more_by start p q e result events stood given = record {
    view = given.view;
    scene = given.scene;
    names = given.names ∙ stood.names;
    limits = given.limits ∙ stood.limits;
    there = All-push (IsEventIn start.view start.scene) events e stood.there given.there;
    walked = all-ok (λ bytes. HasWalked start.view bytes start.scene (limits_in start.bench) (events ++ e ∷ []) q.bench) result
        (λ bytes. given.walked bytes (limits_in start.bench) events (stood.walked bytes));
    over = all-over over_in
        (λ bytes over. steps_over (limits_in start.bench) (view_steps start.view (scene_of bytes start.scene) (events ++ e ∷ [])) ≡ Some over) result
        (λ bytes. given.over bytes (limits_in start.bench) events (stood.walked bytes));
    asks = limit-then (walls_strips start.view (seen_walls start.view start.scene (events ++ e ∷ []))) result stood.asks.by
        (given.asks (limits_in start.bench) events stood.walked) (sym (event-strips start.view start.scene events e));
  }

  -- one event more
  painted_more : (start p q : PainterValue B) (e : Event) (result : Result (Unit {0}) (WallStop E)) (events : List Event) → HasPainted takes stands stopped start p events (Ok tt) →
      IsGiven takes stands stopped p.view p.scene p q e result → HasPainted takes stands stopped start q (events ++ e ∷ []) result
  painted_more start p q e result events stood given =
      more_by start p q e result events stood (subst (λ (s : SceneValue). IsGiven takes stands stopped start.view s p q e result) stood.scene
      (subst (λ (v : ViewValue). IsGiven takes stands stopped v p.scene p q e result) stood.view given))

  -- a painter takes after an event what it took before
  takes_later : (p q : PainterValue B) (e event : Event) → IsGiven takes stands stopped p.view p.scene p q e (Ok tt) → CanPaintNext takes p event → CanPaintNext takes q event
  takes_later p q e event given can = record {
    scene = subst CanCount (sym given.scene) can.scene;
    next = subst (λ (v : ViewValue). CanTake v q.scene q.bench) (sym given.view) (subst (λ (s : SceneValue). CanTake p.view s q.bench) (sym given.scene) given.next);
    there = subst (λ (v : ViewValue). IsEventIn v q.scene event) (sym given.view) (subst (λ (s : SceneValue). IsEventIn p.view s event) (sym given.scene) can.there);
    strips = λ sound.
        subst (λ (v : ViewValue). TakesWalls takes q.brush v q.scene) (sym given.view)
        (subst (λ (s : SceneValue). TakesWalls takes q.brush p.view s) (sym given.scene)
        (walls-later p.view p.scene given.still (can.strips (subst (λ (s : SceneValue). IsSound s.base.level) given.scene sound))));
  }

-- What a visitor stands for after one event, told of its answer: that it was given the event.
pub visits-one : {P A E : Type 0} (takes : P → Event → Type 0) (after : P → A → List Event → Result (Unit {0}) E → Type 0) (p q : P) (e : Event) (result : Result (Unit {0}) E) →
    ((start : A) (events : List Event) → after p start events (Ok tt) → after q start (events ++ e ∷ []) result) → (result ≡ Ok tt → (event : Event) → takes p event → takes q event) →
    Receives takes (λ (p : P) start es. after p start es (Ok tt)) (λ (p : P) start es stop. after p start es (Err stop)) p q (e ∷ []) result
visits-one takes after p q e (Ok unit) more still = record { ok = record { each = more }; takes_on = record { each = still refl }; err = tt }
visits-one takes after p q e (Err stop) more still =
    record { ok = tt; takes_on = tt; err = record { count = 1; some = omega arith; within = omega arith; each = more } }

-- a limit that the first of some events passed is told of them all
pub longer : (limits : Limits) (v : ViewValue) (scene : Scene) (n : ℕ) (events : List Event) (over : OverLimit) → steps_over limits (view_steps v scene (take n events)) ≡ Some over →
    steps_over limits (view_steps v scene events) ≡ Some over
longer limits v scene n events over h =
    subst (λ (es : List Event). steps_over limits (view_steps v scene es) ≡ Some over) (take-append-drop n events) (over-stays limits v scene (take n events) (drop n events) over h)

-- a call answered as another, whose limit it passes on
abbrev pub IsMappedOver : {E : Type 0} → Result (Unit {0}) OverLimit → Result (Unit {0}) (WallStop E) → Type 0
IsMappedOver (Ok value) whole = whole ≡ Ok tt
IsMappedOver (Err over) whole = whole ≡ Err (Over over)

mapped_ok : {E : Type 0} (P : Type 0) (result : Result (Unit {0}) OverLimit) (whole : Result (Unit {0}) (WallStop E)) → IsMappedOver result whole → OnOk result P → OnOk whole P
mapped_ok {E} P (Ok value) whole is h = subst (λ (r : Result (Unit {0}) (WallStop E)). OnOk r P) (sym is) h
mapped_ok {E} P (Err over) whole is h = subst (λ (r : Result (Unit {0}) (WallStop E)). OnOk r P) (sym is) tt

mapped_over : {E : Type 0} (result : Result (Unit {0}) OverLimit) (whole : Result (Unit {0}) (WallStop E)) → IsMappedOver result whole → over_of_stop whole ≡ over_of result
mapped_over (Ok value) whole is = ap over_of_stop is
mapped_over (Err over) whole is = ap over_of_stop is

pub on_ok-all : {A E P : Type 0} (result : Result A E) → P → OnOk result P
on_ok-all (Ok value) h = h
on_ok-all (Err fault) h = tt

-- what a brush took it takes, where it was given all of some strips
pub still-unless : {B A E : Type 0} (takes : B → Strip → Type 0) (stands : B → A → List Strip → Type 0) (stopped : B → A → List Strip → E → Type 0) (a b : B) (strips : List Strip) (result : Result (Unit {0}) (WallStop E)) →
    ReceivesUnlessOver takes stands stopped a b strips result → OnOk result (StillTakes takes a b)
still-unless takes stands stopped a b strips (Ok value) given = given.takes_on
still-unless takes stands stopped a b strips (Err stop) given = tt

module _ {B A E : Type 0} {takes : B → Strip → Type 0} {stands : B → A → List Strip → Type 0} {stopped : B → A → List Strip → E → Type 0} where
  -- such a call asks a brush for nothing
  asked_nothing : (brush : B) (result : Result (Unit {0}) OverLimit) (whole : Result (Unit {0}) (WallStop E)) → IsMappedOver result whole → ReceivesToLimit takes stands stopped brush brush [] whole
  asked_nothing brush (Ok value) whole is = subst (λ (r : Result (Unit {0}) (WallStop E)). ReceivesToLimit takes stands stopped brush brush [] r) (sym is) (limit-nothing brush)
  asked_nothing brush (Err over) whole is = subst (λ (r : Result (Unit {0}) (WallStop E)). ReceivesToLimit takes stands stopped brush brush [] r) (sym is) (limit-unless (Err (Over over)) refl)

-- the answer of a painter that was given events
abbrev pub PainterVisits : {B A E : Type 0} → (B → Strip → Type 0) → (B → A → List Strip → Type 0) → (B → A → List Strip → E → Type 0) →
    PainterValue B → PainterValue B → List Event → Result (Unit {0}) (WallStop E) → Type 0
PainterVisits {B} takes stands stopped p q events result =
    Receives (CanPaintNext takes) (λ (p : PainterValue B) start es. HasPainted takes stands stopped start p es (Ok tt))
    (λ (p : PainterValue B) start es stop. HasPainted takes stands stopped start p es (Err stop)) p q events result

told_some : (found told : Option OverLimit) → told ≡ found → IfSome told (λ (over : OverLimit). found ≡ Some over)
told_some found None e = tt
told_some found (Some over) e = sym e

-- a limit that an answer tells
pub told-stop : {A E : Type 0} (found : Option OverLimit) (result : Result A (WallStop E)) → over_of_stop result ≡ found → IfErr result (λ stop. IfSome (over_in stop) (λ (over : OverLimit). found ≡ Some over))
told-stop found (Ok value) e = tt
told-stop found (Err stop) e = told_some found (over_in stop) e

module _ {B A E : Type 0} {takes : B → Strip → Type 0} {stands : B → A → List Strip → Type 0} {stopped : B → A → List Strip → E → Type 0} where
  pub painter-visits : (p q : PainterValue B) (e : Event) (result : Result (Unit {0}) (WallStop E)) →
      IsGiven takes stands stopped p.view p.scene p q e result → PainterVisits takes stands stopped p q (e ∷ []) result
  painter-visits p q e result given =
      visits-one (CanPaintNext takes) (λ p start es. HasPainted takes stands stopped start p es) p q e result (λ start before stood. painted_more start p q e result before stood given)
      (λ ok event can. takes_later p q e event (subst (IsGiven takes stands stopped p.view p.scene p q e) ok given) can)

  -- a walk of a painter that no event was given
  pub painted-none : (p : PainterValue B) → HasWalkedNothing p.view p.scene p.bench → HasPainted takes stands stopped p p [] (let done : Result (Unit {0}) (WallStop E) = Ok tt in done)
  painted-none p walked = record {
    view = refl;
    scene = refl;
    names = refl;
    limits = refl;
    there = (walked (λ lump. [])).there;
    walked = walked;
    over = tt;
    asks = limit-same (walls_strips p.view (seen_walls p.view p.scene [])) (Ok tt) (strips-none p.view p.scene) (limit-nothing p.brush);
  }

  -- what was asked of a painter that was lent for a walk
  walls_asked : (p q : PainterValue B) (events rest all : List Event) (result : Result (Unit {0}) (WallStop E)) → events ++ rest ≡ all → all ≡ view_events p.view (lists_of p.scene) → OnOk result (events ≡ all) →
      HasPainted takes stands stopped p q events result → AsksWalls takes stands stopped p.view p.scene p.brush q.brush result
  walls_asked p q events rest all result joins is whole h = record {
    events = events;
    rest = rest;
    joins = joins ∙ is;
    there = h.there;
    asks = h.asks;
    all = on_ok_weaker result (λ (e : events ≡ all). e ∙ is) whole;
  }

-- What is told of a walk that was lent a bench and a brush.
pub record HasAsked {B A E : Type 0} (takes : B → Strip → Type 0) (stands : B → A → List Strip → Type 0) (stopped : B → A → List Strip → E → Type 0)
    (p q : PainterValue B) (result : Result (Unit {0}) (WallStop E)) : Type 0 where
  pub names : q.names ≡ p.names
  pub limits : limits_in q.bench ≡ limits_in p.bench
  pub walked : OnOk result ((bytes : ℕ → List ℕ) → HasWalked p.view bytes p.scene (limits_in p.bench) (view_events p.view (lists_of p.scene)) q.bench)
  pub over : IfErr result (λ stop. IfSome (over_in stop) (λ over. (bytes : ℕ → List ℕ) →
      steps_over (limits_in p.bench) (view_steps p.view (scene_of bytes p.scene) (view_events p.view (lists_of p.scene))) ≡ Some over))
  pub asks : AsksWalls takes stands stopped p.view p.scene p.brush q.brush result

module _ {B A E : Type 0} {takes : B → Strip → Type 0} {stands : B → A → List Strip → Type 0} {stopped : B → A → List Strip → E → Type 0} where
  pub stopped-all : (p q : PainterValue B) (n : ℕ) (events : List Event) (stop : WallStop E) → events ≡ view_events p.view (lists_of p.scene) → HasPainted takes stands stopped p q (take n events) (Err stop) →
      HasAsked takes stands stopped p q (Err stop)
  stopped-all p q n events stop is h = record {
    names = h.names;
    limits = h.limits;
    walked = tt;
    over = IfSome_then (over_in stop) h.over (λ over told bytes.
        subst (λ (es : List Event). steps_over (limits_in p.bench) (view_steps p.view (scene_of bytes p.scene) es) ≡ Some over) is
        (longer (limits_in p.bench) p.view (scene_of bytes p.scene) n events over (told bytes)));
    asks = walls_asked p q (take n events) (drop n events) events (Err stop) (take-append-drop n events) is tt h;
  }

  pub whole-walk : (p q : PainterValue B) (events : List Event) → events ≡ view_events p.view (lists_of p.scene) → HasPainted takes stands stopped p q events (let done : Result (Unit {0}) (WallStop E) = Ok tt in done) →
      HasAsked takes stands stopped p q (let done : Result (Unit {0}) (WallStop E) = Ok tt in done)
  whole-walk p q events is h = record {
    names = h.names;
    limits = h.limits;
    walked = λ bytes. subst (λ (es : List Event). HasWalked p.view bytes p.scene (limits_in p.bench) es q.bench) is (h.walked bytes);
    over = tt;
    asks = walls_asked p q events [] events (Ok tt) (append-nil events) is refl h;
  }

  -- the whole walk of a view
  pub painter-viewed : (p q : PainterValue B) (events : List Event) (result : Result (Unit {0}) (WallStop E)) → events ≡ view_events p.view (lists_of p.scene) →
      HasWalkedNothing p.view p.scene p.bench → PainterVisits takes stands stopped p q events result → HasAsked takes stands stopped p q result
  painter-viewed p q events (Ok unit) is walked visits = whole-walk p q events is (visits.ok.each p [] (painted-none p walked))
  painter-viewed p q events (Err stop) is walked visits =
      stopped-all p q visits.err.count events stop is (visits.err.each p [] (painted-none p walked))

  -- a leaf that was entered, or a limit at it
  pub leaf-visits : (p : PainterValue B) (c : Bench) (n : ℕ) (result : Result (Unit {0}) OverLimit) (whole : Result (Unit {0}) (WallStop E)) → IsEventIn p.view p.scene (LeafEvent n) → IsMappedOver result whole →
      ((bytes : ℕ → List ℕ) (limits : Limits) (events : List Event) → HasWalked p.view bytes p.scene limits events p.bench → OnOk result (HasWalked p.view bytes p.scene limits (events ++ LeafEvent n ∷ []) c)) →
      ((bytes : ℕ → List ℕ) (limits : Limits) (events : List Event) → HasWalked p.view bytes p.scene limits events p.bench →
      over_of result ≡ steps_over limits (view_steps p.view (scene_of bytes p.scene) (events ++ LeafEvent n ∷ []))) →
      OnOk result (CanTake p.view p.scene c) → limits_in c ≡ limits_in p.bench → PainterVisits takes stands stopped p (record p { bench = c }) (LeafEvent n ∷ []) whole
  leaf-visits p c n result whole there mapped walked over can limits =
      painter-visits p (record p { bench = c }) (LeafEvent n) whole (record {
        view_before = refl;
        view = refl;
        scene_before = refl;
        scene = refl;
        names = refl;
        limits = limits;
        there = there;
        walked = λ bytes most events h. mapped_ok _ result whole mapped (walked bytes most events h);
        over = λ bytes most events h. told-stop _ whole (mapped_over result whole mapped ∙ over bytes most events h);
        next = mapped_ok _ result whole mapped can;
        still = on_ok-all whole (record { each = λ item h. h });
        asks = λ most events h. limit-same (event_strips p.view p.scene events (LeafEvent n)) whole (leaf-none p.view p.scene events n) (asked_nothing p.brush result whole mapped);
      })

  -- a fragment that was drawn, or a limit or a Stop at it
  pub fragment-visits : (p : PainterValue B) (c : Bench) (brush : B) (seg first last : ℕ) (result : Result (Unit {0}) (WallStop E)) → IsEventIn p.view p.scene (FragmentEvent seg first last) →
      ((bytes : ℕ → List ℕ) (limits : Limits) (events : List Event) → HasWalked p.view bytes p.scene limits events p.bench →
      OnOk result (HasWalked p.view bytes p.scene limits (events ++ FragmentEvent seg first last ∷ []) c)) →
      ((bytes : ℕ → List ℕ) (limits : Limits) (events : List Event) → HasWalked p.view bytes p.scene limits events p.bench →
      over_of_stop result ≡ steps_over limits (view_steps p.view (scene_of bytes p.scene) (events ++ FragmentEvent seg first last ∷ []))) →
      ((limits : Limits) (events : List Event) → ((bytes : ℕ → List ℕ) → HasWalked p.view bytes p.scene limits events p.bench) →
      ReceivesUnlessOver takes stands stopped p.brush brush (event_strips p.view p.scene events (FragmentEvent seg first last)) result) →
      OnOk result (StillTakes takes p.brush brush) → OnOk result (CanTake p.view p.scene c) → limits_in c ≡ limits_in p.bench →
      PainterVisits takes stands stopped p (record p { bench = c; brush = brush }) (FragmentEvent seg first last ∷ []) result
  fragment-visits p c brush seg first last result there walked over asks still can limits =
      painter-visits p (record p { bench = c; brush = brush }) (FragmentEvent seg first last) result (record {
        view_before = refl;
        view = refl;
        scene_before = refl;
        scene = refl;
        names = refl;
        limits = limits;
        there = there;
        walked = walked;
        over = λ bytes most events h. told-stop _ result (over bytes most events h);
        next = can;
        still = still;
        asks = λ most events h. limit-unless result (asks most events h);
      })

-- a bench that was lent for it has the whole walk
pub bench-walked : {E : Type 0} (v : ViewValue) (scene : SceneValue) (limits : Limits) (b now : Bench) (result : Result (Unit {0}) E) → b ≡ now → limits_in now ≡ limits →
    OnOk result ((bytes : ℕ → List ℕ) → HasWalked v bytes scene limits (view_events v (lists_of scene)) now) → OnOk result (HasWalkedView v scene b)
bench-walked v scene limits b now result is same walked =
    on_ok_weaker result (λ h bytes. subst (λ (c : Bench). HasWalked v bytes scene (limits_in c) (view_events v (lists_of scene)) c) (sym is)
    (subst (λ (l : Limits). HasWalked v bytes scene l (view_events v (lists_of scene)) now) (sym same) (h bytes))) walked

-- the first limit that a view passes is that of its steps
pub view-over : (v : ViewValue) (scene : SceneValue) (limits : Limits) (bytes : ℕ → List ℕ) (over : OverLimit) →
    steps_over limits (view_steps v (scene_of bytes scene) (view_events v (lists_of scene))) ≡ Some over → view_over v (scene_of bytes scene) limits ≡ Some over
unfolding view_over scene_of
view-over v scene limits bytes over h = h

-- and so the limit that a Stop tells
pub stop-over : {E : Type 0} (v : ViewValue) (scene : SceneValue) (limits : Limits) (result : Result (Unit {0}) (WallStop E)) →
    IfErr result (λ stop. IfSome (over_in stop) (λ over. (bytes : ℕ → List ℕ) → steps_over limits (view_steps v (scene_of bytes scene) (view_events v (lists_of scene))) ≡ Some over)) →
    (bytes : ℕ → List ℕ) → IfErr result (λ stop. IfSome (over_in stop) (λ over. view_over v (scene_of bytes scene) limits ≡ Some over))
stop-over v scene limits result told bytes =
    IfErr-weaker result (λ stop. IfSome (over_in stop) (λ over. steps_over limits (view_steps v (scene_of bytes scene) (view_events v (lists_of scene))) ≡ Some over))
    (λ stop. IfSome (over_in stop) (λ over. view_over v (scene_of bytes scene) limits ≡ Some over))
    (λ stop h. IfSome_then (over_in stop) h (λ over e. view-over v scene limits bytes over e))
    (each-over over_in (λ bytes over. steps_over limits (view_steps v (scene_of bytes scene) (view_events v (lists_of scene))) ≡ Some over) result told bytes)

-- what is told of some limit
pub some-told : {L : Type 0} (P : L → Type 0) {found : Option L} (value : L) → found ≡ Some value → IfSome found P → P value
some-told {L} P value is h = go _ is h where
  go : (o : Option L) → o ≡ Some value → IfSome o P → P value
  go None e k = cc
  go (Some x) e k = let same : x ≡ value = cc in subst P same k

-- what holds after an Ok holds where it was Ok
pub ok-part : {A E P : Type 0} (result : Result A E) (value : A) → result ≡ Ok value → OnOk result P → P
ok-part {A} {E} {P} result value was h = go result was h where
  go : (r : Result A E) → r ≡ Ok value → OnOk r P → P
  go (Ok x) e k = k
  go (Err x) e k = absurd (cc)
