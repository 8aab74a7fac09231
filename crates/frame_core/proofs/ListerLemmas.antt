-- Laws of a lister: an event that it was given after others, and a whole walk.
use Rattle.picture_rules.proofs.Common.{[], ap, Err, err_from_is_err_and, IsErrAnd, length, List, Ok, OnOk, refl, Result, subst, sym, ℕ, ◌++◌, ◌∙◌, ◌∷◌, ◌≡◌}
use Rattle.std.specs.declared.convert.Infallible.{Infallible}
use Rattle.frame_core.specs.Rules.{Event, LevelLists, Limits, ListedFragment, ListedPlane, ListedSprite, Plane, Scene, SceneValue, ViewListValue, ViewValue, event_list, event_planes, plane_makers, view_events, view_list}
use Rattle.picture_rules.proofs.ListLemmas.{plane_makers-count}
use Rattle.receiver_rules.specs.Receivers.{Receives}
use Rattle.frame_core.specs.{declared.bench.Bench.Bench, Walked.HasWalked}
use Rattle.sound_scene.specs.Pictures.{lists_of, scene_of}
use Rattle.brush.specs.declared.dry.DryBrush.{DryBrush}
use Rattle.wall_columns.specs.declared.fault.WallStop.{WallStop}
use Rattle.frame_core.specs.Painters.{CanPaintNext, HasWalkedNothing, HasWalkedView, PainterValue, limits_in}
use Rattle.frame_core.specs.ViewLists.{HasListed, WalkListValue, listed_planes, listed_sprites, nothing_listed}
use Rattle.frame_core.specs.Listers.{HasGathered, IsListed, IsListedView, ListerValue, dry_stands, dry_stopped, dry_takes}
use Rattle.frame_core.proofs.PainterLemmas.{HasAsked, PainterVisits, painted-none, stopped-all, whole-walk}
use Rattle.frame_core.proofs.ViewListLemmas.{listed-none, planes-walked}

-- the answer of a lister that was given events
abbrev pub ListerVisits : ListerValue → ListerValue → List Event → Result (Unit {0}) (WallStop Infallible) → Type 0
ListerVisits p q events result =
    Receives (λ (p : ListerValue). CanPaintNext dry_takes p.painter) (λ (p : ListerValue) start es. HasGathered start p es (Ok tt)) (λ (p : ListerValue) start es stop. HasGathered start p es (Err stop)) p q events result

-- a list with one event more, wherever the walk began
abbrev ListsNext : ViewValue → SceneValue → Bench → Bench → WalkListValue → WalkListValue → Event → Type 0
ListsNext v scene b c list next e = (bytes : ℕ → List ℕ) (limits : Limits) (events : List Event) → HasWalked v bytes scene limits events b → HasWalked v bytes scene limits (events ++ e ∷ []) c →
    HasListed v (scene_of bytes scene) events list → HasListed v (scene_of bytes scene) (events ++ e ∷ []) next

-- what a painter whose brush leaves nothing was given
abbrev pub DryVisits : PainterValue DryBrush → PainterValue DryBrush → List Event → Result (Unit {0}) (WallStop Infallible) → Type 0
DryVisits p q events result = PainterVisits dry_takes dry_stands dry_stopped p q events result

-- an event that was listed
pub lists-passed : (p : ListerValue) (q : PainterValue DryBrush) (next : WalkListValue) (e : Event) → DryVisits p.painter q (e ∷ []) (let done : Result (Unit {0}) (WallStop Infallible) = Ok tt in done) →
    ListsNext p.painter.view p.painter.scene p.painter.bench q.bench p.list next e → ListerVisits p (record p { painter = q; list = next }) (e ∷ []) (let done : Result (Unit {0}) (WallStop Infallible) = Ok tt in done)
lists-passed p q next e visits lists = record {
  ok = record {
    each = λ start before stood.
        let painted = visits.ok.each start.painter before stood.painted in
        let lists_next : ListsNext start.painter.view start.painter.scene p.painter.bench q.bench p.list next e =
        subst (λ (s : SceneValue). ListsNext start.painter.view s p.painter.bench q.bench p.list next e) stood.painted.scene
        (subst (λ (v : ViewValue). ListsNext v p.painter.scene p.painter.bench q.bench p.list next e) stood.painted.view lists) in
        record {
          painted = painted;
          name = stood.name;
          listed = λ bytes. lists_next bytes (limits_in start.painter.bench) before (stood.painted.walked bytes) (painted.walked bytes) (stood.listed bytes);
        };
  };
  takes_on = record { each = visits.takes_on.each };
  err = tt;
}

-- an event at which a limit was passed
pub lists-stopped : (p : ListerValue) (q : PainterValue DryBrush) (e : Event) (stop : WallStop Infallible) (result : Result (Unit {0}) (WallStop Infallible)) → IsErrAnd result (λ other. other ≡ stop) →
    DryVisits p.painter q (e ∷ []) (Err stop) → ListerVisits p (record p { painter = q }) (e ∷ []) result
lists-stopped p q e stop result told visits =
    let result_is_error = err_from_is_err_and result told in
    subst (ListerVisits p (record p { painter = q }) (e ∷ [])) (sym (result_is_error.1 ∙ ap Err result_is_error.2)) (record {
      ok = tt;
      takes_on = tt;
      err = record {
        count = visits.err.count;
        some = visits.err.some;
        within = visits.err.within;
        each = λ start before stood. record { painted = visits.err.each start.painter before stood.painted; name = stood.name; listed = tt };
      };
    })

gathered_none : (p : ListerValue) → HasWalkedNothing p.painter.view p.painter.scene p.painter.bench → p.list ≡ nothing_listed → HasGathered p p [] (let done : Result (Unit {0}) (WallStop Infallible) = Ok tt in done)
gathered_none p walked empty = record {
  painted = painted-none p.painter walked;
  name = refl;
  listed = λ bytes. subst (HasListed p.painter.view (scene_of bytes p.painter.scene) []) (sym empty) (listed-none p.painter.view (scene_of bytes p.painter.scene));
}

-- What is told of a walk that was lent a bench and a list.
pub record HasListedWalk (p q : ListerValue) (result : Result (Unit {0}) (WallStop Infallible)) : Type 0 where
  pub asked : HasAsked dry_takes dry_stands dry_stopped p.painter q.painter result
  pub name : q.name ≡ p.name
  pub listed : OnOk result (IsListedView p.painter.view p.painter.scene q.list)

-- the whole walk of a view
pub lister-walked : (p q : ListerValue) (events : List Event) (result : Result (Unit {0}) (WallStop Infallible)) → events ≡ view_events p.painter.view (lists_of p.painter.scene) →
    HasWalkedNothing p.painter.view p.painter.scene p.painter.bench → p.list ≡ nothing_listed → ListerVisits p q events result → HasListedWalk p q result
lister-walked p q events (Ok unit) is walked empty visits =
    let gathered = visits.ok.each p [] (gathered_none p walked empty) in
    record {
      asked = whole-walk p.painter q.painter events is gathered.painted;
      name = gathered.name;
      listed = subst (λ (es : List Event). IsListed p.painter.view p.painter.scene es q.list) is gathered.listed;
    }
lister-walked p q events (Err stop) is walked empty visits =
    let gathered = visits.err.each p [] (gathered_none p walked empty) in
    record { asked = stopped-all p.painter q.painter visits.err.count events stop is gathered.painted; name = gathered.name; listed = tt }

-- a list that was lent for it is the view's
pub listed-back : {E : Type 0} (v : ViewValue) (scene : SceneValue) (list now : WalkListValue) (result : Result (Unit {0}) E) → list ≡ now → OnOk result (IsListedView v scene now) → OnOk result (IsListedView v scene list)
listed-back v scene list now result is h = subst (λ (l : WalkListValue). OnOk result (IsListedView v scene l)) (sym is) h

abbrev made_list : List ListedFragment → List ListedPlane → List ListedSprite → ℕ → ℕ → ViewListValue
made_list fragments planes sprites all_fragments all_sprites =
    record { fragments = fragments; planes = planes; sprites = sprites; all_fragments = all_fragments; all_sprites = all_sprites }

list_of : (walk : WalkListValue) (planes : List ListedPlane) (fs : List ListedFragment) (ps : List ListedPlane) (ss : List ListedSprite) (all_fs all_ss : ℕ) → walk.fragments ≡ fs → planes ≡ ps → walk.sprites ≡ ss → walk.all_fragments ≡ all_fs → walk.all_sprites ≡ all_ss →
    made_list walk.fragments planes walk.sprites walk.all_fragments walk.all_sprites ≡ made_list fs ps ss all_fs all_ss
list_of walk planes fs ps ss all_fs all_ss f p s a b =
    ap (λ (x : List ListedFragment). made_list x planes walk.sprites walk.all_fragments walk.all_sprites) f
    ∙ ap (λ (x : List ListedPlane). made_list fs x walk.sprites walk.all_fragments walk.all_sprites) p
    ∙ ap (λ (x : List ListedSprite). made_list fs ps x walk.all_fragments walk.all_sprites) s
    ∙ ap (λ (x : ℕ). made_list fs ps ss x walk.all_sprites) a
    ∙ ap (λ (x : ℕ). made_list fs ps ss all_fs x) b

-- the list of some events, with their planes
events_listed : (v : ViewValue) (scene : Scene) (events : List Event) (walk : WalkListValue) (planes : List ListedPlane) → HasListed v scene events walk → planes ≡ listed_planes (event_planes v scene events) (plane_makers v scene events) →
    made_list walk.fragments planes walk.sprites walk.all_fragments walk.all_sprites ≡ event_list v scene events
unfolding event_list listed_planes listed_sprites
events_listed v scene events walk planes h is = list_of walk planes _ _ _ _ _ h.fragments is h.sprites.sprites h.all h.sprites.all

level_is : (bytes : ℕ → List ℕ) (s : SceneValue) → lists_of s ≡ (scene_of bytes s).level
unfolding scene_of
level_is bytes s = refl

-- the list of a view whose walk a bench and a list have
pub view-listed : (v : ViewValue) (bytes : ℕ → List ℕ) (s : SceneValue) (b : Bench) (walk : WalkListValue) (planes : List ListedPlane) → HasWalkedView v s b → IsListedView v s walk → planes ≡ listed_planes b.planes.planes walk.makers →
    made_list walk.fragments planes walk.sprites walk.all_fragments walk.all_sprites ≡ view_list v (scene_of bytes s)
unfolding view_list
view-listed v bytes s b walk planes walked listed is =
    let scene = scene_of bytes s in
    let events = view_events v (lists_of s) in
    let planes_same = planes-walked v bytes s (limits_in b) events b (walked bytes) in
    let walk_is_listed = listed bytes in
    events_listed v scene events walk planes walk_is_listed (is ∙ ap (λ (ps : List Plane). listed_planes ps walk.makers) planes_same ∙ ap (listed_planes (event_planes v scene events)) walk_is_listed.makers)
    ∙ ap (λ (lists : LevelLists). event_list v scene (view_events v lists)) (level_is bytes s)

-- each plane of it has a maker
pub makers-as_many : (v : ViewValue) (s : SceneValue) (b : Bench) (walk : WalkListValue) → HasWalkedView v s b → IsListedView v s walk → length walk.makers ≡ length b.planes.planes
makers-as_many v s b walk walked listed =
    let bytes : ℕ → List ℕ = λ lump. [] in
    let events = view_events v (lists_of s) in
    ap length (listed bytes).makers ∙ plane_makers-count v (scene_of bytes s) events ∙ ap (λ (ps : List Plane). length ps) (sym (planes-walked v bytes s (limits_in b) events b (walked bytes)))
