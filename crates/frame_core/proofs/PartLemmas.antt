-- Laws of the parts of a view: the walls and then the rest, and what a brush takes of them.
use Rattle.picture_rules.proofs.Common.{ap, Err, inl, inr, List, Ok, Result, subst, sym, ◌++◌, ◌≡◌}
use Rattle.frame_core.specs.Rules.{Event, SceneValue, ViewValue, draw_order}
use Rattle.brush.specs.Strips.{Strip}
use Rattle.masked_draw.specs.Strips.{masked_strips}
use Rattle.masked_draw.proofs.SceneLemmas.{masked-later, taken-by}
use Rattle.plane_draw.specs.Strips.{planes_strips}
use Rattle.receiver_rules.specs.Receivers.{StillTakes}
use Rattle.receiver_rules.proofs.ReceiverLemmas.{takes_each-later}
use Rattle.wall_columns.specs.declared.fault.WallStop.{WallStop}
use Rattle.wall_columns.specs.Faults.{ReceivesToLimit}
use Rattle.wall_columns.specs.Strips.{walls_strips}
use Rattle.wall_columns.proofs.LimitLemmas.{limit-then, limit-value}
use Rattle.frame_core.specs.{declared.bench.Bench.Bench, Painters.AsksWalls}
use Rattle.frame_core.specs.Parts.{AsksView, TakesView}
use Rattle.frame_core.specs.ViewStrips.{scene_entries, scene_noted, scene_planes, scene_sky, seen_walls, view_strips}
use Rattle.frame_core.proofs.PainterLemmas.{walls-later}

-- what a brush took of a view it takes as long as it takes what it took
pub view-later : {B : Type 0} {takes : B → Strip → Type 0} {a b : B} {v : ViewValue} {s : SceneValue} → StillTakes takes a b → TakesView takes a v s → TakesView takes b v s
view-later {v = v} {s} still h = record {
  walls = walls-later v s still h.walls;
  planes = λ bench walked. takes_each-later still (h.planes bench walked);
  masked = λ bench walked. masked-later still (h.masked bench walked);
}

module _ {B A E : Type 0} {takes : B → Strip → Type 0} {stands : B → A → List Strip → Type 0} {stopped : B → A → List Strip → E → Type 0} where
  -- what was asked of the walls where not all were
  pub walls-failed : {v : ViewValue} {s : SceneValue} {old new : B} (result : Result (Unit {0}) (WallStop E)) (stop : WallStop E) → result ≡ Err stop →
      AsksWalls takes stands stopped v s old new (Err stop) → AsksWalls takes stands stopped v s old new result
  walls-failed {v} {s} {old} {new} result stop is asked = subst (AsksWalls takes stands stopped v s old new) (sym is) asked

  -- the walls whole, and then the rest
  pub view-asked : (v : ViewValue) (s : SceneValue) {old mid new : B} (result : Result (Unit {0}) (WallStop E)) → AsksWalls takes stands stopped v s old mid (Ok tt) →
      ReceivesToLimit takes stands stopped mid new (planes_strips v (scene_sky s) (scene_planes v s) ++ masked_strips v (scene_noted v s) (draw_order (scene_entries v s))) result →
      ReceivesToLimit takes stands stopped old new (view_strips v s) result
  unfolding view_strips
  view-asked v s result walls rest =
      let tail : List Strip = planes_strips v (scene_sky s) (scene_planes v s) ++ masked_strips v (scene_noted v s) (draw_order (scene_entries v s)) in
      limit-then (view_strips v s) result walls.asks.by rest (ap (λ (es : List Event). walls_strips v (seen_walls v s es) ++ tail) walls.all)

-- what the value of a brush takes, the brush does
pub view-by : {P S : Type 0} {takes : S → Strip → Type 0} {v : ViewValue} {s : SceneValue} (value : P → S) (p : P) → TakesView takes (value p) v s → TakesView (λ (p : P). takes (value p)) p v s
view-by value p h = record {
  walls = record { each = λ state facts sector seg first last are inside there height open_in. record { each = (h.walls.each state facts sector seg first last are inside there height open_in).each } };
  planes = λ bench walked. record { each = (h.planes bench walked).each };
  masked = λ bench walked. taken-by value p (h.masked bench walked);
}

-- and what was asked of the brush was asked of its value
pub view-value : {P S A E : Type 0} {takes : S → Strip → Type 0} {stands : S → A → List Strip → Type 0} {stopped : S → A → List Strip → E → Type 0} {v : ViewValue} {s : SceneValue} {b : Bench} (value : P → S) (old new : P)
    (result : Result (Unit {0}) (WallStop E)) → AsksView (λ (p : P). takes (value p)) (λ (p : P). stands (value p)) (λ (p : P). stopped (value p)) v s b old new result →
    AsksView takes stands stopped v s b (value old) (value new) result
view-value value old new result (inl some) =
    let walls = some.1 in
    inl (some.0, record { events = walls.events; rest = walls.rest; joins = walls.joins; there = walls.there; asks = limit-value value old new result walls.asks; all = walls.all })
view-value value old new result (inr all) = inr (all.0, limit-value value old new result all.1)
