-- Laws of the strips of a view's events to which one more is added.
use Rattle.picture_rules.proofs.Common.{[], ap, append-nil, append_assoc, arith, Bool, cases_lt, cond, false, inl, inr, length, List, lt-true, nat_lt, nat_tests, refl, sym, true, ℕ, ◌++◌, ◌<◌, ◌∙◌, ◌∷◌, ◌≡◌, ◌≤◌}
use Rattle.frame_core.specs.Rules.{Event, FragmentEvent, LeafEvent, Limits, MAX_DRAWSEGS, SceneValue, ViewValue, Wall, WallFacts, drawsegs, facts_of, leaf_fragments, seg_at, surface_at, walls_of}
use Rattle.brush.specs.Strips.{Strip}
use Rattle.receiver_rules.proofs.FirstLemmas.{Begins}
use Rattle.sound_scene.specs.Pictures.{lists_of, scene_of}
use Rattle.wall_columns.specs.Built.{with_wall}
use Rattle.wall_columns.specs.Strips.{range_strips, wall_strips_at, walls_strips, walls_strips_from}
use Rattle.wall_columns.proofs.RangeLemmas.{range-none}
use Rattle.wall_columns.proofs.WallsLemmas.{range-next, strips-more}
use Rattle.frame_core.specs.{declared.bench.Bench.Bench}
use Rattle.frame_core.specs.ViewStrips.{event_strips, no_bytes, seen_walls}
use Rattle.frame_core.specs.Walked.{HasWalked, next_wall, planes_after}
use Rattle.frame_core.proofs.StepLemmas.{walls-full, walls-leaf, walls-room}
use Rattle.frame_core.proofs.WalkedFragmentLemmas.{next_wall-facts, notes_full}

-- no event has no strip
pub strips-none : (v : ViewValue) (s : SceneValue) → [] ≡ walls_strips v (seen_walls v s [])
unfolding walls_strips walls_strips_from walls_of drawsegs leaf_fragments
strips-none v s = refl

pub leaf-none : (v : ViewValue) (s : SceneValue) (es : List Event) (n : ℕ) → [] ≡ event_strips v s es (LeafEvent n)
unfolding event_strips
leaf-none v s es n = refl

by_room : (v : ViewValue) (s : SceneValue) (es : List Event) (seg first last : ℕ) (room : Bool) → nat_lt (length (seen_walls v s es)) MAX_DRAWSEGS ≡ room →
    walls_strips v (seen_walls v s (es ++ FragmentEvent seg first last ∷ []))
    ≡ walls_strips v (seen_walls v s es) ++ cond room
    (wall_strips_at v (with_wall (seen_walls v s es) (next_wall v (scene_of no_bytes s) es seg first last)) (length (seen_walls v s es)) (next_wall v (scene_of no_bytes s) es seg first last)) []
by_room v s es seg first last true e =
    let walls = seen_walls v s es in
    let below : length walls < MAX_DRAWSEGS = grind (arith, nat_tests) in
    ap (walls_strips v) (walls-room v (scene_of no_bytes s) es seg first last below) ∙ strips-more v walls (next_wall v (scene_of no_bytes s) es seg first last)
by_room v s es seg first last false e =
    let full : MAX_DRAWSEGS ≤ length (seen_walls v s es) = grind (arith, nat_tests) in
    ap (walls_strips v) (walls-full v (scene_of no_bytes s) es seg first last full) ∙ sym (append-nil (walls_strips v (seen_walls v s es)))

-- an event adds its own
pub event-strips : (v : ViewValue) (s : SceneValue) (es : List Event) (e : Event) →
    walls_strips v (seen_walls v s (es ++ e ∷ [])) ≡ walls_strips v (seen_walls v s es) ++ event_strips v s es e
unfolding event_strips
event-strips v s es (LeafEvent n) = ap (walls_strips v) (walls-leaf v (scene_of no_bytes s) es n) ∙ sym (append-nil (walls_strips v (seen_walls v s es)))
event-strips v s es (FragmentEvent seg first last) = by_room v s es seg first last (nat_lt (length (seen_walls v s es)) MAX_DRAWSEGS) refl

-- the strips of some events begin those of them with others behind
pub strips-begin : (v : ViewValue) (s : SceneValue) (es more : List Event) → Begins (walls_strips v (seen_walls v s es)) (walls_strips v (seen_walls v s (es ++ more)))
strips-begin v s es [] = record {
  rest = [];
  joins = append-nil (walls_strips v (seen_walls v s es)) ∙ ap (λ (xs : List Event). walls_strips v (seen_walls v s xs)) (sym (append-nil es));
}
strips-begin v s es (m ∷ ms) =
    let next = strips-begin v s (es ++ m ∷ []) ms in
    record {
      rest = event_strips v s es m ++ next.rest;
      joins = sym (append_assoc (walls_strips v (seen_walls v s es)) (event_strips v s es m) next.rest)
          ∙ ap (λ (xs : List Strip). xs ++ next.rest) (sym (event-strips v s es m))
          ∙ next.joins
          ∙ ap (λ (xs : List Event). walls_strips v (seen_walls v s xs)) (append_assoc es (m ∷ []) ms);
    }

-- what a fragment shows behind the walls of a bench is what its event adds
pub range-event : (v : ViewValue) (s : SceneValue) (most : Limits) (events : List Event) (seg first last : ℕ) (facts : WallFacts) (b : Bench) → last < v.shape.width →
    facts ≡ facts_of (scene_of no_bytes s) (surface_at (lists_of s) b.sector) seg (seg_at (lists_of s) seg) → HasWalked v no_bytes s most events b →
    range_strips v b.walls facts first last ≡ event_strips v s events (FragmentEvent seg first last)
unfolding event_strips
range-event v s most events seg first last facts b within are walked =
    let walls = seen_walls v s events in
    let now = planes_after v (scene_of no_bytes s) events in
    let shown : Wall → List Strip = λ w. wall_strips_at v (with_wall walls w) (length walls) w in
    let next = next_wall v (scene_of no_bytes s) events seg first last in
    elim (cases_lt (length walls) MAX_DRAWSEGS) [
      | inl room ↦
          range-next v b.walls facts first last walls now b.planes.planes within walked.built room
          ∙ ap shown (next_wall-facts v no_bytes s events seg first last b.sector facts walked.sector are)
          ∙ sym (ap (λ (t : Bool). cond t (shown next) []) (lt-true (length walls) MAX_DRAWSEGS room))
      | inr full ↦
          (let notes = notes_full v (scene_of no_bytes s) events now b.walls b.planes.planes walked.built full in
          let no_note : nat_lt (length b.walls.notes) MAX_DRAWSEGS ≡ false = grind (arith, nat_tests) in
          let no_wall : nat_lt (length walls) MAX_DRAWSEGS ≡ false = grind (arith, nat_tests) in
          sym (range-none v b.walls facts first last no_note) ∙ sym (ap (λ (t : Bool). cond t (shown next) []) no_wall))
    ]
