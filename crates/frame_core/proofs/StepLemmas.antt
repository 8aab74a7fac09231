-- Laws of the steps of a view's events to which one more is added, of the planes and openings after them, and of the first limit that they pass.
use Rattle.picture_rules.proofs.Common.{[], ap, append-nil, append_assoc, arith, cases_lt, find, find-append, inl, inr, length, List, map, map-append, None, Option, option_or, refl, Some, sym, ℕ, ◌++◌, ◌<◌, ◌∙◌, ◌∷◌, ◌≡◌, ◌≤◌}
use Rattle.frame_core.specs.Rules.{Event, FragmentEvent, LeafEvent, Limits, MAX_DRAWSEGS, OverLimit, Scene, Step, ViewValue, Wall, after_event, after_events, counts_from, drawsegs, fragment_facts, fragment_wall, last_leaf, leaf_fragments, leaf_step, leaf_surface, no_planes, openings_after, openings_counts, openings_past, passes_limit, plane_counts, planes_count, steps_from, steps_of, steps_over, view_steps, walls_of}
use Rattle.picture_rules.proofs.plane.BuiltLemmas.{after_events-more}
use Rattle.picture_rules.proofs.CountLemmas.{counts_from-more, openings_after-more}
use Rattle.picture_rules.proofs.ListLemmas.{all_counted, drawn_counted, walls_counted}
use Rattle.picture_rules.proofs.EventLemmas.{steps_of-full, steps_of-leaf, steps_of-room, walls_of-full, walls_of-leaf, walls_of-room}
use Rattle.wall_columns.specs.Built.{step_of_wall, step_over, with_wall}
use Rattle.frame_core.specs.Walked.{next_wall, planes_after}

-- the counts of one step more, of which the first that passes a limit is told
abbrev last_counts : List Step → Step → List OverLimit
last_counts steps e =
    openings_counts (openings_after 0 steps) e.openings ++ map planes_count (plane_counts (after_events no_planes (map (λ (s : Step). s.event) steps)) e.event)

over_parts : (limits : Limits) (steps : List Step) (e : Step) →
    steps_over limits (steps ++ e ∷ []) ≡ option_or (steps_over limits steps) (find (passes_limit limits) (last_counts steps e))
unfolding steps_over
over_parts limits steps e =
    ap (find (passes_limit limits)) (counts_from-more no_planes 0 steps e)
    ∙ find-append (passes_limit limits) (counts_from no_planes 0 steps) (last_counts steps e)

-- no limit was passed, so one step more passes one by its own counts
pub over-more : (limits : Limits) (steps : List Step) (e : Step) → steps_over limits steps ≡ None →
    steps_over limits (steps ++ e ∷ []) ≡ step_over limits (after_events no_planes (map (λ (s : Step). s.event) steps)) (openings_after 0 steps) e
over-more limits steps e h =
    over_parts limits steps e ∙ ap (λ (o : Option OverLimit). option_or o (find (passes_limit limits) (last_counts steps e))) h

-- a limit that was passed is told whatever step follows
pub over-kept : (limits : Limits) (steps : List Step) (e : Step) (o : OverLimit) → steps_over limits steps ≡ Some o → steps_over limits (steps ++ e ∷ []) ≡ Some o
over-kept limits steps e o h =
    over_parts limits steps e ∙ ap (λ (p : Option OverLimit). option_or p (find (passes_limit limits) (last_counts steps e))) h

-- a leaf adds no fragment
pub walls-leaf : (v : ViewValue) (scene : Scene) (es : List Event) (n : ℕ) → walls_of v scene (es ++ LeafEvent n ∷ []) ≡ walls_of v scene es
walls-leaf v scene es n = walls_of-leaf v scene es n

fragment_is : (v : ViewValue) (scene : Scene) (es : List Event) (seg first last : ℕ) →
    fragment_wall v scene (record { leaf = last_leaf 0 es; seg = seg; first = first; last = last }) ≡ next_wall v scene es seg first last
unfolding fragment_wall fragment_facts next_wall
fragment_is v scene es seg first last = refl

-- while there is room a fragment is drawn as the next wall
pub walls-room : (v : ViewValue) (scene : Scene) (es : List Event) (seg first last : ℕ) → length (walls_of v scene es) < MAX_DRAWSEGS →
    walls_of v scene (es ++ FragmentEvent seg first last ∷ []) ≡ with_wall (walls_of v scene es) (next_wall v scene es seg first last)
walls-room v scene es seg first last h =
    walls_of-room v scene es seg first last h ∙ ap (λ (w : Wall). walls_of v scene es ++ w ∷ []) (fragment_is v scene es seg first last)

-- past the most that a view keeps it is none
pub walls-full : (v : ViewValue) (scene : Scene) (es : List Event) (seg first last : ℕ) → MAX_DRAWSEGS ≤ length (walls_of v scene es) →
    walls_of v scene (es ++ FragmentEvent seg first last ∷ []) ≡ walls_of v scene es
walls-full v scene es seg first last h = walls_of-full v scene es seg first last h

-- one leaf more is one step more
pub steps-leaf : (v : ViewValue) (scene : Scene) (es : List Event) (n : ℕ) →
    view_steps v scene (es ++ LeafEvent n ∷ []) ≡ view_steps v scene es ++ leaf_step v (leaf_surface scene n) ∷ []
unfolding view_steps
steps-leaf v scene es n =
    ap (λ (walls : List Wall). steps_of v scene walls (es ++ LeafEvent n ∷ [])) (walls-leaf v scene es n) ∙ steps_of-leaf v scene (walls_of v scene es) es n

-- so is a fragment that is drawn
pub steps-room : (v : ViewValue) (scene : Scene) (es : List Event) (seg first last : ℕ) → length (walls_of v scene es) < MAX_DRAWSEGS →
    view_steps v scene (es ++ FragmentEvent seg first last ∷ []) ≡ view_steps v scene es ++ step_of_wall v (walls_of v scene es) (next_wall v scene es seg first last) ∷ []
unfolding view_steps
steps-room v scene es seg first last h =
    let walls_count = walls_counted v scene es in
    let drawn_below_most : length (drawsegs es) < MAX_DRAWSEGS = omega arith in
    ap (λ (walls : List Wall). steps_of v scene walls (es ++ FragmentEvent seg first last ∷ [])) (walls-room v scene es seg first last h)
    ∙ steps_of-room v scene (walls_of v scene es) (next_wall v scene es seg first last) es seg first last (walls_count ∙ all_counted es drawn_below_most)

-- and one past the most that a view keeps is no step
pub steps-full : (v : ViewValue) (scene : Scene) (es : List Event) (seg first last : ℕ) → MAX_DRAWSEGS ≤ length (walls_of v scene es) →
    view_steps v scene (es ++ FragmentEvent seg first last ∷ []) ≡ view_steps v scene es
unfolding view_steps
steps-full v scene es seg first last h =
    let walls_count = walls_counted v scene es in
    let drawn_within_all = drawn_counted es in
    ap (λ (walls : List Wall). steps_of v scene walls (es ++ FragmentEvent seg first last ∷ [])) (walls-full v scene es seg first last h)
    ∙ steps_of-full v scene (walls_of v scene es) es seg first last (omega arith)

stays_one : (limits : Limits) (v : ViewValue) (scene : Scene) (es : List Event) (e : Event) (o : OverLimit) → steps_over limits (view_steps v scene es) ≡ Some o →
    steps_over limits (view_steps v scene (es ++ e ∷ [])) ≡ Some o
stays_one limits v scene es (LeafEvent n) o h =
    ap (steps_over limits) (steps-leaf v scene es n) ∙ over-kept limits (view_steps v scene es) (leaf_step v (leaf_surface scene n)) o h
stays_one limits v scene es (FragmentEvent seg first last) o h =
    elim (cases_lt (length (walls_of v scene es)) MAX_DRAWSEGS) [
      | inl r ↦
          ap (steps_over limits) (steps-room v scene es seg first last r)
          ∙ over-kept limits (view_steps v scene es) (step_of_wall v (walls_of v scene es) (next_wall v scene es seg first last)) o h
      | inr r ↦ ap (steps_over limits) (steps-full v scene es seg first last r) ∙ h
    ]

-- a limit that is passed is told whatever events follow
pub over-stays : (limits : Limits) (v : ViewValue) (scene : Scene) (es more : List Event) (o : OverLimit) → steps_over limits (view_steps v scene es) ≡ Some o →
    steps_over limits (view_steps v scene (es ++ more)) ≡ Some o
over-stays limits v scene es [] o h = ap (λ (xs : List Event). steps_over limits (view_steps v scene xs)) (append-nil es) ∙ h
over-stays limits v scene es (e ∷ more) o h =
    ap (λ (xs : List Event). steps_over limits (view_steps v scene xs)) (sym (append_assoc es (e ∷ []) more))
    ∙ over-stays limits v scene (es ++ e ∷ []) more o (stays_one limits v scene es e o h)

-- no event is no step, no plane, no opening, and passes no limit
pub steps-none : (v : ViewValue) (scene : Scene) → view_steps v scene [] ≡ []
unfolding view_steps steps_of walls_of drawsegs leaf_fragments steps_from
steps-none v scene = refl

pub walls-none : (v : ViewValue) (scene : Scene) → walls_of v scene [] ≡ []
unfolding walls_of drawsegs leaf_fragments
walls-none v scene = refl

pub planes_after-none : (v : ViewValue) (scene : Scene) → planes_after v scene [] ≡ no_planes
unfolding planes_after after_events
planes_after-none v scene = ap (λ (steps : List Step). after_events no_planes (map (λ (s : Step). s.event) steps)) (steps-none v scene)

pub openings-none : (v : ViewValue) (scene : Scene) → openings_after 0 (view_steps v scene []) ≡ 0
unfolding openings_after
openings-none v scene = ap (openings_after 0) (steps-none v scene)

pub over-none : (limits : Limits) (v : ViewValue) (scene : Scene) → steps_over limits (view_steps v scene []) ≡ None
unfolding steps_over counts_from
over-none limits v scene = ap (λ (steps : List Step). find (passes_limit limits) (counts_from no_planes 0 steps)) (steps-none v scene)

-- the planes after one step more
planes_more : (steps : List Step) (e : Step) →
    after_events no_planes (map (λ (s : Step). s.event) (steps ++ e ∷ [])) ≡ after_event (after_events no_planes (map (λ (s : Step). s.event) steps)) e.event
planes_more steps e =
    ap (after_events no_planes) (map-append (λ (s : Step). s.event) steps (e ∷ [])) ∙ after_events-more no_planes (map (λ (s : Step). s.event) steps) e.event

-- the planes, the openings and the first limit passed, where the events are one step more
pub record OneMore (v : ViewValue) (scene : Scene) (es more : List Event) (e : Step) : Type 0 where
  pub planes : planes_after v scene more ≡ after_event (planes_after v scene es) e.event
  pub openings : openings_after 0 (view_steps v scene more) ≡ openings_past (openings_after 0 (view_steps v scene es)) e.openings
  pub over : (limits : Limits) → steps_over limits (view_steps v scene es) ≡ None →
      steps_over limits (view_steps v scene more) ≡ step_over limits (planes_after v scene es) (openings_after 0 (view_steps v scene es)) e

one_more : (v : ViewValue) (scene : Scene) (es more : List Event) (e : Step) → view_steps v scene more ≡ view_steps v scene es ++ e ∷ [] → OneMore v scene es more e
unfolding planes_after
one_more v scene es more e is = record {
  planes = ap (λ (steps : List Step). after_events no_planes (map (λ (s : Step). s.event) steps)) is ∙ planes_more (view_steps v scene es) e;
  openings = ap (openings_after 0) is ∙ openings_after-more 0 (view_steps v scene es) e;
  over = λ limits none. ap (steps_over limits) is ∙ over-more limits (view_steps v scene es) e none;
}

pub one_more-leaf : (v : ViewValue) (scene : Scene) (es : List Event) (n : ℕ) → OneMore v scene es (es ++ LeafEvent n ∷ []) (leaf_step v (leaf_surface scene n))
one_more-leaf v scene es n = one_more v scene es (es ++ LeafEvent n ∷ []) (leaf_step v (leaf_surface scene n)) (steps-leaf v scene es n)

pub one_more-room : (v : ViewValue) (scene : Scene) (es : List Event) (seg first last : ℕ) → length (walls_of v scene es) < MAX_DRAWSEGS →
    OneMore v scene es (es ++ FragmentEvent seg first last ∷ []) (step_of_wall v (walls_of v scene es) (next_wall v scene es seg first last))
one_more-room v scene es seg first last h =
    one_more v scene es (es ++ FragmentEvent seg first last ∷ []) (step_of_wall v (walls_of v scene es) (next_wall v scene es seg first last)) (steps-room v scene es seg first last h)

-- the planes stay where a fragment is past the most that a view keeps
pub planes_after-full : (v : ViewValue) (scene : Scene) (es : List Event) (seg first last : ℕ) → MAX_DRAWSEGS ≤ length (walls_of v scene es) →
    planes_after v scene (es ++ FragmentEvent seg first last ∷ []) ≡ planes_after v scene es
unfolding planes_after
planes_after-full v scene es seg first last h =
    ap (λ (steps : List Step). after_events no_planes (map (λ (s : Step). s.event) steps)) (steps-full v scene es seg first last h)
