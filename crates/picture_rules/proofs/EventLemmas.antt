-- Laws of one event more: the drawn fragments, the steps with planes and openings, and the vissprites' sectors; and an empty list.
use Rattle.word_rules.proofs.Common.{[], ap, append-nil, append_assoc, arith, funext, length, length-map, List, map, map-append, refl, Some, sym, ℕ, ◌++◌, ◌+◌, ◌<◌, ◌∙◌, ◌∷◌, ◌≡◌, ◌≤◌}
use Rattle.picture_rules.specs.Rules.{Dot, Event, FragmentEvent, LeafEvent, MAX_DRAWSEGS, ViewValue, drawsegs, last_leaf, leaf_fragments, leaves_entered}
use Rattle.level_rules.proofs.walk.DrawsegLemmas.{drawsegs-leaf, drawsegs-room, drawsegs-full, room-drawsegs, full-drawsegs}
use Rattle.picture_rules.specs.{wall.Walls.Wall, wall.Openings.openings_of}
use Rattle.picture_rules.specs.wall.Strips.{wall_dots, ceiling_marks, floor_marks}
use Rattle.picture_rules.proofs.wall.PaintLemmas.{ceiling_marks-front, floor_marks-front, wall_dots-front}
use Rattle.picture_rules.specs.plane.Built.{PlaneWall, after_events, planes_of}
use Rattle.picture_rules.specs.{plane.Built.PlaneEvent.Draws, sprite.Order.draw_order}
use Rattle.picture_rules.specs.sprite.Middles.{middles_at, sprites_from, masked_dots}
use Rattle.picture_rules.specs.Scene.{Scene, leaf_surface}
use Rattle.picture_rules.specs.Walls.{fragment_wall, walls_of, walls_from, walls_dots}
use Rattle.picture_rules.specs.Planes.{Step, plane_wall, leaf_step, wall_step, steps_from, steps_of, view_planes, planes_from, planes_dots}
use Rattle.picture_rules.specs.Masked.{drawsegs_from, view_drawsegs}
use Rattle.picture_rules.specs.Things.{first_mentions, sectors_entered, with_sectors, view_entries}
use Rattle.picture_rules.specs.Paints.{paints_by, paints_of}

-- a leaf adds no fragment
pub walls_of-leaf : (v : ViewValue) (scene : Scene) (es : List Event) (n : ℕ) → walls_of v scene (es ++ LeafEvent n ∷ []) ≡ walls_of v scene es
unfolding walls_of
walls_of-leaf v scene es n = ap (map (fragment_wall v scene)) (drawsegs-leaf es n)

-- a fragment is drawn from the leaf that was entered last, while there is room
pub walls_of-room : (v : ViewValue) (scene : Scene) (es : List Event) (seg first last : ℕ) → length (walls_of v scene es) < MAX_DRAWSEGS →
    walls_of v scene (es ++ FragmentEvent seg first last ∷ []) ≡ walls_of v scene es ++ fragment_wall v scene (record { leaf = last_leaf 0 es; seg = seg; first = first; last = last }) ∷ []
unfolding walls_of
walls_of-room v scene es seg first last h =
    let has_room : length (drawsegs es) < MAX_DRAWSEGS = omega (arith, length-map (drawsegs es) (fragment_wall v scene)) in
    ap (map (fragment_wall v scene)) (drawsegs-room es seg first last (room-drawsegs es has_room))
    ∙ map-append (fragment_wall v scene) (drawsegs es) (record { leaf = last_leaf 0 es; seg = seg; first = first; last = last } ∷ [])

pub walls_of-full : (v : ViewValue) (scene : Scene) (es : List Event) (seg first last : ℕ) → MAX_DRAWSEGS ≤ length (walls_of v scene es) →
    walls_of v scene (es ++ FragmentEvent seg first last ∷ []) ≡ walls_of v scene es
unfolding walls_of
walls_of-full v scene es seg first last h =
    let is_full : MAX_DRAWSEGS ≤ length (drawsegs es) = omega (arith, length-map (drawsegs es) (fragment_wall v scene)) in
    ap (map (fragment_wall v scene)) (drawsegs-full es seg first last (full-drawsegs es is_full))

-- what a fragment does with planes is the same where more fragments follow
plane_wall_front : (v : ViewValue) (walls more : List Wall) (k : ℕ) (w : Wall) → k ≤ length walls → plane_wall v (walls ++ more) k w ≡ plane_wall v walls k w
unfolding plane_wall
plane_wall_front v walls more k w l =
    let same_ceiling : ceiling_marks v (walls ++ more) k w ≡ ceiling_marks v walls k w = funext (ceiling_marks v (walls ++ more) k w) (ceiling_marks v walls k w) (λ x. ceiling_marks-front v walls more k w x l) in
    let same_floor : floor_marks v (walls ++ more) k w ≡ floor_marks v walls k w = funext (floor_marks v (walls ++ more) k w) (floor_marks v walls k w) (λ x. floor_marks-front v walls more k w x l) in cc

wall_step_front : (v : ViewValue) (walls more : List Wall) (k : ℕ) (w : Wall) → k ≤ length walls → wall_step v (walls ++ more) k w ≡ wall_step v walls k w
unfolding wall_step
wall_step_front v walls more k w l = ap (λ (p : PlaneWall). record { event = Draws p; openings = Some (openings_of w) }) (plane_wall_front v walls more k w l)

-- the steps of a list of events whose drawn fragments are ws
steps_front : (v : ViewValue) (scene : Scene) (walls more : List Wall) (k : ℕ) (ws : List Wall) (es : List Event) → k + length ws ≤ length walls → steps_from v scene (walls ++ more) k ws es ≡ steps_from v scene walls k ws es
unfolding steps_from
steps_front v scene walls more k ws [] l = refl
steps_front v scene walls more k ws (LeafEvent n ∷ es) l = ap (λ s. leaf_step v (leaf_surface scene n) ∷ s) (steps_front v scene walls more k ws es l)
steps_front v scene walls more k [] (FragmentEvent seg first last ∷ es) l = steps_front v scene walls more k [] es l
steps_front v scene walls more k (w ∷ ws) (FragmentEvent seg first last ∷ es) l =
    ap (λ (s : Step). s ∷ steps_from v scene (walls ++ more) (k + 1) ws es) (wall_step_front v walls more k w (omega arith))
    ∙ ap (λ (s : List Step). wall_step v walls k w ∷ s) (steps_front v scene walls more (k + 1) ws es (omega arith))

steps_leaf : (v : ViewValue) (scene : Scene) (walls : List Wall) (k : ℕ) (ws : List Wall) (es : List Event) (n : ℕ) → steps_from v scene walls k ws (es ++ LeafEvent n ∷ []) ≡ steps_from v scene walls k ws es ++ leaf_step v (leaf_surface scene n) ∷ []
unfolding steps_from
steps_leaf v scene walls k ws [] n = refl
steps_leaf v scene walls k ws (LeafEvent m ∷ es) n = ap (λ (s : List Step). leaf_step v (leaf_surface scene m) ∷ s) (steps_leaf v scene walls k ws es n)
steps_leaf v scene walls k [] (FragmentEvent seg first last ∷ es) n = steps_leaf v scene walls k [] es n
steps_leaf v scene walls k (w ∷ ws) (FragmentEvent seg first last ∷ es) n = ap (λ s. wall_step v walls k w ∷ s) (steps_leaf v scene walls (k + 1) ws es n)

-- one leaf more
pub steps_of-leaf : (v : ViewValue) (scene : Scene) (walls : List Wall) (es : List Event) (n : ℕ) →
    steps_of v scene walls (es ++ LeafEvent n ∷ []) ≡ steps_of v scene walls es ++ leaf_step v (leaf_surface scene n) ∷ []
unfolding steps_of
steps_of-leaf v scene walls es n = steps_leaf v scene walls 0 walls es n

steps_last : (v : ViewValue) (scene : Scene) (walls : List Wall) (k : ℕ) (ws : List Wall) (w : Wall) (leaf : ℕ) (es : List Event) (seg first last n : ℕ) → k + length ws ≡ n → length ws ≡ length (leaf_fragments leaf es) →
    steps_from v scene walls k (ws ++ w ∷ []) (es ++ FragmentEvent seg first last ∷ []) ≡ steps_from v scene walls k ws es ++ wall_step v walls n w ∷ []
unfolding steps_from leaf_fragments
steps_last v scene walls k [] w leaf [] seg first last n e h = let is_last : k ≡ n = omega arith in ap (λ (m : ℕ). wall_step v walls m w ∷ []) is_last
steps_last v scene walls k (u ∷ us) w leaf [] seg first last n e h = absurd (omega arith)
steps_last v scene walls k ws w leaf (LeafEvent m ∷ es) seg first last n e h =
    ap (λ (s : List Step). leaf_step v (leaf_surface scene m) ∷ s) (steps_last v scene walls k ws w m es seg first last n e h)
steps_last v scene walls k [] w leaf (FragmentEvent s a b ∷ es) seg first last n e h = absurd (omega arith)
steps_last v scene walls k (u ∷ us) w leaf (FragmentEvent s a b ∷ es) seg first last n e h =
    ap (λ (t : List Step). wall_step v walls k u ∷ t) (steps_last v scene walls (k + 1) us w leaf es seg first last n (omega arith) (omega arith))

-- one drawn fragment more, behind those of all fragments so far
pub steps_of-room : (v : ViewValue) (scene : Scene) (walls : List Wall) (w : Wall) (es : List Event) (seg first last : ℕ) → length walls ≡ length (leaf_fragments 0 es) →
    steps_of v scene (walls ++ w ∷ []) (es ++ FragmentEvent seg first last ∷ []) ≡ steps_of v scene walls es ++ wall_step v (walls ++ w ∷ []) (length walls) w ∷ []
unfolding steps_of
steps_of-room v scene walls w es seg first last h =
    steps_last v scene (walls ++ w ∷ []) 0 walls w 0 es seg first last (length walls) (omega arith) h
    ∙ ap (λ (s : List Step). s ++ wall_step v (walls ++ w ∷ []) (length walls) w ∷ []) (steps_front v scene walls (w ∷ []) 0 walls es (omega arith))

steps_none : (v : ViewValue) (scene : Scene) (walls : List Wall) (k : ℕ) (ws : List Wall) (leaf : ℕ) (es : List Event) (seg first last : ℕ) →
    length ws ≤ length (leaf_fragments leaf es) → steps_from v scene walls k ws (es ++ FragmentEvent seg first last ∷ []) ≡ steps_from v scene walls k ws es
unfolding steps_from leaf_fragments
steps_none v scene walls k [] leaf [] seg first last h = refl
steps_none v scene walls k (u ∷ us) leaf [] seg first last h = absurd (omega arith)
steps_none v scene walls k ws leaf (LeafEvent m ∷ es) seg first last h =
    ap (λ (s : List Step). leaf_step v (leaf_surface scene m) ∷ s) (steps_none v scene walls k ws m es seg first last h)
steps_none v scene walls k [] leaf (FragmentEvent s a b ∷ es) seg first last h = steps_none v scene walls k [] leaf es seg first last (omega arith)
steps_none v scene walls k (u ∷ us) leaf (FragmentEvent s a b ∷ es) seg first last h =
    ap (λ (t : List Step). wall_step v walls k u ∷ t) (steps_none v scene walls (k + 1) us leaf es seg first last (omega arith))

-- a fragment past the most that a view keeps is no step
pub steps_of-full : (v : ViewValue) (scene : Scene) (walls : List Wall) (es : List Event) (seg first last : ℕ) → length walls ≤ length (leaf_fragments 0 es) →
    steps_of v scene walls (es ++ FragmentEvent seg first last ∷ []) ≡ steps_of v scene walls es
unfolding steps_of
steps_of-full v scene walls es seg first last h = steps_none v scene walls 0 walls 0 es seg first last h

-- the dots of the walls with one fragment more
walls_front : (v : ViewValue) (scene : Scene) (walls more : List Wall) (k : ℕ) (ws : List Wall) → k + length ws ≤ length walls → walls_from v scene (walls ++ more) k ws ≡ walls_from v scene walls k ws
unfolding walls_from
walls_front v scene walls more k [] l = refl
walls_front v scene walls more k (w ∷ ws) l =
    ap (λ (ds : List Dot). ds ++ walls_from v scene (walls ++ more) (k + 1) ws) (wall_dots-front v scene.art walls more k w (omega arith))
    ∙ ap (λ (ds : List Dot). wall_dots v scene.art walls k w ++ ds) (walls_front v scene walls more (k + 1) ws (omega arith))

walls_last : (v : ViewValue) (scene : Scene) (walls : List Wall) (k : ℕ) (ws : List Wall) (w : Wall) (n : ℕ) → k + length ws ≡ n → walls_from v scene walls k (ws ++ w ∷ []) ≡ walls_from v scene walls k ws ++ wall_dots v scene.art walls n w
unfolding walls_from
walls_last v scene walls k [] w n e =
    append-nil (wall_dots v scene.art walls k w) ∙ (let is_last : k ≡ n = omega arith in ap (λ (m : ℕ). wall_dots v scene.art walls m w) is_last)
walls_last v scene walls k (u ∷ us) w n e =
    ap (λ (ds : List Dot). wall_dots v scene.art walls k u ++ ds) (walls_last v scene walls (k + 1) us w n (omega arith))
    ∙ sym (append_assoc (wall_dots v scene.art walls k u) (walls_from v scene walls (k + 1) us) (wall_dots v scene.art walls n w))

pub walls_dots-more : (v : ViewValue) (scene : Scene) (walls : List Wall) (w : Wall) →
    walls_dots v scene (walls ++ w ∷ []) ≡ walls_dots v scene walls ++ wall_dots v scene.art walls (length walls) w
unfolding walls_dots
walls_dots-more v scene walls w =
    walls_last v scene (walls ++ w ∷ []) 0 walls w (length walls) (omega arith)
    ∙ ap (λ (ds : List Dot). ds ++ wall_dots v scene.art (walls ++ w ∷ []) (length walls) w) (walls_front v scene walls (w ∷ []) 0 walls (omega arith))
    ∙ ap (λ (ds : List Dot). walls_dots v scene walls ++ ds) (wall_dots-front v scene.art walls (w ∷ []) (length walls) w (omega arith))
