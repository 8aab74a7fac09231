-- Laws of counts: what a bench that the whole walk of a view is in counts is what the view counts.
use Rattle.picture_rules.proofs.Common.{[], ap, arith, length, length-append, length-map, length-take, List, map, None, refl, subst, suc, sum, sum_by-cons, sym, ℕ, ◌+◌, ◌∙◌, ◌∷◌, ◌≡◌, ◌≤◌}
use Rattle.frame_core.specs.Rules.{Counts, Event, Limits, MAX_DRAWSEGS, Plane, Scene, SceneValue, ViewValue, Wall, counts_by, drawsegs, fragment_wall, leaf_fragments, notes_from, openings_list, openings_of, planes_of, saved_by, saved_from, view_counts, view_entries, view_events, view_notes, view_over, view_planes, view_steps, walls_of}
use Rattle.picture_rules.proofs.wall.NoteLemmas.{length-saved_openings}
use Rattle.frame_core.specs.{declared.bench.Bench.Bench, Walked.planes_after}
use Rattle.sound_scene.specs.Pictures.{lists_of, scene_of}
use Rattle.frame_core.specs.Painters.{HasWalkedView, counts_in, limits_in}

-- the fragments save as many openings as are counted of them
saved_sum : (v : ViewValue) (walls : List Wall) (k : ℕ) (ws : List Wall) → length (saved_from v walls k ws) ≡ sum (map openings_of ws)
unfolding saved_from
saved_sum v walls k [] = refl
saved_sum v walls k (w ∷ ws) =
    length-append (saved_by v walls k w) (saved_from v walls (k + 1) ws)
    ∙ ap (λ (n : ℕ). n + length (saved_from v walls (k + 1) ws)) (length-saved_openings v walls k w)
    ∙ ap (λ (n : ℕ). openings_of w + n) (saved_sum v walls (k + 1) ws)
    ∙ sym (sum_by-cons (λ (n : ℕ). n) (openings_of w) (map openings_of ws))

-- the openings of a view are as many as its fragments count
pub length-openings_list : (v : ViewValue) (walls : List Wall) → length (openings_list v walls) ≡ sum (map openings_of walls)
unfolding openings_list
length-openings_list v walls = saved_sum v walls 0 walls

noted : (v : ViewValue) (ws : List Wall) (place : ℕ) → length (notes_from v place ws) ≡ length ws
unfolding notes_from
noted v [] place = refl
noted v (w ∷ ws) place = ap suc (noted v ws _)

-- each fragment has a note
pub length-view_notes : (v : ViewValue) (walls : List Wall) → length (view_notes v walls) ≡ length walls
unfolding view_notes
length-view_notes v walls = noted v walls 0

abbrev made_counts : ℕ → ℕ → ℕ → ℕ → Counts
made_counts planes openings fragments sprites = record { planes = planes; openings = openings; fragments = fragments; sprites = sprites }

counts_of : (k : Counts) (planes openings fragments sprites : ℕ) → k.planes ≡ planes → k.openings ≡ openings → k.fragments ≡ fragments → k.sprites ≡ sprites → k ≡ made_counts planes openings fragments sprites
counts_of k planes openings fragments sprites p o f s =
    ap (λ (n : ℕ). made_counts n k.openings k.fragments k.sprites) p
    ∙ ap (λ (n : ℕ). made_counts planes n k.fragments k.sprites) o
    ∙ ap (λ (n : ℕ). made_counts planes openings n k.sprites) f
    ∙ ap (λ (n : ℕ). made_counts planes openings fragments n) s

-- the counts of a view, one part each
counts_parts : (v : ViewValue) (bytes : ℕ → List ℕ) (s : SceneValue) (counts : Counts) →
    counts.planes ≡ length (planes_after v (scene_of bytes s) (view_events v (lists_of s))).planes →
    counts.openings ≡ sum (map openings_of (walls_of v (scene_of bytes s) (view_events v (lists_of s)))) →
    counts.fragments ≡ length (walls_of v (scene_of bytes s) (view_events v (lists_of s))) →
    counts.sprites ≡ length (view_entries v (scene_of bytes s) (view_events v (lists_of s))) →
    counts ≡ view_counts v (scene_of bytes s)
unfolding view_counts counts_by scene_of planes_after view_planes view_steps planes_of
counts_parts v bytes s counts planes openings fragments sprites = counts_of counts _ _ _ _ planes openings fragments sprites

-- a bench that the walk of a view is in counts what the view counts
counts-walked : (v : ViewValue) (bytes : ℕ → List ℕ) (s : SceneValue) (b : Bench) → HasWalkedView v s b → counts_in b ≡ view_counts v (scene_of bytes s)
counts-walked v bytes s b walked =
    let bench_walked = walked bytes in
    let walls = walls_of v (scene_of bytes s) (view_events v (lists_of s)) in
    counts_parts v bytes s (counts_in b)
    (ap (λ (ps : List Plane). length ps) bench_walked.built.planes)
    (ap length bench_walked.built.openings ∙ length-openings_list v walls)
    (ap length bench_walked.built.notes ∙ length-view_notes v walls)
    (ap length bench_walked.sprites)

-- of the same view by another word
pub counts-view : (v w : ViewValue) (s : SceneValue) (b : Bench) (counts : Counts) → v ≡ w → counts ≡ counts_in b → HasWalkedView v s b →
    (bytes : ℕ → List ℕ) → counts ≡ view_counts w (scene_of bytes s)
counts-view v w s b counts same is walked bytes = is ∙ counts-walked v bytes s b walked ∙ ap (λ (x : ViewValue). view_counts x (scene_of bytes s)) same

few_walls : (v : ViewValue) (scene : Scene) (events : List Event) → length (walls_of v scene events) ≤ MAX_DRAWSEGS
unfolding walls_of drawsegs
few_walls v scene events = omega (arith, length-map (drawsegs events) (fragment_wall v scene), length-take MAX_DRAWSEGS (leaf_fragments 0 events))

-- a view notes no more fragments than it draws
pub few-notes : (v : ViewValue) (s : SceneValue) (b : Bench) → HasWalkedView v s b → length b.walls.notes ≤ MAX_DRAWSEGS
few-notes v s b walked =
    let bytes : ℕ → List ℕ = λ lump. [] in
    let walls = walls_of v (scene_of bytes s) (view_events v (lists_of s)) in
    omega (arith, ap length (walked bytes).built.notes, length-view_notes v walls, few_walls v (scene_of bytes s) (view_events v (lists_of s)))

-- no count of a view that was walked passes its limit
pub within-walked : (v : ViewValue) (bytes : ℕ → List ℕ) (s : SceneValue) (b : Bench) → HasWalkedView v s b → view_over v (scene_of bytes s) (limits_in b) ≡ None
unfolding view_over scene_of
within-walked v bytes s b walked = (walked bytes).within

pub within-view : (v w : ViewValue) (s : SceneValue) (b : Bench) (limits : Limits) → v ≡ w → limits_in b ≡ limits → HasWalkedView v s b →
    (bytes : ℕ → List ℕ) → view_over w (scene_of bytes s) limits ≡ None
within-view v w s b limits same room walked bytes =
    subst (λ (x : ViewValue). view_over x (scene_of bytes s) limits ≡ None) same
    (subst (λ (l : Limits). view_over v (scene_of bytes s) l ≡ None) room (within-walked v bytes s b walked))
