-- Laws of the counts of a list of steps to which one more is added.
use Rattle.word_rules.proofs.Common.{[], ap, append-nil, append_assoc, List, map, refl, sym, ℕ, ◌++◌, ◌∙◌, ◌∷◌, ◌≡◌}
use Rattle.picture_rules.specs.plane.Built.{PlanesNow, after_event, after_events, plane_counts}
use Rattle.picture_rules.specs.{declared.OverLimit.OverLimit, Planes.Step}
use Rattle.picture_rules.specs.Counts.{planes_count, openings_past, openings_after, openings_counts, counts_from}

-- the counts of one step more come behind the others
pub counts_from-more : (s : PlanesNow) (openings : ℕ) (es : List Step) (e : Step) →
    counts_from s openings (es ++ e ∷ []) ≡ counts_from s openings es
    ++ (openings_counts (openings_after openings es) e.openings ++ map planes_count (plane_counts (after_events s (map (λ t. t.event) es)) e.event))
unfolding counts_from openings_after after_events
counts_from-more s openings [] e = append-nil (openings_counts openings e.openings ++ map planes_count (plane_counts s e.event))
counts_from-more s openings (f ∷ fs) e =
    ap (λ (cs : List OverLimit). (openings_counts openings f.openings ++ map planes_count (plane_counts s f.event)) ++ cs) (counts_from-more (after_event s f.event) (openings_past openings f.openings) fs e)
    ∙ sym (append_assoc (openings_counts openings f.openings ++ map planes_count (plane_counts s f.event)) (counts_from (after_event s f.event) (openings_past openings f.openings) fs)
    (openings_counts (openings_after (openings_past openings f.openings) fs) e.openings ++ map planes_count (plane_counts (after_events (after_event s f.event) (map (λ t. t.event) fs)) e.event)))

-- and the openings so far are summed
pub openings_after-more : (before : ℕ) (es : List Step) (e : Step) → openings_after before (es ++ e ∷ []) ≡ openings_past (openings_after before es) e.openings
unfolding openings_after
openings_after-more before [] e = refl
openings_after-more before (f ∷ fs) e = openings_after-more (openings_past before f.openings) fs e
