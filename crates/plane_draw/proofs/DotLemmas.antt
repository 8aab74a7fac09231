-- The dots of the strips of planes are those of the planes.
use Rattle.picture_rules.proofs.Common.{[], ap, append-nil, arith, Bool, cond, false, IfSome, IsSome, length, List, map, nat_lt, nat_tests, None, Option, range_with_len, refl, Some, suc, sym, true, ℕ, ◌++◌, ◌+◌, ◌<◌, ◌∙◌, ◌∷◌, ◌≡◌}
use Rattle.plane_draw.specs.Rules.{Art, Dot, Flat4, Painter, Plane, SKY, Scene, ViewValue, column, column_dots, floor_colour, floor_dots, joined_lists, listed, painter_of, plane_dots, plane_dots_by, planes_dots, planes_from, run_dots, sky_colour, sky_column, sky_dots}
use Rattle.picture_rules.proofs.Laws.{column_dots-none, listed_from-none}
use Rattle.picture_rules.specs.declared.plane.Flat4.TheVariants as flat
use Rattle.visplanes.specs.Planes.{plane_at}
use Rattle.texture_build.specs.{Strips.texture_colour, Strips.texture_dots, TexNo.TexNo}
use Rattle.receiver_rules.proofs.FirstLemmas.{first_lists, first-same, joined-joined}
use Rattle.brush.specs.Strips.{Floor, Texture, floor_strip_dots, dots_of_strip, strips_dots}
use Rattle.plane_draw.specs.Planes.{HasFlat}
use Rattle.plane_draw.specs.Strips.{floor_strips, has_run, plane_strips, plane_strips_by, planes_strips, run_strips, sky_strip, sky_strips}
use Rattle.plane_draw.proofs.{MarkLemmas.unmarked-none, StripLemmas.floor_of}

-- the dots of a column of sky plane number n, which has this run there
unfoldable sky_run : ViewValue → Art → ℕ → ℕ → ℕ → Option (ℕ × ℕ) → List Dot
sky_run v art n sky x run =
    run_dots (painter_of SKY n (art.texture_source sky (sky_column v x))) x (sky_colour v art sky x) run

-- a strip of the sky has the dots of the run
strip-run : (v : ViewValue) (art : Art) (n : ℕ) (tex : TexNo) (x : ℕ) (run : ℕ × ℕ) →
    texture_dots art (sky_strip v n tex x run.0 run.1) ≡ sky_run v art n tex.0 x (Some run)
unfolding texture_dots texture_colour sky_strip sky_run run_dots sky_colour
strip-run v art n tex x run = refl

lt_from : (a b : ℕ) → nat_lt a b ≡ true → a < b
lt_from a b is = grind (arith, nat_tests)

-- a run without rows has none
no_rows : (v : ViewValue) (art : Art) (n sky x : ℕ) (run : ℕ × ℕ) → run.1 < run.0 → [] ≡ sky_run v art n sky x (Some run)
unfolding sky_run run_dots
no_rows v art n sky x run none =
    sym (ap (column_dots (painter_of SKY n (art.texture_source sky (sky_column v x))) x (sky_colour v art sky x)) (listed_from-none (λ y. y) run.0 run.1 none)
    ∙ column_dots-none (painter_of SKY n (art.texture_source sky (sky_column v x))) x (sky_colour v art sky x))

run_by : (v : ViewValue) (art : Art) (n : ℕ) (tex : TexNo) (x : ℕ) (run : ℕ × ℕ) (b : Bool) → nat_lt run.1 run.0 ≡ b →
    strips_dots art (cond b [] (Texture (sky_strip v n tex x run.0 run.1) ∷ [])) ≡ sky_run v art n tex.0 x (Some run)
unfolding strips_dots joined_lists
run_by v art n tex x run true is = no_rows v art n tex.0 x run (lt_from run.1 run.0 is)
run_by v art n tex x run false is = append-nil (texture_dots art (sky_strip v n tex x run.0 run.1)) ∙ strip-run v art n tex x run

run-dots : (v : ViewValue) (art : Art) (n : ℕ) (tex : TexNo) (x : ℕ) (run : Option (ℕ × ℕ)) →
    strips_dots art (run_strips v n tex x run) ≡ sky_run v art n tex.0 x run
unfolding run_strips strips_dots joined_lists sky_run run_dots
run-dots v art n tex x None = refl
run-dots v art n tex x (Some run) = run_by v art n tex x run (nat_lt run.1 run.0) refl

-- the strips of a sky plane have its dots
some-dots : (v : ViewValue) (art : Art) (sky n : ℕ) (tex : TexNo) (p : Plane) → sky ≡ tex.0 → strips_dots art (sky_strips v (Some tex) n p) ≡ sky_dots v art n sky p
unfolding strips_dots sky_strips sky_dots sky_run
some-dots v art sky n tex p same =
    joined-joined (dots_of_strip art) (λ x. run_strips v n tex x (column p x)) (listed (λ x. x) v.shape.width)
    ∙ first-same (λ x. strips_dots art (run_strips v n tex x (column p x))) (λ x. sky_run v art n tex.0 x (column p x)) v.shape.width (λ x l. run-dots v art n tex x (column p x))
    ∙ ap (λ (t : ℕ). sky_dots v art n t p) (sym same)

sky-all : (v : ViewValue) (art : Art) (sky n : ℕ) (o : Option TexNo) (p : Plane) → IsSome o → IfSome o (λ tex. sky ≡ tex.0) →
    strips_dots art (sky_strips v o n p) ≡ sky_dots v art n sky p
sky-all v art sky n None p there same = cc
sky-all v art sky n (Some tex) p there same = some-dots v art sky n tex p same

-- a plane without a run has no dots
joined_none : (f : ℕ → List Dot) (xs : List ℕ) → ((x : ℕ) → f x ≡ []) → joined_lists f xs ≡ []
unfolding joined_lists
joined_none f [] none = refl
joined_none f (x ∷ xs) none = ap (λ (ys : List Dot). ys ++ joined_lists f xs) (none x) ∙ joined_none f xs none

run_none : (painter : Painter) (x : ℕ) (colour : ℕ → ℕ) (run : Option (ℕ × ℕ)) → run ≡ None → run_dots painter x colour run ≡ []
unfolding run_dots
run_none painter x colour run is = ap (run_dots painter x colour) is

floor_empty : (v : ViewValue) (art : Art) (n lump : ℕ) (p : Plane) → ((x : ℕ) → column p x ≡ None) → [] ≡ floor_dots v art n lump p
unfolding floor_dots
floor_empty v art n lump p none = sym (joined_none _ _ (λ x. run_none _ x (floor_colour v art lump p x) (column p x) (none x)))

floor_by : (v : ViewValue) (art : Art) (n lump : ℕ) (p : Plane) (b : Bool) → has_run p ≡ b → strips_dots art (cond b (Floor (floor_of v n p lump) ∷ []) []) ≡ floor_dots v art n lump p
unfolding strips_dots joined_lists floor_strip_dots
floor_by v art n lump p true is = append-nil (floor_dots v art n lump p)
floor_by v art n lump p false is = floor_empty v art n lump p (unmarked-none p is)

by_dots : (v : ViewValue) (art : Art) (sky n lumps : ℕ) (o : Option TexNo) (p : Plane) (f : Flat4) → HasFlat lumps o f → IfSome o (λ tex. sky ≡ tex.0) →
    strips_dots art (plane_strips_by v o n p f) ≡ plane_dots_by v art sky n p f
unfolding plane_strips_by floor_strips plane_dots_by
by_dots v art sky n lumps o p flat.Sky there same = sky-all v art sky n o p there same
by_dots v art sky n lumps o p (flat.Lump lump) there same = floor_by v art n lump p (has_run p) refl

-- the strips of plane number n have its dots
plane-dots : (v : ViewValue) (art : Art) (sky n lumps : ℕ) (o : Option TexNo) (p : Plane) → HasFlat lumps o p.key.flat → IfSome o (λ tex. sky ≡ tex.0) →
    strips_dots art (plane_strips v o n p) ≡ plane_dots v art sky n p
unfolding plane_strips plane_dots
plane-dots v art sky n lumps o p there same = by_dots v art sky n lumps o p p.key.flat there same

-- all planes, one by one
from_listed : (v : ViewValue) (scene : Scene) (f : ℕ → List Dot) (n : ℕ) (ps : List Plane) →
    ((k : ℕ) → k < length ps → f (n + k) ≡ plane_dots v scene.art scene.sky (n + k) (plane_at ps k)) →
    joined_lists f (map (λ k. k) (range_with_len n (length ps))) ≡ planes_from v scene n ps
unfolding joined_lists planes_from
from_listed v scene f n [] same = refl
from_listed v scene f n (p ∷ ps) same =
    let plus_zero : n + 0 ≡ n = omega arith in
    let dots_here : f n ≡ plane_dots v scene.art scene.sky n p =
    sym (ap f plus_zero) ∙ same 0 (omega arith) ∙ ap (λ (m : ℕ). plane_dots v scene.art scene.sky m p) plus_zero in
    let next : (k : ℕ) → n + 1 + k ≡ n + (k + 1) = λ k. omega arith in
    ap (λ (xs : List Dot). xs ++ joined_lists f (map (λ k. k) (range_with_len (n + 1) (length ps)))) dots_here
    ∙ ap (λ (xs : List Dot). plane_dots v scene.art scene.sky n p ++ xs)
    (from_listed v scene f (n + 1) ps (λ k inside.
    let next_is : k + 1 ≡ suc k = omega arith in
    ap f (next k) ∙ same (k + 1) (omega arith)
    ∙ ap (λ (m : ℕ). plane_dots v scene.art scene.sky (n + (k + 1)) (plane_at (p ∷ ps) m)) next_is
    ∙ ap (λ (m : ℕ). plane_dots v scene.art scene.sky m (plane_at ps k)) (sym (next k))))

planes-end : (v : ViewValue) (scene : Scene) (planes : List Plane) →
    first_lists (λ k. plane_dots v scene.art scene.sky k (plane_at planes k)) (length planes) ≡ planes_dots v scene planes
unfolding planes_dots listed
planes-end v scene planes =
    let plus_zero_is : (k : ℕ) → 0 + k ≡ k = λ k. omega arith in
    from_listed v scene (λ k. plane_dots v scene.art scene.sky k (plane_at planes k)) 0 planes
    (λ k inside. ap (λ (m : ℕ). plane_dots v scene.art scene.sky (0 + k) (plane_at planes m)) (plus_zero_is k))

-- the strips of all planes have the dots of a picture's
pub planes-dots : (v : ViewValue) (scene : Scene) (lumps : ℕ) (o : Option TexNo) (planes : List Plane) →
    ((n : ℕ) → n < length planes → HasFlat lumps o (plane_at planes n).key.flat) → IfSome o (λ tex. scene.sky ≡ tex.0) →
    strips_dots scene.art (planes_strips v o planes) ≡ planes_dots v scene planes
unfolding strips_dots planes_strips
planes-dots v scene lumps o planes there same =
    joined-joined (dots_of_strip scene.art) (λ k. plane_strips v o k (plane_at planes k)) (listed (λ k. k) (length planes))
    ∙ first-same (λ k. strips_dots scene.art (plane_strips v o k (plane_at planes k))) (λ k. plane_dots v scene.art scene.sky k (plane_at planes k)) (length planes)
    (λ k l. plane-dots v scene.art scene.sky k lumps o (plane_at planes k) (there k l) same)
    ∙ planes-end v scene planes
