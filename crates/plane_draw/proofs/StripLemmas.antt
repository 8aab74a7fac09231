-- What each strip of planes is.
use Rattle.picture_rules.proofs.Common.{[], ap, arith, Bool, cond, Contains, false, inl, inr, le-from_lt_false, length, List, nat_lt, None, Option, refl, Some, subst, sym, true, ℕ, ◌<◌, ◌∙◌, ◌∷◌, ◌≡◌, ◌≤◌, ◌⊎◌}
use Rattle.std.proofs.lemmas.List.Elements.{Contains-push, Contains-push_cases}
use Rattle.plane_draw.specs.Rules.{Flat4, Plane, ViewValue, column}
use Rattle.picture_rules.specs.declared.plane.Flat4.TheVariants as flat
use Rattle.visplanes.specs.Planes.{plane_at}
use Rattle.texture_build.specs.TexNo.{TexNo}
use Rattle.brush.specs.Strips.{Floor, FloorValue, Strip, Texture}
use Rattle.receiver_rules.proofs.FirstLemmas.{IsInFirst, first-cases}
use Rattle.plane_draw.specs.Planes.{IsMarked}
use Rattle.plane_draw.specs.Strips.{floor_strips, has_run, plane_strips, plane_strips_by, planes_strips, run_strips, sky_strip, sky_strips}
use Rattle.plane_draw.proofs.MarkLemmas.{marked-some}

-- rows of a column of the sky's texture, where a sky plane has them
pub record IsSkyRows (v : ViewValue) (sky : Option TexNo) (n : ℕ) (p : Plane) (strip : Strip) : Type 0 where
  pub tex : TexNo
  pub some : sky ≡ Some tex
  pub flat : p.key.flat ≡ flat.Sky
  pub x : ℕ
  pub within : x < v.shape.width
  pub run : ℕ × ℕ
  pub has : column p x ≡ Some run
  pub rows : run.0 ≤ run.1
  pub is : Texture (sky_strip v n tex x run.0 run.1) ≡ strip

abbrev pub floor_of : ViewValue → ℕ → Plane → ℕ → FloorValue
floor_of v n p lump = record { view = v; plane = p; number = n; lump = lump }

-- a plane that has a run, with its flat
pub record IsFloorOf (v : ViewValue) (n : ℕ) (p : Plane) (strip : Strip) : Type 0 where
  pub lump : ℕ
  pub flat : p.key.flat ≡ flat.Lump lump
  pub marked : IsMarked p
  pub is : Floor (floor_of v n p lump) ≡ strip

none_there : (strip : Strip) → Contains [] strip → ⊥
none_there strip h = omega (arith, h.1)

only_one : (s strip : Strip) → Contains (s ∷ []) strip → s ≡ strip
only_one s strip h = elim (Contains-push_cases [] s strip h) [
  | inl before ↦ absurd (none_there strip before)
  | inr is ↦ is
]

unless_one : (b : Bool) (s strip : Strip) → Contains (cond b [] (s ∷ [])) strip → (b ≡ false) × (s ≡ strip)
unless_one true s strip h = absurd (none_there strip h)
unless_one false s strip h = (refl, only_one s strip h)

if_one : (b : Bool) (s strip : Strip) → Contains (cond b (s ∷ []) []) strip → (b ≡ true) × (s ≡ strip)
if_one true s strip h = (refl, only_one s strip h)
if_one false s strip h = absurd (none_there strip h)

run_cases : (v : ViewValue) (sky : Option TexNo) (n : ℕ) (p : Plane) (tex : TexNo) (x : ℕ) (run : Option (ℕ × ℕ)) (strip : Strip) → sky ≡ Some tex → p.key.flat ≡ flat.Sky → x < v.shape.width →
    column p x ≡ run → Contains (run_strips v n tex x run) strip → IsSkyRows v sky n p strip
unfolding run_strips
run_cases v sky n p tex x None strip some is within has h = absurd (none_there strip h)
run_cases v sky n p tex x (Some run) strip some is within has h =
    let one = unless_one (nat_lt run.1 run.0) (Texture (sky_strip v n tex x run.0 run.1)) strip h in
    record { tex = tex; some = some; flat = is; x = x; within = within; run = run; has = has; rows = le-from_lt_false run.1 run.0 one.0; is = one.1 }

sky_cases : (v : ViewValue) (o sky : Option TexNo) (n : ℕ) (p : Plane) (strip : Strip) → o ≡ sky → p.key.flat ≡ flat.Sky → Contains (sky_strips v sky n p) strip → IsSkyRows v o n p strip
unfolding sky_strips
sky_cases v o None n p strip same is h = absurd (none_there strip h)
sky_cases v o (Some tex) n p strip same is h =
    let found = first-cases (λ x. run_strips v n tex x (column p x)) v.shape.width strip h in
    run_cases v o n p tex found.number (column p found.number) strip same is found.within refl found.among

by_cases : (v : ViewValue) (sky : Option TexNo) (n : ℕ) (p : Plane) (f : Flat4) (strip : Strip) → p.key.flat ≡ f → Contains (plane_strips_by v sky n p f) strip → IsSkyRows v sky n p strip ⊎ IsFloorOf v n p strip
unfolding plane_strips_by floor_strips
by_cases v sky n p flat.Sky strip is h = inl (sky_cases v sky sky n p strip refl is h)
by_cases v sky n p (flat.Lump lump) strip is h =
    let one = if_one (has_run p) (Floor (floor_of v n p lump)) strip h in
    inr (record { lump = lump; flat = is; marked = marked-some p one.0; is = one.1 })

-- a strip of a plane
pub plane-cases : (v : ViewValue) (sky : Option TexNo) (n : ℕ) (p : Plane) (strip : Strip) → Contains (plane_strips v sky n p) strip → IsSkyRows v sky n p strip ⊎ IsFloorOf v n p strip
unfolding plane_strips
plane-cases v sky n p strip h = by_cases v sky n p p.key.flat strip refl h

-- a strip of some planes is one of a plane
pub planes-cases : (v : ViewValue) (sky : Option TexNo) (planes : List Plane) (strip : Strip) → Contains (planes_strips v sky planes) strip →
    IsInFirst (λ k. plane_strips v sky k (plane_at planes k)) (length planes) strip
unfolding planes_strips
planes-cases v sky planes strip h = first-cases (λ k. plane_strips v sky k (plane_at planes k)) (length planes) strip h

-- a plane with a flat that has no run has no strip, and one that has a run is one
pub floor-none : (v : ViewValue) (sky : Option TexNo) (n lump : ℕ) (p : Plane) → p.key.flat ≡ flat.Lump lump → has_run p ≡ false → plane_strips v sky n p ≡ []
unfolding plane_strips plane_strips_by floor_strips
floor-none v sky n lump p is none =
    ap (plane_strips_by v sky n p) is ∙ ap (λ (b : Bool). cond b (Floor (floor_of v n p lump) ∷ []) []) none

pub floor-one : (v : ViewValue) (sky : Option TexNo) (n lump : ℕ) (p : Plane) → p.key.flat ≡ flat.Lump lump → has_run p ≡ true → plane_strips v sky n p ≡ Floor (floor_of v n p lump) ∷ []
unfolding plane_strips plane_strips_by floor_strips
floor-one v sky n lump p is marked =
    ap (plane_strips_by v sky n p) is ∙ ap (λ (b : Bool). cond b (Floor (floor_of v n p lump) ∷ []) []) marked

-- the strips of a sky plane
pub sky-none : (v : ViewValue) (o : Option TexNo) (n : ℕ) (p : Plane) → p.key.flat ≡ flat.Sky → o ≡ None → plane_strips v o n p ≡ []
unfolding plane_strips plane_strips_by sky_strips
sky-none v o n p is none = ap (plane_strips_by v o n p) is ∙ ap (λ (o : Option TexNo). sky_strips v o n p) none

pub sky-some : (v : ViewValue) (o : Option TexNo) (n : ℕ) (p : Plane) (tex : TexNo) → p.key.flat ≡ flat.Sky → o ≡ Some tex → plane_strips v o n p ≡ sky_strips v (Some tex) n p
unfolding plane_strips plane_strips_by
sky-some v o n p tex is some = ap (plane_strips_by v o n p) is ∙ ap (λ (o : Option TexNo). sky_strips v o n p) some

-- a strip is among strips that are it alone
pub contains-one : {strips : List Strip} {strip : Strip} → strips ≡ strip ∷ [] → Contains strips strip
contains-one {strip = strip} is = subst (λ (xs : List Strip). Contains xs strip) (sym is) (Contains-push [] strip)

-- a column without a run has no strip
pub no_run : (v : ViewValue) (n : ℕ) (tex : TexNo) (x : ℕ) (run : Option (ℕ × ℕ)) → run ≡ None → run_strips v n tex x run ≡ []
unfolding run_strips
no_run v n tex x run is = ap (run_strips v n tex x) is
