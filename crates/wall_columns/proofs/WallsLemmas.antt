-- Laws of the strips of a view's walls: those of one fragment more, their dots, and what they show.
use Rattle.picture_rules.proofs.Common.{[], All, AllByRecursion, ap, append-nil, append_assoc, arith, Contains, Contains-append_cases, Contains-append_right, inl, inr, length, List, recursion_from_All, refl, subst, sym, ℕ, ℤ, ◌++◌, ◌+◌, ◌-◌, ◌<◌, ◌∙◌, ◌∷◌, ◌≡◌, ◌≢◌, ◌≤◌}
use Rattle.picture_rules.proofs.Laws.{joined_lists-append}
use Rattle.picture_rules.proofs.wall.WallLemmas.{clip_before-front}
use Rattle.receiver_rules.proofs.FirstLemmas.{first-from, first-same}
use Rattle.wall_columns.specs.Rules.{Art, ColumnClip, Dot, MAX_DRAWSEGS, Plane, PlanesNow, ViewValue, Wall, WallFacts, clip_before, fragment_numbers, joined_lists, wall_dots, wall_of, wall_strips}
use Rattle.picture_rules.specs.Words.{Scene, walls_dots, walls_from}
use Rattle.wall_edges.specs.{Fragments.FragmentValue, Fragments.fragment_of}
use Rattle.brush.specs.Strips.{IsStripColumn, IsStripLump, ShowsColumn, ShowsLump, Strip, dots_of_strip, strips_dots}
use Rattle.wall_columns.specs.{Built.IsBuilt, Built.IsDrawn, Built.with_wall, Columns.column_edges, Draws.IsWallTexture, Plans.IsPartTexture}
use Rattle.wall_columns.specs.Strips.{column_strips, fragment_strips, look_at, part_strip, part_strips, range_strips, wall_strips_at, walls_strips, walls_strips_from}
use Rattle.wall_columns.specs.Walls.{WallsView, clip_at}
use Rattle.wall_columns.proofs.BuiltLemmas.{built-count}
use Rattle.wall_columns.proofs.PlanLemmas.{wall_strips-there}
use Rattle.wall_columns.proofs.RangeLemmas.{fragment_dots, range-some}
use Rattle.wall_columns.proofs.SightLemmas.{numbers-texture}
use Rattle.wall_columns.proofs.StripLemmas.{IsPartOf, fragment-cases}

-- a fragment has the same strips where the same is open in its columns
fragment-same : (v : ViewValue) (k : ℕ) (f : FragmentValue) (before after : ℕ → ColumnClip) → ((x : ℕ) → f.first ≤ x → x ≤ f.last → before x ≡ after x) →
    fragment_strips v k f before ≡ fragment_strips v k f after
unfolding fragment_strips column_strips
fragment-same v k f before after same =
    let at : (ℕ → ColumnClip) → ℕ → List Strip = λ open_in x. joined_lists (part_strips v.shape (look_at v k f x (column_edges f x))) (wall_strips f.numbers (open_in x) (column_edges f x)) in
    sym (first-from (at before) f.first f.last)
    ∙ first-same (λ n. at before (f.first + n)) (λ n. at after (f.first + n)) (f.last + 1 - f.first)
    (λ n l. let x = f.first + n in
    ap (λ (c : ColumnClip). joined_lists (part_strips v.shape (look_at v k f x (column_edges f x))) (wall_strips f.numbers c (column_edges f x))) (same x (omega arith) (omega (arith, l))))
    ∙ first-from (at after) f.first f.last

-- fragments that come later change nothing of the strips of fragment k
at-front : (v : ViewValue) (walls more : List Wall) (k : ℕ) (w : Wall) → k ≤ length walls → wall_strips_at v (walls ++ more) k w ≡ wall_strips_at v walls k w
unfolding wall_strips_at
at-front v walls more k w l =
    fragment-same v k (fragment_of v w.facts w.first w.last) (λ x. clip_before v.shape (walls ++ more) k x) (λ x. clip_before v.shape walls k x) (λ x from to. clip_before-front v.shape walls more k x l)

from_front : (v : ViewValue) (walls more : List Wall) (k : ℕ) (ws : List Wall) → k + length ws ≤ length walls → walls_strips_from v (walls ++ more) k ws ≡ walls_strips_from v walls k ws
unfolding walls_strips_from
from_front v walls more k [] l = refl
from_front v walls more k (w ∷ ws) l =
    ap (λ (xs : List Strip). xs ++ walls_strips_from v (walls ++ more) (k + 1) ws) (at-front v walls more k w (omega arith))
    ∙ ap (λ (xs : List Strip). wall_strips_at v walls k w ++ xs) (from_front v walls more (k + 1) ws (omega arith))

from_last : (v : ViewValue) (walls : List Wall) (k : ℕ) (ws : List Wall) (w : Wall) (n : ℕ) → k + length ws ≡ n → walls_strips_from v walls k (ws ++ w ∷ []) ≡ walls_strips_from v walls k ws ++ wall_strips_at v walls n w
unfolding walls_strips_from
from_last v walls k [] w n e =
    append-nil (wall_strips_at v walls k w) ∙ (let is_last : k ≡ n = omega arith in ap (λ (m : ℕ). wall_strips_at v walls m w) is_last)
from_last v walls k (u ∷ us) w n e =
    ap (λ (xs : List Strip). wall_strips_at v walls k u ++ xs) (from_last v walls (k + 1) us w n (omega arith))
    ∙ sym (append_assoc (wall_strips_at v walls k u) (walls_strips_from v walls (k + 1) us) (wall_strips_at v walls n w))

-- one fragment more
pub strips-more : (v : ViewValue) (walls : List Wall) (w : Wall) →
    walls_strips v (with_wall walls w) ≡ walls_strips v walls ++ wall_strips_at v (with_wall walls w) (length walls) w
unfolding walls_strips
strips-more v walls w =
    from_last v (walls ++ w ∷ []) 0 walls w (length walls) (omega arith)
    ∙ ap (λ (xs : List Strip). xs ++ wall_strips_at v (walls ++ w ∷ []) (length walls) w) (from_front v walls (w ∷ []) 0 walls (omega arith))

-- what a fragment behind those that are drawn shows is what it shows among them
pub range-next : (v : ViewValue) (state : WallsView) (facts : WallFacts) (first last : ℕ) (walls : List Wall) (s : PlanesNow) (planes : List Plane) → last < v.shape.width →
    IsBuilt v walls s state planes → length walls < MAX_DRAWSEGS →
    range_strips v state facts first last ≡ wall_strips_at v (with_wall walls (wall_of v facts first last)) (length walls) (wall_of v facts first last)
unfolding wall_strips_at wall_of
range-next v state facts first last walls s planes within built room =
    let count = built-count v walls s state planes built in
    let w : Wall = wall_of v facts first last in
    sym (range-some v state facts first last (omega arith))
    ∙ ap (λ (k : ℕ). fragment_strips v k (fragment_of v facts first last) (clip_at state)) count
    ∙ fragment-same v (length walls) (fragment_of v facts first last) (clip_at state) (λ x. clip_before v.shape (walls ++ w ∷ []) (length walls) x)
    (λ x from to. built.clips x (omega (arith, to, within)) ∙ sym (clip_before-front v.shape walls (w ∷ []) (length walls) x (omega arith)))

-- the dots of strips one after the other
pub strips_dots-append : (art : Art) (xs ys : List Strip) → strips_dots art (xs ++ ys) ≡ strips_dots art xs ++ strips_dots art ys
unfolding strips_dots
strips_dots-append art xs ys = joined_lists-append (dots_of_strip art) xs ys

dots-none : (art : Art) → strips_dots art [] ≡ []
unfolding strips_dots joined_lists
dots-none art = refl

at-dots : (v : ViewValue) (art : Art) (walls : List Wall) (k : ℕ) (w : Wall) → IsDrawn v w → strips_dots art (wall_strips_at v walls k w) ≡ wall_dots v art walls k w
unfolding wall_strips_at
at-dots v art walls k w drawn =
    fragment_dots v art walls k w.facts w.first w.last (λ x. clip_before v.shape walls k x) (λ x from to. refl) ∙ ap (wall_dots v art walls k) (sym drawn.is)

from_dots : (v : ViewValue) (scene : Scene) (walls : List Wall) (k : ℕ) (ws : List Wall) → AllByRecursion (IsDrawn v) ws → strips_dots scene.art (walls_strips_from v walls k ws) ≡ walls_from v scene walls k ws
unfolding walls_strips_from walls_from
from_dots v scene walls k [] drawn = dots-none scene.art
from_dots v scene walls k (w ∷ ws) drawn =
    strips_dots-append scene.art (wall_strips_at v walls k w) (walls_strips_from v walls (k + 1) ws)
    ∙ ap (λ (ds : List Dot). ds ++ strips_dots scene.art (walls_strips_from v walls (k + 1) ws)) (at-dots v scene.art walls k w drawn.0)
    ∙ ap (λ (ds : List Dot). wall_dots v scene.art walls k w ++ ds) (from_dots v scene walls (k + 1) ws drawn.1)

-- the dots of the strips of the walls are those of the walls
pub walls-dots : (v : ViewValue) (scene : Scene) (walls : List Wall) → All (IsDrawn v) walls → strips_dots scene.art (walls_strips v walls) ≡ walls_dots v scene walls
unfolding walls_strips walls_dots
walls-dots v scene walls drawn = from_dots v scene walls 0 walls (recursion_from_All (IsDrawn v) walls drawn)

-- a strip of the walls is a part of one of them
pub record IsWallPart (v : ViewValue) (walls ws : List Wall) (strip : Strip) : Type 0 where
  pub number : ℕ
  pub wall : Wall
  pub among : Contains ws wall
  pub part : IsPartOf v number (fragment_of v wall.facts wall.first wall.last) (λ x. clip_before v.shape walls number x) strip

part_later : (v : ViewValue) (walls : List Wall) (w : Wall) (ws : List Wall) (strip : Strip) → IsWallPart v walls ws strip → IsWallPart v walls (w ∷ ws) strip
part_later v walls w ws strip h = record { number = h.number; wall = h.wall; among = Contains-append_right (w ∷ []) ws h.wall h.among; part = h.part }

from_cases : (v : ViewValue) (walls : List Wall) (k : ℕ) (ws : List Wall) (strip : Strip) → Contains (walls_strips_from v walls k ws) strip → IsWallPart v walls ws strip
unfolding walls_strips_from wall_strips_at
from_cases v walls k [] strip h = absurd (omega (arith, h.1))
from_cases v walls k (w ∷ ws) strip h =
    elim (Contains-append_cases (wall_strips_at v walls k w) (walls_strips_from v walls (k + 1) ws) strip h) [
      | inl here ↦ record {
        number = k;
        wall = w;
        among = (0, omega arith, refl);
        part = fragment-cases v k (fragment_of v w.facts w.first w.last) (λ x. clip_before v.shape walls k x) strip here;
      }
      | inr later ↦ part_later v walls w ws strip (from_cases v walls (k + 1) ws strip later)
    ]

pub walls-cases : (v : ViewValue) (walls : List Wall) (strip : Strip) → Contains (walls_strips v walls) strip → IsWallPart v walls walls strip
unfolding walls_strips
walls-cases v walls strip h = from_cases v walls 0 walls strip h

-- a texture that the strips show is one of a wall's
pub record IsTextureOfWalls (walls : List Wall) (number : ℕ) : Type 0 where
  pub wall : Wall
  pub among : Contains walls wall
  pub is : IsWallTexture wall.facts number

pub walls-texture : (v : ViewValue) (walls : List Wall) (number : ℕ) (own : ℤ) → ShowsColumn (walls_strips v walls) number own → IsTextureOfWalls walls number
unfolding part_strip look_at column_edges
walls-texture v walls number own shows =
    let one = walls-cases v walls shows.strip shows.among in
    let facts = one.wall.facts in
    let numbers = fragment_numbers v facts one.wall.first one.wall.last in
    let same = subst (λ (s : Strip). IsStripColumn s number own) (sym one.part.is) shows.is in
    let there = wall_strips-there numbers (clip_before v.shape walls one.number one.part.x) (column_edges (fragment_of v facts one.wall.first one.wall.last) one.part.x) one.part.part one.part.among in
    let some = subst (λ (m : ℕ). m ≢ 0) (sym same.0) there.0 in
    record {
      wall = one.wall;
      among = one.among;
      is = (some, numbers-texture v facts one.wall.first one.wall.last number some (subst (IsPartTexture numbers) (sym same.0) there.1));
    }

-- and they show no lump
pub walls-lumps : (v : ViewValue) (walls : List Wall) (lump : ℕ) → ShowsLump (walls_strips v walls) lump → ⊥
walls-lumps v walls lump shows =
    let one = walls-cases v walls shows.strip shows.among in
    subst (λ (s : Strip). IsStripLump s lump) (sym one.part.is) shows.is
