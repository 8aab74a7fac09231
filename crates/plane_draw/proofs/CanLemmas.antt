-- What may be taken from what drawing planes asks.
use Rattle.picture_rules.proofs.Common.{All-get_or, and_from, ap, arith, IfSome, le-leb, length, nat_le, Option, Some, subst, sym, true, ℕ, ◌<◌, ◌∙◌, ◌≡◌, ◌≤◌}
use Rattle.plane_draw.specs.Rules.{Plane, ViewShape, column, holds, holds_row}
use Rattle.picture_rules.specs.declared.plane.Flat4.TheVariants as flat
use Rattle.visplanes.specs.{Planes.no_plane, Planes.plane_at, Spans.IsSeen}
use Rattle.texture_build.specs.{TexNo.TexNo, Draws.CanDraw}
use Rattle.texture_build.specs.Paints.{PaintState}
use Rattle.plane_draw.specs.declared.scene.PlaneScene.{PlaneScene}
use Rattle.plane_draw.specs.Planes.{CanDrawPlane, HasFlat}
use Rattle.plane_draw.specs.Scenes.{CanDrawPlanes}

-- a plane of the scene
pub plane-can : {s : PlaneScene} {st : PaintState} → CanDrawPlanes s st → (n : ℕ) → n < length s.planes.now.planes →
    CanDrawPlane s.view.now.shape st.canvas.left st.canvas.top (length s.dir.now.lumps) s.sky (plane_at s.planes.now.planes n)
plane-can {s} {st} can n inside =
    All-get_or (CanDrawPlane s.view.now.shape st.canvas.left st.canvas.top (length s.dir.now.lumps) s.sky) s.planes.now.planes n no_plane inside can.planes

-- its flat is a lump of the directory
pub flat-there : {s : PlaneScene} {st : PaintState} → CanDrawPlanes s st → (n lump : ℕ) → n < length s.planes.now.planes →
    (plane_at s.planes.now.planes n).key.flat ≡ flat.Lump lump → lump < length s.dir.now.lumps
flat-there {s} can n lump inside is = subst (HasFlat (length s.dir.now.lumps) s.sky) is (plane-can can n inside).flat

-- the texture of the sky may be drawn
pub sky-can : {s : PlaneScene} {st : PaintState} → CanDrawPlanes s st → (tex : TexNo) → s.sky ≡ Some tex →
    CanDraw s.dir.now.lumps s.textures.now st.cache tex.0
sky-can {s} {st} can tex is =
    subst (λ (o : Option TexNo). IfSome o (λ tex. CanDraw s.dir.now.lumps s.textures.now st.cache tex.0)) is can.sky

-- the last row of a run is in the view
pub seen-last : (shape : ViewShape) (left top : ℕ) (p : Plane) (x first last : ℕ) → IsSeen shape left top p → Some (first, last) ≡ column p x →
    first ≤ last → last < shape.height
unfolding holds holds_row
seen-last shape left top p x first last seen run ordered =
    let rows : holds_row (Some (first, last)) last ≡ true = and_from (nat_le first last) (nat_le last last) (le-leb first last ordered) (le-leb last last (omega arith)) in
    seen.row x last (ap (λ (r : Option (ℕ × ℕ)). holds_row r last) (sym run) ∙ rows)
