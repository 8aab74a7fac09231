-- Laws of the facts of a seg: its textures may be drawn.
use Rattle.picture_rules.proofs.Common.{[], arith, inl, inr, length, List, refl, subst, sym, ℕ, ◌<◌, ◌∙◌, ◌≡◌, ◌≢◌}
use Rattle.frame_core.specs.Rules.{Event, Heap, IsSound, Lump, SceneValue, Surface, ViewValue, WallFacts, facts_of, fragment_facts, fragment_wall, leaf_sector, leaf_surface, seg_at, side_at, textures_at, wall_texture, walls_of}
use Rattle.texture_build.specs.{Draws.CanDraw, Views.IsPrepared, Views.TexturesView}
use Rattle.sound_scene.specs.{Sound.textures_view, Pictures.lists_of, Pictures.scene_of}
use Rattle.wall_columns.specs.Draws.{IsWallTexture}
use Rattle.frame_core.specs.Views.{CanDrawView}
use Rattle.frame_core.proofs.SceneLemmas.{AreFactsReady, IsNoneOrReady, facts_ready, patches_there}

ready_of : (scene : SceneValue) (number n : ℕ) → number ≢ 0 → number ≡ n → IsNoneOrReady scene n → IsPrepared (textures_view scene) number × (number < length scene.base.lists.textures)
ready_of scene number n some is (inl none) = absurd (some (is ∙ none))
ready_of scene number n some is (inr ready) = subst (λ (k : ℕ). IsPrepared (textures_view scene) k × (k < length scene.base.lists.textures)) (sym is) ready

pub ready-number : (scene : SceneValue) (facts : WallFacts) (number : ℕ) → AreFactsReady scene facts → IsWallTexture facts number → IsPrepared (textures_view scene) number × (number < length scene.base.lists.textures)
ready-number scene facts number ready is =
    elim is.1 [
      | inl top ↦ ready_of scene number facts.top.number is.0 top ready.top
      | inr rest ↦ elim rest [
        | inl bottom ↦ ready_of scene number facts.bottom.number is.0 bottom ready.bottom
        | inr middle ↦ ready_of scene number facts.middle.number is.0 middle ready.middle
      ]
    ]

-- the facts of a seg are ready to draw, in a scene that may be drawn
pub facts-ready : (lumps : List Lump) (scene : SceneValue) (z : Heap) (front : Surface) (seg : ℕ) (facts : WallFacts) → CanDrawView lumps scene z → IsSound scene.base.level → seg < length scene.base.level.segs →
    ((bytes : ℕ → List ℕ) → facts ≡ facts_of (scene_of bytes scene) front seg (seg_at (lists_of scene) seg)) → AreFactsReady scene facts
facts-ready lumps scene z front seg facts can sound l are =
    let bytes : ℕ → List ℕ = λ n. [] in
    subst (AreFactsReady scene) (sym (are bytes)) (facts_ready lumps scene can.drawable sound bytes front seg l)

-- a texture of theirs may be drawn
pub can_draw-facts : (lumps : List Lump) (scene : SceneValue) (z : Heap) (facts : WallFacts) (textures : TexturesView) (number : ℕ) → CanDrawView lumps scene z → AreFactsReady scene facts → textures ≡ textures_view scene →
    IsWallTexture facts number → CanDraw lumps textures z number
can_draw-facts lumps scene z facts textures number can ready same is =
    let number_ready = ready-number scene facts number ready is in
    let slots = can.composites in
    let texture_in_list = number_ready.1 in
    subst (λ (t : TexturesView). CanDraw lumps t z number) (sym same) (record {
      prepared = number_ready.0;
      slot = omega arith;
      there = patches_there lumps scene.prepared number can.drawable.patches;
    })

-- the walls of events are the same, whatever the lumps hold
pub walls_same : (v : ViewValue) (bytes other : ℕ → List ℕ) (scene : SceneValue) (events : List Event) → walls_of v (scene_of bytes scene) events ≡ walls_of v (scene_of other scene) events
unfolding walls_of fragment_wall fragment_facts facts_of leaf_sector leaf_surface side_at textures_at wall_texture scene_of
walls_same v bytes other scene events = refl
