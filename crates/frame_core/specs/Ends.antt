-- How a call that draws a view ends: within the limits or past one, and in a zone that is large enough for the scene.
use Rattle.std.specs.Prelude.{◌≡◌, ◌≢◌, ◌≤◌, ℕ, List, None, Some, IfErr, IfSome, IsSome, OnOk, Result}
use Rattle.frame_core.specs.Rules.{Heap, Limits, SceneValue, ShelfView, ViewValue, art_of, enough, lump_at, view_over}
use Rattle.texture_build.specs.{Calls.IfFull, DirectoryView.DirectoryView, Draws.HoldsArt}
use Rattle.sound_scene.specs.{Sound.textures_view, Pictures.scene_of}
use Rattle.frame_core.specs.declared.fault.ViewFault.{ViewFault}
use Rattle.frame_core.specs.declared.fault.ViewFault.TheVariants.{ReadFault}
use Rattle.frame_core.specs.Faults.{limit_of_view, view_fault}

-- Ok comes only where no count of the view passes its limit
abbrev pub EndsWithin : {A E : Type 0} → ViewValue → SceneValue → Limits → Result A E → Type 0
EndsWithin v scene limits result = (bytes : ℕ → List ℕ) →
    OnOk result (view_over v (scene_of bytes scene) limits ≡ None)

-- a limit that is told is that of the first count that passes it
abbrev pub EndsOver : {A : Type 0} → ViewValue → SceneValue → Limits → Result A ViewFault → Type 0
EndsOver v scene limits result = (bytes : ℕ → List ℕ) →
    IfErr result (λ fault. IfSome (limit_of_view fault)
    (λ over. view_over v (scene_of bytes scene) limits ≡ Some over))

-- the cache is at rest with the scene's colormap of `count` bytes, and holds what the files of these contents give
abbrev pub HoldsScene : DirectoryView → SceneValue → ShelfView → Heap → List (List ℕ) → ℕ → Type 0
HoldsScene dir scene shelf cache contents count =
    HoldsArt shelf dir (textures_view scene) contents scene.base.colormap count cache

-- in a zone that is large enough for the scene no fault tells a full one
abbrev pub EndsNotFull : {A : Type 0} → DirectoryView → SceneValue → ShelfView → Heap →
    Result A ViewFault → Type 0
EndsNotFull dir scene shelf cache result = (contents : List (List ℕ)) (count : ℕ) →
    HoldsScene dir scene shelf cache contents count →
    (lump_at dir.lumps scene.base.colormap).size ≡ count →
    enough dir.lumps (art_of scene) ≤ cache.size →
    IfErr result (λ fault. IfFull (view_fault fault) (λ wanted widest. ⊥))

-- in such a zone a fault tells a limit, or that a read failed
abbrev pub EndsComplete : {A : Type 0} → DirectoryView → SceneValue → ShelfView → Heap →
    Result A ViewFault → Type 0
EndsComplete dir scene shelf cache result = (contents : List (List ℕ)) (count : ℕ) →
    HoldsScene dir scene shelf cache contents count →
    (lump_at dir.lumps scene.base.colormap).size ≡ count →
    enough dir.lumps (art_of scene) ≤ cache.size →
    IfErr result (λ fault. fault ≢ ReadFault → IsSome (limit_of_view fault))

-- a cache that holds the scene's files holds them after the call too
abbrev pub HoldsAgain : DirectoryView → SceneValue → ShelfView → ShelfView → Heap → Heap → Type 0
HoldsAgain dir scene shelf after cache new = (contents : List (List ℕ)) (count : ℕ) →
    HoldsScene dir scene shelf cache contents count →
    HoldsScene dir scene after new contents count
