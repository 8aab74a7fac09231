-- What stays while the masked pass runs, and what each call of it asks.
use Rattle.std.specs.Prelude.{◌≤◌, Bool, List, All, length}
use Rattle.masked_draw.specs.Rules.{AreNoted, Drawseg, FRAME_WIDTH, FragmentNote}
use Rattle.masked_draw.specs.{declared.scene.MaskScene.MaskScene, Ready.IsInLists}
use Rattle.masked_draw.specs.Lists.{MaskedLists, lists_of, noted_drawseg, noted_drawsegs}

-- the lists of the level
abbrev pub scene_lists : MaskScene → MaskedLists
scene_lists s = lists_of s.segs.now s.sides.now s.sectors.now s.middles.now

-- a note as the drawn fragment that it stands for
abbrev pub scene_drawseg : MaskScene → FragmentNote → Drawseg
scene_drawseg s d = noted_drawseg s.view.now s.textures.now (scene_lists s) s.openings.now d

abbrev pub scene_drawsegs : MaskScene → List FragmentNote → List Drawseg
scene_drawsegs s notes = noted_drawsegs s.view.now s.textures.now (scene_lists s) s.openings.now notes

-- a note has its entries in the lists
abbrev pub IsInScene : MaskScene → FragmentNote → Type 0
IsInScene s d = IsInLists (length s.textures.now.lists.textures) (scene_lists s) d

-- what each call asks that comes to the fragments: `marks` has an entry for each opening
pub record CanShow (s : MaskScene) (notes : List FragmentNote) (marks : List Bool) : Type 0 where
  pub width : s.view.now.shape.width ≤ FRAME_WIDTH
  pub noted : AreNoted s.view.now.shape notes s.openings.now
  pub listed : All (IsInScene s) notes
  pub room : length s.openings.now ≤ length marks
