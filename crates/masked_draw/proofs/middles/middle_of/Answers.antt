-- The entries of the lists that the code reads are those of the rule.
use Rattle.picture_rules.proofs.Common.{ap, arith, get_or_default, IfSome, IsSome, None, of_z, Option, refl, rules, slice_index_or, Some, to_z, w16, w32, ℕ, ℤ, ◌∙◌, ◌≡◌, to_z-of_z}
use Rattle.masked_draw.specs.Rules.{Eye, FragmentNote, Sector, Seg, Side, Surface, ViewValue, masked_mid, no_side, seg_light, texture_at}
use Rattle.texture_build.specs.Views.{TexturesView}
use Rattle.masked_draw.specs.Lists.{MaskedLists, heights_of, middle_by, no_sector, note_mid, note_seg, noted_drawseg, sector_by, side_by}
use Rattle.masked_draw.specs.Scenes.{scene_lists}
use Rattle.masked_draw.proofs.middles.middle_of.Goals as goal

-- what is known of the note, by the entries that are read
pub bounds-scene-seg : goal.bounds-scene-seg
unfolding note_seg
bounds-scene-seg c = c.requires.lists.middle

pub bounds-scene-seg-2 : goal.bounds-scene-seg-2
unfolding note_seg
bounds-scene-seg-2 c = c.requires.lists.front

pub bounds-scene-seg-3 : goal.bounds-scene-seg-3
unfolding note_seg
bounds-scene-seg-3 c = c.requires.lists.side

pub height-height-requires : goal.height-height-requires
unfolding note_seg middle_by
height-height-requires c = c.requires.texture

pub back_sector-back-requires-clause-some : goal.back_sector-back-requires-clause-some
unfolding note_seg
back_sector-back-requires-clause-some c = c.requires.lists.some

pub back_sector-back-requires-clause-within : goal.back_sector-back-requires-clause-within
unfolding note_seg
back_sector-back-requires-clause-within c = c.requires.lists.back

-- the row by the sector behind
mid_of : (v : ViewValue) (textures : TexturesView) (lists : MaskedLists) (d : FragmentNote) (o : Option ℕ) (back : Sector) (mid : ℤ) → IsSome o → IfSome o (λ b. back ≡ slice_index_or lists.sectors b no_sector) →
    mid ≡ masked_mid v.eye.z (note_seg lists d) (heights_of (sector_by lists (note_seg lists d).front)) (heights_of back)
    (texture_at textures.lists.textures (middle_by lists d)).height (side_by lists (note_seg lists d).side).y_offset → mid ≡ note_mid v textures lists d o
unfolding note_mid sector_by
mid_of v textures lists d None back mid some is e = absurd (grind (arith, some))
mid_of v textures lists d (Some b) back mid some is e =
    e ∙ ap (λ (r : Sector). masked_mid v.eye.z (note_seg lists d) (heights_of (slice_index_or lists.sectors (note_seg lists d).front no_sector)) (heights_of r)
    (texture_at textures.lists.textures (middle_by lists d)).height (side_by lists (note_seg lists d).side).y_offset) is

mid_same : (seg : Seg) (front f back : Surface) (z a : ℤ) (height h : ℕ) (y b mid : ℤ) → front ≡ f → z ≡ a → height ≡ h → y ≡ b → mid ≡ masked_mid z seg front back height y → mid ≡ masked_mid a seg f back h b
mid_same seg front f back z a height h y b mid o p q r e = cc

light_same : (v : ViewValue) (seg : Seg) (a b : ℤ) (light : ℕ) → a ≡ b → light ≡ seg_light v seg a → light ≡ seg_light v seg b
light_same v seg a b light p e = cc

pub returns-clause-middle : goal.returns-clause-middle
unfolding note_seg middle_by noted_drawseg sector_by side_by
returns-clause-middle c =
    let scene = c.args.scene.now in
    let height = c.height-height.ensures in
    let eye = c.eye.ensures in
    let back_sector_is = c.back_sector-back.ensures in
    let eye_height_is : to_z w32 (of_z w32 c.eye.result.z) ≡ scene.view.now.eye.z = to_z-of_z w32 c.eye.result.z (search rules) ∙ ap (λ (e : Eye). e.z) eye in
    let y_offset_is = to_z-of_z w32 _ (search rules) ∙ ap (λ (r : Side). r.y_offset) (get_or_default scene.sides.now _ c.index-scene-seg-2.result no_side c.requires.lists.side) in
    let front = get_or_default scene.sectors.now _ c.index-scene-seg.result no_sector c.requires.lists.front in
    let light = to_z-of_z w16 _ (search rules) ∙ ap (λ (r : Sector). r.light) front in
    record {
      number_is = refl;
      tex = refl;
      mid = to_z-of_z w32 c.masked_mid.result (search rules)
          ∙ mid_of scene.view.now scene.textures.now (scene_lists scene) c.args.note.now (note_seg (scene_lists scene) c.args.note.now).back c.back_sector-back.result.now c.masked_mid.result
          c.requires.lists.some back_sector_is (mid_same _ _ _ _ _ _ _ _ _ _ _ (ap heights_of front) eye_height_is height y_offset_is c.masked_mid.ensures);
      light = light_same _ _ _ _ _ light c.seg_light.ensures.value;
      place = c.requires.masked;
    }
