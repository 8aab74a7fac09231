-- Laws of the masked pass of a view: what it asks is there where the walk is in the bench, and what it paints is what the picture has.
use Rattle.picture_rules.proofs.Common.{All, All-contains, AllPass, ap, arith, get_or, length, List, list_any, nat_tests, or_right, subst, sym, true, ℕ, ℤ, ◌<◌, ◌==◌, ◌∙◌, ◌≡◌}
use Rattle.frame_core.specs.Rules.{AreNoted, Dot, Drawseg, FragmentNote, Heap, IsSound, LevelValue, Plane, Scene, SceneValue, Sector, Seg, Side, SpriteEntry, ViewValue, book_lumps, draw_order, has_flat, masked_dots, view_drawsegs, view_entries, view_events, view_notes, walls_of}
use Rattle.texture_build.specs.{DirectoryView.DirectoryView, Arts.view_art}
use Rattle.texture_build.specs.Views.{TexturesView}
use Rattle.sound_scene.specs.Sound.{middles_of, textures_view}
use Rattle.vissprites.specs.Bounds.{has_lump_below, lies_within}
use Rattle.wall_columns.specs.Built.{IsBuilt}
use Rattle.masked_draw.specs.Lists.{MaskedLists, lists_of as lists_by, noted_drawsegs}
use Rattle.masked_draw.specs.Ready.{IsInLists, IsListed, IsSpriteLump}
use Rattle.masked_draw.specs.Strips.{masked_strips}
use Rattle.frame_core.specs.{declared.bench.Bench.Bench}
use Rattle.frame_core.specs.{Walked.planes_after, Painters.HasWalkedView}
use Rattle.sound_scene.specs.Pictures.{lists_of, scene_of}
use Rattle.frame_core.specs.Views.{CanDrawView, IsViewLump}
use Rattle.frame_core.specs.Parts.{AreNotesListed}
use Rattle.frame_core.specs.ViewStrips.{mask_lists, no_bytes, scene_entries, scene_noted, scene_walls}
use Rattle.frame_core.proofs.DrawsegLemmas.{masked_dots-noted}
use Rattle.frame_core.proofs.EntryLemmas.{entry_lump}
use Rattle.frame_core.proofs.ListedLemmas.{notes_listed}

-- what the masked pass is drawn with
pub record MaskParts : Type 0 where
  pub textures : TexturesView
  pub colormap : ℕ
  pub lists : MaskedLists
  pub openings : List ℤ
  pub notes : List FragmentNote

abbrev pub mask_parts : TexturesView → ℕ → List Seg → List Side → List Sector → List ℕ → List ℤ → List FragmentNote → MaskParts
mask_parts textures colormap segs sides sectors middles openings notes =
    record { textures = textures; colormap = colormap; lists = lists_by segs sides sectors middles; openings = openings; notes = notes }

-- those of a scene, where the walk of a view is in the bench
abbrev pub parts_of : SceneValue → Bench → MaskParts
parts_of s b = mask_parts (textures_view s) s.base.colormap s.base.level.segs s.base.level.sides s.base.level.sectors (middles_of s.faces.sides) b.walls.openings b.walls.notes

pub parts-same : (s : SceneValue) (b : Bench) {level : LevelValue} {textures : TexturesView} {colormap : ℕ} {segs : List Seg} {sides : List Side} {sectors : List Sector} {middles : List ℕ} {openings : List ℤ} {notes : List FragmentNote} →
    level ≡ s.base.level → textures ≡ textures_view s → colormap ≡ s.base.colormap → segs ≡ level.segs → sides ≡ level.sides → sectors ≡ level.sectors → middles ≡ middles_of s.faces.sides →
    openings ≡ b.walls.openings → notes ≡ b.walls.notes → mask_parts textures colormap segs sides sectors middles openings notes ≡ parts_of s b
parts-same s b level textures colormap segs sides sectors middles openings notes =
    let by_segs = segs ∙ ap (λ (l : LevelValue). l.segs) level in
    let by_sides = sides ∙ ap (λ (l : LevelValue). l.sides) level in
    let by_sectors = sectors ∙ ap (λ (l : LevelValue). l.sectors) level in
    λ i. mask_parts (textures i) (colormap i) (by_segs i) (by_sides i) (by_sectors i) (middles i) (openings i) (notes i)

-- the dots of the masked pass of a view
abbrev pub masks_dots : ViewValue → SceneValue → Scene → List Dot
masks_dots v s scene =
    masked_dots v scene.art (view_drawsegs v scene (walls_of v scene (view_events v (lists_of s)))) (draw_order (view_entries v scene (view_events v (lists_of s))))

-- the lump of an entry that has one of so many
lump_below : (n : ℕ) (e : SpriteEntry) → has_lump_below n e ≡ true → e.lump < n
unfolding has_lump_below
lump_below n e on = grind (arith, nat_tests)

-- the notes are noted in the parts
pub parts-noted : (v : ViewValue) (s : SceneValue) (b : Bench) {parts : MaskParts} → parts ≡ parts_of s b → AreNoted v.shape b.walls.notes b.walls.openings → AreNoted v.shape parts.notes parts.openings
parts-noted v s b same noted = subst (λ (p : MaskParts). AreNoted v.shape p.notes p.openings) (sym same) noted

-- the columns of the vissprites lie in the view
pub sprites-within : (v : ViewValue) (s : SceneValue) (b : Bench) → HasWalkedView v s b → AllPass (lies_within v.shape.width) b.sprites
sprites-within v s b walked = (walked no_bytes).columns

-- the walls are built, with the planes of the walk
pub walls-built : (v : ViewValue) (s : SceneValue) (b : Bench) → HasWalkedView v s b →
    IsBuilt v (walls_of v (scene_of no_bytes s) (view_events v (lists_of s))) (planes_after v (scene_of no_bytes s) (view_events v (lists_of s))) b.walls
    (planes_after v (scene_of no_bytes s) (view_events v (lists_of s))).planes
walls-built v s b walked =
    let lists_built = (walked no_bytes).built in
    let is_built_with : List Plane → Type 0 = IsBuilt v (walls_of v (scene_of no_bytes s) (view_events v (lists_of s))) (planes_after v (scene_of no_bytes s) (view_events v (lists_of s))) b.walls in
    subst is_built_with lists_built.planes lists_built

module _ {v : ViewValue} {s : SceneValue} {b : Bench} {z : Heap} (dir : DirectoryView) (sound : IsSound s.base.level) (can : CanDrawView dir.lumps s z) (walked : HasWalkedView v s b) where
  scene_notes : All (IsListed dir.lumps (textures_view s) z (mask_lists s)) b.walls.notes
  scene_notes =
      let is_walked = walked no_bytes in
      notes_listed dir.lumps s can.drawable sound z can.composites no_bytes v (view_events v (lists_of s)) b.walls.notes is_walked.there is_walked.built.notes

  -- the notes are listed in the parts
  pub parts-listed : {parts : MaskParts} → parts ≡ parts_of s b → All (IsListed dir.lumps parts.textures z parts.lists) parts.notes
  parts-listed same = subst (λ (p : MaskParts). All (IsListed dir.lumps p.textures z p.lists) p.notes) (sym same) scene_notes

  -- the pictures of the vissprites are of the directory
  pub sprites-below : AllPass (has_lump_below (length dir.lumps)) b.sprites
  sprites-below = (walked no_bytes).lumps (length dir.lumps) can.drawable.pictures

  pub sprite_lump : (lump : ℕ) → IsSpriteLump b.sprites lump → IsViewLump dir.lumps s lump
  sprite_lump lump k =
      let is_walked = walked no_bytes in
      let is_book_lump : ℕ → Type 0 = λ (m : ℕ). list_any (λ n. n == m) (book_lumps s.book) ≡ true in
      let lump_in_book = entry_lump no_bytes v s (view_events v (lists_of s)) b.sprites k.among.0 k.sprite is_walked.sprites k.among.1 in
      let lumps_same : (get_or b.sprites k.among.0 k.sprite).lump ≡ lump = ap (λ (e : SpriteEntry). e.lump) k.among.2 ∙ sym k.is.0 in
      let entry_lump_below = All-contains (λ (e : SpriteEntry). has_lump_below (length dir.lumps) e ≡ true) b.sprites k.sprite sprites-below k.among in
      record {
        there = subst (λ (m : ℕ). m < length dir.lumps) (sym k.is.0) (lump_below (length dir.lumps) k.sprite entry_lump_below);
        drawn = or_right (list_any (has_flat lump) s.faces.flats) (list_any (λ n. n == lump) (book_lumps s.book)) (subst is_book_lump lumps_same lump_in_book);
      }

  same_dots : (bytes : ℕ → List ℕ) →
      masked_dots v (view_art bytes (textures_view s) s.base.colormap) (noted_drawsegs v (textures_view s) (mask_lists s) b.walls.openings b.walls.notes) (draw_order b.sprites) ≡ masks_dots v s (scene_of bytes s)
  unfolding scene_of
  same_dots bytes =
      let is_walked = walked bytes in
      masked_dots-noted bytes v s can.drawable.flats (scene_of bytes s).art (view_events v (lists_of s)) b.walls.notes b.walls.openings (draw_order b.sprites) is_walked.built.notes is_walked.built.openings
      ∙ ap (λ (es : List SpriteEntry). masked_dots v (scene_of bytes s).art (view_drawsegs v (scene_of bytes s) (walls_of v (scene_of bytes s) (view_events v (lists_of s)))) (draw_order es)) is_walked.sprites

module _ (v : ViewValue) (s : SceneValue) (b : Bench) {parts : MaskParts} (same : parts ≡ parts_of s b) (walked : HasWalkedView v s b) where
  -- the notes that are in the lists are in the parts
  pub parts-in : AreNotesListed v s → All (IsInLists (length parts.textures.lists.textures) parts.lists) parts.notes
  parts-in listed =
      subst (λ (p : MaskParts). All (IsInLists (length p.textures.lists.textures) p.lists) p.notes) (sym same)
      (subst (All (IsInLists (length s.base.lists.textures) (mask_lists s))) (sym (walked no_bytes).built.notes) listed)

  -- the drawn fragments as the pass reads them, and its strips
  pub masks-noted : noted_drawsegs v parts.textures parts.lists parts.openings parts.notes ≡ scene_noted v s
  masks-noted =
      ap (λ (p : MaskParts). noted_drawsegs v p.textures p.lists p.openings p.notes) same
      ∙ ap (λ (ns : List FragmentNote). noted_drawsegs v (textures_view s) (mask_lists s) b.walls.openings ns) (walked no_bytes).built.notes
      ∙ ap (λ (os : List ℤ). noted_drawsegs v (textures_view s) (mask_lists s) os (view_notes v (scene_walls v s))) (walked no_bytes).built.openings

  pub masks-same : masked_strips v (noted_drawsegs v parts.textures parts.lists parts.openings parts.notes) (draw_order b.sprites) ≡ masked_strips v (scene_noted v s) (draw_order (scene_entries v s))
  masks-same =
      ap (λ (ds : List Drawseg). masked_strips v ds (draw_order b.sprites)) masks-noted
      ∙ ap (λ (es : List SpriteEntry). masked_strips v (scene_noted v s) (draw_order es)) (walked no_bytes).sprites

-- the vissprites of a bench are the view's
pub entries-same : (v : ViewValue) (s : SceneValue) (b : Bench) → HasWalkedView v s b → b.sprites ≡ scene_entries v s
entries-same v s b walked = (walked no_bytes).sprites
