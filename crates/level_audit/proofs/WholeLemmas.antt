-- What drawing asks of a scene, a step of its reading at a time.
use Rattle.art_rules.proofs.Common.{All, ap, Err, IfOk, IfSome, length, List, Ok, OnOk, option_map, Result, rules, subst, sym, ℕ, ◌<◌, ◌∙◌, ◌≡◌, ◌≤◌, ◌⊎◌}
use Rattle.level_audit.specs.Rules.{AuditRefusal, Faces, Fault, LevelBase, Lump, MAX_TEXTURES, Placed, Seg, SideTextures, TextureLists, ThingLine, book_lumps, faces_in, placed_things}
use Rattle.texture_build.specs.TexNo.{TexNo}
use Rattle.texture_build.specs.Views.{TexturesView, AllTexturesListed, AllThere, IsPrepared}
use Rattle.level_scene.specs.Bounds.{AreBelow, AreThere}
use Rattle.sound_scene.specs.{declared.parts.ReadBase.ReadBase, declared.parts.ReadFaces.ReadFaces}
use Rattle.sound_scene.specs.{declared.parts.ReadScene.ReadScene, Bases.base_of}
use Rattle.sound_scene.specs.Scenes.{faces_of, scene_value}
use Rattle.sound_scene.specs.Whole.{AreSidePrepared, IsMiddleSingle, IsWholeArt, IsWholeScene}

-- the middles of sides that are lent are none or prepared
pub middles_prepared : (textures : TexturesView) (sides seen : List SideTextures) → seen ≡ sides → All (AreSidePrepared textures) sides →
    All (λ (side : SideTextures). (side.middle ≡ 0) ⊎ IsPrepared textures side.middle) seen
middles_prepared textures sides seen same prepared =
    subst (λ (s : List SideTextures). All (λ (side : SideTextures). (side.middle ≡ 0) ⊎ IsPrepared textures side.middle) s) (sym same) (λ i d l. (prepared i d l).middle)

-- so it is with those of segs and sides that are lent
pub middles_told : (textures : TexturesView) (segs lent : List Seg) (sides seen : List SideTextures) → lent ≡ segs → seen ≡ sides →
    All (IsMiddleSingle textures seen) lent → All (IsMiddleSingle textures sides) segs
middles_told textures segs lent sides seen e f single =
    subst (λ (s : List SideTextures). All (IsMiddleSingle textures s) segs) f (subst (λ (s : List Seg). All (IsMiddleSingle textures seen) s) e single)

-- the textures of a base are prepared for the faces of its level
pub record ArePreparedFor (lumps : List Lump) (base : ReadBase) (faces : ReadFaces) : Type 0 where
  pub sides : All (AreSidePrepared base.textures) faces.sides.items
  pub sky : IfSome (option_map (λ (tex : TexNo). tex.0) faces.sky) (IsPrepared base.textures)
  pub patches : AllThere lumps base.textures
  pub listed : AllTexturesListed base.textures

module _ (lumps : List Lump) (lines : List ThingLine) (skill : ℕ) (base : ReadBase) (faces : ReadFaces) where
  -- the things are placed, and their pictures read
  art_of_scene : (placed : List Placed) (scene : ReadScene) → scene.base ≡ base → scene.faces ≡ faces → scene.placed ≡ placed →
      placed ≡ placed_things base.level lines skill → ArePreparedFor lumps base faces → All (IsMiddleSingle base.textures faces.sides.items) base.level.segs →
      All (λ lump. lump < length lumps) (book_lumps scene.book) → IsWholeArt lumps lines skill (scene_value scene)
  art_of_scene placed scene e f p are prepared single pictures =
      let textures : ArePreparedFor lumps scene.base scene.faces = subst (λ (b : ReadBase). ArePreparedFor lumps b scene.faces) (sym e) (subst (ArePreparedFor lumps base) (sym f) prepared) in
      let middles : All (IsMiddleSingle scene.base.textures scene.faces.sides.items) scene.base.level.segs =
      subst (λ (b : ReadBase). All (IsMiddleSingle b.textures scene.faces.sides.items) b.level.segs) (sym e)
      (subst (λ (f : ReadFaces). All (IsMiddleSingle base.textures f.sides.items) base.level.segs) (sym f) single) in
      record {
        placed = p ∙ are ∙ ap (λ (b : ReadBase). placed_things b.level lines skill) (sym e);
        textures = textures.sides;
        sky = textures.sky;
        patches = textures.patches;
        listed = textures.listed;
        middles = middles;
        pictures = pictures;
      }

  pub art_after : (placed : List Placed) (result : Result ReadScene (Fault AuditRefusal)) →
      IfOk result (λ (scene : ReadScene). scene.base ≡ base) → IfOk result (λ (scene : ReadScene). scene.faces ≡ faces) → IfOk result (λ (scene : ReadScene). scene.placed ≡ placed) →
      placed ≡ placed_things base.level lines skill → ArePreparedFor lumps base faces → OnOk result (All (IsMiddleSingle base.textures faces.sides.items) base.level.segs) →
      IfOk result (λ (scene : ReadScene). All (λ lump. lump < length lumps) (book_lumps scene.book)) → IfOk result (λ (scene : ReadScene). IsWholeArt lumps lines skill (scene_value scene))
  art_after placed (Ok scene) e f p are prepared single pictures = art_of_scene placed scene e f p are prepared single pictures
  art_after placed (Err fault) e f p are prepared single pictures = tt

-- the names in a level mean something, over lists that are lent
pub record AreFacesOf (lumps : List Lump) (name : List ℕ) (base : LevelBase) (meant : Faces) : Type 0 where
  pub faces : faces_in lumps name base.level base.lists ≡ Ok meant
  pub sides : length meant.sides ≡ length base.level.sides
  pub flats : length meant.flats ≡ length base.level.sectors
  pub flats_there : All (AreThere (length lumps)) meant.flats
  pub below : All (AreBelow (length base.lists.textures)) meant.sides
  pub few : length base.lists.textures ≤ MAX_TEXTURES

module _ (lumps : List Lump) (lines : List ThingLine) (name : List ℕ) (skill : ℕ) (base : ReadBase) (faces : ReadFaces) where
  pub faces_over : (lent : TextureLists) → lent ≡ base.textures.lists → faces_in lumps name base.level lent ≡ Ok (faces_of faces) → length faces.sides.items ≡ length base.level.sides →
      length faces.flats.items ≡ length base.level.sectors → All (AreThere (length lumps)) faces.flats.items → All (AreBelow (length lent.textures)) faces.sides.items →
      length base.textures.lists.textures ≤ MAX_TEXTURES → AreFacesOf lumps name (base_of base) (faces_of faces)
  faces_over lent e are sides flats there below few = record {
    faces = subst (λ (lists : TextureLists). faces_in lumps name base.level lists ≡ Ok (faces_of faces)) e are;
    sides = sides;
    flats = flats;
    flats_there = there;
    below = subst (λ (lists : TextureLists). All (AreBelow (length lists.textures)) faces.sides.items) e below;
    few = few;
  }

  -- the art is read
  scene_of_art : (scene : ReadScene) → AreFacesOf lumps name (base_of base) (faces_of faces) → base_of scene.base ≡ base_of base → scene.faces ≡ faces → IsWholeArt lumps lines skill (scene_value scene) →
      IsWholeScene lumps lines name skill (scene_value scene)
  scene_of_art scene are e f art =
      let faces_of_scene : AreFacesOf lumps name (base_of scene.base) (faces_of scene.faces) =
      subst (λ (b : LevelBase). AreFacesOf lumps name b (faces_of scene.faces)) (sym e) (subst (λ (f : ReadFaces). AreFacesOf lumps name (base_of base) (faces_of f)) (sym f) are) in
      search rules

  pub scene_after : (result : Result ReadScene (Fault AuditRefusal)) → AreFacesOf lumps name (base_of base) (faces_of faces) →
      IfOk result (λ (scene : ReadScene). base_of scene.base ≡ base_of base) → IfOk result (λ (scene : ReadScene). scene.faces ≡ faces) →
      IfOk result (λ (scene : ReadScene). IsWholeArt lumps lines skill (scene_value scene)) → IfOk result (λ (scene : ReadScene). IsWholeScene lumps lines name skill (scene_value scene))
  scene_after (Ok scene) are e f art = scene_of_art scene are e f art
  scene_after (Err fault) are e f art = tt
