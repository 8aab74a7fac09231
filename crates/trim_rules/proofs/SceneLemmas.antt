-- The scene of an accepted level by the trimmed file: the same, with its lumps moved.
use Rattle.art_rules.proofs.Common.{[], AllByRecursion, ap, length, List, list_any, map, Ok, option_map, refl, subst, sym, true, ℕ, ◌==◌, ◌∙◌, ◌∷◌, ◌≡◌, ◌≤◌}
use Rattle.trim_rules.specs.Rules.{LevelBase, Lump, SKY_FLAT, Scene, SceneValue, Sprite, ThingLine, art_with, bad_middle, base_in, book_in, book_lumps, checked, directory, faces_in, first_needs, from_below, is_wanted_texture, last_of, lump_bytes, need_of, placed_things, prepared_textures, scene_in, scene_on, scene_over, scene_with, texture_by}
use Rattle.art_rules.proofs.Laws.{and_then-ok}
use Rattle.scene_rules.specs.declared.refusal.AuditRefusal.TheVariants.{Texture}
use Rattle.trim_rules.specs.{declared.part.TrimPart.TrimPart, Parts.trim_parts, Parts.trim_plan}
use Rattle.trim_rules.specs.Files.{trimmed_file, trimmed_lumps}
use Rattle.trim_rules.proofs.{AnswerLemmas.below, AnswerLemmas.ok_of, BaseLemmas.base-served}
use Rattle.trim_rules.proofs.BookLemmas.{IsPicture, book-moved, move_frame}
use Rattle.trim_rules.proofs.{FacesLemmas.trimmed-faces, MapLemmas.map_place}
use Rattle.trim_rules.proofs.HeldSpriteLemmas.{IsSprite, pictures-held, first_picture}
use Rattle.trim_rules.proofs.{MiddleLemmas.bad_middle-same, MovedFlatLemmas.move_both}
use Rattle.trim_rules.proofs.{PlaceLemmas.source_of, PlanLemmas.plan-unmarked}
use Rattle.trim_rules.proofs.{PreparedLemmas.move_texture, ServedLemmas.trimmed-serves}
use Rattle.trim_rules.proofs.TextureLemmas.{bytes-moved, trimmed-prepared}

-- the steps of a scene that is accepted
pub record IsSceneOf (bytes : ℕ → List ℕ) (lumps : List Lump) (lines : List ThingLine) (name : List ℕ) (skill : ℕ) (scene : SceneValue) : Type 0 where
  pub base : base_in bytes lumps name ≡ Ok scene.base
  pub faces : faces_in lumps name scene.base.level scene.base.lists ≡ Ok scene.faces
  pub prepared : prepared_textures (last_of lumps) bytes scene.base.lists (is_wanted_texture scene.faces.sides scene.faces.sky) ≡ Ok scene.prepared
  pub placed : scene.placed ≡ placed_things scene.base.level lines skill
  pub book : book_in bytes lumps scene.placed ≡ Ok scene.book
  pub checked : checked scene.placed (bad_middle (texture_by scene.prepared) scene.base.level.segs scene.faces.sides) ≡ Ok tt

module _ (bytes : ℕ → List ℕ) (lumps : List Lump) (lines : List ThingLine) (name : List ℕ) (skill : ℕ) where
  pub scene-steps : (scene : SceneValue) → scene_in bytes lumps lines name skill ≡ Ok scene → IsSceneOf bytes lumps lines name skill scene
  unfolding scene_in scene_on scene_with scene_over
  scene-steps scene e =
      let base = and_then-ok (base_in bytes lumps name) _ scene e in
      let faces = and_then-ok (from_below Scene (faces_in lumps name base.0.level base.0.lists)) _ scene base.2 in
      let prepared = and_then-ok (from_below Texture (prepared_textures (last_of lumps) bytes base.0.lists (is_wanted_texture faces.0.sides faces.0.sky))) _ scene faces.2 in
      let placed = placed_things base.0.level lines skill in
      let book = and_then-ok (from_below Sprite (book_in bytes lumps placed)) _ scene prepared.2 in
      let last = and_then-ok (from_below Scene (checked placed (bad_middle (texture_by prepared.0) base.0.level.segs faces.0.sides))) _ scene book.2 in
      let scene_is : ◌≡◌ {A = SceneValue} (record { base = base.0; faces = faces.0; prepared = prepared.0; placed = placed; book = book.0 }) scene = ok_of _ scene last.2 in
      subst (IsSceneOf bytes lumps lines name skill) scene_is (record {
        base = base.1;
        faces = below Scene (faces_in lumps name base.0.level base.0.lists) faces.0 faces.1;
        prepared = below Texture (prepared_textures (last_of lumps) bytes base.0.lists (is_wanted_texture faces.0.sides faces.0.sky)) prepared.0 prepared.1;
        placed = refl;
        book = below Sprite (book_in bytes lumps placed) book.0 book.1;
        checked = below Scene (checked placed (bad_middle (texture_by prepared.0) base.0.level.segs faces.0.sides)) last.0 last.1;
      })

  pub scene-made : (scene : SceneValue) → IsSceneOf bytes lumps lines name skill scene → scene_in bytes lumps lines name skill ≡ Ok scene
  unfolding scene_in scene_on scene_with scene_over
  scene-made scene is =
      rw (is.base, is.faces, is.prepared, sym is.placed, is.book, is.checked) refl

-- The same scene with its lumps moved.
pub record IsSceneMoved (σ : ℕ → ℕ) (bytes : ℕ → List ℕ) (moved scene : SceneValue) : Type 0 where
  pub level : scene.base.level ≡ moved.base.level
  pub lists : scene.base.lists ≡ moved.base.lists
  pub palette : scene.base.palette ≡ moved.base.palette
  pub colormap : bytes scene.base.colormap ≡ bytes (σ moved.base.colormap)
  pub sides : scene.faces.sides ≡ moved.faces.sides
  pub sky : scene.faces.sky ≡ moved.faces.sky
  pub flats : map (move_both σ) moved.faces.flats ≡ scene.faces.flats
  pub prepared : map (option_map (move_texture σ)) moved.prepared ≡ scene.prepared
  pub placed : scene.placed ≡ moved.placed
  pub book : map (move_frame σ) moved.book ≡ scene.book

module _ (contents : List (List ℕ)) (lumps : List Lump) (listed : directory contents ≡ Ok lumps) (few : length lumps ≤ SKY_FLAT)
    (lines : List ThingLine) (name : List ℕ) (skill : ℕ) (scene : SceneValue) (is : scene_in (lump_bytes contents lumps) lumps lines name skill ≡ Ok scene)
    (pictures : List ℕ) (sprites : AllByRecursion (IsSprite lumps) pictures) (kept : (n : ℕ) → list_any (λ m. m == n) (book_lumps scene.book) ≡ true → IsPicture pictures n)
    (parts : List TrimPart) (plan : trim_plan lumps (art_with scene pictures) name ≡ Ok parts) where
  -- The scene of an accepted level by the trimmed file.
  pub trimmed-scene : (moved : SceneValue)
      × (scene_in (λ k. lump_bytes contents lumps (source_of (trim_parts lumps (art_with scene pictures) name) k))
      (trimmed_lumps (lump_bytes contents lumps) lumps (trim_parts lumps (art_with scene pictures) name)) lines name skill ≡ Ok moved)
      × IsSceneMoved (source_of (trim_parts lumps (art_with scene pictures) name)) (lump_bytes contents lumps) moved scene
  unfolding book_in
  trimmed-scene =
      let bytes = lump_bytes contents lumps in
      let art = art_with scene pictures in
      let all_parts = trim_parts lumps art name in
      let σ = source_of all_parts in
      let trimmed = trimmed_lumps bytes lumps all_parts in
      let steps = scene-steps bytes lumps lines name skill scene is in let parts_unmarked = plan-unmarked lumps art name parts plan in
      let wanted = is_wanted_texture scene.faces.sides scene.faces.sky in
      let bytes_same : lump_bytes (trimmed_file bytes lumps all_parts ∷ []) trimmed ≡ (λ k. bytes (σ k)) = bytes-moved contents lumps all_parts few in
      let serves = trimmed-serves contents lumps art name scene.base wanted listed steps.base steps.prepared in
      let faces = trimmed-faces bytes lumps art name scene.base.level scene.base.lists scene.faces few steps.faces refl parts_unmarked in
      let prepared = trimmed-prepared contents lumps art name scene.base wanted few steps.base steps.prepared in
      let pictures_held = pictures-held bytes lumps art name sprites parts_unmarked in
      let book = book-moved trimmed lumps σ (first_picture lumps art) pictures pictures_held bytes
      (first_needs (map need_of scene.placed)) scene.book steps.book kept in
      let base : LevelBase = record {
        colormap = serves.0;
        playpal = serves.1;
        palette = scene.base.palette;
        label = map_place lumps art;
        level = scene.base.level;
        lists = scene.base.lists;
      } in
      let moved_scene : SceneValue = record {
        base = base;
        faces = record { sides = scene.faces.sides; sky = scene.faces.sky; flats = faces.0 };
        prepared = prepared.0;
        placed = scene.placed;
        book = book.0;
      } in (
        moved_scene,
        scene-made (λ k. bytes (σ k)) trimmed lines name skill moved_scene (record {
          base = subst (λ b. base_in b trimmed name ≡ Ok base) bytes_same
              (base-served bytes (lump_bytes (trimmed_file bytes lumps all_parts ∷ []) trimmed) lumps trimmed name scene.base serves.0 serves.1 (map_place lumps art) serves.3);
          faces = faces.1;
          prepared = prepared.1;
          placed = steps.placed;
          book = book.1;
          checked = ap (λ bad. checked scene.placed bad) (sym (bad_middle-same σ prepared.0 scene.base.level.segs scene.faces.sides)
              ∙ ap (λ ts. bad_middle (texture_by ts) scene.base.level.segs scene.faces.sides) prepared.2) ∙ steps.checked;
        }),
        record {
          level = refl;
          lists = refl;
          palette = refl;
          colormap = sym serves.2 ∙ ap (λ b. b serves.0) bytes_same;
          sides = refl;
          sky = refl;
          flats = faces.2;
          prepared = prepared.2;
          placed = refl;
          book = book.2;
        },
      )
