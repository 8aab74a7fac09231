-- What is loaded of a trimmed file: what was loaded of the WADs that it was made of, under other numbers of lumps.
use Rattle.picture_rules.proofs.Common.{[], All, AllByRecursion, ap, arith, inl, length, List, list_any, map, None, Ok, Option, option_map, refl, Some, subst, sym, true, unwrap_or, ℕ, ◌==◌, ◌∙◌, ◌∷◌, ◌≡◌, ◌≤◌}
use Rattle.doom_run.specs.Rules.{Faces, File, Frame, LevelJobValue, LevelValue, Lump, MAX_LUMPS, SKY_FLAT, SceneArt, SceneValue, TextureLists, ThingLine, TrimPart, WeaponArt, book_in, book_lumps, directory, each_of, faces_in, first_needs, flat_lumps, frame_of, from_below, lump_bytes, map_bytes, need_of, scene_in, sector_flats, side_textures, sky_texture, trim_parts, trim_plan, trimmed_file, trimmed_lumps}
use Rattle.art_rules.proofs.Laws.{and_then-ok}
use Rattle.csv_tables.specs.declared.weapons.WeaponRow.{WeaponRow}
use Rattle.job_files.specs.Files.{path_file, tables_file, things_file, weapons_file}
use Rattle.job_files.specs.Sizes.{wad_contents}
use Rattle.sound_scene.specs.{Sound.art_with, Pictures.lists_of}
use Rattle.level_audit.specs.scene_load.Loads.{LoadedValue, load_in, loaded_pictures, wad_bytes, weapon_lumps, weapons_of}
use Rattle.level_audit.specs.Weapons.{weapon_book, weapon_needs, weapon_refusal}
use Rattle.trim_rules.proofs.BaseLemmas.{base-made}
use Rattle.trim_rules.proofs.BookLemmas.{IsPicture, book-moved, move_frame}
use Rattle.trim_rules.proofs.{CountLemmas.directory-few, FlatPlaceLemmas.IsFlatPlace}
use Rattle.trim_rules.proofs.HeldSpriteLemmas.{HoldsPictures, IsSprite, book-sprites, first_picture, pictures-held}
use Rattle.trim_rules.proofs.{NamedLemmas.any_left, NamedLemmas.any_right, PlaceLemmas.source_of}
use Rattle.trim_rules.proofs.OneToOneLemmas.{flats-count, flats-one-to-one, flats-placed, sky-kept}
use Rattle.trim_rules.proofs.PlanLemmas.{plan-directory, plan-unmarked}
use Rattle.trim_rules.proofs.SceneLemmas.{IsSceneMoved, scene-steps, trimmed-scene}
use Rattle.trim_rules.proofs.{TextureLemmas.bytes-moved, ThereLemmas.all-append}
use Rattle.alike_rules.proofs.{PlaneLemmas.IsOneToOne, SoundLemmas.HasSectors}
use Rattle.alike_rules.proofs.SurfaceLemmas.{IsSurfaceOf}
use Rattle.doom_run.specs.Alike.{StandsForWads}
use Rattle.doom_run.proofs.alike.TrimmedLemmas.{scene-sectors, surfaces-placed}
use Rattle.doom_run.proofs.alike.StepLemmas.{IsFilesOf, IsLoadOf, below, in_file-same, in_optional_file-same, load-made, load-steps, lumps-listed, ok_of, one-listed, one-named}

-- the book of the rows is one of frames
layers_made : (bytes : ℕ → List ℕ) (lumps : List Lump) (rows : List WeaponRow) (book : List Frame) → each_of (frame_of bytes lumps) (first_needs (weapon_needs rows)) ≡ Ok book
    → weapons_of bytes lumps (Some rows) ≡ Ok (Some book)
unfolding weapons_of weapon_book
layers_made bytes lumps rows book e = rw e refl

-- the pictures of weapon layers are sprite lumps
layers_sprites : (bytes : ℕ → List ℕ) (lumps : List Lump) (rows : Option (List WeaponRow)) (weapons : Option (List Frame)) → weapons_of bytes lumps rows ≡ Ok weapons
    → AllByRecursion (IsSprite lumps) (weapon_lumps weapons)
unfolding weapons_of weapon_book
layers_sprites bytes lumps None weapons e = subst (λ w. AllByRecursion (IsSprite lumps) (weapon_lumps w)) (ok_of None weapons e) tt
layers_sprites bytes lumps (Some rows) weapons e =
    let book = and_then-ok (from_below WeaponArt (weapon_book bytes lumps rows)) _ weapons e in
    subst (λ w. AllByRecursion (IsSprite lumps) (weapon_lumps w)) (ok_of (Some book.0) weapons book.2)
    (book-sprites bytes lumps (first_needs (weapon_needs rows)) book.0 (below weapon_refusal (each_of (frame_of bytes lumps) (first_needs (weapon_needs rows))) book.0 (below WeaponArt (weapon_book bytes lumps rows) book.0 book.1)))

-- the same load with its lumps moved
pub record IsLoadMoved (σ : ℕ → ℕ) (bytes : ℕ → List ℕ) (moved loaded : LoadedValue) : Type 0 where
  pub tables : loaded.files.tables ≡ moved.files.tables
  pub path : loaded.files.path ≡ moved.files.path
  pub rows : loaded.files.weapons ≡ moved.files.weapons
  pub scene : IsSceneMoved σ bytes moved.scene loaded.scene
  pub weapons : option_map (map (move_frame σ)) moved.weapons ≡ loaded.weapons

-- what flats are compared by keeps them apart, and each sector that is named is there
pub record IsComparedAlike (P : ℕ → Type 0) (σ : ℕ → ℕ) (moved : SceneValue) : Type 0 where
  pub sky : σ SKY_FLAT ≡ SKY_FLAT
  pub one : IsOneToOne P σ
  pub has_sky : P SKY_FLAT
  pub sectors : HasSectors (lists_of moved)
  pub flats : All (IsSurfaceOf P) (lists_of moved).surfaces

-- the weapon layers by a directory that holds their pictures
layers-moved : (trimmed lumps : List Lump) (σ : ℕ → ℕ) (a : ℕ) (pictures : List ℕ) → HoldsPictures trimmed lumps σ a pictures
    → (bytes : ℕ → List ℕ) (rows : Option (List WeaponRow)) (weapons : Option (List Frame)) → weapons_of bytes lumps rows ≡ Ok weapons
    → ((n : ℕ) → list_any (λ m. m == n) (weapon_lumps weapons) ≡ true → IsPicture pictures n)
    → (moved : Option (List Frame)) × (weapons_of (λ k. bytes (σ k)) trimmed rows ≡ Ok moved) × (option_map (map (move_frame σ)) moved ≡ weapons)
unfolding weapons_of weapon_book
layers-moved trimmed lumps σ a pictures held bytes None weapons e gives = (None, refl, ok_of None weapons e)
layers-moved trimmed lumps σ a pictures held bytes (Some rows) weapons e gives =
    let needs = first_needs (weapon_needs rows) in
    let book = and_then-ok (from_below WeaponArt (weapon_book bytes lumps rows)) _ weapons e in
    let layers_are : Some book.0 ≡ weapons = ok_of (Some book.0) weapons book.2 in
    let book_is = below weapon_refusal (each_of (frame_of bytes lumps) needs) book.0 (below WeaponArt (weapon_book bytes lumps rows) book.0 book.1) in
    let book_moved = book-moved trimmed lumps σ a pictures held bytes needs book.0 book_is (λ n any. gives n (ap (λ w. list_any (λ m. m == n) (weapon_lumps w)) (sym layers_are) ∙ any)) in
    (Some book_moved.0, layers_made (λ k. bytes (σ k)) trimmed rows book_moved.0 book_moved.1, ap Some book_moved.2 ∙ layers_are)

faces_flats : (lumps : List Lump) (name : List ℕ) (level : LevelValue) (lists : TextureLists) (faces : Faces) → faces_in lumps name level lists ≡ Ok faces → sector_flats lumps level.sectors ≡ Ok faces.flats
unfolding faces_in
faces_flats lumps name level lists faces e =
    let sides = and_then-ok (side_textures lists.textures level.sides) _ faces e in
    let sky = and_then-ok (sky_texture lists.textures name level.sectors) _ faces sides.2 in
    let flats = and_then-ok (sector_flats lumps level.sectors) _ faces sky.2 in
    let faces_are : ◌≡◌ {A = Faces} (record { sides = sides.0; sky = sky.0; flats = flats.0 }) faces = ok_of _ faces flats.2 in
    flats.1 ∙ ap (λ (f : Faces). Ok f.flats) faces_are

book_found : (bytes : ℕ → List ℕ) (lumps : List Lump) (scene : SceneValue) → book_in bytes lumps scene.placed ≡ Ok scene.book
    → each_of (frame_of bytes lumps) (first_needs (map need_of scene.placed)) ≡ Ok scene.book
unfolding book_in
book_found bytes lumps scene e = e

-- what the scene by the trimmed file asks for, so that flats are compared alike
compared : (bytes : ℕ → List ℕ) (lumps : List Lump) (few : length lumps ≤ SKY_FLAT) (art : SceneArt) (name : List ℕ) (parts : List TrimPart) (plan : trim_plan lumps art name ≡ Ok parts)
    (lines : List ThingLine) (skill : ℕ) (level : LevelValue) (flats : sector_flats lumps level.sectors ≡ Ok art.flats) (moved : SceneValue)
    → scene_in (λ k. bytes (source_of (trim_parts lumps art name) k)) (trimmed_lumps bytes lumps (trim_parts lumps art name)) lines name skill ≡ Ok moved → level ≡ moved.base.level
    → IsComparedAlike (IsFlatPlace (length (flat_lumps lumps art.flats))) (source_of (trim_parts lumps art name)) moved
compared bytes lumps few art name parts plan lines skill level flats moved is same =
    let trimmed_parts = trim_parts lumps art name in
    let trimmed = trimmed_lumps bytes lumps trimmed_parts in
    let steps = scene-steps (λ k. bytes (source_of trimmed_parts k)) trimmed lines name skill moved is in
    let sectors = moved.base.level.sectors in
    let source : sector_flats lumps sectors ≡ Ok art.flats = ap (λ (l : LevelValue). sector_flats lumps l.sectors) (sym same) ∙ flats in
    let flats_found : sector_flats trimmed sectors ≡ Ok moved.faces.flats = faces_flats trimmed name moved.base.level moved.base.lists moved.faces
    steps.faces in let base_is_made = base-made (λ k. bytes (source_of trimmed_parts k)) trimmed name moved.base steps.base in
    record {
      sky = sky-kept lumps art name parts plan;
      one = flats-one-to-one lumps art name parts plan bytes sectors few source;
      has_sky = inl refl;
      sectors = scene-sectors (map_bytes (λ k. bytes (source_of trimmed_parts k)) moved.base.label) moved base_is_made.level
          (flats-count trimmed sectors moved.faces.flats flats_found);
      flats = surfaces-placed (length (flat_lumps lumps art.flats)) sectors moved.faces.flats (flats-placed lumps art name parts plan bytes sectors few source moved.faces.flats flats_found);
    }

-- the same files, but for the WADs
files_moved : (level : LevelJobValue) (wads : List (List ℕ)) (files : List File) (loaded : LoadedValue) (file name : List ℕ) (others : List File) (trimmed : List Lump)
    → IsLoadOf level wads files loaded → StandsForWads level.files file name files others → directory (file ∷ []) ≡ Ok trimmed
    → IsFilesOf level.files (name ∷ []) level.settings others
    (record { tables = loaded.files.tables; things = loaded.files.things; path = loaded.files.path; weapons = loaded.files.weapons; lumps = trimmed })
files_moved level wads files loaded file name others trimmed steps stands listed = record {
  tables = in_file-same (tables_file level.settings) level.files.tables files others stands.tables ∙ steps.values.tables;
  things = in_file-same things_file level.files.things files others stands.things ∙ steps.values.things;
  path = in_file-same path_file level.files.path files others stands.path ∙ steps.values.path;
  weapons = in_optional_file-same weapons_file level.files.weapon files others stands.weapon ∙ steps.values.weapons;
  lumps = one-listed name file others trimmed stands.trimmed listed;
}

-- What is loaded of the trimmed file of a job, by other files in which it stands for the WADs.
pub trimmed-load : (level : LevelJobValue) (wads : List (List ℕ)) (files : List File) (loaded : LoadedValue) → load_in level wads files ≡ Ok loaded
    → (parts : List TrimPart) → trim_plan loaded.files.lumps (art_with loaded.scene (loaded_pictures loaded)) level.map_name ≡ Ok parts
    → (name : List ℕ) (others : List File)
    → StandsForWads level.files (trimmed_file (wad_bytes wads files loaded.files.lumps) loaded.files.lumps (trim_parts loaded.files.lumps (art_with loaded.scene (loaded_pictures loaded)) level.map_name)) name files others
    → (moved : LoadedValue) × (load_in level (name ∷ []) others ≡ Ok moved)
    × IsLoadMoved (source_of (trim_parts loaded.files.lumps (art_with loaded.scene (loaded_pictures loaded)) level.map_name)) (wad_bytes wads files loaded.files.lumps) moved loaded
    × (wad_bytes (name ∷ []) others moved.files.lumps
    ≡ (λ k. wad_bytes wads files loaded.files.lumps (source_of (trim_parts loaded.files.lumps (art_with loaded.scene (loaded_pictures loaded)) level.map_name) k)))
    × IsComparedAlike (IsFlatPlace (length (flat_lumps loaded.files.lumps loaded.scene.faces.flats)))
    (source_of (trim_parts loaded.files.lumps (art_with loaded.scene (loaded_pictures loaded)) level.map_name)) moved.scene
trimmed-load level wads files loaded is parts plan name others stands =
    let lumps = loaded.files.lumps in
    let contents = wad_contents wads files in
    let bytes = wad_bytes wads files lumps in
    let pictures = loaded_pictures loaded in
    let art = art_with loaded.scene pictures in
    let trimmed_parts = trim_parts lumps art level.map_name in
    let source = source_of trimmed_parts in
    let trimmed = trimmed_lumps bytes lumps trimmed_parts in
    let file = trimmed_file bytes lumps trimmed_parts in
    let steps = load-steps level wads files loaded is in
    let directory_is : directory contents ≡ Ok lumps = lumps-listed wads files lumps steps.values.lumps in
    let lumps_within : length lumps ≤ MAX_LUMPS = directory-few contents lumps directory_is in
    let lumps_few : length lumps ≤ SKY_FLAT = omega arith in
    let lines = loaded.files.things in let skill = level.settings.skill in
    let scene_is_made = scene-steps bytes lumps lines level.map_name skill loaded.scene steps.scene in
    let sprites : AllByRecursion (IsSprite lumps) pictures = all-append (IsSprite lumps) (book_lumps loaded.scene.book) (weapon_lumps loaded.weapons)
    (book-sprites bytes lumps (first_needs (map need_of loaded.scene.placed)) loaded.scene.book (book_found bytes lumps loaded.scene scene_is_made.book))
    (layers_sprites bytes lumps loaded.files.weapons loaded.weapons steps.weapons) in
    let scene = trimmed-scene contents lumps directory_is lumps_few lines level.map_name skill loaded.scene steps.scene pictures sprites
    (λ n any. any_left (λ m. m == n) (book_lumps loaded.scene.book) (weapon_lumps loaded.weapons) any) parts plan in
    let holds_pictures = pictures-held bytes lumps art level.map_name sprites (plan-unmarked lumps art level.map_name parts plan) in
    let weapons = layers-moved trimmed lumps source (first_picture lumps art) pictures holds_pictures bytes loaded.files.weapons loaded.weapons steps.weapons
    (λ n any. any_right (λ m. m == n) (book_lumps loaded.scene.book) (weapon_lumps loaded.weapons) any) in
    let directory-is : directory (file ∷ []) ≡ Ok trimmed = plan-directory contents lumps directory_is art level.map_name parts plan in
    let moved_value : LoadedValue = record {
      files = record { tables = loaded.files.tables; things = lines; path = loaded.files.path; weapons = loaded.files.weapons; lumps = trimmed };
      scene = scene.0;
      weapons = weapons.0;
    } in
    let bytes_same : wad_bytes (name ∷ []) others trimmed ≡ (λ k. bytes (source k)) =
    ap (λ o. lump_bytes (unwrap_or o []) trimmed) (one-named name file others stands.trimmed) ∙ bytes-moved contents lumps trimmed_parts lumps_few in (
      moved_value,
      load-made level (name ∷ []) others moved_value (record {
        values = files_moved level wads files loaded file name others trimmed steps stands directory-is;
        scene = subst (λ b. scene_in b trimmed lines level.map_name skill ≡ Ok scene.0) (sym bytes_same) scene.1;
        weapons = subst (λ b. weapons_of b trimmed loaded.files.weapons ≡ Ok weapons.0) (sym bytes_same) weapons.1;
      }),
      record { tables = refl; path = refl; rows = refl; scene = scene.2; weapons = weapons.2 },
      bytes_same,
      compared bytes lumps lumps_few art level.map_name parts plan lines skill loaded.scene.base.level (faces_flats
          lumps level.map_name loaded.scene.base.level loaded.scene.base.lists loaded.scene.faces scene_is_made.faces) scene.0 scene.1 scene.2.level,
    )
