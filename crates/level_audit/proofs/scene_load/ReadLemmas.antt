-- Each lump that loading reads is of the directory, and is asked for.
use Rattle.art_rules.proofs.Common.{All-contains, and_parts, ap, arith, Bool, cond, eq-eqb, false, inl, inr, leb-true, length, List, list_any, list_any-append, nat_le, nat_lt, None, not, Ok, ok_or, Option, option_and_then, or_right, refl, slice_get, Some, subst, suc, sym, true, ℕ, ◌+◌, ◌<◌, ◌==◌, ◌∙◌, ◌≡◌, ◌≤◌}
use Rattle.art_rules.proofs.Laws.{greatest-is}
use Rattle.level_audit.specs.Rules.{BEHAVIOR, BEHAVIOR_AFTER, Frame, LevelJobValue, Lump, MAP_LUMPS, Mention, Need, PALETTE_SIZE, PLAYPAL, PNAMES, Playpal, SceneValue, TEXTURE1, TEXTURE2, ThingLine, are_named, art_of, book_lumps, has_item, has_name, if_label, if_long, is_label, is_map_lump, is_named_in, is_needed, label_of, last_of, long_lump, lump_at, map_of, playpal_of, scene_in}
use Rattle.texture_build.specs.Caches.{lump_owner}
use Rattle.texture_build.proofs.MapLemmas.{named_within}
use Rattle.sprite_book.specs.Calls.{IsWanted}
use Rattle.sprite_book.proofs.FrameLemmas.{pictures_there}
use Rattle.level_audit.specs.{Asked.IsOfArt, Asked.IsOfBase, Reads.IsAfterColormap, Reads.IsReadBy}
use Rattle.sound_scene.specs.Sound.{art_with}
use Rattle.level_audit.specs.Weapons.{weapon_needs}
use Rattle.level_audit.proofs.{AskedLemmas.needed_later, scene_load.AuditedLemmas.audited_by}
use Rattle.sound_scene.proofs.NeededLemmas.{for_colormap, for_picture}
use Rattle.sound_scene.proofs.SceneLemmas.{base_parts, colormap_there, same_value, scene_parts}
use Rattle.job_files.specs.Files.{FilesValue}
use Rattle.level_audit.specs.scene_load.Fulls.{IsOfLayers, IsReadFor}
use Rattle.level_audit.specs.scene_load.Loads.{LoadedValue, audited_in, loaded_pictures, weapon_lumps, weapons_of}
use Rattle.level_audit.specs.scene_load.Orders.{loaded_items}
use Rattle.level_audit.proofs.scene_load.MoreLemmas.{book_of_layers, needed_more}
use Rattle.level_audit.proofs.scene_load.OrderLemmas.{items_lump}

-- a value that was found, or else there is a refusal
found_or : {X E : Type 0} (o : Option X) (e : E) (x : X) → ok_or o e ≡ Ok x → o ≡ Some x
found_or None e x is = cc
found_or (Some y) e x is = let value_same : y ≡ x = cc in ap Some value_same

module _ (lumps : List Lump) where
  -- the last lump of a name
  last_there : (name : List ℕ) (lump : ℕ) → last_of lumps name ≡ Some lump → lump < length lumps
  last_there name lump last = (greatest-is (has_name lumps name) (length lumps) lump last).0

  last_named : (name : Option (List ℕ)) (lump : ℕ) → option_and_then (last_of lumps) name ≡ Some lump → lump < length lumps
  last_named None lump e = cc
  last_named (Some name) lump e = last_there name lump e

  -- PLAYPAL
  long_last : (size lump : ℕ) (last : Option ℕ) → option_and_then (if_long lumps size) last ≡ Some lump → last ≡ Some lump
  long_last size lump None e = cc
  long_last size lump (Some n) e = go (nat_le size (lump_at lumps n).size) e where
    go : (b : Bool) → cond b (Some n) None ≡ Some lump → Some n ≡ Some lump
    go true is = is
    go false is = cc

  playpal_there : (lump : ℕ) → playpal_of lumps ≡ Ok lump → lump < length lumps
  unfolding playpal_of
  playpal_there lump is = last_there PLAYPAL lump (long_last PALETTE_SIZE lump (last_of lumps PLAYPAL) (found_or (long_lump lumps PLAYPAL PALETTE_SIZE) Playpal lump is))

  -- the lumps behind a label
  label_parts : (last : Option ℕ) (label : ℕ) → option_and_then (if_label lumps) last ≡ Some label → (last ≡ Some label) × (is_label lumps label ≡ true)
  label_parts None label e = cc
  label_parts (Some n) label e = go (is_label lumps n) refl e where
    go : (b : Bool) → is_label lumps n ≡ b → cond b (Some n) None ≡ Some label → (Some n ≡ Some label) × (is_label lumps label ≡ true)
    go true on is = (is, let number_is_label : n ≡ label = cc in ap (is_label lumps) (sym number_is_label) ∙ on)
    go false on is = cc

  label_names : (label : ℕ) → is_label lumps label ≡ true → are_named lumps (lump_at lumps label).file (suc label) MAP_LUMPS ≡ true
  unfolding is_label
  label_names label on =
      (and_parts (are_named lumps (lump_at lumps label).file (suc label) MAP_LUMPS) (not (is_named_in lumps (lump_at lumps label).file BEHAVIOR (label + BEHAVIOR_AFTER))) on).0

  map_last : (label lump : ℕ) → is_map_lump label lump ≡ true → lump ≤ label + length MAP_LUMPS
  unfolding is_map_lump
  map_last label lump among = leb-true lump (label + length MAP_LUMPS) (and_parts (nat_lt label lump) (nat_le lump (label + length MAP_LUMPS)) among).1

  map_there : (name : List ℕ) (label lump : ℕ) → label_of lumps name ≡ Ok label → is_map_lump label lump ≡ true → lump < length lumps
  unfolding label_of
  map_there name label lump is among =
      let label_found = label_parts (last_of lumps name) label (found_or (map_of lumps name) _ label is) in
      let label_below_count = last_there name label label_found.0 in let map_lumps_fit =
      named_within lumps (lump_at lumps label).file (suc label) MAP_LUMPS (omega (arith, label_below_count)) (label_names label label_found.1) in
      let lump_in_map = map_last label lump among in
      omega (arith, map_lumps_fit, lump_in_map)

  -- all lumps of a base
  base_there : (name : List ℕ) (lump : ℕ) → IsOfBase lumps name lump → lump < length lumps
  base_there name lump (inl playpal) = playpal_there lump playpal
  base_there name lump (inr (inl map)) = map_there name map.label lump map.is map.among
  base_there name lump (inr (inr (inl names))) = last_there PNAMES lump names
  base_there name lump (inr (inr (inr (inl first)))) = last_there TEXTURE1 lump first
  base_there name lump (inr (inr (inr (inr second)))) = last_there TEXTURE2 lump second

  -- pictures of needed frames
  picture_there : (needs : List Need) (lump : ℕ) → IsWanted lumps needs lump → lump < length lumps
  picture_there needs lump asked =
      let wanted = asked.wanted in
      subst (λ n. n < length lumps) wanted.among.2
      (All-contains (λ (mention : Mention). mention.lump < length lumps) wanted.pictures wanted.among.0 (pictures_there lumps asked.need wanted.pictures wanted.are) wanted.among.1)

  -- all lumps that an audit reads
  after_there : (bytes : ℕ → List ℕ) (lines : List ThingLine) (name : List ℕ) (skill lump : ℕ) → IsAfterColormap bytes lumps lines name skill lump → lump < length lumps
  after_there bytes lines name skill lump (inl base) = base_there name lump base
  after_there bytes lines name skill lump (inr over) = go over.asked.asked where
    go : IsOfArt lumps lines skill over.base over.asked.faces lump → lump < length lumps
    go (inl patch) = last_named (slice_get over.base.lists.names patch.entry.number) lump patch.is
    go (inr picture) = picture_there _ lump picture

-- the scene's colormap is needed
colormap_needed : (lumps : List Lump) (scene : SceneValue) (lump : ℕ) → scene.base.colormap ≡ lump → is_needed lumps (art_of scene) lump ≡ true
unfolding art_of
colormap_needed lumps scene lump same = for_colormap lumps (art_of scene) lump (eq-eqb scene.base.colormap lump same)

-- a lump of the directory that the scene needs is asked for, with the layers too
module _ (loaded : LoadedValue) (lump : ℕ) (there : lump < length loaded.files.lumps) where
  scene_item : is_needed loaded.files.lumps (art_of loaded.scene) lump ≡ true → has_item (loaded_items loaded) (lump_owner lump) (lump_at loaded.files.lumps lump).size ≡ true
  unfolding art_of
  scene_item needed = items_lump loaded lump (needed_more loaded.files.lumps loaded.scene (book_lumps loaded.scene.book) (weapon_lumps loaded.weapons) lump needed) there

  picture_item : list_any (λ n. n == lump) (weapon_lumps loaded.weapons) ≡ true → has_item (loaded_items loaded) (lump_owner lump) (lump_at loaded.files.lumps lump).size ≡ true
  picture_item on =
      let is_among_pictures = list_any-append (λ n. n == lump) (book_lumps loaded.scene.book) (weapon_lumps loaded.weapons)
      ∙ or_right (list_any (λ n. n == lump) (book_lumps loaded.scene.book)) (list_any (λ n. n == lump) (weapon_lumps loaded.weapons)) on in
      items_lump loaded lump (for_picture loaded.files.lumps (art_with loaded.scene (loaded_pictures loaded)) lump is_among_pictures) there

-- the lumps of what is audited
module _ (bytes : ℕ → List ℕ) (level : LevelJobValue) (found : FilesValue) (scene : SceneValue) (weapons : Option (List Frame))
    (accepted : scene_in bytes found.lumps found.things level.map_name level.settings.skill ≡ Ok scene) (layers : weapons_of bytes found.lumps found.weapons ≡ Ok weapons) (lump : ℕ) where
  abbrev whole : LoadedValue
  whole = record { files = found; scene = scene; weapons = weapons }

  read_item : IsReadBy bytes found.lumps found.things level.map_name level.settings.skill lump → has_item (loaded_items whole) (lump_owner lump) (lump_at found.lumps lump).size ≡ true
  read_item (inl colormap) =
      let scene_is_read = scene_parts bytes found.lumps found.things level.map_name level.settings.skill scene accepted in
      let colormap_same : scene.base.colormap ≡ lump = same_value scene.base.colormap lump (base_parts bytes found.lumps level.map_name scene.base scene_is_read.base).colormap colormap in
      scene_item whole lump (colormap_there found.lumps lump colormap) (colormap_needed found.lumps scene lump colormap_same)
  read_item (inr later) =
      let scene_is_read = scene_parts bytes found.lumps found.things level.map_name level.settings.skill scene accepted in
      scene_item whole lump (after_there found.lumps bytes found.things level.map_name level.settings.skill lump later)
      (needed_later bytes found.lumps found.things level.map_name level.settings.skill scene scene_is_read lump later)

  layer_item : IsOfLayers found.lumps found.weapons lump → has_item (loaded_items whole) (lump_owner lump) (lump_at found.lumps lump).size ≡ true
  layer_item asked = picture_item whole lump (picture_there found.lumps (weapon_needs asked.0) lump asked.2) (book_of_layers bytes found.lumps found.weapons weapons lump layers asked)

  any_item : IsReadFor bytes level found lump → has_item (loaded_items whole) (lump_owner lump) (lump_at found.lumps lump).size ≡ true
  any_item (inl read) = read_item read
  any_item (inr asked) = layer_item asked

-- each lump that loading reads is asked for
pub items_all : (bytes : ℕ → List ℕ) (level : LevelJobValue) (found : FilesValue) (loaded : LoadedValue) → audited_in bytes level found ≡ Ok loaded →
    (lump : ℕ) → IsReadFor bytes level found lump → has_item (loaded_items loaded) (lump_owner lump) (lump_at found.lumps lump).size ≡ true
items_all bytes level found loaded e =
    audited_by (λ l. (lump : ℕ) → IsReadFor bytes level found lump → has_item (loaded_items l) (lump_owner lump) (lump_at found.lumps lump).size ≡ true) bytes level found loaded e
    (λ scene weapons accepted layers lump asked. any_item bytes level found scene weapons accepted layers lump asked)
