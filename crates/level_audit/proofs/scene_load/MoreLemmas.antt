-- What a scene needs with more pictures, and with those of its weapon layers.
use Rattle.art_rules.proofs.Common.{[], append-nil, arith, Bool, cases_lt, cond, eq-eqb, false, filter, inl, inr, length, List, list_any, list_any-append, None, Ok, Option, or_right, range_with_len, refl, Some, subst, true, ℕ, ◌++◌, ◌+◌, ◌<◌, ◌==◌, ◌||◌, ◌∙◌, ◌∷◌, ◌≡◌, ◌≤◌}
use Rattle.level_audit.specs.Rules.{Frame, Lump, MIN_FRAGMENT, SceneValue, WeaponArt, art_of, block_size, book_lumps, each_of, enough, first_needs, frame_of, from_below, greatest_by, is_needed, lump_at, lump_block, needed_lumps, sizes_of, zone_sizes}
use Rattle.art_rules.proofs.Laws.{and_then-ok}
use Rattle.csv_tables.specs.declared.weapons.WeaponRow.{WeaponRow}
use Rattle.job_files.specs.Files.{FilesValue}
use Rattle.sound_scene.specs.Sound.{SoundValue, art_with, with_book}
use Rattle.level_audit.specs.Weapons.{weapon_book, weapon_needs, weapon_refusal}
use Rattle.sound_scene.proofs.NeededLemmas.{for_colormap, for_picture, needed_there, past_block}
use Rattle.level_audit.proofs.NeededPictureLemmas.{needed_picture}
use Rattle.sound_scene.proofs.SceneLemmas.{from_below-ok}
use Rattle.level_audit.specs.scene_load.Fulls.{IsOfLayers}
use Rattle.level_audit.specs.scene_load.Loads.{LoadedValue, audited_value, loaded_lumps, loaded_pictures, loaded_sizes, weapon_lumps, weapons_of, with_layers}

-- an item in front that the second list has where the first has it
kept_step : (f : ℕ → ℕ) (x : ℕ) (few more : Bool) (xs ys : List ℕ) → (few ≡ true → more ≡ true) → greatest_by f xs ≤ greatest_by f ys → greatest_by f (cond few (x ∷ xs) xs) ≤ greatest_by f (cond more (x ∷ ys) ys)
unfolding greatest_by
kept_step f x true true xs ys grows l = omega (arith, l)
kept_step f x true false xs ys grows l = absurd (let true_is_false = grows refl in cc)
kept_step f x false true xs ys grows l = omega (arith, l)
kept_step f x false false xs ys grows l = l

-- of more items the greatest is no smaller
greatest_kept : (f : ℕ → ℕ) (few more : ℕ → Bool) (xs : List ℕ) → ((x : ℕ) → few x ≡ true → more x ≡ true) → greatest_by f (filter few xs) ≤ greatest_by f (filter more xs)
unfolding greatest_by
greatest_kept f few more [] grows = omega arith
greatest_kept f few more (x ∷ xs) grows = kept_step f x (few x) (more x) (filter few xs) (filter more xs) (grows x) (greatest_kept f few more xs grows)

-- what passes one of two tests passes one of three
more_passes : (other few more : Bool) → (other || few) ≡ true → (other || (few || more)) ≡ true
more_passes true few more on = refl
more_passes false true more on = refl
more_passes false false more on = absurd (cc)

module _ (lumps : List Lump) (scene : SceneValue) (few more : List ℕ) where
  -- a scene with more pictures needs what it needed
  pub needed_more : (lump : ℕ) → is_needed lumps (art_with scene few) lump ≡ true → is_needed lumps (art_with scene (few ++ more)) lump ≡ true
  unfolding is_needed
  needed_more lump on =
      rw (list_any-append (λ n. n == lump) few more) (more_passes _ (list_any (λ n. n == lump) few) (list_any (λ n. n == lump) more) on)

  -- and no smaller zone is enough for it
  enough_more : enough lumps (art_with scene few) ≤ enough lumps (art_with scene (few ++ more))
  unfolding enough needed_lumps
  enough_more =
      omega (arith, greatest_kept (lump_block lumps) (is_needed lumps (art_with scene few)) (is_needed lumps (art_with scene (few ++ more))) (range_with_len 0 (length lumps)) needed_more)

-- with the weapon layers no smaller zone is enough
pub enough_loaded : (loaded : LoadedValue) → (sizes_of loaded.files.lumps loaded.scene).enough ≤ (loaded_sizes loaded).enough
unfolding sizes_of art_of loaded_sizes zone_sizes
enough_loaded loaded = enough_more loaded.files.lumps loaded.scene (book_lumps loaded.scene.book) (weapon_lumps loaded.weapons)

-- a sound scene, with its layers
module _ (found : FilesValue) (weapons : Option (List Frame)) (sound : SoundValue) where
  -- its lumps are those of all pictures
  pub named_layers : sound.named ≡ needed_lumps found.lumps (art_of sound.scene) → (with_layers found.lumps weapons sound).named ≡ loaded_lumps (audited_value found (with_layers found.lumps weapons sound, weapons))
  unfolding art_of loaded_lumps with_book
  named_layers is = go weapons where
    go : (layers : Option (List Frame)) → (with_layers found.lumps layers sound).named ≡ loaded_lumps (audited_value found (with_layers found.lumps layers sound, layers))
    go None = rw append-nil is
    go (Some book) = refl

  -- its sizes are those for all pictures
  pub sizes_layers : sound.sizes ≡ sizes_of found.lumps sound.scene → (with_layers found.lumps weapons sound).sizes ≡ loaded_sizes (audited_value found (with_layers found.lumps weapons sound, weapons))
  unfolding art_of sizes_of loaded_sizes with_book
  sizes_layers is = go weapons where
    go : (layers : Option (List Frame)) → (with_layers found.lumps layers sound).sizes ≡ loaded_sizes (audited_value found (with_layers found.lumps layers sound, layers))
    go None = rw append-nil is
    go (Some book) = refl

-- a scene of that directory, with these pictures
module _ (lumps : List Lump) (scene : SceneValue) (pictures : List ℕ) (there : scene.base.colormap < length lumps) where
  -- COLORMAP has no greater block than the greatest that is needed
  needed_first : lump_block lumps scene.base.colormap ≤ greatest_by (lump_block lumps) (needed_lumps lumps (art_with scene pictures))
  needed_first = needed_there lumps (art_with scene pictures) scene.base.colormap (for_colormap lumps (art_with scene pictures) scene.base.colormap (eq-eqb scene.base.colormap scene.base.colormap refl)) there

  -- nor has a picture
  picture_block : (lump : ℕ) → list_any (λ n. n == lump) pictures ≡ true → lump_block lumps lump ≤ greatest_by (lump_block lumps) (needed_lumps lumps (art_with scene pictures))
  picture_block lump on = elim (cases_lt lump (length lumps)) [
    | inl below ↦ needed_there lumps (art_with scene pictures) lump (for_picture lumps (art_with scene pictures) lump on) below
    | inr past ↦ omega (arith, past_block lumps lump scene.base.colormap past, needed_first)
  ]

  -- a zone that is enough holds a picture beside COLORMAP
  picture_beside : (lump : ℕ) → list_any (λ n. n == lump) pictures ≡ true → block_size (lump_at lumps scene.base.colormap).size + block_size (lump_at lumps lump).size + MIN_FRAGMENT ≤ enough lumps (art_with scene pictures)
  unfolding enough lump_block
  picture_beside lump on = omega (arith, picture_block lump on)

-- a picture of the layers is among those of the book
pub book_of_layers : (bytes : ℕ → List ℕ) (lumps : List Lump) (weapons : Option (List WeaponRow)) (layers : Option (List Frame)) (lump : ℕ) → weapons_of bytes lumps weapons ≡ Ok layers → IsOfLayers lumps weapons lump → list_any (λ n. n == lump) (weapon_lumps layers) ≡ true
unfolding weapons_of weapon_book
book_of_layers bytes lumps weapons layers lump e asked =
    let rows = asked.0 in
    let weapons_ok = subst (λ w. weapons_of bytes lumps w ≡ Ok layers) asked.1 e in
    let book_ok = and_then-ok (from_below WeaponArt (weapon_book bytes lumps rows)) (λ book. Ok (Some book)) layers weapons_ok in
    let book = from_below-ok weapon_refusal (each_of (frame_of bytes lumps) (first_needs (weapon_needs rows))) book_ok.0 (from_below-ok WeaponArt (weapon_book bytes lumps rows) book_ok.0 book_ok.1) in
    let book_is : Some book_ok.0 ≡ layers = cc (book_ok.2) in
    subst (λ found. list_any (λ n. n == lump) (weapon_lumps found) ≡ true) book_is (needed_picture bytes lumps (weapon_needs rows) book_ok.0 lump book asked.2)

-- a zone that is enough holds a picture of the layers beside COLORMAP
pub enough_layers : (bytes : ℕ → List ℕ) (loaded : LoadedValue) (lump : ℕ) → weapons_of bytes loaded.files.lumps loaded.files.weapons ≡ Ok loaded.weapons → loaded.scene.base.colormap < length loaded.files.lumps → IsOfLayers loaded.files.lumps loaded.files.weapons lump →
    block_size (lump_at loaded.files.lumps loaded.scene.base.colormap).size + block_size (lump_at loaded.files.lumps lump).size + MIN_FRAGMENT ≤ (loaded_sizes loaded).enough
unfolding loaded_sizes zone_sizes
enough_layers bytes loaded lump e there asked =
    let is_in_layers = book_of_layers bytes loaded.files.lumps loaded.files.weapons loaded.weapons lump e asked in
    picture_beside loaded.files.lumps loaded.scene (loaded_pictures loaded) there lump
    (list_any-append (λ n. n == lump) (book_lumps loaded.scene.book) (weapon_lumps loaded.weapons) ∙ or_right (list_any (λ n. n == lump) (book_lumps loaded.scene.book)) (list_any (λ n. n == lump) (weapon_lumps loaded.weapons)) is_in_layers)
