-- Where all of which a least zone is the greatest stands beside COLORMAP, the zone is no smaller.
use Rattle.picture_rules.proofs.Common.{[], AllByRecursion, ap, arith, Bool, cases_lt, cond, eq-eqb, eqb-true, false, IfSome, inl, inr, length, List, nat_tests, None, Ok, Option, option_map_or, or_cases, range_with_len, refl, slice_get, Some, suc, take, true, zero, ℕ, ◌+◌, ◌<◌, ◌==◌, ◌||◌, ◌∙◌, ◌∷◌, ◌≡◌, ◌≢◌, ◌≤◌}
use Rattle.doom_run.specs.Rules.{COMPOSITE, Dot, File, LUMP, LevelBase, LevelJobValue, Lump, PNAMES, Painter, Scene, TEXTURE1, TEXTURE2, block_size, greatest_by, is_last, is_list, is_map_lump, last_of, lump_at, lump_block, overlaid_paints}
use Rattle.art_rules.proofs.Laws.{and_then-ok}
use Rattle.texture_build.specs.{Named.IsLast, Draws.FitBeside, Draws.FitsBeside, Views.TexturesView}
use Rattle.texture_lists.specs.Asked.{IsListLump}
use Rattle.level_audit.specs.{Asked.IsOfBase, scene_load.Fulls.IsBaseWithin}
use Rattle.sound_scene.specs.Sound.{textures_view}
use Rattle.sound_scene.proofs.SceneLemmas.{IsBaseOf, base_parts, scene_parts}
use Rattle.job_files.specs.Files.{files_in}
use Rattle.level_audit.specs.scene_load.Loads.{LoadedValue, load_in, wad_bytes}
use Rattle.level_audit.proofs.scene_load.AuditedLemmas.{audited_by}
use Rattle.level_audit.proofs.scene_load.LoadLemmas.{audited_of}
use Rattle.doom_run.specs.Layers.{SeenView}
use Rattle.doom_run.specs.Leasts.{base_block, block_beside, is_base_lump, least_over, painted_block, source_block}

-- what stands beside `m` for each stands there for the greatest
module _ {X : Type 0} (f : X → ℕ) (m zone : ℕ) (least : m ≤ zone) where
  greatest_beside : (xs : List X) → AllByRecursion (λ (x : X). m + f x ≤ zone) xs → m + greatest_by f xs ≤ zone
  unfolding greatest_by
  greatest_beside [] all = omega (arith, least)
  greatest_beside (x ∷ xs) all = omega (arith, all.0, greatest_beside xs all.1)

  pub taken_beside : (n : ℕ) (xs : List X) → ((k : ℕ) → k < n → IfSome (slice_get xs k) (λ x. m + f x ≤ zone)) → m + greatest_by f (take n xs) ≤ zone
  unfolding greatest_by
  taken_beside zero xs each = omega (arith, least)
  taken_beside (suc n) [] each = omega (arith, least)
  taken_beside (suc n) (x ∷ xs) each =
      let first_fits_zone : m + f x ≤ zone = each 0 (omega arith) in omega (arith, first_fits_zone, taken_beside n xs (λ k l. each (suc k) (omega (arith, l))))

-- of numbers in a range
range_beside : (f : ℕ → ℕ) (m zone first n : ℕ) → m ≤ zone → ((k : ℕ) → m + f k ≤ zone) → m + greatest_by f (range_with_len first n) ≤ zone
unfolding greatest_by
range_beside f m zone first zero least each = omega (arith, least)
range_beside f m zone first (suc n) least each = omega (arith, each first, range_beside f m zone (first + 1) n least each)

-- a sum with one of two numbers, by a test
by_test : (b : Bool) (m x y zone : ℕ) → (b ≡ true → m + x ≤ zone) → (b ≡ false → m + y ≤ zone) → m + cond b x y ≤ zone
by_test true m x y zone on off = on refl
by_test false m x y zone on off = off refl

not_same : (x y : ℕ) → (x == y) ≡ false → x ≢ y
not_same x y e same = absurd (let numbers_same = eq-eqb x y same in cc)

-- what a painter reads
module _ (lumps : List Lump) (textures : TexturesView) (colormap zone : ℕ) (least : lump_block lumps colormap ≤ zone) where
  source_beside : (painter : Painter) → FitsBeside lumps textures colormap (lump_at lumps colormap).size zone painter → lump_block lumps colormap + source_block lumps textures colormap painter ≤ zone
  unfolding source_block block_beside lump_block
  source_beside painter fits =
      by_test (painter.source_kind == LUMP) (block_size (lump_at lumps colormap).size) _ _ zone
      (λ on. by_test (painter.source == colormap) (block_size (lump_at lumps colormap).size) _ _ zone
      (λ same. omega (arith, least))
      (λ other. fits.lump (eqb-true painter.source_kind LUMP on) (not_same painter.source colormap other)))
      (λ off. by_test (painter.source_kind == COMPOSITE) (block_size (lump_at lumps colormap).size) _ _ zone
      (λ on. fits.composite (eqb-true painter.source_kind COMPOSITE on))
      (λ none. omega (arith, least)))

  dots_beside : (dots : List Dot) → FitBeside lumps textures colormap (lump_at lumps colormap).size zone dots → AllByRecursion (λ (d : Dot). lump_block lumps colormap + source_block lumps textures colormap d.painter ≤ zone) dots
  dots_beside [] fit = tt
  dots_beside (d ∷ dots) fit = (source_beside d.painter fit.0, dots_beside dots fit.1)

  pub view_beside : (scene : Scene) (v : SeenView) → FitBeside lumps textures colormap (lump_at lumps colormap).size zone (overlaid_paints v.view scene v.layers) → lump_block lumps colormap + painted_block lumps textures colormap scene v ≤ zone
  unfolding painted_block
  view_beside scene v fit =
      greatest_beside (λ (d : Dot). source_block lumps textures colormap d.painter) (lump_block lumps colormap) zone least (overlaid_paints v.view scene v.layers) (dots_beside (overlaid_paints v.view scene v.layers) fit)

-- a list of textures is one by its name
last_named : (o : Option ℕ) (lump : ℕ) → option_map_or (λ n. n == lump) o false ≡ true → o ≡ Some lump
last_named None lump e = absurd (cc)
last_named (Some n) lump e = ap (λ (k : ℕ). Some k) (eqb-true n lump e)

is_last_named : (lumps : List Lump) (name : List ℕ) (lump : ℕ) → is_last lumps name lump ≡ true → IsLast lumps name lump
unfolding is_last
is_last_named lumps name lump e = last_named (last_of lumps name) lump e

list_named : (lumps : List Lump) (lump : ℕ) → is_list lumps lump ≡ true → IsListLump lumps lump
unfolding is_list
list_named lumps lump on = elim (or_cases (is_last lumps PNAMES lump || is_last lumps TEXTURE1 lump) (is_last lumps TEXTURE2 lump) on) [
  | inl more ↦ elim (or_cases (is_last lumps PNAMES lump) (is_last lumps TEXTURE1 lump) more) [
    | inl names ↦ inl (is_last_named lumps PNAMES lump names)
    | inr first ↦ inr (inl (is_last_named lumps TEXTURE1 lump first))
  ]
  | inr second ↦ inr (inr (is_last_named lumps TEXTURE2 lump second))
]

module _ (lumps : List Lump) (name : List ℕ) (base : LevelBase) (parts : IsBaseOf lumps name base) where
  -- a lump of the base is one that is asked for
  base_asked : (lump : ℕ) → is_base_lump lumps base lump ≡ true → IsOfBase lumps name lump
  unfolding is_base_lump
  base_asked lump on = elim (or_cases ((base.playpal == lump) || is_map_lump base.label lump) (is_list lumps lump) on) [
    | inl more ↦ elim (or_cases (base.playpal == lump) (is_map_lump base.label lump) more) [
      | inl palette ↦ inl (parts.playpal ∙ ap (λ (k : ℕ). Ok k) (eqb-true base.playpal lump palette))
      | inr map ↦ inr (inl (record { label = base.label; is = parts.label; among = map }))
    ]
    | inr list ↦ inr (inr (list_named lumps lump list))
  ]

  module _ (zone : ℕ) (within : (lump : ℕ) → IsOfBase lumps name lump → lump ≢ base.colormap → lump_block lumps base.colormap + lump_block lumps lump ≤ zone) where
    -- the first of the map's lumps
    map_asked : (k : ℕ) → 0 < k → k < 3 → IsOfBase lumps name (base.label + k)
    unfolding is_map_lump
    map_asked k some few = inr (inl (record { label = base.label; is = parts.label; among = grind (arith, nat_tests) }))

    -- COLORMAP has room, since one of the map's lumps stands beside it
    colormap_room : lump_block lumps base.colormap ≤ zone
    colormap_room = elim (cases_lt base.colormap (base.label + 2)) [
      | inl below ↦ let both_fit = within (base.label + 2) (map_asked 2 (omega arith) (omega arith)) (λ e. omega (arith, below, e)) in omega (arith, both_fit)
      | inr above ↦ let both_fit = within (base.label + 1) (map_asked 1 (omega arith) (omega arith)) (λ e. omega (arith, above, e)) in omega (arith, both_fit)
    ]

    base_room : lump_block lumps base.colormap + base_block lumps base ≤ zone
    unfolding base_block block_beside
    base_room =
        range_beside _ (lump_block lumps base.colormap) zone 0 (length lumps) colormap_room
        (λ k. by_test (is_base_lump lumps base k) (lump_block lumps base.colormap) _ _ zone
        (λ on. by_test (k == base.colormap) (lump_block lumps base.colormap) _ _ zone
        (λ same. omega (arith, colormap_room))
        (λ other. within k (base_asked k on) (not_same k base.colormap other)))
        (λ off. omega (arith, colormap_room)))

-- what was loaded has the base of the directory
loaded_base : (level : LevelJobValue) (wads : List (List ℕ)) (files : List File) (loaded : LoadedValue) → load_in level wads files ≡ Ok loaded → IsBaseOf loaded.files.lumps level.map_name loaded.scene.base
unfolding load_in
loaded_base level wads files loaded e =
    let files_ok = and_then-ok (files_in level.files wads level.settings files) _ loaded e in
    audited_by (λ l. IsBaseOf l.files.lumps level.map_name l.scene.base) (wad_bytes wads files files_ok.0.lumps) level files_ok.0 loaded (audited_of level wads files files_ok.0 loaded files_ok.1 e)
    (λ scene weapons accepted layers.
    base_parts (wad_bytes wads files files_ok.0.lumps) files_ok.0.lumps level.map_name scene.base (scene_parts (wad_bytes wads files files_ok.0.lumps) files_ok.0.lumps files_ok.0.things level.map_name level.settings.skill scene accepted).base)

module _ (level : LevelJobValue) (wads : List (List ℕ)) (files : List File) (loaded : LoadedValue) (is : load_in level wads files ≡ Ok loaded) (within : IsBaseWithin loaded.files.lumps level loaded.scene.base.colormap) where
  beside : (lump : ℕ) → IsOfBase loaded.files.lumps level.map_name lump → lump ≢ loaded.scene.base.colormap → lump_block loaded.files.lumps loaded.scene.base.colormap + lump_block loaded.files.lumps lump ≤ level.settings.zone
  unfolding lump_block
  beside lump asked other = within lump asked other

  pub loaded_room : lump_block loaded.files.lumps loaded.scene.base.colormap ≤ level.settings.zone
  loaded_room = colormap_room loaded.files.lumps level.map_name loaded.scene.base (loaded_base level wads files loaded is) level.settings.zone beside

  -- the greatest of the base, and of the views that are drawn
  pub over_room : (scene : Scene) (views : List SeenView) → lump_block loaded.files.lumps loaded.scene.base.colormap
      + greatest_by (painted_block loaded.files.lumps (textures_view loaded.scene) loaded.scene.base.colormap scene) views ≤ level.settings.zone → least_over loaded scene views ≤ level.settings.zone
  unfolding least_over
  over_room scene views drawn = omega (arith, drawn, base_room loaded.files.lumps level.map_name loaded.scene.base (loaded_base level wads files loaded is) level.settings.zone beside)

  -- where no view is drawn
  pub least_none : (scene : Scene) → least_over loaded scene [] ≤ level.settings.zone
  unfolding greatest_by
  least_none scene = over_room scene [] (omega (arith, loaded_room))
