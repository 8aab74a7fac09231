-- What a view asks of a scene that has all that drawing asks of it.
use Rattle.picture_rules.proofs.Common.{[], All, All-head, All-nil, All-tail, ap, arith, Bool, cond, Err, false, get_or, IfSome, inl, inr, IsSome, length, length-map, List, list_any_at, nat_tests, None, Ok, ok_or, Option, option_and_then, option_map, pos, refl, Result, Some, subst, suc, sym, true, unwrap_or, zero, ℕ, ◌<◌, ◌||◌, ◌∙◌, ◌∷◌, ◌≡◌, ◌≤◌, ◌⊎◌}
use Rattle.frame_core.specs.Rules.{Faces, Flat, IsSound, LevelValue, Lump, PlacedPatch, PreparedTexture, SKY_FLAT, SceneValue, Sector, SectorFlats, Surface, Texture, TextureLists, ThingLine, WallFacts, and_then, both_flats, each_from, each_or, faces_in, facts_of, flat_named, flat_number, flats_of, found_sky, has_sky, is_sky, is_sky_name, lump_flat, no_seg, no_surface, no_textures, sector_flats, seg_at, shows_sky, side_textures, sky_name, sky_texture, surface_at, surface_of, surfaces_of, texture_number, textures_at, wall_texture}
use Rattle.art_rules.proofs.Laws.{and_then-ok}
use Rattle.scene_rules.specs.declared.Flat.TheVariants.{Sky, Lump as LumpFlat}
use Rattle.scene_rules.proofs.SkyLemmas.{sky_is_listed}
use Rattle.texture_build.specs.Views.{ArePatchesThere, IsPrepared, prepared_at, unprepared}
use Rattle.level_scene.specs.Bounds.{IsNoneOrBelow, IsThere}
use Rattle.sound_scene.specs.Sound.{middles_of, textures_view}
use Rattle.sound_scene.specs.Whole.{IsNoneOrPrepared, IsWholeScene}
use Rattle.sound_scene.specs.Pictures.{lists_of, scene_of}
use Rattle.sound_scene.proofs.SurfaceLemmas.{surface_counts}
use Rattle.frame_core.specs.Views.{IsDrawable, ShowsSky}

-- the surface of a sector
pub surface_from : (sectors : List Sector) (flats : List SectorFlats) (i : ℕ) (s : Sector) (f : SectorFlats) (d : Surface) → length flats ≡ length sectors → i < length sectors →
    get_or (surfaces_of sectors flats) i d ≡ surface_of (get_or sectors i s) (get_or flats i f)
unfolding surfaces_of
surface_from [] flats i s f d e l = absurd (omega (arith, l))
surface_from (sector ∷ sectors) [] i s f d e l = absurd (omega (arith, e))
surface_from (sector ∷ sectors) (both ∷ flats) zero s f d e l = refl
surface_from (sector ∷ sectors) (both ∷ flats) (suc i) s f d e l = surface_from sectors flats i s f d (omega (arith, e)) (omega (arith, l))

-- something was got of an item, and the rest follows it
first_got : {Y R : Type 0} (first : Option Y) (reason : R) (rest : Result (List Y) R) (ys : List Y) → and_then (ok_or first reason) (λ y. and_then rest (λ zs. Ok (y ∷ zs))) ≡ Ok ys →
    (y : Y) × (zs : List Y) × (first ≡ Some y) × (rest ≡ Ok zs) × (ys ≡ y ∷ zs)
first_got None reason rest ys e = absurd (cc)
first_got (Some y) reason (Err stop) ys e = absurd (cc)
first_got (Some y) reason (Ok zs) ys e = let lists_same : y ∷ zs ≡ ys = cc in (y, zs, refl, refl, sym lists_same)

-- what was got of the item of that number
got_at : {X Y R : Type 0} (f : X → Option Y) (refuse : ℕ → R) (number : ℕ) (xs : List X) (ys : List Y) (i : ℕ) (d : X) (e : Y) → each_from f refuse number xs ≡ Ok ys → i < length xs →
    f (get_or xs i d) ≡ Some (get_or ys i e)
unfolding each_from
got_at f refuse number [] ys i d e h l = absurd (omega (arith, l))
got_at f refuse number (x ∷ xs) ys zero d e h l =
    let item_and_rest = first_got (f x) (refuse number) (each_from f refuse (suc number) xs) ys h in
    item_and_rest.2 ∙ ap (λ zs. Some (get_or zs 0 e)) (sym item_and_rest.4)
got_at f refuse number (x ∷ xs) ys (suc i) d e h l =
    let item_and_rest = first_got (f x) (refuse number) (each_from f refuse (suc number) xs) ys h in
    got_at f refuse (suc number) xs item_and_rest.1 i d e item_and_rest.3 (omega (arith, l)) ∙ ap (λ zs. Some (get_or zs (suc i) e)) (sym item_and_rest.4)

-- the flats of a sector are those of its names
both_named : (floor ceiling : Option Flat) (both : SectorFlats) → option_and_then (λ f. option_map (both_flats f) ceiling) floor ≡ Some both → (floor ≡ Some both.floor) × (ceiling ≡ Some both.ceiling)
unfolding both_flats
both_named None ceiling both e = absurd (cc)
both_named (Some f) None both e = absurd (cc)
both_named (Some f) (Some c) both e =
    let flats_same : both_flats f c ≡ both = cc in
    (ap (λ (b : SectorFlats). Some b.floor) flats_same, ap (λ (b : SectorFlats). Some b.ceiling) flats_same)

-- only the sky's name means the sky
sky_meant : (is_name : Bool) (lump : Option ℕ) → cond is_name (Some Sky) (option_map lump_flat lump) ≡ Some Sky → is_name ≡ true
unfolding lump_flat
sky_meant true lump e = refl
sky_meant false None e = absurd (cc)
sky_meant false (Some lump) e = absurd (cc)

-- a sky that is looked for is there
sky_got : (is_asked : Bool) (number : Option ℕ) (sky : Option ℕ) → cond is_asked (found_sky number) (Ok None) ≡ Ok sky → is_asked ≡ true → IsSome sky
unfolding found_sky
sky_got true None sky e asked = absurd (cc)
sky_got true (Some number) None e asked = absurd (cc)
sky_got true (Some number) (Some got) e asked = refl
sky_got false number sky e asked = absurd (cc)

-- the number of a flat: at most that of the sky, and of a lump that is there where it is not sky
pub record IsFlatOf (count flat : ℕ) : Type 0 where
  pub number : flat ≤ SKY_FLAT
  pub there : is_sky flat ≡ false → flat < count

pub record AreFlatsOf (count : ℕ) (surface : Surface) : Type 0 where
  pub floor : IsFlatOf count surface.floor_flat
  pub ceiling : IsFlatOf count surface.ceiling_flat

flat_of_number : (count : ℕ) (flat : Flat) → count ≤ SKY_FLAT → IsThere count flat → IsFlatOf count (flat_number flat)
unfolding flat_number
flat_of_number count Sky few there = record { number = omega arith; there = λ e. absurd (cc) }
flat_of_number count (LumpFlat lump) few there = record { number = omega (arith, few, there); there = λ e. there }

-- only the sky has its number
sky_of_number : (count : ℕ) (flat : Flat) → count ≤ SKY_FLAT → IsThere count flat → is_sky (flat_number flat) ≡ true → flat ≡ Sky
unfolding flat_number
sky_of_number count Sky few there e = refl
sky_of_number count (LumpFlat lump) few there e = absurd (grind (arith, nat_tests, few, there, e))

either_of : (a b : Bool) → (a || b) ≡ true → (a ≡ true) ⊎ (b ≡ true)
either_of true b e = inl refl
either_of false b e = inr e

flats_with_sky : (count : ℕ) (sector : Sector) (flats : SectorFlats) → count ≤ SKY_FLAT → IsThere count flats.floor → IsThere count flats.ceiling →
    (is_sky (surface_of sector flats).floor_flat || is_sky (surface_of sector flats).ceiling_flat) ≡ true → (flats.floor ≡ Sky) ⊎ (flats.ceiling ≡ Sky)
unfolding surface_of
flats_with_sky count sector flats few floor ceiling e = elim (either_of (is_sky (flat_number flats.floor)) (is_sky (flat_number flats.ceiling)) e) [
  | inl is ↦ inl (sky_of_number count flats.floor few floor is)
  | inr is ↦ inr (sky_of_number count flats.ceiling few ceiling is)
]

-- entries for numbers that no sound scene has
pub no_sector : Sector
no_sector = record { floor = pos 0; ceiling = pos 0; floor_name = []; ceiling_name = []; light = pos 0 }

pub no_flats : SectorFlats
no_flats = record { floor = Sky; ceiling = Sky }

-- the faces of a level, one part each
pub record AreMeant (lumps : List Lump) (name : List ℕ) (level : LevelValue) (lists : TextureLists) (faces : Faces) : Type 0 where
  pub sky : sky_texture lists.textures name level.sectors ≡ Ok faces.sky
  pub flats : sector_flats lumps level.sectors ≡ Ok faces.flats

pub are_meant : (lumps : List Lump) (name : List ℕ) (level : LevelValue) (lists : TextureLists) (faces : Faces) → faces_in lumps name level lists ≡ Ok faces → AreMeant lumps name level lists faces
unfolding faces_in
are_meant lumps name level lists faces e =
    let sides = and_then-ok (side_textures lists.textures level.sides) _ faces e in
    let sky = and_then-ok (sky_texture lists.textures name level.sectors) _ faces sides.2 in
    let flats = and_then-ok (sector_flats lumps level.sectors) _ faces sky.2 in
    let meant_faces : Faces = record { sides = sides.0; sky = sky.0; flats = flats.0 } in
    let faces_same : meant_faces ≡ faces = cc (flats.2) in
    record { sky = sky.1 ∙ ap (λ (f : Faces). Ok f.sky) faces_same; flats = flats.1 ∙ ap (λ (f : Faces). Ok f.flats) faces_same }

-- a sector that shows the sky has one
sky_of_name : (lumps : List Lump) (flat : List ℕ) → flat_named lumps flat ≡ Some Sky → is_sky_name flat ≡ true
unfolding flat_named
sky_of_name lumps flat e = sky_meant (is_sky_name flat) _ e

either_true : (a b : Bool) → (a ≡ true) ⊎ (b ≡ true) → (a || b) ≡ true
either_true true b e = refl
either_true false b (inl e) = absurd (cc)
either_true false b (inr e) = e

sector_shows : (lumps : List Lump) (sectors : List Sector) (flats : List SectorFlats) (i : ℕ) (s : Sector) (f : SectorFlats) → sector_flats lumps sectors ≡ Ok flats → i < length sectors →
    ((get_or flats i f).floor ≡ Sky) ⊎ ((get_or flats i f).ceiling ≡ Sky) → has_sky sectors ≡ true
unfolding sector_flats each_or flats_of has_sky shows_sky
sector_shows lumps sectors flats i s f e l sky =
    let sector = get_or sectors i s in
    let both_flats_named = both_named (flat_named lumps sector.floor_name) (flat_named lumps sector.ceiling_name) (get_or flats i f) (got_at (flats_of lumps) _ 0 sectors flats i s f e l) in
    let either_is_sky : (is_sky_name sector.floor_name ≡ true) ⊎ (is_sky_name sector.ceiling_name ≡ true) = elim sky [
      | inl floor ↦ inl (sky_of_name lumps sector.floor_name (both_flats_named.0 ∙ ap Some floor))
      | inr ceiling ↦ inr (sky_of_name lumps sector.ceiling_name (both_flats_named.1 ∙ ap Some ceiling))
    ] in
    list_any_at shows_sky sectors i s l (either_true (is_sky_name sector.floor_name) (is_sky_name sector.ceiling_name) either_is_sky)

-- a texture number is 0, or that of a prepared texture of the lists
abbrev pub IsNoneOrReady : SceneValue → ℕ → Type 0
IsNoneOrReady scene number = (number ≡ 0) ⊎ (IsPrepared (textures_view scene) number × number < length scene.base.lists.textures)

pub record AreFactsReady (scene : SceneValue) (facts : WallFacts) : Type 0 where
  pub top : IsNoneOrReady scene facts.top.number
  pub bottom : IsNoneOrReady scene facts.bottom.number
  pub middle : IsNoneOrReady scene facts.middle.number

none_or_ready : (scene : SceneValue) (number : ℕ) → IsNoneOrPrepared (textures_view scene) number → IsNoneOrBelow (length scene.base.lists.textures) number → IsNoneOrReady scene number
none_or_ready scene zero prepared below = inl refl
none_or_ready scene (suc number) (inl none) below = absurd (omega (arith, none))
none_or_ready scene (suc number) (inr prepared) below = inr (prepared, below (omega arith))

-- the number of the sky's texture is one of the list
sky_number : (textures : List Texture) (name : List ℕ) (o sky : Option ℕ) (n : ℕ) → texture_number textures (sky_name name) ≡ o → found_sky o ≡ Ok sky → sky ≡ Some n → n < length textures
unfolding found_sky
sky_number textures name None sky n e f g = absurd (cc)
sky_number textures name (Some k) sky n e f g = let numbers_same : k ≡ n = cc in
    subst (λ (m : ℕ). m < length textures) numbers_same (sky_is_listed textures name k e)

sky_by : (asked : Bool) (textures : List Texture) (name : List ℕ) (sky : Option ℕ) (n : ℕ) → cond asked (found_sky (texture_number textures (sky_name name))) (Ok None) ≡ Ok sky → sky ≡ Some n → n < length textures
sky_by true textures name sky n e f = sky_number textures name (texture_number textures (sky_name name)) sky n refl e f
sky_by false textures name sky n e f = absurd (cc)

for_some : {P : ℕ → Type 0} (o : Option ℕ) → ((n : ℕ) → o ≡ Some n → P n) → IfSome o P
for_some None h = tt
for_some (Some n) h = h n refl

-- a scene that passed its audit can be drawn
module _ (lumps : List Lump) (lines : List ThingLine) (name : List ℕ) (skill : ℕ) (scene : SceneValue) (whole : IsWholeScene lumps lines name skill scene) where
  sky_is_shown : (sector : ℕ) (both : SectorFlats) → sector < length scene.faces.flats → ShowsSky (get_or scene.faces.flats sector both) → IsSome scene.faces.sky
  unfolding sky_texture
  sky_is_shown sector both l shown =
      let meant = are_meant lumps name scene.base.level scene.base.lists scene.faces whole.faces in
      sky_got (has_sky scene.base.level.sectors) (texture_number scene.base.lists.textures (sky_name name)) scene.faces.sky meant.sky
      (sector_shows lumps scene.base.level.sectors scene.faces.flats sector no_sector both meant.flats (omega (arith, l, whole.flats)) shown)

  sky_is_below : (n : ℕ) → scene.faces.sky ≡ Some n → n < length scene.base.lists.textures
  unfolding sky_texture
  sky_is_below n e =
      sky_by (has_sky scene.base.level.sectors) scene.base.lists.textures name scene.faces.sky n
      (are_meant lumps name scene.base.level scene.base.lists scene.faces whole.faces).sky e

  pub drawable-whole : IsDrawable lumps scene
  drawable-whole = record {
    sides = whole.sides;
    flats = whole.flats;
    flats_there = whole.flats_there;
    below = whole.below;
    listed = for_some scene.faces.sky sky_is_below;
    shown = λ sector both l shown. sky_is_shown sector both l shown;
    textures = whole.art.textures;
    sky = whole.art.sky;
    patches = whole.art.patches;
    middles = whole.art.middles;
    pictures = whole.art.pictures;
  }

module _ (lumps : List Lump) (scene : SceneValue) (can : IsDrawable lumps scene) where
  -- there are as many surfaces as sectors, and as many middles as sides
  pub surfaces_as_many : length (surfaces_of scene.base.level.sectors scene.faces.flats) ≡ length scene.base.level.sectors
  surfaces_as_many = surface_counts scene.base.level.sectors scene.faces.flats can.flats

  pub middles_as_many : length (middles_of scene.faces.sides) ≡ length scene.base.level.sides
  middles_as_many = length-map scene.faces.sides _ ∙ can.sides

  -- the flats of a surface are there, where all lumps have numbers below that of the sky
  pub surface_flats : length lumps ≤ SKY_FLAT → All (AreFlatsOf (length lumps)) (surfaces_of scene.base.level.sectors scene.faces.flats)
  unfolding surface_of
  surface_flats few i d l =
      let inside : i < length scene.base.level.sectors = omega (arith, l, surfaces_as_many) in
      let flats = get_or scene.faces.flats i no_flats in let flats_listed = can.flats_there i no_flats (omega (arith, inside, can.flats)) in
      subst (AreFlatsOf (length lumps)) (sym (surface_from scene.base.level.sectors scene.faces.flats i no_sector no_flats d can.flats inside))
      (record {
        floor = flat_of_number (length lumps) flats.floor few flats_listed.floor;
        ceiling = flat_of_number (length lumps) flats.ceiling few flats_listed.ceiling;
      })

  pub flats_at : length lumps ≤ SKY_FLAT → (sector : ℕ) → sector < length scene.base.level.sectors → AreFlatsOf (length lumps) (surface_at (lists_of scene) sector)
  unfolding surface_at
  flats_at few sector l = surface_flats few sector no_surface (omega (arith, l, surfaces_as_many))

  sky_of_flats : length lumps ≤ SKY_FLAT → (sector : ℕ) → sector < length scene.base.level.sectors →
      (is_sky (surface_at (lists_of scene) sector).floor_flat || is_sky (surface_at (lists_of scene) sector).ceiling_flat) ≡ true →
      ((get_or scene.faces.flats sector no_flats).floor ≡ Sky) ⊎ ((get_or scene.faces.flats sector no_flats).ceiling ≡ Sky)
  unfolding surface_at
  sky_of_flats few sector l e =
      let flats_listed = can.flats_there sector no_flats (omega (arith, l, can.flats)) in flats_with_sky
      (length lumps) (get_or scene.base.level.sectors sector no_sector) (get_or scene.faces.flats sector no_flats) few flats_listed.floor flats_listed.ceiling
      (subst (λ (s : Surface). (is_sky s.floor_flat || is_sky s.ceiling_flat) ≡ true) (surface_from scene.base.level.sectors scene.faces.flats sector no_sector no_flats no_surface can.flats l) e)

  -- where a surface has sky, the sky has a texture
  pub sky_of_surface : length lumps ≤ SKY_FLAT → (sector : ℕ) → sector < length scene.base.level.sectors →
      (is_sky (surface_at (lists_of scene) sector).floor_flat || is_sky (surface_at (lists_of scene) sector).ceiling_flat) ≡ true → IsSome scene.faces.sky
  sky_of_surface few sector l e = can.shown sector no_flats (omega (arith, l, can.flats)) (sky_of_flats few sector l e)

  -- the textures of the facts of a seg are none or ready to draw
  pub facts_ready : IsSound scene.base.level → (bytes : ℕ → List ℕ) (front : Surface) (seg : ℕ) → seg < length scene.base.level.segs →
      AreFactsReady scene (facts_of (scene_of bytes scene) front seg (seg_at (lists_of scene) seg))
  unfolding facts_of scene_of seg_at textures_at wall_texture
  facts_ready sound bytes front seg l =
      let side = (seg_at (lists_of scene) seg).side in
      let inside : side < length scene.faces.sides = omega (arith, (sound.segs seg no_seg l).side, can.sides) in
      let prepared = can.textures side no_textures inside in let textures_below = can.below side no_textures inside in
      record {
        top = none_or_ready scene _ prepared.top textures_below.top;
        bottom = none_or_ready scene _ prepared.bottom textures_below.bottom;
        middle = none_or_ready scene _ prepared.middle textures_below.middle;
      }

-- the patches of the texture of a number are there: one that is not prepared has none
patches_of_some : (lumps : List Lump) (o : Option PreparedTexture) → IfSome o (ArePatchesThere lumps) → ArePatchesThere lumps (unwrap_or o unprepared)
patches_of_some lumps None there = All-nil (λ (patch : PlacedPatch). patch.lump < length lumps)
patches_of_some lumps (Some t) there = there

pub patches_there : (lumps : List Lump) (prepared : List (Option PreparedTexture)) (number : ℕ) → All (λ (t : Option PreparedTexture). IfSome t (ArePatchesThere lumps)) prepared →
    ArePatchesThere lumps (unwrap_or (prepared_at prepared number) unprepared)
patches_there lumps [] number all = patches_of_some lumps None tt
patches_there lumps (t ∷ ts) zero all = patches_of_some lumps t (All-head (λ (t : Option PreparedTexture). IfSome t (ArePatchesThere lumps)) t ts all)
patches_there lumps (t ∷ ts) (suc number) all = patches_there lumps ts number (All-tail (λ (t : Option PreparedTexture). IfSome t (ArePatchesThere lumps)) t ts all)
