-- A scene by its steps: the base and the rest over it, and what an accepted
-- scene is made of.
use Rattle.art_rules.proofs.Common.{ap, Bool, cond, Err, false, length, List, nat_le, None, Ok, ok_or, Option, option_and_then, refl, Result, Some, subst, sym, take, true, ℕ, ◌<◌, ◌∙◌, ◌≡◌}
use Rattle.art_rules.proofs.Laws.{and_then-ok, greatest-is}
use Rattle.sound_scene.specs.Rules.{Art, ArtRefusal, AuditRefusal, COLORMAP, COLORMAP_SIZE, Colormap, Faces, Frame, LevelBase, Lump, Map, PALETTE_SIZE, Placed, PreparedTexture, Scene, SceneValue, Sprite, Texture, ThingLine, and_then, bad_middle, base_in, base_over, book_in, checked, colormap_of, faces_in, from_below, has_name, if_long, is_wanted_texture, label_of, last_of, level_in, level_of, lists_in, long_lump, lump_at, placed_things, playpal_of, prepared_textures, scene_in, scene_on, scene_over, scene_with, texture_by}

-- a step of the layer below, likewise
pub from_below-ok : {A R Q : Type 0} (f : R → Q) (r : Result A R) (x : A) → from_below f r ≡ Ok x → r ≡ Ok x
from_below-ok f (Ok y) x e = let values_same : y ≡ x = cc in ap Ok values_same
from_below-ok f (Err reason) x e = cc

-- a result has one value
pub same_value : {A R : Type 0} {r : Result A R} (x y : A) → r ≡ Ok x → r ≡ Ok y → x ≡ y
same_value {A} {R} x y one other = let results_same : ◌≡◌ {A = Result A R} (Ok x) (Ok y) = sym one ∙ other in cc

-- COLORMAP is a lump of the directory
some_value : {X E : Type 0} (o : Option X) (e : E) (x : X) → ok_or o e ≡ Ok x → o ≡ Some x
some_value None e x is = cc
some_value (Some y) e x is = let values_same : y ≡ x = cc in ap Some values_same

long_there : (lumps : List Lump) (size number : ℕ) (last : Option ℕ) → option_and_then (if_long lumps size) last ≡ Some number → last ≡ Some number
long_there lumps size number None e = cc
long_there lumps size number (Some n) e = go (nat_le size (lump_at lumps n).size) e where
  go : (b : Bool) → cond b (Some n) None ≡ Some number → Some n ≡ Some number
  go true is = is
  go false is = cc

pub colormap_there : (lumps : List Lump) (number : ℕ) → colormap_of lumps ≡ Ok number → number < length lumps
unfolding colormap_of
colormap_there lumps number is =
    let last = long_there lumps COLORMAP_SIZE number (last_of lumps COLORMAP) (some_value (long_lump lumps COLORMAP COLORMAP_SIZE) Colormap number is) in
    (greatest-is (has_name lumps COLORMAP) (length lumps) number last).0

-- without a colormap there is no scene
pub scene_in-none : (bytes : ℕ → List ℕ) (lumps : List Lump) (lines : List ThingLine) (name : List ℕ) (skill : ℕ) (refusal : ArtRefusal) → colormap_of lumps ≡ Err refusal → scene_in bytes lumps lines name skill ≡ Err (Art refusal)
unfolding scene_in base_in
scene_in-none bytes lumps lines name skill refusal e = rw e refl

-- what a scene is made of
abbrev made_scene : LevelBase → Faces → List Placed → List (Option PreparedTexture) → List Frame → SceneValue
made_scene base faces placed prepared book = record { base = base; faces = faces; prepared = prepared; placed = placed; book = book }

module _ (bytes : ℕ → List ℕ) (lumps : List Lump) (base : LevelBase) (faces : Faces) (placed : List Placed) (prepared : List (Option PreparedTexture)) where
  -- its book is that of the placed things
  over_parts : (scene : SceneValue) → scene_over bytes lumps base faces placed prepared ≡ Ok scene → (book : List Frame) × (book_in bytes lumps placed ≡ Ok book) × (made_scene base faces placed prepared book ≡ scene)
  unfolding scene_over
  over_parts scene e =
      let middles_checked = from_below Scene (checked placed (bad_middle (texture_by prepared) base.level.segs faces.sides)) in
      let own_book = and_then-ok (from_below Sprite (book_in bytes lumps placed)) (λ book. and_then middles_checked (λ done. Ok (made_scene base faces placed prepared book))) scene e in
      let checks_passed = and_then-ok middles_checked (λ done. Ok (made_scene base faces placed prepared own_book.0)) scene own_book.2 in (
        own_book.0,
        from_below-ok Sprite (book_in bytes lumps placed) own_book.0 own_book.1,
        let scene_same : made_scene base faces placed prepared own_book.0 ≡ scene = cc in scene_same,
      )

module _ (bytes : ℕ → List ℕ) (lumps : List Lump) (lines : List ThingLine) (name : List ℕ) (skill : ℕ) where
  -- the base was refused
  pub scene_in-stop : (refusal : AuditRefusal) → base_in bytes lumps name ≡ Err refusal → scene_in bytes lumps lines name skill ≡ Err refusal
  unfolding scene_in
  scene_in-stop refusal e = ap (λ r. and_then r (scene_on bytes lumps lines skill name)) e

  -- it was found
  pub scene_in-more : (base : LevelBase) → base_in bytes lumps name ≡ Ok base → scene_in bytes lumps lines name skill ≡ scene_on bytes lumps lines skill name base
  unfolding scene_in
  scene_in-more base e = ap (λ r. and_then r (scene_on bytes lumps lines skill name)) e

-- what the directory tells of a base
pub record IsBaseOf (lumps : List Lump) (name : List ℕ) (base : LevelBase) : Type 0 where
  pub colormap : colormap_of lumps ≡ Ok base.colormap
  pub playpal : playpal_of lumps ≡ Ok base.playpal
  pub label : label_of lumps name ≡ Ok base.label

pub base_parts : (bytes : ℕ → List ℕ) (lumps : List Lump) (name : List ℕ) (base : LevelBase) → base_in bytes lumps name ≡ Ok base → IsBaseOf lumps name base
unfolding base_in base_over level_in
base_parts bytes lumps name base e =
    let own_colormap = and_then-ok (from_below Art (colormap_of lumps)) _ base e in
    let own_playpal = and_then-ok (from_below Art (playpal_of lumps)) _ base own_colormap.2 in
    let own_level = and_then-ok (from_below Map (level_in bytes lumps name)) _ base own_playpal.2 in
    let own_lists = and_then-ok (from_below Texture (lists_in bytes lumps)) _ base own_level.2 in
    let own_label = and_then-ok (label_of lumps name) _ own_level.0 (from_below-ok Map (level_in bytes lumps name) own_level.0 own_level.1) in
    let level = and_then-ok (level_of _) _ own_level.0 own_label.2 in
    let base_same : ◌≡◌ {A = LevelBase} (record { colormap = own_colormap.0; playpal = own_playpal.0; palette = take PALETTE_SIZE (bytes own_playpal.0); label = own_level.0.0; level = own_level.0.1; lists = own_lists.0 }) base = cc in
    let level_same : (own_label.0, level.0) ≡ own_level.0 = cc in
    subst (IsBaseOf lumps name) base_same (record { colormap = from_below-ok Art (colormap_of lumps) own_colormap.0 own_colormap.1; playpal = from_below-ok Art (playpal_of lumps) own_playpal.0 own_playpal.1; label = own_label.1 ∙ ap (λ (x : ℕ × _). Ok x.0) level_same })

-- what an accepted scene is made of
pub record IsSceneOf (bytes : ℕ → List ℕ) (lumps : List Lump) (lines : List ThingLine) (name : List ℕ) (skill : ℕ) (scene : SceneValue) : Type 0 where
  pub base : base_in bytes lumps name ≡ Ok scene.base
  pub faces : faces_in lumps name scene.base.level scene.base.lists ≡ Ok scene.faces
  pub prepared : prepared_textures (last_of lumps) bytes scene.base.lists (is_wanted_texture scene.faces.sides scene.faces.sky) ≡ Ok scene.prepared
  pub book : book_in bytes lumps (placed_things scene.base.level lines skill) ≡ Ok scene.book

module _ (bytes : ℕ → List ℕ) (lumps : List Lump) (lines : List ThingLine) (name : List ℕ) (skill : ℕ) (scene : SceneValue) where
  parts_over : (base : LevelBase) (faces : Faces) (prepared : List (Option PreparedTexture)) → base_in bytes lumps name ≡ Ok base → faces_in lumps name base.level base.lists ≡ Ok faces →
      prepared_textures (last_of lumps) bytes base.lists (is_wanted_texture faces.sides faces.sky) ≡ Ok prepared → scene_over bytes lumps base faces (placed_things base.level lines skill) prepared ≡ Ok scene → IsSceneOf bytes lumps lines name skill scene
  parts_over base faces prepared one two three e =
      let book = over_parts bytes lumps base faces (placed_things base.level lines skill) prepared scene e in
      subst (IsSceneOf bytes lumps lines name skill) book.2 (record { base = one; faces = two; prepared = three; book = book.1 })

  pub scene_parts : scene_in bytes lumps lines name skill ≡ Ok scene → IsSceneOf bytes lumps lines name skill scene
  unfolding scene_in scene_on scene_with
  scene_parts e =
      let own_base = and_then-ok (base_in bytes lumps name) (scene_on bytes lumps lines skill name) scene e in
      let own_faces = and_then-ok (from_below Scene (faces_in lumps name own_base.0.level own_base.0.lists)) _ scene own_base.2 in
      let textures = and_then-ok (from_below Texture (prepared_textures (last_of lumps) bytes own_base.0.lists (is_wanted_texture own_faces.0.sides own_faces.0.sky))) (scene_over bytes lumps own_base.0 own_faces.0 (placed_things own_base.0.level lines skill)) scene own_faces.2 in
      parts_over own_base.0 own_faces.0 textures.0 own_base.1
      (from_below-ok Scene (faces_in lumps name own_base.0.level own_base.0.lists) own_faces.0 own_faces.1) (from_below-ok Texture
      (prepared_textures (last_of lumps) bytes own_base.0.lists (is_wanted_texture own_faces.0.sides own_faces.0.sky)) textures.0 textures.1) textures.2
