-- A scene over its base, a step at a time.
use Rattle.std.proofs.Common.{◌≡◌, ℕ, List, Option, Ok, Err, refl, sym, ap, ◌∙◌}
use Rattle.level_audit.specs.Rules.{AuditRefusal, Faces, Frame, LevelBase, Lump, Placed, PreparedTexture, Scene, Sprite, Texture, TextureLists, ThingLine, and_then, bad_middle, book_in, checked, faces_in, from_below, is_wanted_texture, last_of, placed_things, prepared_textures, scene_on, scene_over, scene_with, texture_by}

module _ (bytes : ℕ → List ℕ) (lumps : List Lump) (g : LevelBase) (faces : Faces) where
  module _ (placed : List Placed) (prepared : List (Option PreparedTexture)) where
    -- the book is refused
    pub scene_over-unread : (refusal : AuditRefusal) → from_below Sprite (book_in bytes lumps placed) ≡ Err refusal → scene_over bytes lumps g faces placed prepared ≡ Err refusal
    unfolding scene_over
    scene_over-unread refusal e = rw e refl

    -- a check refuses
    pub scene_over-unsound : (book : List Frame) (refusal : AuditRefusal) → from_below Sprite (book_in bytes lumps placed) ≡ Ok book →
        from_below Scene (checked placed (bad_middle (texture_by prepared) g.level.segs faces.sides)) ≡ Err refusal → scene_over bytes lumps g faces placed prepared ≡ Err refusal
    unfolding scene_over
    scene_over-unsound book refusal e f = rw (e, f) refl

    -- the scene
    pub scene_over-sound : (book : List Frame) → from_below Sprite (book_in bytes lumps placed) ≡ Ok book →
        from_below Scene (checked placed (bad_middle (texture_by prepared) g.level.segs faces.sides)) ≡ Ok tt →
        scene_over bytes lumps g faces placed prepared ≡ Ok (record { base = g; faces = faces; prepared = prepared; placed = placed; book = book })
    unfolding scene_over
    scene_over-sound book e f = rw (e, f) refl

  module _ (lines : List ThingLine) (skill : ℕ) where
    -- the textures are refused
    pub scene_with-stop : (refusal : AuditRefusal) → from_below Texture (prepared_textures (last_of lumps) bytes g.lists (is_wanted_texture faces.sides faces.sky)) ≡ Err refusal →
        scene_with bytes lumps lines skill g faces ≡ Err refusal
    unfolding scene_with
    scene_with-stop refusal e = rw e refl

    -- the textures are prepared, with the same lists, and the things are placed
    pub scene_with-more : (prepared : List (Option PreparedTexture)) (lists : TextureLists) (placed : List Placed) → from_below Texture (prepared_textures (last_of lumps) bytes g.lists (is_wanted_texture faces.sides faces.sky)) ≡ Ok prepared →
        lists ≡ g.lists → placed ≡ placed_things g.level lines skill → scene_with bytes lumps lines skill g faces ≡ scene_over bytes lumps (record g { lists = lists }) faces placed prepared
    unfolding scene_with
    scene_with-more prepared lists placed e same are =
        ap (λ r. and_then r (scene_over bytes lumps g faces (placed_things g.level lines skill))) e
        ∙ ap (λ (l : TextureLists). scene_over bytes lumps (record g { lists = l }) faces (placed_things g.level lines skill) prepared) (sym same)
        ∙ ap (λ (p : List Placed). scene_over bytes lumps (record g { lists = lists }) faces p prepared) (sym are)

module _ (bytes : ℕ → List ℕ) (lumps : List Lump) (lines : List ThingLine) (skill : ℕ) (name : List ℕ) (g : LevelBase) where
  -- the faces are refused
  pub scene_on-stop : (refusal : AuditRefusal) → from_below Scene (faces_in lumps name g.level g.lists) ≡ Err refusal → scene_on bytes lumps lines skill name g ≡ Err refusal
  unfolding scene_on
  scene_on-stop refusal e = rw e refl

  -- the faces are found
  pub scene_on-more : (faces : Faces) → from_below Scene (faces_in lumps name g.level g.lists) ≡ Ok faces → scene_on bytes lumps lines skill name g ≡ scene_with bytes lumps lines skill g faces
  unfolding scene_on scene_with
  scene_on-more faces e = rw e refl
