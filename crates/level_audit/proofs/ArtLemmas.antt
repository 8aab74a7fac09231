-- What is told of lumps of art that are read, in the words of an audit.
use Rattle.art_rules.proofs.Common.{[], All, All-append, All-map, Any-from_list_any, ap, arith, Bool, cases_eq, eq-eqb, eqb-true, false, get_or, IfSome, inl, inr, length, List, list_any, list_any_at, map, ne_eqb, None, not, Option, refl, Result, Some, subst, suc, sym, true, ℕ, ◌&&◌, ◌<◌, ◌==◌, ◌||◌, ◌∙◌, ◌∷◌, ◌≡◌}
use Rattle.level_audit.specs.Rules.{AuditRefusal, Fault, Frame, Heap, Need, Placed, PreparedTexture, Shape, ShelfView, SideTextures, SpriteRefusal, TexRefusal, Texture, TextureLists, book_in, book_lumps, each_of, first_needs, frame_of, from_below, is_sky_texture, is_wanted_texture, itself, joined_lists, last_of, need_of, prepared_textures, shape_lumps, shows_texture}
use Rattle.art_rules.proofs.Laws.{joined_lists-cons}
use Rattle.texture_build.specs.{DirectoryView.DirectoryView, Calls.ReadsLumps, TexNo.TexNo}
use Rattle.texture_build.specs.Asked.{IsWantedPatch}
use Rattle.texture_build.specs.Views.{IsPrepared, TexturesView, is_wanted}
use Rattle.texture_build.proofs.PrepareLemmas.{tells_wanted}
use Rattle.sprite_book.specs.Calls.{IsWanted}
use Rattle.sound_scene.specs.Whole.{AreSidePrepared, IsNoneOrPrepared}

-- the wanted textures are those of sides and sky
pub textures_wanted : {B : Type 0} {v w : ShelfView} {dir : DirectoryView} {a b : Heap} {value : B → List (Option PreparedTexture)} (lists : TextureLists) (sides : List SideTextures) (sky : Option ℕ) (wanted : List TexNo) (result : Result B (Fault TexRefusal)) →
    ((number : ℕ) → is_wanted wanted number ≡ is_wanted_texture sides sky number) →
    ReadsLumps itself v w dir a b (IsWantedPatch dir.lumps lists (is_wanted wanted)) value (λ bytes. prepared_textures (last_of dir.lumps) bytes lists (is_wanted wanted)) result →
    ReadsLumps itself v w dir a b (IsWantedPatch dir.lumps lists (is_wanted_texture sides sky)) value (λ bytes. prepared_textures (last_of dir.lumps) bytes lists (is_wanted_texture sides sky)) result
textures_wanted lists sides sky wanted result same one = tells_wanted lists (is_wanted wanted) (is_wanted_texture sides sky) result same one

-- the same sides
pub sides_told : {B : Type 0} {v w : ShelfView} {dir : DirectoryView} {a b : Heap} {value : B → List (Option PreparedTexture)} (lists : TextureLists) (sides seen : List SideTextures) (sky : Option ℕ) (result : Result B (Fault AuditRefusal)) → seen ≡ sides →
    ReadsLumps itself v w dir a b (IsWantedPatch dir.lumps lists (is_wanted_texture seen sky)) value (λ bytes. from_below Texture (prepared_textures (last_of dir.lumps) bytes lists (is_wanted_texture seen sky))) result →
    ReadsLumps itself v w dir a b (IsWantedPatch dir.lumps lists (is_wanted_texture sides sky)) value (λ bytes. from_below Texture (prepared_textures (last_of dir.lumps) bytes lists (is_wanted_texture sides sky))) result
sides_told {v} {w} {dir} {a} {b} {value} lists sides seen sky result same one =
    subst (λ (s : List SideTextures). ReadsLumps itself v w dir a b (IsWantedPatch dir.lumps lists (is_wanted_texture s sky)) value (λ bytes. from_below Texture (prepared_textures (last_of dir.lumps) bytes lists (is_wanted_texture s sky))) result) same one

-- the needed frames are those of the placed things
pub book_needed : {v w : ShelfView} {dir : DirectoryView} {a b : Heap} (placed : List Placed) (needs : List Need) (result : Result (List Frame) (Fault SpriteRefusal)) → needs ≡ map need_of placed →
    ReadsLumps itself v w dir a b (IsWanted dir.lumps needs) (λ (book : List Frame). book) (λ bytes. each_of (frame_of bytes dir.lumps) (first_needs needs)) result →
    ReadsLumps itself v w dir a b (IsWanted dir.lumps (map need_of placed)) (λ (book : List Frame). book) (λ bytes. book_in bytes dir.lumps placed) result
unfolding book_in
book_needed {v} {w} {dir} {a} {b} placed needs result are one =
    subst (λ (n : List Need). ReadsLumps itself v w dir a b (IsWanted dir.lumps n) (λ (book : List Frame). book) (λ bytes. each_of (frame_of bytes dir.lumps) (first_needs n)) result) are one

-- each of three settles it
first_shows : (a b c : Bool) → a ≡ true → (a || b || c) ≡ true
first_shows true b c e = refl
first_shows false b c e = cc

second_shows : (a b c : Bool) → b ≡ true → (a || b || c) ≡ true
second_shows true b c e = refl
second_shows false true c e = refl
second_shows false false c e = cc

last_shows : (a b c : Bool) → c ≡ true → (a || b || c) ≡ true
last_shows true b c e = refl
last_shows false true c e = refl
last_shows false false c e = e

-- what a side shows is wanted, whatever the sky is
shown_too : (sky zero any : Bool) → zero ≡ false → any ≡ true → (sky || (not zero && any)) ≡ true
shown_too true zero any e f = refl
shown_too false zero any e f = rw (e, f) refl

-- a texture that a side shows is wanted, where it is not number 0
shown_wanted : (sides : List SideTextures) (sky : Option ℕ) (number i : ℕ) (d : SideTextures) → i < length sides → shows_texture number (get_or sides i d) ≡ true → (number == 0) ≡ false → is_wanted_texture sides sky number ≡ true
unfolding is_wanted_texture
shown_wanted sides sky number i d l shown some =
    shown_too _ (number == 0) (list_any (shows_texture number) sides) some (list_any_at (shows_texture number) sides i d l shown)

-- so is that of the sky
sky_wanted : (sides : List SideTextures) (number : ℕ) → is_wanted_texture sides (Some number) number ≡ true
unfolding is_wanted_texture is_sky_texture
sky_wanted sides number = ap (λ b. b || (not (number == 0) && list_any (shows_texture number) sides)) (eq-eqb number number refl)

module _ (textures : TexturesView) (sides : List SideTextures) (sky : Option ℕ) (wanted : List TexNo) (same : (number : ℕ) → is_wanted wanted number ≡ is_wanted_texture sides sky number) (prepared : All (λ (tex : TexNo). IsPrepared textures tex.0) wanted) where
  -- where all wanted textures are prepared, one that is wanted is
  wanted_prepared : (number : ℕ) → is_wanted_texture sides sky number ≡ true → IsPrepared textures number
  wanted_prepared number is =
      let texture_found = Any-from_list_any (λ (tex : TexNo). tex.0 == number) wanted (same number ∙ is) in subst (IsPrepared textures) (eqb-true
      _ _ texture_found.4) (subst (λ (tex : TexNo). IsPrepared textures tex.0) texture_found.3 (prepared texture_found.0 texture_found.1 texture_found.2))

  shown_prepared : (number i : ℕ) (d : SideTextures) → i < length sides → shows_texture number (get_or sides i d) ≡ true → IsNoneOrPrepared textures number
  shown_prepared number i d l shown = elim (cases_eq number 0) [
    | inl none ↦ inl none
    | inr some ↦ inr (wanted_prepared number (shown_wanted sides sky number i d l shown (ne_eqb number 0 some)))
  ]

  pub sides_prepared : All (AreSidePrepared textures) sides
  unfolding shows_texture
  sides_prepared = λ i d l.
      let side = get_or sides i d in
      record {
        top = shown_prepared side.top i d l (first_shows (side.top == side.top) (side.bottom == side.top) (side.middle == side.top) (eq-eqb _ _ refl));
        bottom = shown_prepared side.bottom i d l (second_shows (side.top == side.bottom) (side.bottom == side.bottom) (side.middle == side.bottom) (eq-eqb _ _ refl));
        middle = shown_prepared side.middle i d l (last_shows (side.top == side.middle) (side.bottom == side.middle) (side.middle == side.middle) (eq-eqb _ _ refl));
      }

-- the sky's texture is prepared
pub sky_prepared : (textures : TexturesView) (sides : List SideTextures) (sky : Option ℕ) (wanted : List TexNo) → ((number : ℕ) → is_wanted wanted number ≡ is_wanted_texture sides sky number) → All (λ (tex : TexNo). IsPrepared textures tex.0) wanted → IfSome sky (IsPrepared textures)
sky_prepared textures sides None wanted same prepared = tt
sky_prepared textures sides (Some number) wanted same prepared = wanted_prepared textures sides (Some number) wanted same prepared number (sky_wanted sides number)

-- the pictures of a book whose shapes are of the directory
pub pictures_there : (count : ℕ) (book : List Frame) → All (λ (frame : Frame). All (λ (shape : Shape). shape.lump.0 < count) frame.shapes) book → All (λ lump. lump < count) (book_lumps book)
unfolding book_lumps shape_lumps joined_lists
pictures_there count [] there = λ i d l. absurd (omega (arith, l))
pictures_there count (frame ∷ rest) there =
    subst (λ (lumps : List ℕ). All (λ lump. lump < count) lumps) (sym (joined_lists-cons shape_lumps frame rest))
    (All-append (λ lump. lump < count) (shape_lumps frame) (joined_lists shape_lumps rest)
    (All-map (λ lump. lump < count) (λ (shape : Shape). shape.lump.0) frame.shapes (there 0 frame (omega arith)))
    (pictures_there count rest (λ i d l. there (suc i) d (omega (arith, l)))))
