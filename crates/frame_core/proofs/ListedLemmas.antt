-- The seg of each note of a view, with its side and its sectors, is among the lists of its scene, and the middle texture of a masked one may be drawn.
use Rattle.picture_rules.proofs.Common.{[], All, All-from_recursion, AllByRecursion, arith, false, ForSome, get_or, IfSome, inl, inr, IsSome, length, length-map, List, map, None, not, Option, option_map, recursion_from_All, refl, Some, subst, suc, sym, take, true, zero, ℕ, ◌+◌, ◌<◌, ◌==◌, ◌∷◌, ◌≡◌, ◌≤◌, ◌⊎◌, ℤ}
use Rattle.std.proofs.Math.ListN.{get_or-map}
use Rattle.frame_core.specs.Rules.{Event, FragmentEvent, FragmentNote, Heap, IsSound, LeafEvent, LeafFragment, Lump, MAX_DRAWSEGS, SceneValue, SideTextures, Surface, ViewValue, Wall, WallFacts, back_of, drawsegs, facts_of, fragment_facts, fragment_numbers, fragment_wall, is_masked, leaf_fragments, no_seg, no_textures, note_at, notes_from, numbers_by, place_if, room_if, saves_bottom, saves_top, seg_at, surface_at, textures_at, three_textures, view_notes, wall_of, wall_texture, walls_of}
use Rattle.texture_build.specs.{Draws.CanDraw, Views.IsPrepared, Views.prepared_texture}
use Rattle.sound_scene.specs.Sound.{middles_of, textures_view}
use Rattle.sound_scene.specs.{Whole.AllColumnsSingle, Whole.IsNoneOrSingle, Pictures.scene_of}
use Rattle.masked_draw.specs.Lists.{middle_by, note_seg}
use Rattle.masked_draw.specs.Ready.{CanDrawMiddle, IsListed, IsNotedMiddle}
use Rattle.frame_core.specs.{Views.IsDrawable, Walked.IsEventIn}
use Rattle.frame_core.specs.ViewStrips.{mask_lists}
use Rattle.frame_core.proofs.SceneLemmas.{patches_there}

-- the seg of each fragment of events that name what is there is there
segs_there : (v : ViewValue) (s : SceneValue) (leaf : ℕ) (events : List Event) → AllByRecursion (IsEventIn v s) events → AllByRecursion (λ (f : LeafFragment). f.seg < length s.base.level.segs) (leaf_fragments leaf events)
unfolding leaf_fragments
segs_there v s leaf [] h = tt
segs_there v s leaf (LeafEvent n ∷ es) h = segs_there v s n es h.1
segs_there v s leaf (FragmentEvent seg first last ∷ es) h = (h.0.0, segs_there v s leaf es h.1)

some_taken : {X : Type 0} (P : X → Type 0) (n : ℕ) (xs : List X) → AllByRecursion P xs → AllByRecursion P (take n xs)
some_taken P zero xs h = tt
some_taken P (suc n) [] h = tt
some_taken P (suc n) (x ∷ xs) h = (h.0, some_taken P n xs h.1)

-- so is that of each drawn one
pub drawsegs_there : (v : ViewValue) (s : SceneValue) (events : List Event) → All (IsEventIn v s) events → AllByRecursion (λ (f : LeafFragment). f.seg < length s.base.level.segs) (drawsegs events)
unfolding drawsegs
drawsegs_there v s events h =
    some_taken (λ (f : LeafFragment). f.seg < length s.base.level.segs) MAX_DRAWSEGS (leaf_fragments 0 events) (segs_there v s 0 events (recursion_from_All (IsEventIn v s) events h))

-- a number that is a texture's is not none
prepared_some : (P : Type 0) (number : ℕ) → (number ≡ 0) ⊎ P → 0 < number → P
prepared_some P zero e l = absurd (omega (arith, l))
prepared_some P (suc number) (inl none) l = absurd (omega (arith, none))
prepared_some P (suc number) (inr is) l = is

-- a masked fragment has a sector behind it and a middle texture
number_some : (number place : ℕ) → IsSome (place_if (not (number == 0)) place) → 0 < number
unfolding place_if
number_some zero place h = absurd (let false_is_true : false ≡ true = h in cc)
number_some (suc number) place h = omega arith

none_some : (place : ℕ) → IsSome (place_if false place) → ⊥
unfolding place_if
none_some place h = let false_is_true : false ≡ true = h in absurd (cc)

masked_some : (facts : WallFacts) (back : Option Surface) (place : ℕ) → IsSome (place_if (is_masked facts back) place) → IsSome back × (0 < facts.middle.number)
unfolding is_masked
masked_some facts None place h = absurd (none_some place h)
masked_some facts (Some back) place h = (refl, number_some facts.middle.number place h)

mapped_some : {X Y : Type 0} (f : X → Y) (o : Option X) → IsSome (option_map f o) → IsSome o
mapped_some f None h = h
mapped_some f (Some x) h = refl

if_some : {X : Type 0} (P : X → Type 0) (o : Option X) → ForSome o P → IfSome o P
if_some P None h = tt
if_some P (Some x) h = h x refl

module _ (lumps : List Lump) (s : SceneValue) (can : IsDrawable lumps s) (sound : IsSound s.base.level)
    (z : Heap) (slots : length s.base.lists.textures ≤ z.composites) where
  -- the middle texture of a side, where it has one, is of the lists, and may be drawn
  middle_among : (side : ℕ) → side < length s.faces.sides → 0 < (get_or s.faces.sides side no_textures).middle → (get_or s.faces.sides side no_textures).middle < length s.base.lists.textures
  middle_among side inside some = (can.below side no_textures inside).middle some

  middle_drawn : (side : ℕ) → side < length s.faces.sides → 0 < (get_or s.faces.sides side no_textures).middle → CanDraw lumps (textures_view s) z (get_or s.faces.sides side no_textures).middle
  middle_drawn side inside some =
      let number : ℕ = (get_or s.faces.sides side no_textures).middle in
      record {
        prepared = prepared_some (IsPrepared (textures_view s) number) number (can.textures side no_textures inside).middle some;
        slot = let middle_is_listed = middle_among side inside some in omega (arith, middle_is_listed, slots);
        there = patches_there lumps s.prepared number can.patches;
      }

  -- and is of single columns, behind the side of a seg with a sector behind it
  middle_single : (seg : ℕ) → seg < length s.base.level.segs → IsSome (get_or s.base.level.segs seg no_seg).back →
      0 < (get_or s.faces.sides (get_or s.base.level.segs seg no_seg).side no_textures).middle →
      AllColumnsSingle (prepared_texture (textures_view s) (get_or s.faces.sides (get_or s.base.level.segs seg no_seg).side no_textures).middle)
  unfolding three_textures
  middle_single seg l behind some =
      let number : ℕ = (get_or s.faces.sides (get_or s.base.level.segs seg no_seg).side no_textures).middle in
      let middle_is_single : IsNoneOrSingle (textures_view s) number = can.middles seg no_seg l behind in
      prepared_some (AllColumnsSingle (prepared_texture (textures_view s) number)) number middle_is_single some

  -- the note of a fragment whose seg is there
  middle_ready : (bytes : ℕ → List ℕ) (v : ViewValue) (f : LeafFragment) (place : ℕ) → f.seg < length s.base.level.segs →
      IsSome (note_at v (fragment_wall v (scene_of bytes s) f) place).masked → CanDrawMiddle lumps (textures_view s) z (mask_lists s) (note_at v (fragment_wall v (scene_of bytes s) f) place)
  unfolding note_at fragment_wall wall_of fragment_numbers numbers_by fragment_facts facts_of note_seg middle_by seg_at back_of wall_texture textures_at scene_of
  middle_ready bytes v f place l h =
      let has_back_and_middle = masked_some (fragment_facts (scene_of bytes s) f) (fragment_facts (scene_of bytes s) f).back place h in
      let seg_is_sound = sound.segs f.seg no_seg l in let side : ℕ = (get_or s.base.level.segs f.seg no_seg).side in
      let sector_is_behind = mapped_some (surface_at (scene_of bytes s).level) (get_or s.base.level.segs f.seg no_seg).back has_back_and_middle.0 in
      let inside : side < length s.faces.sides = omega (arith, seg_is_sound.side, can.sides) in
      let number : ℕ = (get_or s.faces.sides side no_textures).middle in
      let number_is_middle : number ≡ get_or (middles_of s.faces.sides) side 0 =
      sym (get_or-map (λ (t : SideTextures). t.middle) s.faces.sides side no_textures) in record {
        back = if_some (λ (back : ℕ). back < length s.base.level.sectors) (get_or s.base.level.segs f.seg no_seg).back seg_is_sound.back;
        some = sector_is_behind;
        texture = subst (CanDraw lumps (textures_view s) z) number_is_middle (middle_drawn side inside has_back_and_middle.1);
        among = subst (λ (n : ℕ). n < length s.base.lists.textures) number_is_middle (middle_among side inside has_back_and_middle.1);
        single = subst (λ (n : ℕ). AllColumnsSingle (prepared_texture (textures_view s) n)) number_is_middle
            (middle_single f.seg l sector_is_behind has_back_and_middle.1);
      }

  note_listed : (bytes : ℕ → List ℕ) (v : ViewValue) (f : LeafFragment) (place : ℕ) → f.seg < length s.base.level.segs →
      IsListed lumps (textures_view s) z (mask_lists s) (note_at v (fragment_wall v (scene_of bytes s) f) place)
  unfolding note_at fragment_wall wall_of fragment_facts facts_of note_seg
  note_listed bytes v f place l =
      let seg_is_sound = sound.segs f.seg no_seg l in
      record {
        seg = l;
        front = seg_is_sound.front;
        side = seg_is_sound.side;
        middle = omega (arith, seg_is_sound.side, can.sides, length-map s.faces.sides (λ (t : SideTextures). t.middle));
        masked = middle_ready bytes v f place l;
      }

  listed_from : (bytes : ℕ → List ℕ) (v : ViewValue) (place : ℕ) (fs : List LeafFragment) → AllByRecursion (λ (f : LeafFragment). f.seg < length s.base.level.segs) fs →
      AllByRecursion (IsListed lumps (textures_view s) z (mask_lists s)) (notes_from v place (map (fragment_wall v (scene_of bytes s)) fs))
  unfolding notes_from
  listed_from bytes v place [] h = tt
  listed_from bytes v place (f ∷ fs) h =
      let new_wall : Wall = fragment_wall v (scene_of bytes s) f in
      (note_listed bytes v f place h.0, listed_from bytes v (place + room_if new_wall.numbers.masked new_wall + room_if (saves_top new_wall.numbers) new_wall + room_if (saves_bottom new_wall.numbers) new_wall) fs h.1)

  -- so it is for all notes of a view
  pub notes_listed : (bytes : ℕ → List ℕ) (v : ViewValue) (events : List Event) (notes : List FragmentNote) → All (IsEventIn v s) events → notes ≡ view_notes v (walls_of v (scene_of bytes s) events) →
      All (IsListed lumps (textures_view s) z (mask_lists s)) notes
  unfolding view_notes walls_of
  notes_listed bytes v events notes there e =
      let are_listed : List FragmentNote → Type 0 = All (IsListed lumps (textures_view s) z (mask_lists s)) in
      subst are_listed (sym e) (All-from_recursion (IsListed lumps (textures_view s) z (mask_lists s)) (notes_from v 0 (map (fragment_wall v (scene_of bytes s)) (drawsegs events)))
      (listed_from bytes v 0 (drawsegs events) (drawsegs_there v s events there)))

-- the middle texture of a masked note is prepared
pub middle_prepared : (lumps : List Lump) (s : SceneValue) (z : Heap) (openings : List ℤ) (notes : List FragmentNote) (number : ℕ) (own : ℤ) → All (IsListed lumps (textures_view s) z (mask_lists s)) notes →
    IsNotedMiddle (mask_lists s) openings notes number own → IsPrepared (textures_view s) number
middle_prepared lumps s z openings notes number own listed middle =
    let note_in_lists = subst (IsListed lumps (textures_view s) z (mask_lists s)) middle.among.2 (listed middle.among.0 middle.note middle.among.1) in
    subst (IsPrepared (textures_view s)) (sym middle.is.texture) (note_in_lists.masked middle.is.masked).texture.prepared
