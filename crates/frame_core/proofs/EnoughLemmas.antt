-- For which block a zone is full while a scene is drawn, and that one that is enough for the scene never is.
use Rattle.picture_rules.proofs.Common.{[], All, All-contains, All-contains_itself, All-filter, All-head, ap, append-nil, arith, Bool, cases_lt, cond, Contains, Contains-get_or, eq-eqb, eq-false_positive, Err, false, false≢true, filter, get_or_past, IfErr, IfSome, inl, inr, IsSome, length, List, list_any, list_any-append, nat_lt, nat_tests, None, Ok, Option, range_with_len, refl, Result, slice_index_or, Some, subst, suc, sym, true, unwrap_or, zero, ℕ, ◌*◌, ◌++◌, ◌+◌, ◌<◌, ◌==◌, ◌||◌, ◌∙◌, ◌∷◌, ◌≡◌, ◌≢◌, ◌≤◌, ◌⊎◌, ℤ}
use Rattle.frame_core.specs.Rules.{ColumnLookup, Empty, Heap, Lump, Owner, PlacedPatch, PreparedTexture, SceneArt, SceneValue, ShelfView, art_of, block_or_none, block_size, book_lumps, column_lookup, composed_columns, composed_count, composite_block, composite_place, composite_size, enough, has_flat, is_composed, is_needed, is_patch_of, is_patch_of_any, lookup_of, lump_at, lump_block, lump_bytes, patches_in, stands_in}
use Rattle.texture_build.specs.DirectoryView.{DirectoryView}
use Rattle.texture_build.specs.Caches.{IsAtRest, composite_owner, lump_owner}
use Rattle.texture_build.specs.Calls.{IfFull, IsFullFor}
use Rattle.texture_build.specs.Sizes.{IsGapBeside, IsGapBesideTwo}
use Rattle.texture_build.proofs.{CallLemmas.full_at, TexelLemmas.prepared_is}
use Rattle.art_rules.proofs.LookupLemmas.{column_lookups-read}
use Rattle.texture_build.specs.Asked.{IsAskedByColumn, IsGapBesideComposite, IsPatch, size_of}
use Rattle.texture_build.specs.Draws.{DrawsWith, HoldsArt, IsFullForTexture}
use Rattle.texture_build.specs.Sources.{IsComposedColumn, column_index, own_lookup}
use Rattle.texture_build.specs.Views.{TexturesView, AllThere, ArePatchesThere, AreTexturesOf, IsPrepared, prepared_at, prepared_texture, unprepared}
use Rattle.texture_build.proofs.ViewLemmas.{HasColumns, textures_columns}
use Rattle.sound_scene.specs.Sound.{art_with, textures_view}
use Rattle.sound_scene.proofs.{FullLemmas.IsArtFull, FullLemmas.full-small, MarkLemmas.any_passed}
use Rattle.sound_scene.proofs.MemberLemmas.{any_among}
use Rattle.frame_core.specs.declared.fault.ViewFault.{ViewFault}
use Rattle.frame_core.specs.declared.fault.ViewFault.TheVariants.{Limit, ZoneFull, ReadFault}
use Rattle.frame_core.specs.Faults.{limit_of_view, view_fault}
use Rattle.frame_core.specs.Views.{CanDrawView, IsViewLump, IsViewTexture}
use Rattle.frame_core.proofs.RowLemmas.{textures_rows}

-- a list with an item that passes has an item
some_of : (p : ℕ → Bool) (xs : List ℕ) → list_any p xs ≡ true → 0 < length xs
some_of p [] on = cc
some_of p (x ∷ xs) on = omega arith

product_some : (a b : ℕ) → 0 < a → 0 < b → 0 < a * b
product_some zero b l m = absurd (omega (arith, l))
product_some (suc a) zero l m = absurd (omega (arith, m))
product_some (suc a) (suc b) l m = omega arith

-- a column in which several patches stand is counted
composed_some : (patches : List PlacedPatch) (width x : ℕ) → x < width → 1 < length (patches_in patches x) → 0 < composed_count patches width
unfolding composed_count composed_columns is_composed
composed_some patches width x l many =
    let has_many_patches : nat_lt 1 (length (patches_in patches x)) ≡ true = grind (arith, nat_tests) in
    some_of (λ m. m == x) (filter (is_composed patches) (range_with_len 0 width)) (any_passed (is_composed patches) 0 width x (omega arith) (omega (arith, l)) ∙ has_many_patches)

-- for whom, and how many bytes: one of a texture's patches, or its composite, which has bytes
abbrev pub IsOfTexture : List Lump → ℕ → PreparedTexture → Owner → ℕ → Type 0
IsOfTexture lumps number t owner size =
    ((patch : PlacedPatch) × Contains t.patches patch × (owner ≡ lump_owner patch.lump) × (size ≡ (lump_at lumps patch.lump).size))
    ⊎ ((owner ≡ composite_owner number) × (size ≡ size_of t) × (0 < size_of t))

module _ (lumps : List Lump) (number : ℕ) (t : PreparedTexture) (owner : Owner) (size : ℕ) where
  module _ (bytes : ℕ → List ℕ) (start x : ℕ) where
    asked_of : (standing : List PlacedPatch) → All (Contains t.patches) standing → (1 < length standing → 0 < size_of t) → IsAskedByColumn lumps number t (lookup_of bytes start x standing) owner size → IsOfTexture lumps number t owner size
    unfolding lookup_of
    asked_of [] all some asked = absurd asked
    asked_of (patch ∷ []) all some asked = inl (patch, All-head (Contains t.patches) patch [] all, asked.0, asked.1)
    asked_of (a ∷ b ∷ rest) all some (inl composite) = inr (composite.0, composite.1, some (omega arith))
    asked_of (a ∷ b ∷ rest) all some (inr patch) = inl (patch.0, patch.1, patch.2, patch.3)

    composed_of : (standing : List PlacedPatch) → (1 < length standing → 0 < size_of t) → IsComposedColumn (lookup_of bytes start x standing) → 0 < size_of t
    unfolding lookup_of
    composed_of [] some is = absurd is
    composed_of (patch ∷ []) some is = absurd is
    composed_of (a ∷ b ∷ rest) some is = some (omega arith)

  module _ (bytes : ℕ → List ℕ) (has : HasColumns bytes t) (high : 0 < t.height) (x : ℕ) where
    size_some : x < length t.columns → 1 < length (patches_in t.patches x) → 0 < size_of t
    unfolding composite_size
    size_some l many = product_some t.height (composed_count t.patches (length t.columns)) high (composed_some t.patches (length t.columns) x l many)

    lookup_is : x < length t.columns → own_lookup t x ≡ lookup_of bytes (composite_place t.patches t.height x) x (patches_in t.patches x)
    unfolding column_lookup
    lookup_is l = ap (λ (xs : List ColumnLookup). slice_index_or xs x Empty) has.are ∙ column_lookups-read bytes t.patches (length t.columns) t.height x Empty l

    standing_are : All (Contains t.patches) (patches_in t.patches x)
    unfolding patches_in
    standing_are = All-filter (stands_in x) (Contains t.patches) t.patches (All-contains_itself t.patches)

    -- a column of a prepared texture asks for these alone
    pub column_asked : IsAskedByColumn lumps number t (own_lookup t x) owner size → IsOfTexture lumps number t owner size
    column_asked asked = elim (cases_lt x (length t.columns)) [
      | inl l ↦ asked_of bytes (composite_place t.patches t.height x) x (patches_in t.patches x) standing_are (size_some l)
          (subst (λ (lookup : ColumnLookup). IsAskedByColumn lumps number t lookup owner size) (lookup_is l) asked)
      | inr past ↦ absurd (subst (λ (lookup : ColumnLookup). IsAskedByColumn lumps number t lookup owner size) (get_or_past t.columns x Empty past) asked)
    ]

    -- where a column is composed, the composite has bytes
    column_composed : IsComposedColumn (own_lookup t x) → 0 < size_of t
    column_composed is = elim (cases_lt x (length t.columns)) [
      | inl l ↦ composed_of bytes (composite_place t.patches t.height x) x (patches_in t.patches x) (size_some l) (subst IsComposedColumn (lookup_is l) is)
      | inr past ↦ absurd (subst IsComposedColumn (get_or_past t.columns x Empty past) is)
    ]

block_of : (t : PreparedTexture) → 0 < size_of t → composite_block (Some t) ≡ block_size (size_of t)
unfolding composite_block block_or_none
block_of t some = ap (λ b. cond b 0 (block_size (size_of t))) (eq-false_positive (size_of t) some)

block_some : (n : ℕ) → block_size n ≢ 0
block_some n = omega arith

-- of two further lists the one or the other
or_more : (x f g h : Bool) → (f || g) ≡ true → (x || f || (g || h)) ≡ true
or_more true f g h on = refl
or_more false true g h on = refl
or_more false false true h on = refl
or_more false false false h on = absurd (cc)

or_patch : (x p f g : Bool) → p ≡ true → (x || p || f || g) ≡ true
or_patch true p f g on = refl
or_patch false true f g on = refl
or_patch false false f g on = absurd (cc)

-- what a scene needs with the pictures of its book and of others
module _ (lumps : List Lump) (scene : SceneValue) (more : List ℕ) where
  pub needed_drawn : (lump : ℕ) → IsViewLump lumps scene lump → is_needed lumps (art_with scene (book_lumps scene.book ++ more)) lump ≡ true
  unfolding is_needed
  needed_drawn lump is =
      rw (list_any-append (λ n. n == lump) (book_lumps scene.book) more)
      (or_more _ (list_any (has_flat lump) scene.faces.flats) (list_any (λ n. n == lump) (book_lumps scene.book)) (list_any (λ n. n == lump) more) is.drawn)

pub needed_patch : (lumps : List Lump) (art : SceneArt) (t : PreparedTexture) (patch : PlacedPatch) → Contains art.prepared (Some t) → Contains t.patches patch → is_needed lumps art patch.lump ≡ true
unfolding is_needed is_patch_of_any is_patch_of
needed_patch lumps art t patch prepared among =
    or_patch _ (list_any (is_patch_of patch.lump) art.prepared) _ _
    (any_among (is_patch_of patch.lump) art.prepared (Some t) prepared
    (any_among (λ (one : PlacedPatch). one.lump == patch.lump) t.patches patch among (eq-eqb patch.lump patch.lump refl)))

-- a patch of a prepared texture is a lump of the directory
pub patch_there : (lumps : List Lump) (scene : SceneValue) (t : PreparedTexture) (patch : PlacedPatch) → AllThere lumps (textures_view scene) → Contains scene.prepared (Some t) → Contains t.patches patch → patch.lump < length lumps
patch_there lumps scene t patch all prepared among =
    All-contains (λ (p : PlacedPatch). p.lump < length lumps) t.patches patch (All-contains (λ (o : Option PreparedTexture). IfSome o (ArePatchesThere lumps)) scene.prepared (Some t) all prepared) among

-- the texture of a number that is prepared is among those that are
pub among_prepared : (prepared : List (Option PreparedTexture)) (number : ℕ) → IsSome (prepared_at prepared number) → Contains prepared (Some (unwrap_or (prepared_at prepared number) unprepared))
among_prepared prepared number some = elim (cases_lt number (length prepared)) [
  | inl l ↦ subst (λ (o : Option PreparedTexture). Contains prepared o) (prepared_is (prepared_at prepared number) some) (Contains-get_or prepared number None l)
  | inr past ↦ absurd (false≢true (subst IsSome (get_or_past prepared number None past) some))
]

-- a cache at rest, in which a scene is drawn that needs the pictures of its book and others
module _ (contents : List (List ℕ)) (dir : DirectoryView) (scene : SceneValue) (more : List ℕ) (z : Heap) (can : CanDrawView dir.lumps scene z) (textures : AreTexturesOf contents dir.lumps (textures_view scene))
    (rest : IsAtRest scene.base.colormap (lump_at dir.lumps scene.base.colormap).size z) (wanted widest : ℕ) where
  abbrev art : SceneArt
  art = art_with scene (book_lumps scene.book ++ more)

  abbrev count : ℕ
  count = (lump_at dir.lumps scene.base.colormap).size

  module _ (t : PreparedTexture) (prepared : Contains scene.prepared (Some t)) (size : ℕ) (wanted_is : wanted ≡ block_size size) where
    -- no room for a patch or a composite
    alone_full : {number : ℕ} {owner : Owner} → IsOfTexture dir.lumps number t owner size → IsGapBeside z.size (block_size count) widest → IsArtFull dir.lumps art z.size wanted widest
    unfolding lump_block
    alone_full (inl patch) gap = inl (record {
      lump = patch.0.lump;
      there = patch_there dir.lumps scene t patch.0 can.drawable.patches prepared patch.1;
      needed = needed_patch dir.lumps art t patch.0 prepared patch.1;
      is = wanted_is ∙ ap (λ n. block_size n) patch.3;
      gap = gap;
    })
    alone_full (inr composite) gap = inr (inl (record {
      texture = t;
      prepared = prepared;
      is = wanted_is ∙ ap (λ n. block_size n) composite.1 ∙ sym (block_of t composite.2);
      some = subst (λ n. n ≢ 0) (sym wanted_is) (block_some size);
      gap = gap;
    }))

    -- none for a patch beside the composite
    beside_full : (patch : PlacedPatch) → Contains t.patches patch → size ≡ (lump_at dir.lumps patch.lump).size → 0 < size_of t → IsGapBesideComposite z.size count (size_of t) widest → IsArtFull dir.lumps art z.size wanted widest
    unfolding lump_block
    beside_full patch among same some gap =
        let block_is_of_size : composite_block (Some t) ≡ block_size (size_of t) = block_of t some in
        inr (inr (record {
          texture = t;
          prepared = prepared;
          patch = patch;
          among = among;
          there = patch_there dir.lumps scene t patch can.drawable.patches prepared among;
          needed = needed_patch dir.lumps art t patch prepared among;
          is = wanted_is ∙ ap (λ n. block_size n) same;
          built = subst (λ n. n ≢ 0) (sym block_is_of_size) (block_some (size_of t));
          gap = subst (λ n. IsGapBesideTwo z.size (block_size count + n) widest) (sym block_is_of_size) gap;
        }))

  -- none for what a column asks for
  module _ (number x : ℕ) (some : IsPrepared (textures_view scene) number) (owner : Owner) (size : ℕ) (wanted_is : wanted ≡ block_size size) where
    abbrev t : PreparedTexture
    t = prepared_texture (textures_view scene) number

    prepared_as : prepared_at scene.prepared number ≡ Some t
    prepared_as = prepared_is (prepared_at scene.prepared number) some

    its_columns : HasColumns (lump_bytes contents dir.lumps) t
    its_columns = textures_columns contents dir.lumps (textures_view scene) number t textures prepared_as

    its_rows : 0 < t.height
    its_rows = textures_rows contents dir.lumps (textures_view scene) number t textures prepared_as

    column_full : IsAskedByColumn dir.lumps number t (own_lookup t x) owner size →
        IsGapBeside z.size (block_size count) widest ⊎ (IsComposedColumn (own_lookup t x) × IsPatch dir.lumps t owner size × IsGapBesideComposite z.size count (size_of t) widest) → IsArtFull dir.lumps art z.size wanted widest
    column_full asked (inl gap) =
        alone_full t (among_prepared scene.prepared number some) size wanted_is
        (column_asked dir.lumps number t owner size (lump_bytes contents dir.lumps) its_columns its_rows x asked) gap
    column_full asked (inr beside) =
        beside_full t (among_prepared scene.prepared number some) size wanted_is beside.1.0 beside.1.1 beside.1.3
        (column_composed dir.lumps number t owner size (lump_bytes contents dir.lumps) its_columns its_rows x beside.0) beside.2

  texture_full : IsFullForTexture (IsViewTexture scene) dir.lumps (textures_view scene) z wanted widest → IsArtFull dir.lumps art z.size wanted widest
  texture_full k =
      let column_facts = k.full in
      column_full k.number (column_index (prepared_texture (textures_view scene) k.number) k.column) k.is column_facts.owner column_facts.size column_facts.wanted_is column_facts.asked (column_facts.gap scene.base.colormap count rest)

  -- none for a flat or a picture
  lump_full : IsFullFor (IsViewLump dir.lumps scene) dir z wanted widest → IsArtFull dir.lumps art z.size wanted widest
  unfolding lump_block
  lump_full full = inl (record {
    lump = full.lump;
    there = full.asked.there;
    needed = needed_drawn dir.lumps scene more full.lump full.asked;
    is = full.wanted_is;
    gap = full.gap scene.base.colormap count rest;
  })

  -- a zone that was full for a texture or a lump of a view
  pub view_full : IsFullForTexture (IsViewTexture scene) dir.lumps (textures_view scene) z wanted widest ⊎ IsFullFor (IsViewLump dir.lumps scene) dir z wanted widest → IsArtFull dir.lumps art z.size wanted widest
  view_full (inl texture) = texture_full texture
  view_full (inr lump) = lump_full lump

-- a fault that is no full zone and no read that failed tells a limit
complete_at : (fault : ViewFault) → IfFull (view_fault fault) (λ wanted widest. ⊥) → fault ≢ ReadFault → IsSome (limit_of_view fault)
complete_at (Limit kind number) full other = refl
complete_at (ZoneFull wanted widest) full other = absurd full
complete_at ReadFault full other = absurd (other refl)

-- no gap is as wide as what was wanted
full_narrow : {among : ℕ → ℤ → Type 0} {lumps : ℕ → Type 0} {dir : DirectoryView} {textures : TexturesView} {z : Heap} (wanted widest : ℕ) → IsFullForTexture among dir.lumps textures z wanted widest ⊎ IsFullFor lumps dir z wanted widest → widest < wanted
full_narrow wanted widest (inl texture) = texture.full.narrow
full_narrow wanted widest (inr lump) = lump.narrow

-- So a zone that is enough for a scene is never full for a view of it.
module _ {v : ShelfView} {dir : DirectoryView} {scene : SceneValue} {x : Heap} (can : CanDrawView dir.lumps scene x) (contents : List (List ℕ)) (count : ℕ) (hold : HoldsArt v dir (textures_view scene) contents scene.base.colormap count x)
    (is : (lump_at dir.lumps scene.base.colormap).size ≡ count) (room : enough dir.lumps (art_of scene) ≤ x.size) where
  never_full : (wanted widest : ℕ) → IsFullForTexture (IsViewTexture scene) dir.lumps (textures_view scene) x wanted widest ⊎ IsFullFor (IsViewLump dir.lumps scene) dir x wanted widest → ⊥
  unfolding art_of
  never_full wanted widest full =
      let colormap_at_rest : IsAtRest scene.base.colormap (lump_at dir.lumps scene.base.colormap).size x = subst (λ n. IsAtRest scene.base.colormap n x) (sym is) hold.rest in
      let size_below_enough = full-small dir.lumps (art_with scene (book_lumps scene.book ++ [])) x.size wanted widest (full_narrow wanted widest full) (view_full contents dir scene [] x can hold.prepared colormap_at_rest wanted widest full) in
      let below_enough : x.size < enough dir.lumps (art_with scene (book_lumps scene.book)) = subst (λ pictures. x.size < enough dir.lumps (art_with scene pictures)) (append-nil (book_lumps scene.book)) size_below_enough in
      let enough_below_size : enough dir.lumps (art_with scene (book_lumps scene.book)) ≤ x.size = room in
      omega (arith, below_enough, enough_below_size)

  pub enough-view : {A : Type 0} {w : ShelfView} {y : Heap} (result : Result A ViewFault) → DrawsWith view_fault (IsViewTexture scene) (IsViewLump dir.lumps scene) v w dir (textures_view scene) x y result →
      IfErr result (λ fault. IfFull (view_fault fault) (λ wanted widest. ⊥))
  enough-view (Ok answer) draws = tt
  enough-view (Err fault) draws = full_at (view_fault fault) never_full draws.full

  -- where no read failed either, a limit ends it
  pub complete-view : {A : Type 0} {w : ShelfView} {y : Heap} (result : Result A ViewFault) → DrawsWith view_fault (IsViewTexture scene) (IsViewLump dir.lumps scene) v w dir (textures_view scene) x y result →
      IfErr result (λ fault. fault ≢ ReadFault → IsSome (limit_of_view fault))
  complete-view (Ok answer) draws = tt
  complete-view (Err fault) draws = complete_at fault (enough-view (Err fault) draws)
