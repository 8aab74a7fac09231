-- What stays while views are drawn.
use Rattle.picture_rules.proofs.Common.{ap, Bool, Contains, inl, inr, length, List, Option, refl, subst, sym, ℕ, ◌∙◌, ◌≡◌, ◌⊎◌, ℤ}
use Rattle.doom_run.specs.Rules.{Frame, Heap, LevelJobValue, Limits, Lump, ShelfView, block_size, lump_bytes}
use Rattle.texture_build.specs.{DirectoryView.DirectoryView, Caches.KeepsCounts, Calls.IsFullFor}
use Rattle.texture_build.specs.Sizes.{IsGapBeside}
use Rattle.texture_build.specs.Asked.{IsGapBesideComposite, IsPatch, size_of}
use Rattle.texture_build.specs.Sources.{IsComposedColumn, column_in}
use Rattle.texture_build.specs.Views.{TexturesView, prepared_texture}
use Rattle.texture_build.specs.Draws.{HoldsArt, IsFullForTexture, KeepsArt}
use Rattle.texture_build.proofs.DrawLemmas.{holds_art-later, keeps_art-none, keeps_art-then}
use Rattle.sound_scene.specs.{Sound.SoundValue, Sound.textures_view, Pictures.scene_of}
use Rattle.job_files.specs.{declared.read.SceneFiles.SceneFiles, Files.value_of}
use Rattle.level_audit.specs.Weapons.{AreThere}
use Rattle.level_audit.specs.scene_load.Loads.{loaded_value, weapon_lumps}
use Rattle.frame_core.specs.Views.{CanDrawView, IsViewLump, IsViewTexture}
use Rattle.frame_core.proofs.PaintLemmas.{can_draw_view-later}
use Rattle.job_files.specs.declared.status.Status.{Status}
use Rattle.doom_run.specs.declared.render.ReadyViews.{ReadyViews}
use Rattle.doom_run.specs.{Frames.KeepsReady, Frames.ViewEnds, declared.form.ViewForm.ViewForm}
use Rattle.doom_run.specs.Renders.{HoldsReady, IsDrawable, IsFullView, IsLayerLump, IsReady, ready_bytes, ready_views}
use Rattle.doom_run.specs.{Layers.seen_view, Layers.seen_views, Views.ViewsValue, Views.views_of}
use Rattle.doom_run.proofs.SeenLemmas.{seen_from-length}

-- the views of a ready scene are those of what was loaded
pub ready_as : (bytes : ℕ → List ℕ) (level : LevelJobValue) (ready : ReadyViews) → IsReady level ready → views_of bytes level.settings (loaded_value ready.loaded) ≡ ready_views bytes ready
unfolding views_of ready_views
ready_as bytes level ready stands =
    ap (λ l. record {
      scene = (ready_views bytes ready).scene;
      views = (ready_views bytes ready).views;
      limits = l;
      palette = (ready_views bytes ready).palette;
    }) (sym stands.limits)

-- nothing was drawn
pub keeps_ready-none : (view : ShelfView) (ready : ReadyViews) → KeepsReady view view ready ready
keeps_ready-none view ready = record {
  files = refl;
  scene = refl;
  weapons = refl;
  limits = refl;
  art = keeps_art-none view ready.loaded.files.dir (textures_view ready.loaded.scene.scene) ready.loaded.cache;
}

keeps_for : {b c : ShelfView} {y z : Heap} (files files' : SceneFiles) (scene scene' : SoundValue) → files' ≡ files → scene' ≡ scene → KeepsArt b c files'.dir (textures_view scene'.scene) y z → KeepsArt b c files.dir (textures_view scene.scene) y z
keeps_for files files' scene scene' f s keeps = rw (← f, ← s) keeps

-- views are drawn after others
pub keeps_ready-then : {a b c : ShelfView} {x y z : ReadyViews} → KeepsReady a b x y → KeepsReady b c y z → KeepsReady a c x z
keeps_ready-then {x = x} {y} one two = record {
  files = two.files ∙ one.files;
  scene = two.scene ∙ one.scene;
  weapons = two.weapons ∙ one.weapons;
  limits = two.limits ∙ one.limits;
  art = keeps_art-then one.art (keeps_for x.loaded.files y.loaded.files x.loaded.scene y.loaded.scene one.files one.scene two.art);
}

can_for : (files files' : SceneFiles) (scene scene' : SoundValue) (y z : Heap) → files' ≡ files → scene' ≡ scene → KeepsCounts y z → CanDrawView files.dir.lumps scene.scene y → CanDrawView files'.dir.lumps scene'.scene z
can_for files files' scene scene' y z f s counts can = rw (f, s) (can_draw_view-later files.dir.lumps scene.scene y z counts can)

layers_for : (files files' : SceneFiles) (weapons weapons' : Option (List Frame)) → files' ≡ files → weapons' ≡ weapons → AreThere files.dir.lumps weapons → AreThere files'.dir.lumps weapons'
layers_for files files' weapons weapons' f w there = rw (f, w) there

-- it may be drawn again
pub drawable-later : {a b : ShelfView} {x y : ReadyViews} → KeepsReady a b x y → IsDrawable x.loaded → IsDrawable y.loaded
drawable-later {x = x} {y} keeps can = (
  can_for x.loaded.files y.loaded.files x.loaded.scene y.loaded.scene x.loaded.cache y.loaded.cache keeps.files keeps.scene keeps.art.counts can.0,
  layers_for x.loaded.files y.loaded.files x.loaded.weapons y.loaded.weapons keeps.files keeps.weapons can.1,
)

abbrev views_with : (ℕ → List ℕ) → SceneFiles → SoundValue → Option (List Frame) → Limits → ViewsValue
views_with bytes files scene weapons limits = record {
  scene = scene_of bytes scene.scene;
  views = seen_views (record { files = value_of files; scene = scene.scene; weapons = weapons });
  limits = limits;
  palette = scene.scene.base.palette;
}

views_for : (bytes : ℕ → List ℕ) (files files' : SceneFiles) (scene scene' : SoundValue) (weapons weapons' : Option (List Frame)) (limits limits' : Limits) →
    files' ≡ files → scene' ≡ scene → weapons' ≡ weapons → limits' ≡ limits → views_with bytes files' scene' weapons' limits' ≡ views_with bytes files scene weapons limits
views_for bytes files files' scene scene' weapons weapons' limits limits' f s w l = rw (f, s, w, l) refl

-- the views are the same
pub views-later : {a b : ShelfView} {x y : ReadyViews} (bytes : ℕ → List ℕ) → KeepsReady a b x y → ready_views bytes y ≡ ready_views bytes x
unfolding ready_views
views-later {x = x} {y} bytes keeps =
    views_for bytes x.loaded.files y.loaded.files x.loaded.scene y.loaded.scene x.loaded.weapons y.loaded.weapons x.shop.limits y.shop.limits keeps.files keeps.scene keeps.weapons keeps.limits

holds_for : {b : ShelfView} {contents : List (List ℕ)} {count : ℕ} {z : Heap} (files files' : SceneFiles) (scene scene' : SoundValue) → files' ≡ files → scene' ≡ scene →
    HoldsArt b files.dir (textures_view scene.scene) contents scene.scene.base.colormap count z → HoldsArt b files'.dir (textures_view scene'.scene) contents scene'.scene.base.colormap count z
holds_for files files' scene scene' f s holds = rw (f, s) holds

-- the art that is there stays
pub holds-later : {a b : ShelfView} {x y : ReadyViews} {contents : List (List ℕ)} {count : ℕ} → KeepsReady a b x y → HoldsReady a x contents count → HoldsReady b y contents count
holds-later {x = x} {y} keeps holds = holds_for x.loaded.files y.loaded.files x.loaded.scene y.loaded.scene keeps.files keeps.scene (holds_art-later keeps.art holds)

full_texture-first : {a b : ShelfView} {dir : DirectoryView} {textures : TexturesView} {y z : Heap} {among : ℕ → ℤ → Type 0} (wanted widest : ℕ) → KeepsArt a b dir textures y z →
    IsFullForTexture among dir.lumps textures z wanted widest → IsFullForTexture among dir.lumps textures y wanted widest
full_texture-first {dir = dir} {textures} wanted widest keeps full = record {
  number = full.number;
  column = full.column;
  is = full.is;
  full = record {
    owner = full.full.owner;
    size = full.full.size;
    asked = full.full.asked;
    wanted_is = full.full.wanted_is;
    narrow = full.full.narrow;
    gap = λ colormap count rest. subst
        (λ (n : ℕ). IsGapBeside n (block_size count) widest
        ⊎ (IsComposedColumn (column_in (prepared_texture textures full.number) full.column)
        × IsPatch dir.lumps (prepared_texture textures full.number) full.full.owner full.full.size
        × IsGapBesideComposite n count (size_of (prepared_texture textures full.number)) widest))
        keeps.counts.0 (full.full.gap colormap count (keeps.rest colormap count rest));
  };
}

full_lump-first : {a b : ShelfView} {dir : DirectoryView} {textures : TexturesView} {y z : Heap} {pictures : ℕ → Type 0} (wanted widest : ℕ) → KeepsArt a b dir textures y z →
    IsFullFor pictures dir z wanted widest → IsFullFor pictures dir y wanted widest
full_lump-first wanted widest keeps full = record {
  lump = full.lump;
  asked = full.asked;
  wanted_is = full.wanted_is;
  narrow = full.narrow;
  gap = λ colormap count rest. subst (λ (n : ℕ). IsGapBeside n (block_size count) widest) keeps.counts.0 (full.gap colormap count (keeps.rest colormap count rest));
}

full_view-first : {a b : ShelfView} {y z : Heap} (files files' : SceneFiles) (scene scene' : SoundValue) (weapons weapons' : Option (List Frame)) (wanted widest : ℕ) → files' ≡ files → scene' ≡ scene → weapons' ≡ weapons → KeepsArt a b files.dir (textures_view scene.scene) y z →
    (IsFullForTexture (IsViewTexture scene'.scene) files'.dir.lumps (textures_view scene'.scene) z wanted widest ⊎ IsFullFor (IsViewLump files'.dir.lumps scene'.scene) files'.dir z wanted widest ⊎ IsFullFor (λ lump. Contains (weapon_lumps weapons') lump) files'.dir z wanted widest) →
    (IsFullForTexture (IsViewTexture scene.scene) files.dir.lumps (textures_view scene.scene) y wanted widest ⊎ IsFullFor (IsViewLump files.dir.lumps scene.scene) files.dir y wanted widest ⊎ IsFullFor (λ lump. Contains (weapon_lumps weapons) lump) files.dir y wanted widest)
full_view-first files files' scene scene' weapons weapons' wanted widest f s w keeps (inl full) = inl (full_texture-first wanted widest keeps (rw (← f, ← s) full))
full_view-first files files' scene scene' weapons weapons' wanted widest f s w keeps (inr (inl full)) = inr (inl (full_lump-first wanted widest keeps (rw (← f, ← s) full)))
full_view-first files files' scene scene' weapons weapons' wanted widest f s w keeps (inr (inr full)) = inr (inr (full_lump-first wanted widest keeps (rw (← f, ← w) full)))

-- a zone that was full later was so from the beginning
pub full-first : {a b : ShelfView} {x y : ReadyViews} (wanted widest : ℕ) → KeepsReady a b x y → IsFullView y wanted widest → IsFullView x wanted widest
full-first {x = x} {y} wanted widest keeps full =
    full_view-first x.loaded.files y.loaded.files x.loaded.scene y.loaded.scene x.loaded.weapons y.loaded.weapons wanted widest keeps.files keeps.scene keeps.weapons keeps.art full

-- a zone that was full for a lump of either kind
full_by : {dir : DirectoryView} {z : Heap} {wanted widest' : ℕ} (P Q : ℕ → Type 0) (full : IsFullFor (λ lump. P lump ⊎ Q lump) dir z wanted widest') → P full.lump ⊎ Q full.lump → IsFullFor P dir z wanted widest' ⊎ IsFullFor Q dir z wanted widest'
full_by P Q full (inl asked) = inl (record { lump = full.lump; asked = asked; wanted_is = full.wanted_is; narrow = full.narrow; gap = full.gap })
full_by P Q full (inr asked) = inr (record { lump = full.lump; asked = asked; wanted_is = full.wanted_is; narrow = full.narrow; gap = full.gap })

-- the zone in which a view found no gap, or one of its layers
abbrev pub FullEither : ReadyViews → ℕ → ℕ → Type 0
FullEither ready wanted widest' =
    IsFullForTexture (IsViewTexture ready.loaded.scene.scene) ready.loaded.files.dir.lumps (textures_view ready.loaded.scene.scene) ready.loaded.cache wanted widest'
    ⊎ IsFullFor (λ lump. IsViewLump ready.loaded.files.dir.lumps ready.loaded.scene.scene lump ⊎ IsLayerLump ready.loaded lump) ready.loaded.files.dir ready.loaded.cache wanted widest'

pub full_view : (ready : ReadyViews) (wanted widest' : ℕ) → FullEither ready wanted widest' → IsFullView ready wanted widest'
full_view ready wanted widest' (inl texture) = inl texture
full_view ready wanted widest' (inr lump) = inr (full_by (IsViewLump ready.loaded.files.dir.lumps ready.loaded.scene.scene) (IsLayerLump ready.loaded) lump lump.asked)

-- there are as many views as rows of the path
pub views_count : (bytes : ℕ → List ℕ) (ready : ReadyViews) → length (ready_views bytes ready).views ≡ length ready.loaded.files.path
unfolding ready_views
views_count bytes ready = seen_from-length (seen_view (loaded_value ready.loaded)) 0 ready.loaded.files.path

ends_for : (form : ViewForm) (n : ℕ) (old new : List ℕ → Type 0) (status : Status) (steady steady' : Bool) (lumps lumps' : List Lump) (contents : List (List ℕ)) (r r' : (ℕ → List ℕ) → ViewsValue) →
    steady' ≡ steady → lumps' ≡ lumps → ((bytes : ℕ → List ℕ) → r' bytes ≡ r bytes) →
    ViewEnds steady' form (r' (lump_bytes contents lumps')) n old new status → ViewEnds steady form (r (lump_bytes contents lumps)) n old new status
ends_for form n old new status steady steady' lumps lumps' contents r r' s l e ends =
    rw (← s, ← e (lump_bytes contents lumps), ← l) ends

-- how a view ends is told of the views as they were first, and of the form that the canvas had then
pub view_ends-later : {a b : ShelfView} {x y : ReadyViews} (form form' : ViewForm) (n : ℕ) (old new : List ℕ → Type 0) (status : Status) (contents : List (List ℕ)) → KeepsReady a b x y → form' ≡ form →
    ViewEnds b.steady form' (ready_views (ready_bytes contents y) y) n old new status → ViewEnds a.steady form (ready_views (ready_bytes contents x) x) n old new status
view_ends-later {a} {b} {x} {y} form form' n old new status contents keeps same ends =
    ends_for form n old new status a.steady b.steady x.loaded.files.dir.lumps y.loaded.files.dir.lumps contents (λ bytes. ready_views bytes x) (λ bytes. ready_views bytes y) keeps.art.follows.steady
    (ap (λ (files : SceneFiles). files.dir.lumps) keeps.files) (λ bytes. views-later bytes keeps)
    (subst (λ (f : ViewForm). ViewEnds b.steady f (ready_views (ready_bytes contents y) y) n old new status) same ends)
