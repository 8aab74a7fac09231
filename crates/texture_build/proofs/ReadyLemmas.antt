-- What a column is read from, made live: by each kind of column.
use Rattle.art_rules.proofs.Common.{Bool, eqb-true, Err, false, IfErr, IfSome, inl, length, List, None, Ok, OnErr, OnOk, Option, refl, Result, Some, subst, sym, true, ℕ, ◌<◌, ◌==◌, ◌≡◌}
use Rattle.texture_build.specs.Rules.{Lump, PreparedTexture, ShelfView, Single, lump_at, lump_bytes}
use Rattle.lump_cache.specs.Zones.{Block, Heap, IsLive, block_size, bytes_of, owned_block}
use Rattle.lump_cache.specs.{DirectoryView.DirectoryView, declared.fault.CacheFault.CacheFault}
use Rattle.lump_cache.specs.declared.fault.CacheFault.TheVariants.{ZoneFull, ReadFault}
use Rattle.lump_cache.specs.Caches.{IsAtRest, KeptOrPurged, NoRoom, WhereFull, cache_fault, composite_owner, lump_owner}
use Rattle.lump_cache.proofs.FaithLemmas.{bytes_in, kept_bytes}
use Rattle.lump_cache.specs.{Calls.IfFull, Fetches.FetchesLump, Sizes.IsGapBeside}
use Rattle.lump_cache.proofs.FetchLemmas.{fetch_gap, fetch_no_room, fetch_reads}
use Rattle.lump_cache.specs.{Tag.TheVariants.Cache, Orders.has_item}
use Rattle.texture_build.specs.{Asked.IsFullForColumn, Builds.OthersKeep}
use Rattle.texture_build.specs.Composites.{AreComposites, composite_of}
use Rattle.texture_build.specs.{Ready.MakesColumnLive, Views.TexturesView, Views.prepared_at}
use Rattle.texture_build.proofs.BuildLemmas.{narrow_where}

-- the zone was full for the lump of a column
pub single_full : (lumps : List Lump) (number : ℕ) (t : PreparedTexture) (lump place : ℕ) (z : Heap) (r : Result (Unit {0}) CacheFault) → WhereFull r (NoRoom (lump_at lumps lump).size z) →
    ((colormap size : ℕ) → IsAtRest colormap size z → WhereFull r (λ wanted widest'. IsGapBeside z.size (block_size size) widest')) → IfErr r (λ fault. IfFull (cache_fault fault) (IsFullForColumn lumps number t (Single lump place) z))
single_full lumps number t lump place z (Ok done) full gap = tt
single_full lumps number t lump place z (Err ReadFault) full gap = tt
single_full lumps number t lump place z (Err (ZoneFull wanted widest')) full gap = record {
  owner = lump_owner lump;
  size = (lump_at lumps lump).size;
  asked = (refl, refl);
  wanted_is = full.wanted_is;
  narrow = narrow_where (lump_at lumps lump).size z wanted widest' full;
  gap = λ colormap count rest. inl (gap colormap count rest);
}

-- composites that were kept or purged
module _ (bytes : ℕ → List ℕ) (textures : TexturesView) (old new : Heap) where
  abbrev is_its : ℕ → Heap → Option PreparedTexture → Type 0
  is_its n z prepared = IfSome prepared (λ t. IfSome (bytes_of (composite_owner n) z.blocks) (λ xs. xs ≡ composite_of bytes t))

  pub composites_kept : ((n : ℕ) → KeptOrPurged (owned_block (composite_owner n) old.blocks) (owned_block (composite_owner n) new.blocks)) → AreComposites bytes textures old → AreComposites bytes textures new
  composites_kept kept k = record { at = λ n. go n (prepared_at textures.prepared n) (k.at n) } where
    go : (n : ℕ) (prepared : Option PreparedTexture) → is_its n old prepared → is_its n new prepared
    go n None h = tt
    go n (Some t) h = kept_bytes (owned_block (composite_owner n) old.blocks) (owned_block (composite_owner n) new.blocks) (λ xs. xs ≡ composite_of bytes t) (kept n) h

  -- and where one was built
  others_are : (x y : Option (List ℕ)) (P : List ℕ → Type 0) → IfSome y (λ xs. x ≡ Some xs) → IfSome x P → IfSome y P
  others_are x None P h k = tt
  others_are x (Some xs) P h k = subst (λ (z : Option (List ℕ)). IfSome z P) h k

  pub composites_built : (number : ℕ) (t : PreparedTexture) → prepared_at textures.prepared number ≡ Some t → OthersKeep number old new → IfSome (bytes_of (composite_owner number) new.blocks) (λ xs. xs ≡ composite_of bytes t) → AreComposites bytes textures old → AreComposites bytes textures new
  composites_built number t is others here k = record { at = λ n. go n (number == n) refl } where
    beside : (n : ℕ) (prepared : Option PreparedTexture) → (number == n) ≡ false → is_its n old prepared → is_its n new prepared
    beside n None apart h = tt
    beside n (Some u) apart h = others_are (bytes_of (composite_owner n) old.blocks) (bytes_of (composite_owner n) new.blocks) (λ xs. xs ≡ composite_of bytes u) (others.at n apart) h

    go : (n : ℕ) (b : Bool) → (number == n) ≡ b → is_its n new (prepared_at textures.prepared n)
    go n false e = beside n (prepared_at textures.prepared n) e (k.at n)
    go n true e = subst (λ m. is_its m new (prepared_at textures.prepared m)) (eqb-true number n e) (subst (is_its number new) (sym is) here)

-- the lump of a column was fetched
pub readies_single : {dir : DirectoryView} {view after : ShelfView} {old new : Heap} {result : Result (Unit {0}) CacheFault} (number : ℕ) (t : PreparedTexture) (lump place : ℕ) → lump < length dir.lumps →
    FetchesLump dir lump Cache view after old new result → OnOk result (IsLive new (lump_owner lump)) → MakesColumnLive number t (Single lump place) view after dir old new result
readies_single {dir} {view} {after} {old} {new} {result} number t lump place there f live =
    let lump_read = fetch_reads f there in record {
      answers = f.answers;
      live = live;
      follows = f.follows;
      causes = f.causes;
      counts = lump_read.keeps.counts;
      rest = lump_read.keeps.rest;
      faithful = lump_read.keeps.faithful;
      composites = λ contents textures is hold k. composites_kept (lump_bytes contents dir.lumps) textures old new (λ n. f.others (composite_owner n) refl) k;
      empty = not_composed result (owned_block (composite_owner number) new.blocks ≡ None);
      full = single_full dir.lumps number t lump place old result (fetch_no_room f) (fetch_gap f);
      order = λ items all k. lump_read.order items (λ n is. subst (λ m. has_item items (lump_owner m) (lump_at dir.lumps m).size ≡ true) (sym is) (all (lump_owner lump) (lump_at dir.lumps lump).size (refl, refl))) k;
    } where
      not_composed : (r : Result (Unit {0}) CacheFault) (P : Type 0) → OnErr r (⊥ → P)
      not_composed (Ok done) P = tt
      not_composed (Err fault) P = λ none. absurd none

-- what stands in the slot of a composite that was built, or was not
pub built_here : {A E : Type 0} (r : Result A E) (b : Option Block) (ys : List ℕ) → OnOk r (bytes_in b ≡ Some ys) → OnErr r (b ≡ None) → IfSome (bytes_in b) (λ xs. xs ≡ ys)
built_here (Ok value) b ys built empty = subst (λ (z : Option (List ℕ)). IfSome z (λ xs. xs ≡ ys)) (sym built) refl
built_here (Err fault) b ys built empty = subst (λ (z : Option Block). IfSome (bytes_in z) (λ xs. xs ≡ ys)) (sym empty) tt
