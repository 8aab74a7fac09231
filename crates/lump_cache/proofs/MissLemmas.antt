-- What a fetch does for an empty slot, by what its request for a block and its read did.
use Rattle.zone_rules.proofs.Common.{◌≡◌, ℕ, ◌<◌, false, List, None, Result, Ok, Err, refl, sym, ap, ◌∙◌, inl, All, IfSome, IsNone, IsTrue, OnOk, OnErr, ⊤, false≢true}
use Rattle.lump_cache.specs.Rules.{AllWithin, FaultsRose, HasCauses, Heap, IsLaterShelf, IsLive, IsSound, NameFiles, Owner, ResultIs, ShelfView, Tag, TakesBlock, block_size, bytes_of, counted, gaps, holding_of, lump_at, lump_bytes, owned_block, same_owner, total, without_room}
use Rattle.outside.proofs.ShelfLemmas.{follows_none}
use Rattle.wad_dir.specs.DirectoryView.{DirectoryView}
use Rattle.lump_cache.specs.declared.fault.CacheFault.{CacheFault}
use Rattle.lump_cache.specs.declared.fault.CacheFault.TheVariants.{ZoneFull, ReadFault}
use Rattle.lump_cache.specs.Caches.{GivesBack, KeptOrPurged, MatchAnswer, NoRoom, cache_fault, lump_owner, with_tag_unless_static}
use Rattle.lump_cache.specs.Fetches.{FetchesLump, IsVacant}
use Rattle.lump_cache.proofs.{FaithLemmas.none_bytes, FillLemmas.unless_static_others}

module _ (dir : DirectoryView) (lump : ℕ) (tag : Tag) (view : ShelfView) (old : Heap) (sound : IsSound old) where
  abbrev owner : Owner
  owner = lump_owner lump

  abbrev size : ℕ
  size = (lump_at dir.lumps lump).size

  abbrev Others : Heap → Type 0
  Others new = (o : Owner) → same_owner owner o ≡ false → KeptOrPurged (owned_block o old.blocks) (owned_block o new.blocks)

  -- a gap holds the block
  abbrev HasRoom : Type 0
  HasRoom = All (λ g. total g < block_size size) (gaps old.blocks) → ⊥

  -- the slot was live
  pub fetch_hit : (new : Heap) → IsLive old owner → new ≡ with_tag_unless_static owner tag old → FetchesLump dir lump tag view view old new (Ok tt)
  fetch_hit new live is = record {
    sound = sound;
    hit = λ l. (refl, refl, is);
    miss = λ none. absurd (false≢true (sym none ∙ live));
    full = λ none all. absurd (false≢true (sym none ∙ live));
    empty = tt;
    others = λ o apart. inl (ap (λ (z : Heap). owned_block o z.blocks) is ∙ unless_static_others owner o tag old apart);
    bytes = λ contents stand none. absurd (false≢true (sym none ∙ live));
    taken = λ none. absurd (false≢true (sym none ∙ live));
    untouched = λ zero. refl;
    follows = follows_none view;
    causes = record { ok = refl; err = tt };
    answers = λ contents stand within. record { ok = refl; err = tt };
  }

  -- a fetch for an empty slot, by its parts
  missed : (after : ShelfView) (new : Heap) (result : Result (Unit {0}) CacheFault) → IsNone (holding_of owner old.blocks) →
      MatchAnswer result (TakesBlock old new owner size tag) (λ wanted widest'. NoRoom size old wanted widest' × (new ≡ without_room (block_size size) old)) (GivesBack old new owner size tag) →
      (All (λ g. total g < block_size size) (gaps old.blocks) → MatchAnswer result ⊥ (λ wanted widest'. ⊤) ⊥) → OnErr result (owned_block owner new.blocks ≡ None) → Others new →
      ((contents : List (List ℕ)) → NameFiles view dir.files contents → IfSome (bytes_of owner new.blocks) (λ xs. xs ≡ lump_bytes contents dir.lumps lump)) →
      OnOk result (IsVacant lump old → 0 < size → after.taken ≡ counted view.taken size) → (size ≡ 0 → after ≡ view) → IsLaterShelf view after → HasCauses cache_fault view.faults after.faults result →
      ((contents : List (List ℕ)) → NameFiles view dir.files contents → AllWithin contents dir.lumps → ResultIs cache_fault view.steady (λ done. done) (Ok tt) result) → FetchesLump dir lump tag view after old new result
  missed after new result none miss full empty others bytes taken untouched follows causes answers = record {
    sound = sound;
    hit = λ live. absurd (false≢true (sym none ∙ live));
    miss = λ n. miss;
    full = λ n all. full all;
    empty = empty;
    others = others;
    bytes = λ contents stand n. bytes contents stand;
    taken = taken;
    untouched = untouched;
    follows = follows;
    causes = causes;
    answers = answers;
  }

  module _ (new : Heap) (none : IsNone (holding_of owner old.blocks)) (others : Others new) where
    no_bytes : owned_block owner new.blocks ≡ None → (contents : List (List ℕ)) → IfSome (bytes_of owner new.blocks) (λ xs. xs ≡ lump_bytes contents dir.lumps lump)
    no_bytes empty contents = none_bytes owner new.blocks (λ xs. xs ≡ lump_bytes contents dir.lumps lump) empty

    -- no gap held the block
    pub miss_full : (wanted widest' : ℕ) → NoRoom size old wanted widest' → new ≡ without_room (block_size size) old → owned_block owner new.blocks ≡ None → FetchesLump dir lump tag view view old new (Err (ZoneFull wanted widest'))
    miss_full wanted widest' room left empty =
        missed view new _ none (room, left) (λ all. tt) empty others (λ contents stand. no_bytes empty contents) tt (λ zero. refl) (follows_none view)
        (record { ok = tt; err = refl }) (λ contents stand within. record { ok = tt; err = tt })

    module _ (after : ShelfView) (room : HasRoom) (follows : IsLaterShelf view after) where
      -- the block was taken, and filled
      pub miss_ok : TakesBlock old new owner size tag → ((contents : List (List ℕ)) → NameFiles view dir.files contents → IfSome (bytes_of owner new.blocks) (λ xs. xs ≡ lump_bytes contents dir.lumps lump)) →
          (0 < size → after.taken ≡ counted view.taken size) → (size ≡ 0 → after ≡ view) → after.faults ≡ view.faults → FetchesLump dir lump tag view after old new (Ok tt)
      miss_ok takes bytes taken untouched settled =
          missed after new _ none takes (λ all. room all) tt others bytes (λ n. taken) untouched follows
          (record { ok = settled; err = tt }) (λ contents stand within. record { ok = refl; err = tt })

      -- the block was taken, and given back after a read that failed
      pub miss_read : GivesBack old new owner size tag → owned_block owner new.blocks ≡ None → (size ≡ 0 → ⊥) → FaultsRose view.faults after.faults → ((contents : List (List ℕ)) → NameFiles view dir.files contents → AllWithin contents dir.lumps → IsTrue view.steady → ⊥) → FetchesLump dir lump tag view after old new (Err ReadFault)
      miss_read back empty some rose steady =
          missed after new _ none back (λ all. room all) empty others (λ contents stand. no_bytes empty contents) tt (λ zero. absurd (some zero)) follows
          (record { ok = tt; err = rose }) (λ contents stand within. record { ok = tt; err = steady contents stand within })
