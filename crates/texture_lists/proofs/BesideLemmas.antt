-- A list of textures that was fetched by name stands beside the colormap.
use Rattle.art_rules.proofs.Common.{ap, Err, false, IfSome, length, List, Ok, OnOk, Option, option_map, Result, ℕ, ◌+◌, ◌<◌, ◌∙◌, ◌≡◌, ◌≤◌}
use Rattle.art_rules.specs.Words.{last_of, LumpNo, ShelfView}
use Rattle.lump_cache.specs.Zones.{Heap, IsLive, block_size, owned_block, same_owner}
use Rattle.lump_cache.specs.{DirectoryView.DirectoryView, Caches.HasStatic, Caches.lump_owner}
use Rattle.lump_cache.specs.{Calls.PreservesCache, Named.IsLast, Named.live_bytes}
use Rattle.lump_cache.specs.Sizes.{StandsBeside}
use Rattle.lump_cache.proofs.SizeLemmas.{beside_earlier, beside_named}

-- whatever a call of that outcome gives
pub on_ok : {A E P : Type 0} (r : Result A E) → P → OnOk r P
on_ok (Ok found) p = p
on_ok (Err fault) p = tt

-- the last lump of a name was made live and lent
pub list_beside : {A E : Type 0} {v w : ShelfView} {dir : DirectoryView} {a b : Heap} {name key : List ℕ} → name ≡ key → (lump : Option LumpNo) (lent : Option (List ℕ)) (result : Result A E) → PreservesCache v w dir a b →
    option_map (λ (l : LumpNo). l.0) lump ≡ last_of dir.lumps name → IfSome lump (λ l. l.0 < length dir.lumps) → IfSome lump (λ l. IsLive b (lump_owner l.0)) → lent ≡ live_bytes lump b →
    ((colormap count : ℕ) → HasStatic count (owned_block (lump_owner colormap) b.blocks) → IfSome lump (λ l. same_owner (lump_owner colormap) (lump_owner l.0) ≡ false) → IfSome lent (λ bytes. block_size count + block_size (length bytes) ≤ b.size)) →
    OnOk result ((number : ℕ) → IsLast dir.lumps key number → StandsBeside dir.lumps a number)
list_beside {dir} {b} {name} same lump lent result keeps found there live is fits =
    on_ok result (λ number last. beside_earlier number keeps (beside_named dir.lumps name b lump lent found there live is fits number (ap (last_of dir.lumps) same ∙ last)))
