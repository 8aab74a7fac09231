-- Lumps that are fetched by name and then judged by their bytes.
use Rattle.std.proofs.Common.{◌≡◌, ◌<◌, ◌≤◌, ℕ, ◌+◌, false, true, List, length, Option, Result, Ok, Err, refl, sym, ap, ◌∙◌, IfSome, IsErrAnd, OnOk}
use Rattle.texture_lists.specs.Rules.{Fault, LumpNo, OutOfMemory, PNAMES, ReadFault, Refused, ResultIs, ShelfView, TEXTURE1, TEXTURE2, TexRefusal, ZoneFull, filled, itself, last_of, lump_bytes, name_of, named_bytes}
use Rattle.lump_cache.specs.Zones.{Heap, IsLive, block_size, owned_block, same_owner}
use Rattle.lump_cache.specs.{DirectoryView.DirectoryView, Caches.HasStatic, Caches.lump_owner}
use Rattle.lump_cache.specs.{Calls.ReadsLumps, Calls.HoldContents, Named.IsLast, Named.live_bytes}
use Rattle.lump_cache.specs.Sizes.{StandsBeside}
use Rattle.lump_cache.proofs.CallLemmas.{reads_stop_first, reads_short, reads_then_refused, reads_then_found}
use Rattle.texture_lists.specs.{Asked.lump_number, Parts.IsOfBytes}
use Rattle.texture_lists.proofs.BesideLemmas.{list_beside}

-- the names of the lists are in capitals
pub pnames_name : name_of PNAMES ≡ PNAMES
unfolding filled
pnames_name = refl

pub texture1_name : name_of TEXTURE1 ≡ TEXTURE1
unfolding filled
texture1_name = refl

pub texture2_name : name_of TEXTURE2 ≡ TEXTURE2
unfolding filled
texture2_name = refl

-- a call that ends with what reads nothing
pub tells_end : {A B C D : Type 0} {v w : ShelfView} {dir : DirectoryView} {a b : Heap} {wants some : ℕ → Type 0} {value : B → A} {first : D → C} {before : (ℕ → List ℕ) → Result C TexRefusal} {found : D} (expected : (ℕ → List ℕ) → Result A TexRefusal) (result : Result B (Fault TexRefusal)) →
    ReadsLumps itself v w dir a b some first before (Ok found) → ((lump : ℕ) → some lump → wants lump) → IsOfBytes result →
    ((contents : List (List ℕ)) → HoldContents v dir a contents → before (lump_bytes contents dir.lumps) ≡ Ok (first found) → ResultIs itself true value (expected (lump_bytes contents dir.lumps)) result) →
    ReadsLumps itself v w dir a b wants value expected result
tells_end expected (Ok got) one among of_bytes judged = reads_then_found got among one (λ contents t is. (judged contents t is).ok)
tells_end expected (Err (Refused refusal)) one among of_bytes judged = reads_then_refused (Refused refusal) refusal refl among one (λ contents t is. (judged contents t is).err)
tells_end expected (Err ReadFault) one among of_bytes judged = absurd of_bytes
tells_end expected (Err (ZoneFull wanted widest')) one among of_bytes judged = absurd of_bytes
tells_end expected (Err OutOfMemory) one among of_bytes judged = reads_short OutOfMemory refl among one

module _ {A B : Type 0} {v w : ShelfView} {dir : DirectoryView} {a b : Heap} {name key : List ℕ} {value : B → A} (judge : Option (List ℕ) → Result A TexRefusal) (same : name ≡ key) where
  -- the lump was not fetched
  pub fetch_stopped : (fetched : Result (Option LumpNo) (Fault TexRefusal)) (fault : Fault TexRefusal) (result : Result B (Fault TexRefusal)) →
      ReadsLumps itself v w dir a b (IsLast dir.lumps name) lump_number (λ bytes. Ok (last_of dir.lumps name)) fetched →
      fetched ≡ Err fault → IsErrAnd result (λ e. e ≡ fault) → ReadsLumps itself v w dir a b (IsLast dir.lumps key) value (λ bytes. judge (named_bytes bytes dir.lumps key)) result
  fetch_stopped fetched fault result one was is =
      reads_stop_first (λ bytes. judge (named_bytes bytes dir.lumps key)) fetched fault result one was is (λ lump s. ap (last_of dir.lumps) (sym same) ∙ s) (λ bytes e stopped. absurd (cc))

  -- the lump was fetched, if there is one, and stands beside the colormap
  pub fetch_judged : (lump : Option LumpNo) (lent : Option (List ℕ)) (result : Result B (Fault TexRefusal)) →
      ReadsLumps {R = TexRefusal} itself v w dir a b (IsLast dir.lumps name) lump_number (λ bytes. Ok (last_of dir.lumps name)) (Ok lump) →
      lump_number lump ≡ last_of dir.lumps name → IfSome lump (λ l. l.0 < length dir.lumps) → IfSome lump (λ l. IsLive b (lump_owner l.0)) →
      ((contents : List (List ℕ)) → HoldContents v dir a contents → live_bytes lump b ≡ named_bytes (lump_bytes contents dir.lumps) dir.lumps name) → lent ≡ live_bytes lump b →
      ((colormap count : ℕ) → HasStatic count (owned_block (lump_owner colormap) b.blocks) → IfSome lump (λ l. same_owner (lump_owner colormap) (lump_owner l.0) ≡ false) → IfSome lent (λ bytes. block_size count + block_size (length bytes) ≤ b.size)) →
      ResultIs itself true value (judge lent) result → IsOfBytes result →
      ReadsLumps itself v w dir a b (IsLast dir.lumps key) value (λ bytes. judge (named_bytes bytes dir.lumps key)) result
      × OnOk result ((number : ℕ) → IsLast dir.lumps key number → StandsBeside dir.lumps a number)
  fetch_judged lump lent result one found there live bytes is fits judged of_bytes = (
    tells_end (λ bytes. judge (named_bytes bytes dir.lumps key)) result one (λ lump s. ap (last_of dir.lumps) (sym same) ∙ s) of_bytes
        (λ contents t last. rw (← ap (named_bytes (lump_bytes contents dir.lumps) dir.lumps) same, ← bytes contents t, ← is) judged),
    list_beside same lump lent result one.keeps found there live is fits,
  )
