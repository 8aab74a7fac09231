-- A part of the file behind those before it: its lump is fetched, and its bytes are written.
use Rattle.art_rules.proofs.Common.{◌≡◌, ◌<◌, ◌+◌, ◌++◌, ◌∙◌, ℕ, All, ap, append-nil, drop, Err, get_or, IsErrAnd, length, List, Ok, Result, Some, subst, suc, sym}
use Rattle.wad_trim.specs.Rules.{Copy, Failed, HEADER_SIZE, Heap, IsLive, LumpNo, ShelfView, TrimPart, Writes, bytes_of, lump_bytes, part_bytes, trimmed_file}
use Rattle.texture_build.specs.{DirectoryView.DirectoryView, CacheFault.CacheFault}
use Rattle.texture_build.specs.Caches.{cache_fault, lump_owner}
use Rattle.texture_build.specs.Calls.{HoldContents, ReadsLumps}
use Rattle.texture_build.proofs.CallLemmas.{told_later}
use Rattle.wad_trim.specs.declared.fault.TrimWrite.{TrimWrite}
use Rattle.wad_trim.specs.{declared.fault.TrimWrite.TheVariants.WriteFault, Faults.write_of_cache}
use Rattle.wad_trim.specs.Plans.{entries_from}
use Rattle.wad_trim.specs.Writes.{IsCopied, IsPartThere, WritesLumps}
use Rattle.wad_trim.proofs.FileLemmas.{bytes-none, bytes-one, bytes_by, copied-among, file-left, so_far, so_far-more}
use Rattle.wad_trim.proofs.WriteLemmas.{fetch-done, fetch-stopped, lent-bytes, lumps-as, lumps-then, put-done, put-stopped}

module _ {v w : ShelfView} {dir : DirectoryView} {a b : Heap} {p q : List ℕ → Type 0} {n m : ℕ} {lent parts : List TrimPart} (i : ℕ) (part : TrimPart)
    (same : lent ≡ parts) (inside : i < length lent) (at : part ≡ get_or lent i part) (written : WritesLumps v w dir a b p q n m (IsCopied parts) (so_far dir.lumps parts i) (Ok tt)) where
  l : i < length parts
  l = subst (λ (ps : List TrimPart). i < length ps) same inside

  is : part ≡ get_or parts i part
  is = at ∙ ap (λ (ps : List TrimPart). get_or ps i part) same

  -- one that copies no lump
  pub copied-none : ((lump : LumpNo) → part ≡ Copy lump → ⊥) → WritesLumps v w dir a b p q n m (IsCopied parts) (so_far dir.lumps parts (i + 1)) (Ok tt)
  copied-none other =
      lumps-as (Ok tt) (so_far dir.lumps parts (i + 1)) written (λ number s. s)
      (λ contents hold. sym (append-nil _) ∙ ap (λ (bs : List ℕ). so_far dir.lumps parts i (lump_bytes contents dir.lumps) ++ bs) (sym (bytes-none part other (lump_bytes contents dir.lumps)))
      ∙ so_far-more dir.lumps (lump_bytes contents dir.lumps) parts i part l is)

  module _ {x : ShelfView} {c : Heap} {fetched : Result (Unit {0}) CacheFault} (lump : LumpNo) (copy : part ≡ Copy lump) (all : All (IsPartThere (length dir.lumps)) parts)
      (fetch : lump.0 < length dir.lumps → ReadsLumps cache_fault w x dir b c (λ number. number ≡ lump.0) (λ (done : Unit {0}). done) (λ bytes. Ok tt) fetched) where
    there : lump.0 < length dir.lumps
    there = subst (IsPartThere (length dir.lumps)) (sym is ∙ copy) (all i part l)

    -- its lump is not fetched
    pub fetch-failed : (result : Result (Unit {0}) TrimWrite) (fault : CacheFault) → fetched ≡ Err fault → IsErrAnd result (λ above. above ≡ write_of_cache fault) →
        WritesLumps v x dir a c p q n m (IsCopied parts) (λ bytes. trimmed_file bytes dir.lumps parts) result
    fetch-failed result fault was given =
        lumps-then result (λ bytes. trimmed_file bytes dir.lumps parts) written
        (fetch-stopped q m result (λ bytes. part_bytes bytes part ++ (bytes_by bytes (drop (suc i) parts) ++ entries_from dir.lumps HEADER_SIZE parts)) (fetch there) fault was given)
        (λ number s. s) (copied-among parts i part lump l is copy)
        (λ contents hold. file-left contents dir.lumps hold.within parts i part l is all)

    module _ {r : List ℕ → Type 0} {k : ℕ} {piece : List ℕ} {put : Result (Unit {0}) Failed} (unit : Unit {0}) (was : fetched ≡ Ok unit) (live : IsLive c (lump_owner lump.0))
        (held : bytes_of (lump_owner lump.0) c.blocks ≡ Some piece) (writes : Writes q r m k piece put) where
      behind : WritesLumps v x dir a c p q n m (IsCopied parts) (so_far dir.lumps parts i) (Ok tt)
      behind =
          lumps-then (Ok tt) (so_far dir.lumps parts i) written (fetch-done q m (fetch there) unit was) (λ number s. s) (copied-among parts i part lump l is copy)
          (λ contents hold. append-nil _)

      piece-is : (contents : List (List ℕ)) → HoldContents v dir a contents → piece ≡ part_bytes (lump_bytes contents dir.lumps) part
      piece-is contents hold =
          lent-bytes x dir c lump.0 piece there live held contents (told_later behind.keeps hold) ∙ bytes-one part lump copy (lump_bytes contents dir.lumps)

      -- its bytes are written
      pub piece-put : (done : Unit {0}) → put ≡ Ok done → WritesLumps v x dir a c p r n k (IsCopied parts) (so_far dir.lumps parts (i + 1)) (Ok tt)
      piece-put done ok =
          put-done (so_far dir.lumps parts (i + 1)) behind writes done ok
          (λ contents hold. ap (λ (bs : List ℕ). so_far dir.lumps parts i (lump_bytes contents dir.lumps) ++ bs) (piece-is contents hold)
          ∙ so_far-more dir.lumps (lump_bytes contents dir.lumps) parts i part l is)

      -- or not all of them
      pub piece-failed : (result : Result (Unit {0}) TrimWrite) (failed : Failed) → put ≡ Err failed → IsErrAnd result (λ above. above ≡ WriteFault) →
          WritesLumps v x dir a c p r n k (IsCopied parts) (λ bytes. trimmed_file bytes dir.lumps parts) result
      piece-failed result failed err given =
          put-stopped result (λ bytes. bytes_by bytes (drop (suc i) parts) ++ entries_from dir.lumps HEADER_SIZE parts) (λ bytes. trimmed_file bytes dir.lumps parts) behind writes failed err given
          (λ contents hold. ap (λ (bs : List ℕ). so_far dir.lumps parts i (lump_bytes contents dir.lumps) ++ (bs ++ (bytes_by (lump_bytes contents dir.lumps) (drop (suc i) parts) ++ entries_from dir.lumps HEADER_SIZE parts))) (piece-is contents hold)
          ∙ file-left contents dir.lumps hold.within parts i part l is all)
