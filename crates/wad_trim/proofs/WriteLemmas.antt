-- Calls that read lumps and write bytes, one after the other.
use Rattle.art_rules.proofs.Common.{[], ap, append_assoc, arith, Err, err_from_is_err_and, IsErrAnd, IsTrue, length, List, Ok, on_err_weaker, on_ok_weaker, OnErr, OnOk, refl, Result, Some, subst, sym, ℕ, ◌++◌, ◌<◌, ◌∙◌, ◌≡◌}
use Rattle.wad_trim.specs.Rules.{Failed, FaultsRose, Grew, GrewByPrefix, Heap, IsInOrder, IsLive, Item, KeepsOrder, ShelfView, Writes, bytes_of, lump_bytes}
use Rattle.art_rules.proofs.Laws.{grew_more, grew_none, grew_partly, prefix_none, prefix_of_more}
use Rattle.scene_rules.proofs.Laws.{order_none, order_then}
use Rattle.texture_build.specs.{DirectoryView.DirectoryView, CacheFault.CacheFault}
use Rattle.texture_build.specs.CacheFault.TheVariants as cache
use Rattle.texture_build.specs.Caches.{cache_fault, lump_owner}
use Rattle.texture_build.specs.Calls.{HasAll, HoldContents, IsFullFor, PreservesCache, ReadsLumps}
use Rattle.texture_build.proofs.CallLemmas.{full_for_earlier, keeps_none, keeps_then, told_later}
use Rattle.texture_build.proofs.FetchLemmas.{live_faithful}
use Rattle.wad_trim.specs.{declared.fault.TrimWrite.TrimWrite, Faults.write_of_cache}
use Rattle.wad_trim.specs.declared.fault.TrimWrite.TheVariants.{ReadFault, WriteFault, ZoneFull}
use Rattle.wad_trim.specs.Writes.{InOrderWhere, WritesLumps}

in_order_at : {P Q : Type 0} (result : Result (Unit {0}) TrimWrite) → (P → Q) → InOrderWhere result P → InOrderWhere result Q
in_order_at (Ok unit) f k = f k
in_order_at (Err ReadFault) f k = tt
in_order_at (Err WriteFault) f k = f k
in_order_at (Err (ZoneFull wanted widest)) f k = k

-- nothing was written
wrote_none : {v w : ShelfView} {dir : DirectoryView} {a b : Heap} {wants : ℕ → Type 0} (p : List ℕ → Type 0) (i : ℕ) → PreservesCache v w dir a b → w.faults ≡ v.faults →
    ((items : List Item) → HasAll items dir wants → IsInOrder items a → KeepsOrder items a b v.taken w.taken) → WritesLumps v w dir a b p p i i wants (λ bytes. []) (Ok tt)
wrote_none p i keeps settled order = record {
  keeps = keeps;
  ok = λ contents hold. grew_none p;
  err = λ contents hold. tt;
  read_fault = λ e. absurd (cc);
  read_settled = λ other. settled;
  steady = λ contents hold steady e. cc;
  write_fault = λ e. absurd (cc);
  write_settled = λ other. refl;
  later_faults = omega arith;
  full = λ wanted widest e. absurd (cc);
  order = order;
}

-- nor was anything read
pub lumps-none : (view : ShelfView) (dir : DirectoryView) (z : Heap) (written : List ℕ → Type 0) (faults : ℕ) (wants : ℕ → Type 0) →
    WritesLumps view view dir z z written written faults faults wants (λ bytes. []) (Ok tt)
lumps-none view dir z written faults wants = wrote_none written faults (keeps_none view dir z) refl (λ items all o. order_none items z view.taken o)

-- a call, and behind it another, whatever that answers
pub lumps-then : {v w x : ShelfView} {dir : DirectoryView} {a b c : Heap} {p q r : List ℕ → Type 0} {i j k : ℕ} {early late wants : ℕ → Type 0} {before after : (ℕ → List ℕ) → List ℕ}
    (result : Result (Unit {0}) TrimWrite) (expected : (ℕ → List ℕ) → List ℕ) →
    WritesLumps v w dir a b p q i j early before (Ok tt) → WritesLumps w x dir b c q r j k late after result →
    ((n : ℕ) → early n → wants n) → ((n : ℕ) → late n → wants n) →
    ((contents : List (List ℕ)) → HoldContents v dir a contents → before (lump_bytes contents dir.lumps) ++ after (lump_bytes contents dir.lumps) ≡ expected (lump_bytes contents dir.lumps)) →
    WritesLumps v x dir a c p r i k wants expected result
lumps-then {v} {w} {x} {dir} {a} {b} {c} {p} {q} {r} {i} {j} {k} result expected one two earlier later same = record {
  keeps = keeps_then one.keeps two.keeps;
  ok = λ contents hold. on_ok_weaker result (λ h. grew_more (expected (lump_bytes contents dir.lumps)) (one.ok contents hold) h (same contents hold)) (two.ok contents (told_later one.keeps hold));
  err = λ contents hold. on_err_weaker result (λ h. grew_partly (expected (lump_bytes contents dir.lumps)) (one.ok contents hold) h (same contents hold)) (two.err contents (told_later one.keeps hold));
  read_fault = λ e. subst (λ n. FaultsRose n x.faults) (one.read_settled (λ is. cc)) (two.read_fault e);
  read_settled = λ other. two.read_settled other ∙ one.read_settled (λ is. cc);
  steady = λ contents hold steady e. two.steady contents (told_later one.keeps hold) (subst IsTrue (sym one.keeps.follows.steady) steady) e;
  write_fault = λ e. subst (λ n. FaultsRose n k) (one.write_settled (λ is. cc)) (two.write_fault e);
  write_settled = λ other. two.write_settled other ∙ one.write_settled (λ is. cc);
  later_faults = omega (arith, one.later_faults, two.later_faults);
  full = λ wanted widest e. full_for_earlier later one.keeps wanted widest (two.full wanted widest e);
  order = λ items all o.
      let order_before = one.order items (λ n s. all n (earlier n s)) o in
      in_order_at result (λ next. order_then order_before next) (two.order items (λ n s. all n (later n s)) order_before.order);
}

-- the same bytes by another word, and more that may be asked for
pub lumps-as : {v w : ShelfView} {dir : DirectoryView} {a b : Heap} {p q : List ℕ → Type 0} {i j : ℕ} {some wants : ℕ → Type 0} {before : (ℕ → List ℕ) → List ℕ}
    (result : Result (Unit {0}) TrimWrite) (expected : (ℕ → List ℕ) → List ℕ) → WritesLumps v w dir a b p q i j some before result → ((n : ℕ) → some n → wants n) →
    ((contents : List (List ℕ)) → HoldContents v dir a contents → before (lump_bytes contents dir.lumps) ≡ expected (lump_bytes contents dir.lumps)) →
    WritesLumps v w dir a b p q i j wants expected result
lumps-as {v} {w} {dir} {a} {b} {p} {q} {i} {j} {some} {wants} result expected one wider same =
    lumps-then result expected (lumps-none v dir a p i wants) one (λ n s. s) wider same

-- a call that failed, and nothing of the rest
pub lumps-stop : {v w : ShelfView} {dir : DirectoryView} {a b : Heap} {p q : List ℕ → Type 0} {i j : ℕ} {some wants : ℕ → Type 0} {before : (ℕ → List ℕ) → List ℕ}
    (fault : TrimWrite) (rest expected : (ℕ → List ℕ) → List ℕ) → WritesLumps v w dir a b p q i j some before (Err fault) → ((n : ℕ) → some n → wants n) →
    ((contents : List (List ℕ)) → HoldContents v dir a contents → before (lump_bytes contents dir.lumps) ++ rest (lump_bytes contents dir.lumps) ≡ expected (lump_bytes contents dir.lumps)) →
    WritesLumps v w dir a b p q i j wants expected (Err fault)
lumps-stop {v} {w} {dir} {a} {b} fault rest expected one wider same = record {
  keeps = one.keeps;
  ok = λ contents hold. tt;
  err = λ contents hold. prefix_of_more (rest (lump_bytes contents dir.lumps)) (expected (lump_bytes contents dir.lumps)) (one.err contents hold) (same contents hold);
  read_fault = one.read_fault;
  read_settled = one.read_settled;
  steady = one.steady;
  write_fault = one.write_fault;
  write_settled = one.write_settled;
  later_faults = one.later_faults;
  full = λ wanted widest e. full_for_earlier wider (keeps_none v dir a) wanted widest (one.full wanted widest e);
  order = λ items all o. one.order items (λ n s. all n (wider n s)) o;
}

-- the answer that the exit of a `?` gives
pub lumps-given : {v w : ShelfView} {dir : DirectoryView} {a b : Heap} {p q : List ℕ → Type 0} {i j : ℕ} {wants : ℕ → Type 0} {expected : (ℕ → List ℕ) → List ℕ}
    (result : Result (Unit {0}) TrimWrite) (fault : TrimWrite) → IsErrAnd result (λ above. above ≡ fault) → WritesLumps v w dir a b p q i j wants expected (Err fault) →
    WritesLumps v w dir a b p q i j wants expected result
lumps-given {v} {w} {dir} {a} {b} {p} {q} {i} {j} {wants} {expected} result fault is one =
    let error_is = err_from_is_err_and result is in
    subst (WritesLumps v w dir a b p q i j wants expected) (sym (error_is.1 ∙ ap Err error_is.2)) one

-- a put of a piece, whole or stopped
put_whole : (view : ShelfView) (dir : DirectoryView) (z : Heap) {p q : List ℕ → Type 0} {i j : ℕ} {piece : List ℕ} (wants : ℕ → Type 0) (result : Result (Unit {0}) Failed) (unit : Unit {0}) →
    Writes p q i j piece result → result ≡ Ok unit → WritesLumps view view dir z z p q i j wants (λ bytes. piece) (Ok tt)
put_whole view dir z {p} {q} {i} {j} {piece} wants result unit put is = record {
  keeps = keeps_none view dir z;
  ok = λ contents hold. subst (λ (r : Result (Unit {0}) Failed). OnOk r (Grew p q piece)) is put.ok;
  err = λ contents hold. tt;
  read_fault = λ e. absurd (cc);
  read_settled = λ other. refl;
  steady = λ contents hold steady e. cc;
  write_fault = λ e. absurd (cc);
  write_settled = λ other. subst (λ (r : Result (Unit {0}) Failed). OnOk r (j ≡ i)) is put.settled;
  later_faults = put.later;
  full = λ wanted widest e. absurd (cc);
  order = λ items all o. order_none items z view.taken o;
}

put_partly : (view : ShelfView) (dir : DirectoryView) (z : Heap) {p q : List ℕ → Type 0} {i j : ℕ} {piece : List ℕ} (wants : ℕ → Type 0) (result : Result (Unit {0}) Failed) (failed : Failed) →
    Writes p q i j piece result → result ≡ Err failed → WritesLumps view view dir z z p q i j wants (λ bytes. piece) (Err WriteFault)
put_partly view dir z {p} {q} {i} {j} {piece} wants result failed put is = record {
  keeps = keeps_none view dir z;
  ok = λ contents hold. tt;
  err = λ contents hold. subst (λ (r : Result (Unit {0}) Failed). OnErr r (GrewByPrefix p q piece)) is put.err;
  read_fault = λ e. absurd (cc);
  read_settled = λ other. refl;
  steady = λ contents hold steady e. cc;
  write_fault = λ e. subst (λ (r : Result (Unit {0}) Failed). OnErr r (FaultsRose i j)) is put.failed;
  write_settled = λ other. absurd (other refl);
  later_faults = put.later;
  full = λ wanted widest e. absurd (cc);
  order = λ items all o. order_none items z view.taken o;
}

module _ {v w : ShelfView} {dir : DirectoryView} {a b : Heap} {p q r : List ℕ → Type 0} {i j k : ℕ} {wants : ℕ → Type 0} {before : (ℕ → List ℕ) → List ℕ} {piece : List ℕ} {put : Result (Unit {0}) Failed} where
  -- a piece behind what was written
  pub put-done : (expected : (ℕ → List ℕ) → List ℕ) → WritesLumps v w dir a b p q i j wants before (Ok tt) → Writes q r j k piece put → (unit : Unit {0}) → put ≡ Ok unit →
      ((contents : List (List ℕ)) → HoldContents v dir a contents → before (lump_bytes contents dir.lumps) ++ piece ≡ expected (lump_bytes contents dir.lumps)) →
      WritesLumps v w dir a b p r i k wants expected (Ok tt)
  put-done expected one two unit is same = lumps-then (Ok tt) expected one (put_whole w dir b wants put unit two is) (λ n s. s) (λ n s. s) same

  -- one that failed there
  pub put-stopped : (result : Result (Unit {0}) TrimWrite) (rest expected : (ℕ → List ℕ) → List ℕ) → WritesLumps v w dir a b p q i j wants before (Ok tt) → Writes q r j k piece put → (failed : Failed) → put ≡ Err failed →
      IsErrAnd result (λ above. above ≡ WriteFault) →
      ((contents : List (List ℕ)) → HoldContents v dir a contents → before (lump_bytes contents dir.lumps) ++ (piece ++ rest (lump_bytes contents dir.lumps)) ≡ expected (lump_bytes contents dir.lumps)) →
      WritesLumps v w dir a b p r i k wants expected result
  put-stopped result rest expected one two failed is given same =
      lumps-given result WriteFault given
      (lumps-stop WriteFault rest expected (lumps-then (Err WriteFault) (λ bytes. before bytes ++ piece) one (put_partly w dir b wants put failed two is) (λ n s. s) (λ n s. s) (λ contents hold. refl)) (λ n s. s)
      (λ contents hold. append_assoc (before (lump_bytes contents dir.lumps)) piece (rest (lump_bytes contents dir.lumps)) ∙ same contents hold))

-- what a fetch answers, as a call that writes lumps
fetch_answer : Result (Unit {0}) CacheFault → Result (Unit {0}) TrimWrite
fetch_answer (Ok unit) = Ok tt
fetch_answer (Err fault) = Err (write_of_cache fault)

-- a fetch, which writes nothing
fetch_writes : {v w : ShelfView} {dir : DirectoryView} {a b : Heap} {wants : ℕ → Type 0} (p : List ℕ → Type 0) (i : ℕ) (result : Result (Unit {0}) CacheFault) →
    ReadsLumps cache_fault v w dir a b wants (λ (done : Unit {0}). done) (λ bytes. Ok tt) result →
    WritesLumps v w dir a b p p i i wants (λ bytes. []) (fetch_answer result)
unfolding fetch_answer
fetch_writes p i (Ok unit) one = wrote_none p i one.keeps one.causes.ok one.order
fetch_writes p i (Err cache.ReadFault) one = record {
  keeps = one.keeps;
  ok = λ contents hold. tt;
  err = λ contents hold. prefix_none p [];
  read_fault = λ e. one.causes.err;
  read_settled = λ other. absurd (other refl);
  steady = λ contents hold steady e. (one.answers contents hold).err steady;
  write_fault = λ e. absurd (cc);
  write_settled = λ other. refl;
  later_faults = omega arith;
  full = λ wanted widest e. absurd (cc);
  order = λ items all o. tt;
}
fetch_writes {v} {w} {dir} {a} {b} {wants} p i (Err (cache.ZoneFull much most)) one = record {
  keeps = one.keeps;
  ok = λ contents hold. tt;
  err = λ contents hold. prefix_none p [];
  read_fault = λ e. absurd (cc);
  read_settled = λ other. one.causes.err;
  steady = λ contents hold steady e. cc;
  write_fault = λ e. absurd (cc);
  write_settled = λ other. refl;
  later_faults = omega arith;
  full = λ wanted widest e.
      let wanted_same : much ≡ wanted = cc in
      let widest_same : most ≡ widest = cc in
      subst (λ (n : ℕ). IsFullFor wants dir a n widest) wanted_same (subst (λ (n : ℕ). IsFullFor wants dir a much n) widest_same one.full);
  order = one.order;
}

pub fetch-done : {v w : ShelfView} {dir : DirectoryView} {a b : Heap} {wants : ℕ → Type 0} {result : Result (Unit {0}) CacheFault} (p : List ℕ → Type 0) (i : ℕ) →
    ReadsLumps cache_fault v w dir a b wants (λ (done : Unit {0}). done) (λ bytes. Ok tt) result → (unit : Unit {0}) → result ≡ Ok unit →
    WritesLumps v w dir a b p p i i wants (λ bytes. []) (Ok tt)
unfolding fetch_answer
fetch-done {v} {w} {dir} {a} {b} {wants} {result} p i reads unit is =
    subst (WritesLumps v w dir a b p p i i wants (λ bytes. [])) (ap fetch_answer is) (fetch_writes p i result reads)

-- one that failed
pub fetch-stopped : {v w : ShelfView} {dir : DirectoryView} {a b : Heap} {wants : ℕ → Type 0} {fetched : Result (Unit {0}) CacheFault} (p : List ℕ → Type 0) (i : ℕ) (result : Result (Unit {0}) TrimWrite) (expected : (ℕ → List ℕ) → List ℕ) →
    ReadsLumps cache_fault v w dir a b wants (λ (done : Unit {0}). done) (λ bytes. Ok tt) fetched → (fault : CacheFault) → fetched ≡ Err fault → IsErrAnd result (λ above. above ≡ write_of_cache fault) →
    WritesLumps v w dir a b p p i i wants expected result
unfolding fetch_answer
fetch-stopped {v} {w} {dir} {a} {b} {wants} {fetched} p i result expected reads fault is given =
    lumps-given result (write_of_cache fault) given
    (lumps-stop (write_of_cache fault) expected expected
    (subst (WritesLumps v w dir a b p p i i wants (λ bytes. [])) (ap fetch_answer is) (fetch_writes p i fetched reads)) (λ n s. s) (λ contents hold. refl))

-- the bytes that a live lump lends
pub lent-bytes : (view : ShelfView) (dir : DirectoryView) (z : Heap) (lump : ℕ) (piece : List ℕ) → lump < length dir.lumps → IsLive z (lump_owner lump) → bytes_of (lump_owner lump) z.blocks ≡ Some piece →
    (contents : List (List ℕ)) → HoldContents view dir z contents → piece ≡ lump_bytes contents dir.lumps lump
lent-bytes view dir z lump piece there live lent contents hold =
    let whole : bytes_of (lump_owner lump) z.blocks ≡ Some (lump_bytes contents dir.lumps lump) = live_faithful contents dir z lump there hold.faithful live in
    cc
