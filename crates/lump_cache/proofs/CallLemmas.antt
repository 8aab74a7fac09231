-- One call after another, each by what it reads.
use Rattle.zone_rules.proofs.Common.{◌≡◌, ℕ, ◌+◌, ◌<◌, Bool, List, Option, Some, None, Result, Ok, Err, refl, sym, subst, ap, ◌∙◌, arith, IsErrAnd, MatchResult, IfErr, IfOk, IfSome, OnOk, err_from_is_err_and}
use Rattle.lump_cache.specs.Rules.{Fault, FaultFits, HasCauseAt, Heap, KeepsOrder, MIN_FRAGMENT, OutOfMemory, ReadFault, Refused, ResultIs, ShelfView, ZoneFull, block_size, bytes_of, fault_above, from_below, lump_bytes}
use Rattle.outside.proofs.CauseLemmas.{cause_above, cause_memory, cause_refused, cause_then}
use Rattle.outside.proofs.ShelfLemmas.{follows_none, follows_then, all_stand_later}
use Rattle.zone_rules.proofs.OrderLemmas.{order_none, order_then}
use Rattle.wad_dir.specs.DirectoryView.{DirectoryView}
use Rattle.lump_cache.specs.{Caches.IsAtRest, Caches.composite_owner, Sizes.IsGapBeside}
use Rattle.lump_cache.specs.Calls.{ReadsLumps, PreservesCache, HoldContents, IsFullFor, IfFull, InOrderAt}
use Rattle.lump_cache.proofs.StaticLemmas.{stays_then}

-- bytes that are there are the same
pub bytes_stay : (x : Option (List ℕ)) → IfSome x (λ bytes. x ≡ Some bytes)
bytes_stay None = tt
bytes_stay (Some bytes) = refl

pub bytes_then : (x y z : Option (List ℕ)) → IfSome y (λ bytes. x ≡ Some bytes) → IfSome z (λ bytes. y ≡ Some bytes) → IfSome z (λ bytes. x ≡ Some bytes)
bytes_then x y None h k = tt
bytes_then x y (Some bytes) h k = subst (λ (w : Option (List ℕ)). IfSome w (λ bytes. x ≡ Some bytes)) k h

pub keeps_none : (view : ShelfView) (dir : DirectoryView) (z : Heap) → PreservesCache view view dir z z
keeps_none view dir z = record {
  follows = follows_none view;
  counts = (refl, refl, refl);
  rest = λ colormap count r. r;
  static = λ o held. refl;
  faithful = λ contents stand f. f;
  sizes = λ has. has;
  composites = λ number. bytes_stay (bytes_of (composite_owner number) z.blocks);
}

pub keeps_then : {a b c : ShelfView} {dir : DirectoryView} {x y z : Heap} → PreservesCache a b dir x y → PreservesCache b c dir y z → PreservesCache a c dir x z
keeps_then {a} {b} {dir} {x} {y} {z} first next = record {
  follows = follows_then first.follows next.follows;
  counts = (next.counts.0 ∙ first.counts.0, next.counts.1 ∙ first.counts.1, next.counts.2 ∙ first.counts.2);
  rest = λ colormap count r. next.rest colormap count (first.rest colormap count r);
  static = stays_then x y z first.static next.static;
  faithful = λ contents stand f. next.faithful contents (all_stand_later a b dir.files contents first.follows stand) (first.faithful contents stand f);
  sizes = λ has. next.sizes (first.sizes has);
  composites = λ number. bytes_then (bytes_of (composite_owner number) x.blocks) (bytes_of (composite_owner number) y.blocks) (bytes_of (composite_owner number) z.blocks) (first.composites number) (next.composites number);
}

-- the shelf and the cache have these contents later too
pub told_later : {a b : ShelfView} {dir : DirectoryView} {x y : Heap} {contents : List (List ℕ)} → PreservesCache a b dir x y → HoldContents a dir x contents → HoldContents b dir y contents
told_later {a} {b} {dir} {contents} keeps hold = record {
  stand = all_stand_later a b dir.files contents keeps.follows hold.stand;
  within = hold.within;
  faithful = keeps.faithful contents hold.stand hold.faithful;
}

-- a zone at rest that was full does not hold the block beside the colormap
pub full_room : {wants : ℕ → Type 0} {dir : DirectoryView} {z : Heap} {wanted widest' : ℕ} → IsFullFor wants dir z wanted widest' → (colormap count : ℕ) → IsAtRest colormap count z → z.size < block_size count + wanted + MIN_FRAGMENT
full_room full colormap count rest = let gap = full.gap colormap count rest in omega (arith, gap.1, full.narrow)

-- a zone that was full later was so from the beginning
pub full_for_earlier : {a b : ShelfView} {dir : DirectoryView} {x y : Heap} {some wants : ℕ → Type 0} → ((lump : ℕ) → some lump → wants lump) → PreservesCache a b dir x y → (wanted widest' : ℕ) → IsFullFor some dir y wanted widest' → IsFullFor wants dir x wanted widest'
full_for_earlier among keeps wanted widest' full = record {
  lump = full.lump;
  asked = among full.lump full.asked;
  wanted_is = full.wanted_is;
  narrow = full.narrow;
  gap = λ colormap count rest. subst (λ (n : ℕ). IsGapBeside n (block_size count) widest') keeps.counts.0 (full.gap colormap count (keeps.rest colormap count rest));
}

pub full_at : {R : Type 0} {P Q : ℕ → ℕ → Type 0} (fault : Fault R) → ((wanted widest' : ℕ) → P wanted widest' → Q wanted widest') → IfFull fault P → IfFull fault Q
full_at (Refused reason) f k = tt
full_at ReadFault f k = tt
full_at (ZoneFull wanted widest') f k = f wanted widest' k
full_at OutOfMemory f k = tt

pub order_at : {R : Type 0} {P Q : Type 0} (fault : Fault R) → (P → Q) → InOrderAt fault P → InOrderAt fault Q
order_at (Refused reason) f k = f k
order_at ReadFault f k = tt
order_at (ZoneFull wanted widest') f k = k
order_at OutOfMemory f k = f k

-- a part's fault fits the whole, where its refusals are the whole's
pub reads_at : {C A R : Type 0} (steady later : Bool) (part : Result C R) (whole : Result A R) (fault : Fault R) → later ≡ steady → ((r : R) → part ≡ Err r → whole ≡ Err r) → FaultFits later part fault → FaultFits steady whole fault
reads_at steady later part whole (Refused reason) e f k = f reason k
reads_at steady later part whole ReadFault e f k = λ holds. k (e ∙ holds)
reads_at steady later part whole (ZoneFull wanted widest') e f k = tt
reads_at steady later part whole OutOfMemory e f k = tt

module _ {A B R E : Type 0} {fault_of : E → Fault R} {wants : ℕ → Type 0} {value : B → A} {expected : (ℕ → List ℕ) → Result A R} where
  -- a call that reads nothing, and whose value is known
  pub reads_known : (view : ShelfView) (dir : DirectoryView) (z : Heap) (answer : B) → ((contents : List (List ℕ)) → HoldContents view dir z contents → expected (lump_bytes contents dir.lumps) ≡ Ok (value answer)) → ReadsLumps fault_of view view dir z z wants value expected (Ok answer)
  reads_known view dir z answer known = record {
    keeps = keeps_none view dir z;
    answers = λ contents t. record { ok = known contents t; err = tt };
    causes = record { ok = refl; err = tt };
    full = tt;
    order = λ items all k. order_none items z view.taken k;
  }

-- before the first part
pub reads_nothing : {R E : Type 0} {fault_of : E → Fault R} (view : ShelfView) (dir : DirectoryView) (z : Heap) (wants : ℕ → Type 0) → ReadsLumps fault_of view view dir z z wants (λ (done : Unit {0}). done) (λ bytes. Ok tt) (Ok tt)
reads_nothing view dir z wants = reads_known view dir z tt (λ contents t. refl)

at_known : {R : Type 0} {P : Type 0} (fault : Fault R) → (reason : R) → fault ≡ Refused reason → P → InOrderAt fault P
at_known fault reason e p = rw e p

module _ {A B R E : Type 0} {fault_of : E → Fault R} {wants : ℕ → Type 0} {value : B → A} {expected : (ℕ → List ℕ) → Result A R} (view : ShelfView) (dir : DirectoryView) (z : Heap) (fault : E) where
  -- a refusal without a call
  pub reads_refused : (reason : R) → fault_of fault ≡ Refused reason → ((contents : List (List ℕ)) → HoldContents view dir z contents → expected (lump_bytes contents dir.lumps) ≡ Err reason) → ReadsLumps fault_of view view dir z z wants value expected (Err fault)
  reads_refused reason is known = record {
    keeps = keeps_none view dir z;
    answers = λ contents t. record { ok = tt; err = rw is (known contents t) };
    causes = record { ok = tt; err = cause_refused (fault_of fault) reason is refl };
    full = rw is tt;
    order = λ items all k. at_known (fault_of fault) reason is (order_none items z view.taken k);
  }

  -- memory ran out
  pub reads_memory : fault_of fault ≡ OutOfMemory → ReadsLumps fault_of view view dir z z wants value expected (Err fault)
  reads_memory is = record {
    keeps = keeps_none view dir z;
    answers = λ contents t. record { ok = tt; err = rw is tt };
    causes = record { ok = tt; err = cause_memory (fault_of fault) is refl };
    full = rw is tt;
    order = λ items all k. rw is (order_none items z view.taken k);
  }

module _ {A B C D E F R G : Type 0} {fault_of : G → Fault R} {v w x : ShelfView} {dir : DirectoryView} {a b c : Heap} {wants some : ℕ → Type 0} {first : D → C} {next : F → E} {value : B → A}
    {before : (ℕ → List ℕ) → Result C R} {part : (ℕ → List ℕ) → Result E R} {answer : D} where
  -- a part was passed, after others
  pub reads_more : (expected : (ℕ → List ℕ) → Result A R) (got : F) (whole : B) → ReadsLumps fault_of v w dir a b wants first before (Ok answer) → (result : Result F G) → ReadsLumps fault_of w x dir b c some next part result → result ≡ Ok got → ((lump : ℕ) → some lump → wants lump) →
      ((bytes : ℕ → List ℕ) → before bytes ≡ Ok (first answer) → part bytes ≡ Ok (next got) → expected bytes ≡ Ok (value whole)) → ReadsLumps fault_of v x dir a c wants value expected (Ok whole)
  reads_more expected got whole one result two is among joins = record {
    keeps = keeps_then one.keeps two.keeps;
    answers = λ contents t.
        let second_ok = subst (λ (y : Result F G). IfOk y (λ g. part (lump_bytes contents dir.lumps) ≡ Ok (next g))) is (two.answers contents (told_later one.keeps t)).ok in
        record { ok = joins (lump_bytes contents dir.lumps) (one.answers contents t).ok second_ok; err = tt };
    causes = record { ok = subst (λ (y : Result F G). OnOk y (x.faults ≡ w.faults)) is two.causes.ok ∙ one.causes.ok; err = tt };
    full = tt;
    order = λ items all k.
        let order_before = one.order items all k in
        order_then order_before (subst (λ (y : Result F G). MatchResult y (λ _. KeepsOrder items b c w.taken x.taken) (λ fault. InOrderAt (fault_of fault) (KeepsOrder items b c w.taken x.taken))) is (two.order items (λ lump s. all lump (among lump s)) order_before.order));
  }

  -- a part stops the call, after others
  pub reads_stop : (expected : (ℕ → List ℕ) → Result A R) (fault : G) → ReadsLumps fault_of v w dir a b wants first before (Ok answer) → (result : Result F G) → ReadsLumps fault_of w x dir b c some next part result → result ≡ Err fault → ((lump : ℕ) → some lump → wants lump) →
      ((bytes : ℕ → List ℕ) (e : R) → before bytes ≡ Ok (first answer) → part bytes ≡ Err e → expected bytes ≡ Err e) → ReadsLumps fault_of v x dir a c wants value expected (Err fault)
  reads_stop expected fault one result two is among stops = record {
    keeps = keeps_then one.keeps two.keeps;
    answers = λ contents t.
        let second_err = subst (λ (y : Result F G). IfErr y (λ f. FaultFits w.steady (part (lump_bytes contents dir.lumps)) (fault_of f))) is (two.answers contents (told_later one.keeps t)).err in
        record { ok = tt; err = reads_at v.steady w.steady (part (lump_bytes contents dir.lumps)) (expected (lump_bytes contents dir.lumps)) (fault_of fault) one.keeps.follows.steady (λ e h. stops (lump_bytes contents dir.lumps) e (one.answers contents t).ok h) second_err };
    causes = record { ok = tt; err = cause_then x.faults (fault_of fault) one.causes.ok (subst (λ (y : Result F G). IfErr y (λ f. HasCauseAt w.faults x.faults (fault_of f))) is two.causes.err) };
    full = full_at (fault_of fault) (λ wanted widest' k. full_for_earlier among one.keeps wanted widest' k) (subst (λ (y : Result F G). IfErr y (λ f. IfFull (fault_of f) (IsFullFor some dir b))) is two.full);
    order = λ items all k.
        let order_before = one.order items all k in
        order_at (fault_of fault) (λ k2. order_then order_before k2) (subst (λ (y : Result F G). MatchResult y (λ _. KeepsOrder items b c w.taken x.taken) (λ f. InOrderAt (fault_of f) (KeepsOrder items b c w.taken x.taken))) is (two.order items (λ lump s. all lump (among lump s)) order_before.order));
  }

-- the same error goes on
pub reads_same : {A B R E : Type 0} {fault_of : E → Fault R} {v w : ShelfView} {dir : DirectoryView} {a b : Heap} {wants : ℕ → Type 0} {value : B → A} (result : Result B E) (fault : E) (expected : (ℕ → List ℕ) → Result A R) → IsErrAnd result (λ e. e ≡ fault) →
    ReadsLumps fault_of v w dir a b wants value expected (Err fault) → ReadsLumps fault_of v w dir a b wants value expected result
reads_same {fault_of} {v} {w} {dir} {a} {b} {wants} {value} result fault expected is reads =
    let error_is = err_from_is_err_and result is in
    subst (ReadsLumps fault_of v w dir a b wants value expected) (sym (error_is.1 ∙ ap Err error_is.2)) reads

-- the value is seen another way
pub reads_as : {A B C D R E : Type 0} {fault_of : E → Fault R} {v w : ShelfView} {dir : DirectoryView} {a b : Heap} {wants some : ℕ → Type 0} {value : B → A} {first : D → C} {expected : (ℕ → List ℕ) → Result A R} {before : (ℕ → List ℕ) → Result C R} (answer : D) (got : B) →
    ReadsLumps fault_of v w dir a b some first before (Ok answer) → ((lump : ℕ) → some lump → wants lump) → ((bytes : ℕ → List ℕ) → before bytes ≡ Ok (first answer) → expected bytes ≡ Ok (value got)) → ReadsLumps fault_of v w dir a b wants value expected (Ok got)
reads_as answer got one among joins = record {
  keeps = one.keeps;
  answers = λ contents t. record { ok = joins _ (one.answers contents t).ok; err = tt };
  causes = record { ok = one.causes.ok; err = tt };
  full = tt;
  order = λ items all k. one.order items (λ lump s. all lump (among lump s)) k;
}

-- the value is seen another way, where the shelf and the cache have the bytes
pub reads_told : {A B C D R E : Type 0} {fault_of : E → Fault R} {v w : ShelfView} {dir : DirectoryView} {a b : Heap} {wants some : ℕ → Type 0} {value : B → A} {first : D → C} {expected : (ℕ → List ℕ) → Result A R} {before : (ℕ → List ℕ) → Result C R} (answer : D) (got : B) →
    ReadsLumps fault_of v w dir a b some first before (Ok answer) → ((lump : ℕ) → some lump → wants lump) → ((contents : List (List ℕ)) → HoldContents v dir a contents → expected (lump_bytes contents dir.lumps) ≡ Ok (value got)) → ReadsLumps fault_of v w dir a b wants value expected (Ok got)
reads_told answer got one among known = record {
  keeps = one.keeps;
  answers = λ contents t. record { ok = known contents t; err = tt };
  causes = record { ok = one.causes.ok; err = tt };
  full = tt;
  order = λ items all k. one.order items (λ lump s. all lump (among lump s)) k;
}

wider_full : {B R E : Type 0} {some wants : ℕ → Type 0} (fault_of : E → Fault R) (view : ShelfView) (dir : DirectoryView) (z : Heap) → ((lump : ℕ) → some lump → wants lump) → (result : Result B E) → IfErr result (λ fault. IfFull (fault_of fault) (IsFullFor some dir z)) → IfErr result (λ fault. IfFull (fault_of fault) (IsFullFor wants dir z))
wider_full fault_of view dir z among (Ok answer) k = tt
wider_full fault_of view dir z among (Err fault) k = full_at (fault_of fault) (λ wanted widest' full. full_for_earlier among (keeps_none view dir z) wanted widest' full) k

-- more may be asked for, and what is expected is written another way
pub reads_wider : {A B R E : Type 0} {fault_of : E → Fault R} {v w : ShelfView} {dir : DirectoryView} {a b : Heap} {wants some : ℕ → Type 0} {value : B → A} {before expected : (ℕ → List ℕ) → Result A R} (result : Result B E) → ((lump : ℕ) → some lump → wants lump) → ((bytes : ℕ → List ℕ) → before bytes ≡ expected bytes) →
    ReadsLumps fault_of v w dir a b some value before result → ReadsLumps fault_of v w dir a b wants value expected result
reads_wider {fault_of} {v} {dir} {a} {value} result among same one = record {
  keeps = one.keeps;
  answers = λ contents t. subst (λ e. ResultIs fault_of v.steady value e result) (same (lump_bytes contents dir.lumps)) (one.answers contents t);
  causes = one.causes;
  full = wider_full fault_of v dir a among result one.full;
  order = λ items all k. one.order items (λ lump s. all lump (among lump s)) k;
}

-- a part stops the call, and none was before it
pub reads_stop_first : {A B C D R E : Type 0} {fault_of : E → Fault R} {v w : ShelfView} {dir : DirectoryView} {a b : Heap} {wants some : ℕ → Type 0} {value : B → A} {next : D → C} {part : (ℕ → List ℕ) → Result C R} (expected : (ℕ → List ℕ) → Result A R) (one : Result D E) (fault : E) (result : Result B E) →
    ReadsLumps fault_of v w dir a b some next part one → one ≡ Err fault → IsErrAnd result (λ e. e ≡ fault) → ((lump : ℕ) → some lump → wants lump) → ((bytes : ℕ → List ℕ) (e : R) → part bytes ≡ Err e → expected bytes ≡ Err e) →
    ReadsLumps fault_of v w dir a b wants value expected result
reads_stop_first {v} {dir} {a} {wants} expected one fault result reads was is among stops =
    reads_same result fault expected is (reads_stop expected fault (reads_nothing v dir a wants) one reads was among (λ bytes e none stopped. stops bytes e stopped))

-- after a part that was passed, the rest
pub reads_then : {A B C D R E : Type 0} {fault_of : E → Fault R} {v w x : ShelfView} {dir : DirectoryView} {a b c : Heap} {wants early late : ℕ → Type 0} {first : D → C} {value : B → A} {before : (ℕ → List ℕ) → Result C R} {rest : (ℕ → List ℕ) → Result A R} {answer : D} (expected : (ℕ → List ℕ) → Result A R) (result : Result B E) →
    ReadsLumps fault_of v w dir a b early first before (Ok answer) → ReadsLumps fault_of w x dir b c late value rest result → ((lump : ℕ) → early lump → wants lump) → ((lump : ℕ) → late lump → wants lump) → ((bytes : ℕ → List ℕ) → before bytes ≡ Ok (first answer) → expected bytes ≡ rest bytes) →
    ReadsLumps fault_of v x dir a c wants value expected result
reads_then {first} {before} {answer} expected (Ok got) one two earlier later same =
    reads_more expected got got (reads_as {value = first} {expected = before} answer answer one earlier (λ bytes is. is)) (Ok got) two refl later (λ bytes is ends. same bytes is ∙ ends)
reads_then {first} {before} {answer} expected (Err fault) one two earlier later same =
    reads_stop expected fault (reads_as {value = first} {expected = before} answer answer one earlier (λ bytes is. is)) (Err fault) two refl later (λ bytes e is ends. same bytes is ∙ ends)

-- memory ran out after what was done
pub reads_short : {A B C D R E : Type 0} {fault_of : E → Fault R} {v w : ShelfView} {dir : DirectoryView} {a b : Heap} {wants some : ℕ → Type 0} {value : B → A} {first : D → C} {expected : (ℕ → List ℕ) → Result A R} {before : (ℕ → List ℕ) → Result C R} {answer : D} (fault : E) → fault_of fault ≡ OutOfMemory → ((lump : ℕ) → some lump → wants lump) →
    ReadsLumps fault_of v w dir a b some first before (Ok answer) → ReadsLumps fault_of v w dir a b wants value expected (Err fault)
reads_short {fault_of} fault is among one = record {
  keeps = one.keeps;
  answers = λ contents t. record { ok = tt; err = rw is tt };
  causes = record { ok = tt; err = cause_memory (fault_of fault) is one.causes.ok };
  full = rw is tt;
  order = λ items all k. rw is (one.order items (λ lump s. all lump (among lump s)) k);
}

-- a refusal that the values so far decide
pub reads_then_refused : {A B C D R E : Type 0} {fault_of : E → Fault R} {v w : ShelfView} {dir : DirectoryView} {a b : Heap} {wants some : ℕ → Type 0} {value : B → A} {first : D → C} {expected : (ℕ → List ℕ) → Result A R} {before : (ℕ → List ℕ) → Result C R} {answer : D} (fault : E) (reason : R) → fault_of fault ≡ Refused reason → ((lump : ℕ) → some lump → wants lump) →
    ReadsLumps fault_of v w dir a b some first before (Ok answer) → ((contents : List (List ℕ)) → HoldContents v dir a contents → before (lump_bytes contents dir.lumps) ≡ Ok (first answer) → expected (lump_bytes contents dir.lumps) ≡ Err reason) → ReadsLumps fault_of v w dir a b wants value expected (Err fault)
reads_then_refused {fault_of} fault reason is among one known = record {
  keeps = one.keeps;
  answers = λ contents t. record { ok = tt; err = rw is (known contents t (one.answers contents t).ok) };
  causes = record { ok = tt; err = cause_refused (fault_of fault) reason is one.causes.ok };
  full = rw is tt;
  order = λ items all k. at_known (fault_of fault) reason is (one.order items (λ lump s. all lump (among lump s)) k);
}

-- a value that the values so far decide
pub reads_then_found : {A B C D R E : Type 0} {fault_of : E → Fault R} {v w : ShelfView} {dir : DirectoryView} {a b : Heap} {wants some : ℕ → Type 0} {value : B → A} {first : D → C} {expected : (ℕ → List ℕ) → Result A R} {before : (ℕ → List ℕ) → Result C R} {answer : D} (got : B) → ((lump : ℕ) → some lump → wants lump) →
    ReadsLumps fault_of v w dir a b some first before (Ok answer) → ((contents : List (List ℕ)) → HoldContents v dir a contents → before (lump_bytes contents dir.lumps) ≡ Ok (first answer) → expected (lump_bytes contents dir.lumps) ≡ Ok (value got)) → ReadsLumps fault_of v w dir a b wants value expected (Ok got)
reads_then_found got among one known = record {
  keeps = one.keeps;
  answers = λ contents t. record { ok = known contents t (one.answers contents t).ok; err = tt };
  causes = record { ok = one.causes.ok; err = tt };
  full = tt;
  order = λ items all k. one.order items (λ lump s. all lump (among lump s)) k;
}

-- a result of a layer below
abbrev pub result_above : {B E G : Type 0} → (E → G) → Result B E → Result B G
result_above above (Ok answer) = Ok answer
result_above above (Err fault) = Err (above fault)

reads_up : {A R Q : Type 0} (f : R → Q) (steady : Bool) (expected : Result A R) (fault : Fault R) → FaultFits steady expected fault → FaultFits steady (from_below f expected) (fault_above f fault)
reads_up f steady expected (Refused reason) k = ap (from_below f) k
reads_up f steady expected ReadFault k = k
reads_up f steady expected (ZoneFull wanted widest') k = tt
reads_up f steady expected OutOfMemory k = tt

full_up : {R Q : Type 0} (P : ℕ → ℕ → Type 0) (f : R → Q) (fault : Fault R) → IfFull fault P → IfFull (fault_above f fault) P
full_up P f (Refused reason) k = tt
full_up P f ReadFault k = tt
full_up P f (ZoneFull wanted widest') k = k
full_up P f OutOfMemory k = tt

order_up : {R Q : Type 0} (P : Type 0) (f : R → Q) (fault : Fault R) → InOrderAt fault P → InOrderAt (fault_above f fault) P
order_up P f (Refused reason) k = k
order_up P f ReadFault k = tt
order_up P f (ZoneFull wanted widest') k = k
order_up P f OutOfMemory k = k

-- a call of the layer below, in the words of this one
pub reads_above : {A B R E Q G : Type 0} {fault_of : E → Fault R} {high : G → Fault Q} {v w : ShelfView} {dir : DirectoryView} {a b : Heap} {wants : ℕ → Type 0} {value : B → A} {expected : (ℕ → List ℕ) → Result A R} (f : R → Q) (above : E → G) → ((e : E) → high (above e) ≡ fault_above f (fault_of e)) → (result : Result B E) →
    ReadsLumps fault_of v w dir a b wants value expected result → ReadsLumps high v w dir a b wants value (λ bytes. from_below f (expected bytes)) (result_above above result)
reads_above {fault_of} {dir} f above same (Ok answer) one = record {
  keeps = one.keeps;
  answers = λ contents t. record { ok = ap (from_below f) (one.answers contents t).ok; err = tt };
  causes = record { ok = one.causes.ok; err = tt };
  full = tt;
  order = one.order;
}
reads_above {fault_of} {high} {v} {w} {dir} {a} {b} {wants} {expected} f above same (Err e) one = record {
  keeps = one.keeps;
  answers = λ contents t. record { ok = tt; err = rw (same e) (reads_up f v.steady (expected (lump_bytes contents dir.lumps)) (fault_of e) (one.answers contents t).err) };
  causes = record { ok = tt; err = rw (same e) (cause_above f v.faults w.faults (fault_of e) one.causes.err) };
  full = rw (same e) (full_up (IsFullFor wants dir a) f (fault_of e) one.full);
  order = λ items all k. rw (same e) (order_up (KeepsOrder items a b v.taken w.taken) f (fault_of e) (one.order items all k));
}
