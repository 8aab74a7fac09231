-- One call after another, by what is told of each and what was read so far.
use Rattle.art_rules.proofs.Common.{ap, Err, err_from_is_err_and, IfErr, IfOk, IfSome, IsErrAnd, List, MatchResult, None, Ok, OnOk, Option, refl, replicate, Result, slice_index_or, Some, subst, suc, sym, zero, ℕ, ◌∙◌, ◌≡◌}
use Rattle.art_rules.proofs.Laws.{cause_then}
use Rattle.sprite_book.specs.Rules.{Fault, FaultFits, HasCauseAt, OutOfMemory, Patch, Refused, ShelfView, SpriteRefusal, itself, lump_bytes, patch_of}
use Rattle.lump_cache.specs.{Zones.Heap, Orders.KeepsOrder, DirectoryView.DirectoryView}
use Rattle.zone_rules.proofs.OrderLemmas.{order_none, order_then}
use Rattle.lump_cache.specs.Calls.{ReadsLumps, PreservesCache, IsFullFor, IfFull, InOrderAt}
use Rattle.lump_cache.proofs.CallLemmas.{keeps_none, keeps_then, told_later, full_for_earlier, full_at, order_at, reads_at}
use Rattle.sprite_book.specs.Calls.{Reads, HoldContentsWith, ArePatchesOf}

-- the contents are told later too
told_with : {a b : ShelfView} {dir : DirectoryView} {x y : Heap} {p q : List (Option Patch)} {contents : List (List ℕ)} → PreservesCache a b dir x y → HoldContentsWith a dir x p contents → ArePatchesOf (lump_bytes contents dir.lumps) q → HoldContentsWith b dir y q contents
told_with keeps told read = record { hold = told_later keeps told.hold; read = read }

module _ {A B : Type 0} {wants : ℕ → Type 0} {value : B → A} {expected : (ℕ → List ℕ) → Result A SpriteRefusal} where
  -- a call that reads nothing, and whose answer is known
  pub reads_known : (view : ShelfView) (dir : DirectoryView) (z : Heap) (p : List (Option Patch)) (found : B) → ((contents : List (List ℕ)) → HoldContentsWith view dir z p contents → expected (lump_bytes contents dir.lumps) ≡ Ok (value found)) → Reads view view dir z z p p wants value expected (Ok found)
  reads_known view dir z p found known = record {
    keeps = keeps_none view dir z;
    read = λ contents told. told.read;
    count = refl;
    answers = λ contents told. record { ok = known contents told; err = tt };
    causes = record { ok = refl; err = tt };
    full = tt;
    order = λ items all k. order_none items z view.taken k;
  }

  refused_here : (view : ShelfView) (dir : DirectoryView) (z : Heap) (p : List (Option Patch)) (refusal : SpriteRefusal) → ((bytes : ℕ → List ℕ) → expected bytes ≡ Err refusal) → Reads view view dir z z p p wants value expected (Err (Refused refusal))
  refused_here view dir z p refusal known = record {
    keeps = keeps_none view dir z;
    read = λ contents told. told.read;
    count = refl;
    answers = λ contents told. record { ok = tt; err = known (lump_bytes contents dir.lumps) };
    causes = record { ok = tt; err = refl };
    full = tt;
    order = λ items all k. order_none items z view.taken k;
  }

  -- a refusal that the names alone decide
  pub reads_refused : (view : ShelfView) (dir : DirectoryView) (z : Heap) (p : List (Option Patch)) (fault : Fault SpriteRefusal) (refusal : SpriteRefusal) → fault ≡ Refused refusal → ((bytes : ℕ → List ℕ) → expected bytes ≡ Err refusal) →
      Reads view view dir z z p p wants value expected (Err fault)
  reads_refused view dir z p fault refusal is known = subst (λ f. Reads view view dir z z p p wants value expected (Err f)) (sym is) (refused_here view dir z p refusal known)

step_read : {C D E F : Type 0} {v w x : ShelfView} {dir : DirectoryView} {a b c : Heap} {p q r : List (Option Patch)} {wants some : ℕ → Type 0} {first : D → C} {next : F → E}
    {before : (ℕ → List ℕ) → Result C SpriteRefusal} {part : (ℕ → List ℕ) → Result E SpriteRefusal} {found : D} {result : Result F (Fault SpriteRefusal)} → Reads v w dir a b p q wants first before (Ok found) → Reads w x dir b c q r some next part result →
    (contents : List (List ℕ)) → HoldContentsWith v dir a p contents → ArePatchesOf (lump_bytes contents dir.lumps) r
step_read one two contents told = two.read contents (told_with one.keeps told (one.read contents told))

-- before the first part
pub reads_nothing : (view : ShelfView) (dir : DirectoryView) (z : Heap) (p : List (Option Patch)) (wants : ℕ → Type 0) → Reads view view dir z z p p wants (λ (done : Unit {0}). done) (λ bytes. Ok tt) (Ok tt)
reads_nothing view dir z p wants = reads_known view dir z p tt (λ contents told. refl)

module _ {A B C D E F : Type 0} {v w x : ShelfView} {dir : DirectoryView} {a b c : Heap} {p q r : List (Option Patch)} {wants some : ℕ → Type 0} {first : D → C} {next : F → E} {value : B → A}
    {before : (ℕ → List ℕ) → Result C SpriteRefusal} {part : (ℕ → List ℕ) → Result E SpriteRefusal} {found : D} where
  -- a part was passed, after others
  pub reads_more : (expected : (ℕ → List ℕ) → Result A SpriteRefusal) (got : F) (whole : B) → Reads v w dir a b p q wants first before (Ok found) → (result : Result F (Fault SpriteRefusal)) → Reads w x dir b c q r some next part result → result ≡ Ok got → ((lump : ℕ) → some lump → wants lump) →
      ((bytes : ℕ → List ℕ) → before bytes ≡ Ok (first found) → part bytes ≡ Ok (next got) → expected bytes ≡ Ok (value whole)) → Reads v x dir a c p r wants value expected (Ok whole)
  reads_more expected got whole one result two is among joins = record {
    keeps = keeps_then one.keeps two.keeps;
    read = step_read one two;
    count = two.count ∙ one.count;
    answers = λ contents told.
        let told_after_first = told_with one.keeps told (one.read contents told) in
        let next_is_ok = subst (λ (y : Result F (Fault SpriteRefusal)). IfOk y (λ g. part (lump_bytes contents dir.lumps) ≡ Ok (next g))) is (two.answers contents told_after_first).ok in
        record { ok = joins (lump_bytes contents dir.lumps) (one.answers contents told).ok next_is_ok; err = tt };
    causes = record { ok = subst (λ (y : Result F (Fault SpriteRefusal)). OnOk y (x.faults ≡ w.faults)) is two.causes.ok ∙ one.causes.ok; err = tt };
    full = tt;
    order = λ items all k.
        let order_so_far = one.order items all k in
        order_then order_so_far (subst (λ (y : Result F (Fault SpriteRefusal)). MatchResult y (λ _. KeepsOrder items b c w.taken x.taken) (λ fault. InOrderAt (itself fault) (KeepsOrder items b c w.taken x.taken))) is (two.order items (λ lump s. all lump (among lump s)) order_so_far.order));
  }

  -- a part stops the call, after others
  pub reads_stop : (expected : (ℕ → List ℕ) → Result A SpriteRefusal) (fault : (Fault SpriteRefusal)) → Reads v w dir a b p q wants first before (Ok found) → (result : Result F (Fault SpriteRefusal)) → Reads w x dir b c q r some next part result → result ≡ Err fault → ((lump : ℕ) → some lump → wants lump) →
      ((bytes : ℕ → List ℕ) (e : SpriteRefusal) → before bytes ≡ Ok (first found) → part bytes ≡ Err e → expected bytes ≡ Err e) → Reads v x dir a c p r wants value expected (Err fault)
  reads_stop expected fault one result two is among stops = record {
    keeps = keeps_then one.keeps two.keeps;
    read = step_read one two;
    count = two.count ∙ one.count;
    answers = λ contents told.
        let told_after_first = told_with one.keeps told (one.read contents told) in
        let next_is_fault = subst (λ (y : Result F (Fault SpriteRefusal)). IfErr y (λ f. FaultFits w.steady (part (lump_bytes contents dir.lumps)) (itself f))) is (two.answers contents told_after_first).err in
        record { ok = tt; err = reads_at v.steady w.steady (part (lump_bytes contents dir.lumps)) (expected (lump_bytes contents dir.lumps)) (itself fault) one.keeps.follows.steady (λ e h. stops (lump_bytes contents dir.lumps) e (one.answers contents told).ok h) next_is_fault };
    causes = record { ok = tt; err = cause_then x.faults (itself fault) one.causes.ok (subst (λ (y : Result F (Fault SpriteRefusal)). IfErr y (λ f. HasCauseAt w.faults x.faults (itself f))) is two.causes.err) };
    full = full_at (itself fault) (λ wanted widest' k. full_for_earlier among one.keeps wanted widest' k) (subst (λ (y : Result F (Fault SpriteRefusal)). IfErr y (λ f. IfFull (itself f) (IsFullFor some dir b))) is two.full);
    order = λ items all k.
        let order_so_far = one.order items all k in
        order_at (itself fault) (λ k2. order_then order_so_far k2) (subst (λ (y : Result F (Fault SpriteRefusal)). MatchResult y (λ _. KeepsOrder items b c w.taken x.taken) (λ f. InOrderAt (itself f) (KeepsOrder items b c w.taken x.taken))) is (two.order items (λ lump s. all lump (among lump s)) order_so_far.order));
  }

-- the same error goes on
pub reads_same : {A B : Type 0} {v w : ShelfView} {dir : DirectoryView} {a b : Heap} {p q : List (Option Patch)} {wants : ℕ → Type 0} {value : B → A} (result : Result B (Fault SpriteRefusal)) (fault : (Fault SpriteRefusal)) (expected : (ℕ → List ℕ) → Result A SpriteRefusal) → IsErrAnd result (λ e. e ≡ fault) →
    Reads v w dir a b p q wants value expected (Err fault) → Reads v w dir a b p q wants value expected result
reads_same {v} {w} {dir} {a} {b} {p} {q} {wants} {value} result fault expected is tells =
    let result_is_error = err_from_is_err_and result is in
    subst (Reads v w dir a b p q wants value expected) (sym (result_is_error.1 ∙ ap Err result_is_error.2)) tells

module _ {v w : ShelfView} {dir : DirectoryView} {a b : Heap} {p q : List (Option Patch)} {wants : ℕ → Type 0} where
  -- memory ran out after what was done
  pub reads_short : {A B C D : Type 0} {value : B → A} {expected : (ℕ → List ℕ) → Result A SpriteRefusal} {first : D → C} {before : (ℕ → List ℕ) → Result C SpriteRefusal} {found : D} → Reads v w dir a b p q wants first before (Ok found) → Reads v w dir a b p q wants value expected (Err OutOfMemory)
  reads_short one = record {
    keeps = one.keeps;
    read = one.read;
    count = one.count;
    answers = λ contents told. record { ok = tt; err = tt };
    causes = record { ok = tt; err = one.causes.ok };
    full = tt;
    order = one.order;
  }

  -- what was read is given up
  pub reads_alone : {A B : Type 0} {value : B → A} {expected : (ℕ → List ℕ) → Result A SpriteRefusal} {result : Result B (Fault SpriteRefusal)} → ((bytes : ℕ → List ℕ) → ArePatchesOf bytes p) → Reads v w dir a b p q wants value expected result → ReadsLumps itself v w dir a b wants value expected result
  reads_alone none one = record {
    keeps = one.keeps;
    answers = λ contents told. one.answers contents (record { hold = told; read = none (lump_bytes contents dir.lumps) });
    causes = one.causes;
    full = one.full;
    order = one.order;
  }

-- a call that keeps no patch
pub reads_of : {A B : Type 0} {v w : ShelfView} {dir : DirectoryView} {a b : Heap} {wants : ℕ → Type 0} {value : B → A} {expected : (ℕ → List ℕ) → Result A SpriteRefusal} {result : Result B (Fault SpriteRefusal)} (patches : List (Option Patch)) → ReadsLumps itself v w dir a b wants value expected result → Reads v w dir a b patches patches wants value expected result
reads_of patches one = record {
  keeps = one.keeps;
  read = λ contents told. told.read;
  count = refl;
  answers = λ contents told. one.answers contents told.hold;
  causes = one.causes;
  full = one.full;
  order = one.order;
}

abbrev no_patch : Option Patch
no_patch = None

none_at : (n lump : ℕ) → slice_index_or (replicate n no_patch) lump no_patch ≡ no_patch
none_at zero lump = refl
none_at (suc n) zero = refl
none_at (suc n) (suc lump) = none_at n lump

-- nothing was read yet
pub nothing_read : (bytes : ℕ → List ℕ) (patches : List (Option Patch)) (n : ℕ) → patches ≡ replicate n None → ArePatchesOf bytes patches
nothing_read bytes patches n e = record { at = λ lump. subst (λ x. IfSome x (λ patch. patch_of (bytes lump) ≡ Some patch)) (sym (ap (λ v. slice_index_or v lump None) e ∙ none_at n lump)) tt }

-- what is told of a fault of a full zone
pub full_weaker : {B : Type 0} {P Q : ℕ → ℕ → Type 0} (result : Result B (Fault SpriteRefusal)) → ((wanted widest' : ℕ) → P wanted widest' → Q wanted widest') → IfErr result (λ fault. IfFull (itself fault) P) → IfErr result (λ fault. IfFull (itself fault) Q)
full_weaker (Ok found) f k = tt
full_weaker (Err fault) f k = full_at (itself fault) f k
