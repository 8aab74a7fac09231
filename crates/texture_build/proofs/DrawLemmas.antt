-- Laws of calls that draw: none, one after another, one that ends the whole, and a layer above.
use Rattle.art_rules.proofs.Common.{ap, Err, err_from_is_err_and, inl, inr, IsErrAnd, IsTrue, List, MatchResult, Ok, OnOk, refl, Result, subst, sym, ℕ, ℤ, ◌∙◌, ◌≡◌, ◌⊎◌}
use Rattle.art_rules.specs.Words.{Fault, fault_above, OutOfMemory, ReadFault, Refused, ShelfView, ZoneFull}
use Rattle.art_rules.proofs.Laws.{all_stand_later, cause_above, cause_then, follows_none, follows_then}
use Rattle.lump_cache.specs.{Zones.Heap, Zones.block_size, Orders.Item, Orders.KeepsOrder}
use Rattle.zone_rules.proofs.OrderLemmas.{order_none, order_then}
use Rattle.lump_cache.specs.DirectoryView.{DirectoryView}
use Rattle.lump_cache.specs.Calls.{HoldContents, IfFull, InOrderAt, IsFullFor}
use Rattle.lump_cache.proofs.CallLemmas.{full_at, order_at, result_above}
use Rattle.lump_cache.specs.Sizes.{IsGapBeside}
use Rattle.texture_build.specs.Asked.{IsGapBesideComposite, IsPatch, size_of}
use Rattle.texture_build.specs.Sources.{IsComposedColumn, column_in}
use Rattle.texture_build.specs.Views.{TexturesView, prepared_texture}
use Rattle.texture_build.specs.Draws.{KeepsArt, HoldsArt, IsNoReadFault, IsFullForTexture, DrawsWith}

-- nothing happened
pub keeps_art-none : (view : ShelfView) (dir : DirectoryView) (textures : TexturesView) (z : Heap) →
    KeepsArt view view dir textures z z
keeps_art-none view dir textures z = record {
  follows = follows_none view;
  counts = (refl, refl, refl);
  rest = λ colormap count r. r;
  faithful = λ contents stand f. f;
  composites = λ contents hold k. k;
}

-- the contents are there after a call
pub holds_contents-later : {a b : ShelfView} {dir : DirectoryView} {textures : TexturesView}
    {x y : Heap} {contents : List (List ℕ)} → KeepsArt a b dir textures x y →
    HoldContents a dir x contents → HoldContents b dir y contents
holds_contents-later {a} {b} {dir} {contents = contents} keeps hold = record {
  stand = all_stand_later a b dir.files contents keeps.follows hold.stand;
  within = hold.within;
  faithful = keeps.faithful contents hold.stand hold.faithful;
}

-- two calls one after the other
pub keeps_art-then : {a b c : ShelfView} {dir : DirectoryView} {textures : TexturesView}
    {x y z : Heap} → KeepsArt a b dir textures x y → KeepsArt b c dir textures y z →
    KeepsArt a c dir textures x z
keeps_art-then {a} {b} {dir = dir} one two = record {
  follows = follows_then one.follows two.follows;
  counts = (two.counts.0 ∙ one.counts.0, two.counts.1 ∙ one.counts.1, two.counts.2 ∙ one.counts.2);
  rest = λ colormap count r. two.rest colormap count (one.rest colormap count r);
  faithful = λ contents stand f. two.faithful contents
      (all_stand_later a b dir.files contents one.follows stand) (one.faithful contents stand f);
  composites = λ contents hold k. two.composites contents (holds_contents-later one hold)
      (one.composites contents hold k);
}

-- the art that is there stays
pub holds_art-later : {a b : ShelfView} {dir : DirectoryView} {textures : TexturesView}
    {x y : Heap} {contents : List (List ℕ)} {colormap count : ℕ} →
    KeepsArt a b dir textures x y → HoldsArt a dir textures contents colormap count x →
    HoldsArt b dir textures contents colormap count y
holds_art-later {contents = contents} {colormap} {count} keeps hold = record {
  rest = keeps.rest colormap count hold.rest;
  files = holds_contents-later keeps hold.files;
  prepared = hold.prepared;
  composites = keeps.composites contents hold.files hold.composites;
}

-- a zone that was full for a column later was so from the beginning
full_column-earlier : {a b : ShelfView} {dir : DirectoryView} {textures : TexturesView} {x y : Heap}
    {among some : ℕ → ℤ → Type 0} → KeepsArt a b dir textures x y →
    ((number : ℕ) (column : ℤ) → some number column → among number column) → (wanted widest : ℕ) →
    IsFullForTexture some dir.lumps textures y wanted widest →
    IsFullForTexture among dir.lumps textures x wanted widest
full_column-earlier {dir = dir} {textures} {x} {y} keeps wider wanted widest k =
    let column_facts = k.full in record {
      number = k.number;
      column = k.column;
      is = wider k.number k.column k.is;
      full = record {
        owner = column_facts.owner;
        size = column_facts.size;
        asked = column_facts.asked;
        wanted_is = column_facts.wanted_is;
        narrow = column_facts.narrow;
        gap = λ colormap count rest. subst
            (λ (n : ℕ). IsGapBeside n (block_size count) widest
            ⊎ (IsComposedColumn (column_in (prepared_texture textures k.number) k.column)
            × IsPatch dir.lumps (prepared_texture textures k.number) column_facts.owner column_facts.size
            × IsGapBesideComposite n count (size_of (prepared_texture textures k.number)) widest))
            keeps.counts.0 (column_facts.gap colormap count (keeps.rest colormap count rest));
      };
    }

-- and one that was full for a lump
full_lump-earlier : {a b : ShelfView} {dir : DirectoryView} {textures : TexturesView} {x y : Heap}
    {pictures some : ℕ → Type 0} → KeepsArt a b dir textures x y →
    ((lump : ℕ) → some lump → pictures lump) → (wanted widest : ℕ) →
    IsFullFor some dir y wanted widest → IsFullFor pictures dir x wanted widest
full_lump-earlier keeps wider wanted widest full = record {
  lump = full.lump;
  asked = wider full.lump full.asked;
  wanted_is = full.wanted_is;
  narrow = full.narrow;
  gap = λ colormap count rest. subst (λ (n : ℕ). IsGapBeside n (block_size count) widest) keeps.counts.0
      (full.gap colormap count (keeps.rest colormap count rest));
}

full-earlier : {a b : ShelfView} {dir : DirectoryView} {textures : TexturesView} {x y : Heap}
    {among some : ℕ → ℤ → Type 0} {pictures lumps : ℕ → Type 0} → KeepsArt a b dir textures x y →
    ((number : ℕ) (column : ℤ) → some number column → among number column) → ((lump : ℕ) → lumps lump → pictures lump) →
    (wanted widest : ℕ) →
    (IsFullForTexture some dir.lumps textures y wanted widest ⊎ IsFullFor lumps dir y wanted widest) →
    (IsFullForTexture among dir.lumps textures x wanted widest
    ⊎ IsFullFor pictures dir x wanted widest)
full-earlier keeps wider more wanted widest (inl k) = inl (full_column-earlier keeps wider wanted widest k)
full-earlier keeps wider more wanted widest (inr k) = inr (full_lump-earlier keeps more wanted widest k)

-- a part's order, where the whole began in order
order-then : {R : Type 0} {items : List Item} {x y : Heap} {n m : ℕ} (z : Heap) (k : ℕ)
    (fault : Fault R) → KeepsOrder items x y n m →
    InOrderAt fault (KeepsOrder items y z m k) → InOrderAt fault (KeepsOrder items x z n k)
order-then z k fault one two = order_at fault (λ kept. order_then one kept) two

module _ {A E R : Type 0} {fault_of : E → Fault R} {among : ℕ → ℤ → Type 0} {pictures : ℕ → Type 0} where
  -- an answer of a call that touched nothing
  pub draws-none : (view : ShelfView) (dir : DirectoryView) (textures : TexturesView) (z : Heap)
      (answer : A) →
      DrawsWith fault_of among pictures view view dir textures z z (Ok answer)
  draws-none view dir textures z answer = record {
    keeps = keeps_art-none view dir textures z;
    causes = record { ok = refl; err = tt };
    steady = λ contents stand within steady. tt;
    full = tt;
    order = λ items asked all k. order_none items z view.taken k;
  }

  -- another answer of the same value
  pub draws-as : {v w : ShelfView} {dir : DirectoryView} {textures : TexturesView} {x y : Heap}
      {a b : Result A E} → a ≡ b →
      DrawsWith fault_of among pictures v w dir textures x y a →
      DrawsWith fault_of among pictures v w dir textures x y b
  draws-as {v} {w} {dir} {textures} {x} {y} e k =
      subst (DrawsWith fault_of among pictures v w dir textures x y) e k

  -- an answer that was Ok is Ok with another value
  pub draws-value : {B : Type 0} {v w : ShelfView} {dir : DirectoryView} {textures : TexturesView}
      {x y : Heap} (first : B) (answer : A) →
      DrawsWith fault_of among pictures v w dir textures x y (Ok first) →
      DrawsWith fault_of among pictures v w dir textures x y (Ok answer)
  draws-value first answer one = record {
    keeps = one.keeps;
    causes = record { ok = one.causes.ok; err = tt };
    steady = λ contents stand within steady. tt;
    full = tt;
    order = one.order;
  }

  -- a call that ended in an error is the whole call's answer
  pub draws-stop : {B : Type 0} {v w : ShelfView} {dir : DirectoryView} {textures : TexturesView}
      {x y : Heap} {part : Result B E} {fault : E} {whole : Result A E} → part ≡ Err fault →
      IsErrAnd whole (λ e. e ≡ fault) →
      DrawsWith fault_of among pictures v w dir textures x y part →
      DrawsWith fault_of among pictures v w dir textures x y whole
  draws-stop {B} {v} {w} {dir} {textures} {x} {y} {part} {fault} {whole} was is part_draws =
      let fault_draws = subst (DrawsWith {A = B} fault_of among pictures v w dir textures x y) was part_draws in
      let error_is = err_from_is_err_and whole is in
      draws-as (sym (error_is.1 ∙ ap Err error_is.2)) (record {
        keeps = fault_draws.keeps;
        causes = record { ok = tt; err = fault_draws.causes.err };
        steady = λ contents stand within steady. fault_draws.steady contents stand within steady;
        full = fault_draws.full;
        order = fault_draws.order;
      })

  -- after a call that was Ok, another, whatever it answers
  pub draws-then : {B : Type 0} {v w u : ShelfView} {dir : DirectoryView} {textures : TexturesView}
      {x y z : Heap} {first : B} {result : Result A E} →
      DrawsWith fault_of among pictures v w dir textures x y (Ok first) →
      DrawsWith fault_of among pictures w u dir textures y z result →
      DrawsWith fault_of among pictures v u dir textures x z result
  draws-then {v = v} {w} {dir = dir} {result = Ok answer} one two = record {
    keeps = keeps_art-then one.keeps two.keeps;
    causes = record { ok = two.causes.ok ∙ one.causes.ok; err = tt };
    steady = λ contents stand within steady. tt;
    full = tt;
    order = λ items asked all k.
        let order_kept = one.order items asked all k in
        order_then order_kept (two.order items asked all order_kept.order);
  }
  draws-then {v = v} {w} {u} {dir} {z = z} {result = Err fault} one two = record {
    keeps = keeps_art-then one.keeps two.keeps;
    causes = record { ok = tt; err = cause_then u.faults (fault_of fault) one.causes.ok two.causes.err };
    steady = λ contents stand within steady. two.steady contents
        (all_stand_later v w dir.files contents one.keeps.follows stand) within
        (subst IsTrue (sym one.keeps.follows.steady) steady);
    full = full_at (fault_of fault)
        (full-earlier one.keeps (λ number column k. k) (λ lump k. k)) two.full;
    order = λ items asked all k.
        let order_kept = one.order items asked all k in
        order-then z u.taken (fault_of fault) order_kept (two.order items asked all order_kept.order);
  }

-- with more columns and more lumps
pub draws-wider : {A E R : Type 0} {fault_of : E → Fault R} {some among : ℕ → ℤ → Type 0} {lumps pictures : ℕ → Type 0}
    {v w : ShelfView} {dir : DirectoryView} {textures : TexturesView} {x y : Heap}
    {result : Result A E} → ((number : ℕ) (column : ℤ) → some number column → among number column) →
    ((lump : ℕ) → lumps lump → pictures lump) →
    DrawsWith fault_of some lumps v w dir textures x y result →
    DrawsWith fault_of among pictures v w dir textures x y result
draws-wider {result = Ok answer} wider more one = record {
  keeps = one.keeps;
  causes = record { ok = one.causes.ok; err = tt };
  steady = λ contents stand within steady. tt;
  full = tt;
  order = λ items asked all k. one.order items
      (λ number column is. asked number column (wider number column is))
      (λ lump is. all lump (more lump is)) k;
}
draws-wider {fault_of = fault_of} {v = v} {dir = dir} {textures} {x} {result = Err fault} wider more one =
    record {
      keeps = one.keeps;
      causes = record { ok = tt; err = one.causes.err };
      steady = λ contents stand within steady. one.steady contents stand within steady;
      full = full_at (fault_of fault) (full-earlier (keeps_art-none v dir textures x) wider more) one.full;
      order = λ items asked all k. one.order items
          (λ number column is. asked number column (wider number column is))
          (λ lump is. all lump (more lump is)) k;
    }

read_up : {R Q : Type 0} (f : R → Q) (fault : Fault R) → IsNoReadFault fault →
    IsNoReadFault (fault_above f fault)
read_up f (Refused reason) k = tt
read_up f ReadFault k = k
read_up f (ZoneFull wanted widest) k = tt
read_up f OutOfMemory k = tt

full_up : {R Q : Type 0} (P : ℕ → ℕ → Type 0) (f : R → Q) (fault : Fault R) → IfFull fault P →
    IfFull (fault_above f fault) P
full_up P f (Refused reason) k = tt
full_up P f ReadFault k = tt
full_up P f (ZoneFull wanted widest) k = k
full_up P f OutOfMemory k = tt

order_up : {R Q : Type 0} (P : Type 0) (f : R → Q) (fault : Fault R) → InOrderAt fault P →
    InOrderAt (fault_above f fault) P
order_up P f (Refused reason) k = k
order_up P f ReadFault k = tt
order_up P f (ZoneFull wanted widest) k = k
order_up P f OutOfMemory k = k

-- a call of the layer below, whose faults this one tells as its own
pub draws-above : {A E R Q G : Type 0} {fault_of : E → Fault R} {high : G → Fault Q}
    {among : ℕ → ℤ → Type 0} {pictures : ℕ → Type 0} {v w : ShelfView} {dir : DirectoryView}
    {textures : TexturesView} {x y : Heap} (f : R → Q) (above : E → G) →
    ((e : E) → high (above e) ≡ fault_above f (fault_of e)) → (result : Result A E) →
    DrawsWith fault_of among pictures v w dir textures x y result →
    DrawsWith high among pictures v w dir textures x y (result_above above result)
draws-above f above same (Ok answer) one = record {
  keeps = one.keeps;
  causes = record { ok = one.causes.ok; err = tt };
  steady = λ contents stand within steady. tt;
  full = tt;
  order = one.order;
}
draws-above {fault_of = fault_of} {among = among} {pictures} {v} {w} {dir} {textures} {x} {y} f above same (Err e) one = record {
  keeps = one.keeps;
  causes = record { ok = tt; err = rw (same e) (cause_above f v.faults w.faults (fault_of e) one.causes.err) };
  steady = λ contents stand within steady. rw (same e)
      (read_up f (fault_of e) (one.steady contents stand within steady));
  full = rw (same e) (full_up (λ wanted widest.
      IsFullForTexture among dir.lumps textures x wanted widest
      ⊎ IsFullFor pictures dir x wanted widest) f (fault_of e) one.full);
  order = λ items asked all k. rw (same e)
      (order_up (KeepsOrder items x y v.taken w.taken) f (fault_of e) (one.order items asked all k));
}

-- what `map_err(above)`, or a `?`, tells of its result
abbrev pub IsMapped : {A E G : Type 0} → (E → G) → Result A E → Result A G → Type 0
IsMapped above lower result =
    MatchResult lower (λ x. result ≡ Ok x) (λ e. IsErrAnd result (λ f. f ≡ above e))

pub mapped-err : {A E G : Type 0} (above : E → G) (lower : Result A E) (fault : E) (result : Result A G) →
    lower ≡ Err fault → IsErrAnd result (λ f. f ≡ above fault) → IsMapped above lower result
mapped-err above lower fault result was is = subst (λ r. IsMapped above r result) (sym was) is

pub mapped-ok : {A E G : Type 0} (above : E → G) (lower : Result A E) (value : A) → lower ≡ Ok value →
    IsMapped above lower (Ok value)
mapped-ok {G = G} above lower value was = subst (λ r. IsMapped {G = G} above r (Ok value)) (sym was) refl

mapped-is : {A E G : Type 0} (above : E → G) (lower : Result A E) (result : Result A G) →
    IsMapped above lower result → result ≡ result_above above lower
mapped-is above (Ok x) result is = is
mapped-is above (Err e) result is = let error_is = err_from_is_err_and result is in error_is.1 ∙ ap Err error_is.2

-- the same call, its faults told by `map_err`
pub draws-mapped : {A E R Q G : Type 0} {fault_of : E → Fault R} {high : G → Fault Q}
    {among : ℕ → ℤ → Type 0} {pictures : ℕ → Type 0} {v w : ShelfView} {dir : DirectoryView}
    {textures : TexturesView} {x y : Heap} (f : R → Q) (above : E → G) →
    ((e : E) → high (above e) ≡ fault_above f (fault_of e)) → (lower : Result A E)
    (result : Result A G) → IsMapped above lower result →
    DrawsWith fault_of among pictures v w dir textures x y lower →
    DrawsWith high among pictures v w dir textures x y result
draws-mapped f above same lower result is one =
    draws-as (sym (mapped-is above lower result is)) (draws-above f above same lower one)

-- and what is told after an Ok
pub on_ok-mapped : {A E G : Type 0} (P : Type 0) (above : E → G) (lower : Result A E)
    (result : Result A G) → IsMapped above lower result → OnOk lower P → OnOk result P
on_ok-mapped {A} {G = G} P above (Ok x) result is p = subst (λ (r : Result A G). OnOk r P) (sym is) p
on_ok-mapped {A} {G = G} P above (Err e) result is p =
    let error_is = err_from_is_err_and result is in
    subst (λ (r : Result A G). OnOk r P) (sym error_is.1) tt
