-- Laws of a call that paints: nothing, one after the other, an error, the same dots by other words, what was made live first.
use Rattle.std.proofs.Common.{◌≡◌, ◌≤◌, ◌<◌, ℕ, ℤ, Bool, true, false, List, ◌++◌, [], Result, Ok, Err, IsErrAnd, OnOk, sym, subst}
use Rattle.art_rules.specs.Words.{Dot, Fault, fault_above, Lump, Painter, ShelfView}
use Rattle.lump_cache.specs.{Zones.Heap, Caches.KeepsCounts}
use Rattle.lump_cache.proofs.FillLemmas.{on_ok}
use Rattle.pixel_strips.specs.{Canvases.CanvasView, Dotted.HasDots, Dotted.PlacedAlike}
use Rattle.pixel_strips.proofs.DottedLemmas.{has_dots-none, has_dots-append, placed-none, placed-then}
use Rattle.texture_build.specs.{Draws.CanDraw, Draws.DrawsWith, Draws.KeepsArt, Views.TexturesView}
use Rattle.texture_build.specs.Paints.{FitIn, Holds, HoldsIf, PaintState, PaintTools, Paints, paint_state}
use Rattle.texture_build.proofs.BesideLemmas.{fit_beside-append}
use Rattle.texture_build.proofs.DrawLemmas.{IsMapped, draws-mapped, draws-none, draws-stop, draws-then, draws-value, draws-wider, holds_art-later, holds_contents-later, on_ok-mapped}

pub on_ok_err : {A E : Type 0} (P : Type 0) (fault : E) (whole : Result A E) → IsErrAnd whole (λ e. e ≡ fault) → OnOk whole P
on_ok_err P fault (Ok x) is = absurd is
on_ok_err P fault (Err e) is = tt

-- what the cache holds it holds later
holds_if-later : (textured : Bool) (t : PaintTools) (contents : List (List ℕ)) (count : ℕ) (a b : ShelfView) (x y : Heap) →
    KeepsArt a b t.dir t.textures x y → HoldsIf textured t contents count a x → HoldsIf textured t contents count b y
holds_if-later true t contents count a b x y keeps hold = holds_art-later keeps hold
holds_if-later false t contents count a b x y keeps hold = record {
  rest = keeps.rest t.colormap count hold.rest;
  files = holds_contents-later keeps hold.files;
}

pub holds-later : (t : PaintTools) (contents : List (List ℕ)) (count : ℕ) {a b : ShelfView} {x y : Heap} →
    KeepsArt a b t.dir t.textures x y → Holds t contents count a x → Holds t contents count b y
holds-later t contents count {a} {b} {x} {y} keeps hold = holds_if-later t.textured t contents count a b x y keeps hold

module _ {R E Q : Type 0} {fault_of : E → Fault R} {mark : Painter → ℕ → ℕ} {t : PaintTools} {among : ℕ → ℤ → Type 0} {pictures : ℕ → Type 0} {asked : Q → Type 0} where
  -- a call that touched nothing
  pub paints-none : {A : Type 0} (st : PaintState) (answer : A) →
      Paints fault_of mark t among pictures asked (λ contents q. []) st st (Ok answer)
  paints-none st answer = record {
    painted = λ contents count q hold is. has_dots-none mark st.canvas;
    fits = λ contents count q hold is. tt;
    draws = draws-none st.shelf t.dir t.textures st.cache answer;
    place = placed-none st.canvas;
  }

  -- after a call that was Ok another, whatever it answers
  pub paints-then : {A B : Type 0} {f g : List (List ℕ) → Q → List Dot} {a b c : PaintState} {first : B} {result : Result A E} →
      Paints fault_of mark t among pictures asked f a b (Ok first) → Paints fault_of mark t among pictures asked g b c result →
      Paints fault_of mark t among pictures asked (λ contents q. f contents q ++ g contents q) a c result
  paints-then {f = f} {g} {a} {result = result} one two = record {
    painted = λ contents count q hold is.
        on_ok result (has_dots-append (one.painted contents count q hold is)) (two.painted contents count q (holds-later t contents count one.draws.keeps hold) is);
    fits = λ contents count q hold is. on_ok result
        (λ h. fit_beside-append t.dir.lumps t.textures t.colormap count a.cache.size (f contents q) (g contents q) (one.fits contents count q hold is)
        (subst (λ (n : ℕ). FitIn t count n (g contents q)) one.draws.keeps.counts.0 h))
        (two.fits contents count q (holds-later t contents count one.draws.keeps hold) is);
    draws = draws-then one.draws two.draws;
    place = placed-then one.place two.place;
  }

  -- a call that ended in an error is the whole call's answer
  pub paints-stop : {A B : Type 0} {f g : List (List ℕ) → Q → List Dot} {a b : PaintState} {part : Result B E} {fault : E} {whole : Result A E} →
      part ≡ Err fault → IsErrAnd whole (λ e. e ≡ fault) → Paints fault_of mark t among pictures asked f a b part →
      Paints fault_of mark t among pictures asked g a b whole
  paints-stop {g = g} {a} {b} {fault = fault} {whole} was is one = record {
    painted = λ contents count q hold sees. on_ok_err (HasDots mark (g contents q) a.canvas b.canvas) fault whole is;
    fits = λ contents count q hold sees. on_ok_err (FitIn t count a.cache.size (g contents q)) fault whole is;
    draws = draws-stop was is one.draws;
    place = one.place;
  }

  -- an error after a call that was Ok
  pub paints-then_stop : {A B D : Type 0} {f g h : List (List ℕ) → Q → List Dot} {a b c : PaintState} {first : D} {part : Result B E} {fault : E} {whole : Result A E} →
      part ≡ Err fault → IsErrAnd whole (λ e. e ≡ fault) → Paints fault_of mark t among pictures asked f a b (Ok first) →
      Paints fault_of mark t among pictures asked g b c part → Paints fault_of mark t among pictures asked h a c whole
  paints-then_stop {h = h} {a} {c = c} {fault = fault} {whole} was is one two =
      let both_paint = paints-then one (paints-stop {g = h} was is two) in record {
        painted = λ contents count q hold sees. on_ok_err (HasDots mark (h contents q) a.canvas c.canvas) fault whole is;
        fits = λ contents count q hold sees. on_ok_err (FitIn t count a.cache.size (h contents q)) fault whole is;
        draws = both_paint.draws;
        place = both_paint.place;
      }

  -- the same dots by other words
  pub paints-same : {A : Type 0} {f : List (List ℕ) → Q → List Dot} {a b : PaintState} {result : Result A E} (g : List (List ℕ) → Q → List Dot) →
      ((contents : List (List ℕ)) (q : Q) → asked q → f contents q ≡ g contents q) →
      Paints fault_of mark t among pictures asked f a b result → Paints fault_of mark t among pictures asked g a b result
  paints-same {a = a} {b} {result} g same one = record {
    painted = λ contents count q hold is.
        subst (λ (dots : List Dot). OnOk result (HasDots mark dots a.canvas b.canvas)) (same contents q is) (one.painted contents count q hold is);
    fits = λ contents count q hold is.
        subst (λ (dots : List Dot). OnOk result (FitIn t count a.cache.size dots)) (same contents q is) (one.fits contents count q hold is);
    draws = one.draws;
    place = one.place;
  }

  -- an answer that was Ok is Ok with another value
  pub paints-value : {A B : Type 0} {f : List (List ℕ) → Q → List Dot} {a b : PaintState} {first : B} (answer : A) →
      Paints fault_of mark t among pictures asked f a b (Ok first) → Paints fault_of mark t among pictures asked f a b (Ok answer)
  paints-value {first = first} answer one = record { painted = one.painted; fits = one.fits; draws = draws-value first answer one.draws; place = one.place }

  -- a call that made live what it then painted with
  pub paints-live : {A : Type 0} {dots : List (List ℕ) → Q → List Dot} {u v w : ShelfView} {x y z : Heap} {a b : CanvasView} (answer : A) →
      DrawsWith {A = A} fault_of among pictures u v t.dir t.textures x y (Ok answer) →
      ((view : ShelfView) (contents : List (List ℕ)) (count : ℕ) (q : Q) → Holds t contents count view y → asked q → HasDots mark (dots contents q) a b) →
      ((view : ShelfView) (contents : List (List ℕ)) (count : ℕ) (q : Q) → Holds t contents count view y → asked q → FitIn t count y.size (dots contents q)) →
      PlacedAlike a b → w ≡ v → z ≡ y →
      Paints fault_of mark t among pictures asked dots (paint_state u x a) (paint_state w z b) (Ok answer)
  paints-live {A} {dots} {u} {v} {x = x} {y} {z} answer draws painted fits place same_shelf same_cache = record {
    painted = λ contents count q hold is. painted v contents count q (holds-later t contents count draws.keeps hold) is;
    fits = λ contents count q hold is. subst (λ (n : ℕ). FitIn t count n (dots contents q)) draws.keeps.counts.0
        (fits v contents count q (holds-later t contents count draws.keeps hold) is);
    draws = subst (λ (s : ShelfView). DrawsWith {A = A} {E = E} fault_of among pictures u s t.dir t.textures x z (Ok answer)) (sym same_shelf)
        (subst (λ (h : Heap). DrawsWith {A = A} {E = E} fault_of among pictures u v t.dir t.textures x h (Ok answer)) (sym same_cache) draws);
    place = place;
  }

  -- one that did not make it live, and painted nothing
  pub paints-missed : {A B : Type 0} {f : List (List ℕ) → Q → List Dot} (view after : ShelfView) (x y : Heap) (a : CanvasView) {part : Result B E} {fault : E} {whole : Result A E} →
      part ≡ Err fault → IsErrAnd whole (λ e. e ≡ fault) →
      DrawsWith fault_of among pictures view after t.dir t.textures x y part →
      Paints fault_of mark t among pictures asked f (paint_state view x a) (paint_state after y a) whole
  paints-missed {f = f} view after x y a {fault = fault} {whole} was is draws = record {
    painted = λ contents count q hold sees. on_ok_err (HasDots mark (f contents q) a a) fault whole is;
    fits = λ contents count q hold sees. on_ok_err (FitIn t count x.size (f contents q)) fault whole is;
    draws = draws-stop was is draws;
    place = placed-none a;
  }

-- with more columns and more lumps
pub paints-wider : {A R E Q : Type 0} {fault_of : E → Fault R} {mark : Painter → ℕ → ℕ} {t : PaintTools} {some among : ℕ → ℤ → Type 0} {lumps pictures : ℕ → Type 0} {asked : Q → Type 0} {f : List (List ℕ) → Q → List Dot} {a b : PaintState} {result : Result A E} →
    ((number : ℕ) (column : ℤ) → some number column → among number column) → ((lump : ℕ) → lumps lump → pictures lump) →
    Paints fault_of mark t some lumps asked f a b result → Paints fault_of mark t among pictures asked f a b result
paints-wider wider more one = record { painted = one.painted; fits = one.fits; draws = draws-wider wider more one.draws; place = one.place }

-- asked of another: by what the first is of the second
pub paints-asked : {A R E P Q : Type 0} {fault_of : E → Fault R} {mark : Painter → ℕ → ℕ} {t : PaintTools} {among : ℕ → ℤ → Type 0} {pictures : ℕ → Type 0} {first : P → Type 0} {f : List (List ℕ) → P → List Dot} {a b : PaintState} {result : Result A E}
    (asked : Q → Type 0) (of : Q → P) → ((q : Q) → asked q → first (of q)) →
    Paints fault_of mark t among pictures first f a b result →
    Paints fault_of mark t among pictures asked (λ contents q. f contents (of q)) a b result
paints-asked asked of is one = record {
  painted = λ contents count q hold a. one.painted contents count (of q) hold (is q a);
  fits = λ contents count q hold a. one.fits contents count (of q) hold (is q a);
  draws = one.draws;
  place = one.place;
}

-- the same call, its faults told by `map_err`
pub paints-mapped : {A R S E G Q : Type 0} {fault_of : E → Fault R} {high : G → Fault S} {mark : Painter → ℕ → ℕ} {t : PaintTools} {among : ℕ → ℤ → Type 0} {pictures : ℕ → Type 0} {asked : Q → Type 0} {dots : List (List ℕ) → Q → List Dot} {a b : PaintState}
    (f : R → S) (above : E → G) → ((e : E) → high (above e) ≡ fault_above f (fault_of e)) → (lower : Result A E) (result : Result A G) → IsMapped above lower result →
    Paints fault_of mark t among pictures asked dots a b lower → Paints high mark t among pictures asked dots a b result
paints-mapped {mark = mark} {t} {dots = dots} {a} {b} f above same lower result is one = record {
  painted = λ contents count q hold sees. on_ok-mapped (HasDots mark (dots contents q) a.canvas b.canvas) above lower result is (one.painted contents count q hold sees);
  fits = λ contents count q hold sees. on_ok-mapped (FitIn t count a.cache.size (dots contents q)) above lower result is (one.fits contents count q hold sees);
  draws = draws-mapped f above same lower result is one.draws;
  place = one.place;
}

-- a texture that may be drawn may be drawn later
can_draw-counts : {lumps : List Lump} {textures : TexturesView} {x y : Heap} {number : ℕ} → KeepsCounts x y →
    CanDraw lumps textures x number → CanDraw lumps textures y number
can_draw-counts {number = number} counts can =
    record { prepared = can.prepared; slot = subst (λ (n : ℕ). number < n) (sym counts.2) can.slot; there = can.there }

-- what a call asks of the room it may ask again
module _ {A R E Q : Type 0} {fault_of : E → Fault R} {mark : Painter → ℕ → ℕ} {t : PaintTools} {among : ℕ → ℤ → Type 0} {pictures : ℕ → Type 0} {asked : Q → Type 0} {f : List (List ℕ) → Q → List Dot} {a b : PaintState} {result : Result A E} where
  pub slots-later : {n : ℕ} → Paints fault_of mark t among pictures asked f a b result → n ≤ a.cache.lumps → n ≤ b.cache.lumps
  slots-later one can = rw one.draws.keeps.counts.1 can

  pub can_draw-later : {number : ℕ} → Paints fault_of mark t among pictures asked f a b result → CanDraw t.dir.lumps t.textures a.cache number → CanDraw t.dir.lumps t.textures b.cache number
  can_draw-later one can = can_draw-counts one.draws.keeps.counts can
