-- What joining free neighbours keeps, and where a run of free blocks ends up.
use Rattle.zone_rules.proofs.Common.{◌≡◌, ℕ, ◌+◌, ◌≤◌, Bool, true, false, cond, ◌&&◌, List, [], ◌∷◌, ◌++◌, Option, Some, None, refl, sym, subst, ap, ◌∙◌, arith, ⊤, is_none, cond-true, cond-false, and_left, and_right, and_from, and_parts, false≢true}
use Rattle.zone_rules.specs.Zones.{Block, Holding, Owner, Tiles, Apart, Lacks, OwnsOnce, Unique, AllFit, FitsHolding, is_free, is_held_by, starts_free, free_block}
use Rattle.zone_rules.specs.Requests.{join_free, join_on, total}
use Rattle.zone_rules.proofs.GapLemmas.{total-cons}

-- a property of the joined list, from one of each way that two neighbours stand
tiles_on : (p q : ℕ) (b : Block) (bs : List Block) → b.place ≡ p → 24 ≤ b.size → Tiles (p + b.size) q bs → Tiles p q (join_on b bs)
tiles_on p q b [] e h t = (e, h, t)
tiles_on p q b (c ∷ cs) e h t = go (is_free b && is_free c) where
  go : (u : Bool) → Tiles p q (cond u (free_block b.place (b.size + c.size) ∷ cs) (b ∷ c ∷ cs))
  go true = (e, omega arith, let same_end : p + b.size + c.size ≡ p + (b.size + c.size) = omega arith in subst (λ n. Tiles n q cs) same_end t.2)
  go false = (e, h, t)

pub Tiles-join_free : (p q : ℕ) (bs : List Block) → Tiles p q bs → Tiles p q (join_free bs)
Tiles-join_free p q [] t = t
Tiles-join_free p q (b ∷ bs) t = tiles_on p q b (join_free bs) t.0 t.1 (Tiles-join_free (p + b.size) q bs t.2)

apart_on : (b : Block) (bs : List Block) → Apart bs → Apart (join_on b bs)
apart_on b [] a = (and_right (is_free b) false refl, tt)
apart_on b (c ∷ cs) a = go (is_free b && is_free c) refl where
  go : (u : Bool) → (is_free b && is_free c) ≡ u → Apart (cond u (free_block b.place (b.size + c.size) ∷ cs) (b ∷ c ∷ cs))
  go true e = let next_is_free : is_free c ≡ true = (and_parts (is_free b) (is_free c) e).1 in (ap (λ t. t && starts_free cs) (sym next_is_free) ∙ a.0, a.1)
  go false e = (e, a)

pub Apart-join_free : (bs : List Block) → Apart (join_free bs)
Apart-join_free [] = tt
Apart-join_free (b ∷ bs) = apart_on b (join_free bs) (Apart-join_free bs)

lacks_on : (o : Owner) (b : Block) (bs : List Block) → is_held_by o b ≡ false → Lacks o bs → Lacks o (join_on b bs)
lacks_on o b [] h l = (h, tt)
lacks_on o b (c ∷ cs) h l = go (is_free b && is_free c) where
  go : (u : Bool) → Lacks o (cond u (free_block b.place (b.size + c.size) ∷ cs) (b ∷ c ∷ cs))
  go true = (refl, l.1)
  go false = (h, l)

pub Lacks-join_free : (o : Owner) (bs : List Block) → Lacks o bs → Lacks o (join_free bs)
Lacks-join_free o [] l = tt
Lacks-join_free o (b ∷ bs) l = lacks_on o b (join_free bs) l.0 (Lacks-join_free o bs l.1)

pub OwnsOnce-join_free : (h : Option Holding) (bs : List Block) → OwnsOnce h bs → OwnsOnce h (join_free bs)
OwnsOnce-join_free None bs o = tt
OwnsOnce-join_free (Some h) bs o = Lacks-join_free h.owner bs o

unique_on : (b : Block) (bs : List Block) → OwnsOnce b.holding bs → Unique bs → Unique (join_on b bs)
unique_on b [] o u = (o, tt)
unique_on b (c ∷ cs) o u = go (is_free b && is_free c) where
  go : (t : Bool) → Unique (cond t (free_block b.place (b.size + c.size) ∷ cs) (b ∷ c ∷ cs))
  go true = (tt, u.1)
  go false = (o, u)

pub Unique-join_free : (bs : List Block) → Unique bs → Unique (join_free bs)
Unique-join_free [] u = tt
Unique-join_free (b ∷ bs) u = unique_on b (join_free bs) (OwnsOnce-join_free b.holding bs u.0) (Unique-join_free bs u.1)

fit_on : (l m : ℕ) (b : Block) (bs : List Block) → FitsHolding l m b.size b.holding → AllFit l m bs → AllFit l m (join_on b bs)
fit_on l m b [] h f = (h, tt)
fit_on l m b (c ∷ cs) h f = go (is_free b && is_free c) where
  go : (t : Bool) → AllFit l m (cond t (free_block b.place (b.size + c.size) ∷ cs) (b ∷ c ∷ cs))
  go true = (tt, f.1)
  go false = (h, f)

pub AllFit-join_free : (l m : ℕ) (bs : List Block) → AllFit l m bs → AllFit l m (join_free bs)
AllFit-join_free l m [] f = tt
AllFit-join_free l m (b ∷ bs) f = fit_on l m b (join_free bs) f.0 (AllFit-join_free l m bs f.1)

-- the last block of a list is not free
abbrev pub EndsHeld : List Block → Type 0
EndsHeld [] = ⊤
EndsHeld (b ∷ []) = is_free b ≡ false
EndsHeld (b ∷ c ∷ bs) = EndsHeld (c ∷ bs)

on_append : (b : Block) (xs ys : List Block) (x : Block) → join_on b ((x ∷ xs) ++ ys) ≡ join_on b (x ∷ xs) ++ ys
on_append b xs ys x = go (is_free b && is_free x) where
  go : (u : Bool) → cond u (free_block b.place (b.size + x.size) ∷ (xs ++ ys)) (b ∷ x ∷ (xs ++ ys)) ≡ cond u (free_block b.place (b.size + x.size) ∷ xs) (b ∷ x ∷ xs) ++ ys
  go true = refl
  go false = refl

-- something stands first in what is joined on
pub record Headed (xs : List Block) : Type 0 where
  pub head : Block
  pub tail : List Block
  pub is : xs ≡ head ∷ tail

on_headed : (b : Block) (bs : List Block) → Headed (join_on b bs)
on_headed b [] = record { head = b; tail = []; is = refl }
on_headed b (c ∷ cs) = go (is_free b && is_free c) where
  go : (u : Bool) → Headed (cond u (free_block b.place (b.size + c.size) ∷ cs) (b ∷ c ∷ cs))
  go true = record { head = free_block b.place (b.size + c.size); tail = cs; is = refl }
  go false = record { head = b; tail = c ∷ cs; is = refl }

pub on_held : (b : Block) (bs : List Block) → is_free b ≡ false → join_on b bs ≡ b ∷ bs
on_held b [] h = refl
on_held b (c ∷ cs) h = cond-false _ _ _ (and_left (is_free b) (is_free c) h)

pub join_free-append : (xs ys : List Block) → EndsHeld xs → join_free (xs ++ ys) ≡ join_free xs ++ join_free ys
join_free-append [] ys h = refl
join_free-append (x ∷ []) ys h = on_held x (join_free ys) h
join_free-append (x ∷ y ∷ xs) ys h =
    let headed = on_headed y (join_free xs) in
    ap (join_on x) (join_free-append (y ∷ xs) ys h ∙ ap (λ zs. zs ++ join_free ys) headed.is) ∙ on_append x headed.tail (join_free ys) headed.head ∙ ap (λ zs. join_on x zs ++ join_free ys) (sym headed.is)

abbrev pub AllFree : List Block → Type 0
AllFree [] = ⊤
AllFree (b ∷ bs) = (is_free b ≡ true) × AllFree bs

pub free_is : (b : Block) → is_free b ≡ true → b ≡ free_block b.place b.size
free_is b e = go b.holding e where
  go : (h : Option Holding) → is_none h ≡ true → ◌≡◌ {A = Block} (record { place = b.place; size = b.size; holding = h }) (free_block b.place b.size)
  go None e = refl
  go (Some x) e = absurd (false≢true e)

-- a list that begins with a free block of at least a size
pub record Begins (place least : ℕ) (xs : List Block) : Type 0 where
  pub size : ℕ
  pub rest : List Block
  pub is : xs ≡ free_block place size ∷ rest
  pub large : least ≤ size

begin_on : (b : Block) (bs : List Block) → is_free b ≡ true → Begins b.place b.size (join_on b bs)
begin_on b [] e = record { size = b.size; rest = []; is = ap (λ x. x ∷ []) (free_is b e); large = omega arith }
begin_on b (c ∷ cs) e = go (is_free b && is_free c) where
  go : (u : Bool) → Begins b.place b.size (cond u (free_block b.place (b.size + c.size) ∷ cs) (b ∷ c ∷ cs))
  go true = record { size = b.size + c.size; rest = cs; is = refl; large = omega arith }
  go false = record { size = b.size; rest = c ∷ cs; is = ap (λ x. x ∷ c ∷ cs) (free_is b e); large = omega arith }

begin_more : (b : Block) (place least : ℕ) (bs : List Block) → is_free b ≡ true → Begins place least bs → Begins b.place (b.size + least) (join_on b bs)
begin_more b place least bs e k =
    record { size = b.size + k.size; rest = k.rest; is = ap (join_on b) k.is ∙ cond-true _ _ _ (and_from (is_free b) true e refl); large = let is_large = k.large in omega arith }

pub run_begins : (b : Block) (bs ys : List Block) → AllFree (b ∷ bs) → Begins b.place (total (b ∷ bs)) (join_free ((b ∷ bs) ++ ys))
run_begins b [] ys f = let begun = begin_on b (join_free ys) f.0 in record { size = begun.size; rest = begun.rest; is = begun.is; large = let total_is = total-cons b [] in let is_large = begun.large in omega arith }
run_begins b (c ∷ bs) ys f =
    let begun = begin_more b c.place (total (c ∷ bs)) (join_free ((c ∷ bs) ++ ys)) f.0 (run_begins c bs ys f.1) in record { size = begun.size; rest = begun.rest; is = begun.is; large = let total_is = total-cons b (c ∷ bs) in let is_large = begun.large in omega arith }
