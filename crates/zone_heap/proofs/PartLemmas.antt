-- The parts of a region, one for each block, and the blocks that they are.
use Rattle.zone_rules.proofs.Common.{◌≡◌, ℕ, zero, suc, ◌+◌, ◌-◌, ◌<◌, ◌≤◌, Bool, true, false, cond, ◌&&◌, List, [], ◌∷◌, ◌++◌, length, take, drop, Some, None, refl, sym, subst, ap, ap₂, ◌∙◌, arith, ◌==◌, ◌||◌, not, is_none, nat_le, position_or_len, cond-true, cond-false, length-append, take_at, drop_at, append_assoc, append-nil}
use Rattle.zone_heap.specs.{Walks.starts_at, declared.headers.Header.Header}
use Rattle.zone_heap.specs.Headers.{FREE_OWNER, header_in, block_in, live_in, code_tag, is_free_header, is_pinned_header, is_purgeable_header, keeps_tag, ASKED_AT, OWNER_AT, TAG_AT}
use Rattle.zone_heap.specs.Regions.{joined, parts_in, blocks_from, blocks_in, AllWhole, IsLaid, IsSplit}
use Rattle.zone_heap.proofs.WordLemmas.{word_in_front, word_from}
use Rattle.zone_heap.specs.Rules.{Tag, Tiles, is_free, is_pinned, is_purgeable, is_purgeable_tag, HEADER_SIZE, word_at}

-- of two lists of parts: the bytes, whether all are whole, and the blocks
pub joined-append : (xs ys : List (List ℕ)) → joined (xs ++ ys) ≡ joined xs ++ joined ys
joined-append [] ys = refl
joined-append (c ∷ xs) ys = ap (λ zs. c ++ zs) (joined-append xs ys) ∙ sym (append_assoc c (joined xs) (joined ys))

pub whole-append : (xs ys : List (List ℕ)) → AllWhole xs → AllWhole ys → AllWhole (xs ++ ys)
whole-append [] ys a b = b
whole-append (c ∷ xs) ys a b = (a.0, a.1, whole-append xs ys a.2 b)

pub blocks-append : (p : ℕ) (xs ys : List (List ℕ)) → blocks_from p (xs ++ ys) ≡ blocks_from p xs ++ blocks_from (p + length (joined xs)) ys
blocks-append p [] ys = ap (λ n. blocks_from n ys) (let place_is : p ≡ p + length (joined []) = omega arith in place_is)
blocks-append p (c ∷ xs) ys =
    let joined_length = length-append c (joined xs) in
    ap (λ bs. block_in p c ∷ bs) (blocks-append (p + length c) xs ys ∙ ap (λ n. blocks_from (p + length c) xs ++ blocks_from n ys) (omega arith))

-- the parts of a region are those that lay it out
pub parts_are : (n : ℕ) (cs : List (List ℕ)) → length (joined cs) ≤ n → AllWhole cs → parts_in n (joined cs) ≡ cs
parts_are zero [] h w = refl
parts_are (suc n) [] h w = refl
parts_are n ([] ∷ cs) h w = absurd (omega (arith, w.0))
parts_are zero ((x ∷ c) ∷ cs) h w = absurd (let joined_length = length-append (x ∷ c) (joined cs) in omega arith)
parts_are (suc n) ((x ∷ c) ∷ cs) h w =
    let joined_length = length-append (x ∷ c) (joined cs) in
    let size : word_at ((x ∷ c) ++ joined cs) 0 ≡ length (x ∷ c) = word_in_front (x ∷ c) (joined cs) 0 (let part_large = w.0 in omega arith) ∙ w.1 in
    ap₂ ◌∷◌ (take_at (x ∷ c) (joined cs) (word_at ((x ∷ c) ++ joined cs) 0) (sym size))
    (ap (parts_in n) (drop_at (x ∷ c) (joined cs) (word_at ((x ∷ c) ++ joined cs) 0) (sym size)) ∙ parts_are n cs (let part_large = w.0 in omega arith) w.2)

module _ (region : List ℕ) where
  pub blocks_laid : (l : IsLaid region) → blocks_in region ≡ blocks_from 0 l.parts
  blocks_laid l =
      ap (blocks_from 0) (ap (parts_in (length region)) l.is ∙ parts_are (length region) l.parts (let region_length = ap length l.is in omega arith) l.whole)

  -- a region that is split is laid out, and one that is laid out is split at its start
  abbrev pub split_laid : (at : ℕ) → IsSplit region at → IsLaid region
  split_laid at s =
      record { parts = s.front ++ s.rest; is = s.is ∙ sym (joined-append s.front s.rest); whole = whole-append s.front s.rest s.front_whole s.rest_whole }

  abbrev pub split_first : IsLaid region → IsSplit region 0
  split_first l = record { front = []; rest = l.parts; is = l.is; at_is = refl; front_whole = tt; rest_whole = l.whole }

  -- its blocks are those before the place, and those from it on
  pub blocks_split : (at : ℕ) (s : IsSplit region at) → blocks_in region ≡ blocks_from 0 s.front ++ blocks_from at s.rest
  blocks_split at s = blocks_laid (split_laid at s) ∙ blocks-append 0 s.front s.rest
      ∙ ap (λ n. blocks_from 0 s.front ++ blocks_from n s.rest) (let front_length = s.at_is in omega arith)

  -- the block at a place before the region's end, n bytes long
  pub record Opened (at : ℕ) (s : IsSplit region at) (n : ℕ) : Type 0 where
    pub part : List ℕ
    pub next : IsSplit region (at + n)
    pub front : next.front ≡ s.front ++ (part ∷ [])
    pub rest : s.rest ≡ part ∷ next.rest
    pub header : header_in (drop at region) ≡ header_in part
    pub len : length part ≡ n
    pub blocks : blocks_from at s.rest ≡ block_in at part ∷ blocks_from (at + n) next.rest
    pub large : HEADER_SIZE ≤ n
    pub fits : at + n ≤ length region

-- a header is read from the part in front
header_front : (c b : List ℕ) → HEADER_SIZE ≤ length c → header_in (c ++ b) ≡ header_in c
header_front c b h =
    let size_kept = word_in_front c b 0 (omega arith) in let asked_kept = word_in_front c b ASKED_AT (omega arith) in
    let owner_kept = word_in_front c b OWNER_AT (omega arith) in let tag_kept = word_in_front c b TAG_AT (omega arith) in
    λ i. record { size = size_kept i; asked = asked_kept i; owner = owner_kept i; tag = tag_kept i }

-- at a place before the end stands a block, as long as its first word says
pub opened_word : (region : List ℕ) (at : ℕ) (s : IsSplit region at) → at < length region → (n : ℕ) → n ≡ word_at region at → Opened region at s n
opened_word region at s lt n n_is = go s.rest refl s.rest_whole where
  go : (rest : List (List ℕ)) → s.rest ≡ rest → AllWhole rest → Opened region at s n
  go [] e w = absurd (
      let region_length = ap length (s.is ∙ ap (λ r. joined s.front ++ joined r) e) in
      let joined_length = length-append (joined s.front) [] in let front_length = s.at_is in omega arith
      )
  go (c ∷ cs) e w =
      let region_is = s.is ∙ ap (λ r. joined s.front ++ joined r) e in
      let region_from_part : drop at region ≡ c ++ joined cs = ap (drop at) region_is ∙ drop_at (joined s.front) (c ++ joined cs) at s.at_is in
      let head : header_in (drop at region) ≡ header_in c = ap header_in region_from_part ∙ header_front c (joined cs) w.0 in
      let size_word_is : word_at (drop at region) 0 ≡ word_at region at =
      word_from region at 0 ∙ ap (word_at region) (let place_is : at + 0 ≡ at = omega arith in place_is) in
      let size : n ≡ length c = n_is ∙ sym size_word_is ∙ ap (λ (h : Header). h.size) head ∙ w.1 in
      let total = ap length region_is ∙ length-append (joined s.front) (c ++ joined cs) in
      let inner = length-append c (joined cs) in let front_length = s.at_is in let part_large = w.0 in
      let front_grown = ap length (joined-append s.front (c ∷ [])) ∙ length-append (joined s.front) (c ++ []) in
      let part_length = ap length (append-nil c) in
      record {
        part = c;
        next = record {
          front = s.front ++ (c ∷ []);
          rest = cs;
          is = region_is ∙ sym (append_assoc (joined s.front) c (joined cs))
              ∙ ap (λ xs. xs ++ joined cs) (ap (λ xs. joined s.front ++ xs) (sym (append-nil c)) ∙ sym (joined-append s.front (c ∷ [])));
          at_is = omega arith;
          front_whole = whole-append s.front (c ∷ []) s.front_whole (w.0, w.1, tt);
          rest_whole = w.2;
        };
        front = refl;
        rest = e;
        header = head;
        len = sym size;
        blocks = ap (blocks_from at) e ∙ ap (λ z. block_in at c ∷ blocks_from (at + z) cs) (sym size);
        large = omega arith;
        fits = omega arith;
      }

pub opened : (region : List ℕ) (at : ℕ) (s : IsSplit region at) → at < length region → (h : Header) → h ≡ header_in (drop at region) → Opened region at s h.size
opened region at s lt h e = opened_word region at s lt h.size (ap (λ (x : Header). x.size) e ∙ word_from region at 0 ∙ ap (word_at region) (let place_is : at + 0 ≡ at = omega arith in place_is))

-- there is room for the header of a block
pub head_fits : (region : List ℕ) (at : ℕ) → IsSplit region at → at < length region → at + HEADER_SIZE ≤ length region
head_fits region at s lt =
    let block = opened_word region at s lt (word_at region at) refl in let block_large = block.large in let block_fits = block.fits in omega arith

-- less is left behind the block at a place
pub less_left : (region : List ℕ) (at : ℕ) (s : IsSplit region at) → at < length region → (h : Header) → h ≡ header_in (drop at region)
    → length region - (at + h.size) < length region - at
less_left region at s lt h e = let block = opened region at s lt h e in let block_large = block.large in let block_fits = block.fits in omega arith

-- a place at the region's end has no block
pub nothing_left : (region : List ℕ) (at : ℕ) (s : IsSplit region at) → length region ≤ at → s.rest ≡ []
nothing_left region at s le = go s.rest refl s.rest_whole where
  go : (rest : List (List ℕ)) → s.rest ≡ rest → AllWhole rest → s.rest ≡ []
  go [] e w = e
  go (c ∷ cs) e w = absurd (
      let region_length = ap length (s.is ∙ ap (λ r. joined s.front ++ joined r) e) ∙ length-append (joined s.front) (c ++ joined cs) in
      let joined_length = length-append c (joined cs) in let front_length = s.at_is in let part_large = w.0 in omega arith
      )

-- a region is split at no place behind its end
pub split_le : (region : List ℕ) (at : ℕ) (s : IsSplit region at) → at ≤ length region
split_le region at s = let region_length = ap length s.is ∙ length-append (joined s.front) (joined s.rest) in let front_length = s.at_is in omega arith

-- what a header tells, its block is
module _ (p : ℕ) (c : List ℕ) where
  pub free_told : is_free (block_in p c) ≡ is_free_header (header_in c)
  free_told = go (word_at c OWNER_AT == FREE_OWNER) where
    go : (t : Bool) → is_none (cond t None (Some (live_in c))) ≡ t
    go true = refl
    go false = refl

  -- a tag is purgeable if its code is none that keeps
  tag_told : (n : ℕ) → is_purgeable_tag (code_tag n) ≡ not (keeps_tag n)
  tag_told n = go (n == 1) (n == 50) where
    go : (t u : Bool) → is_purgeable_tag (cond t Tag.Static (cond u Tag.Level Tag.Cache)) ≡ not (t || u)
    go true u = refl
    go false true = refl
    go false false = refl

  pub pinned_told : is_pinned (block_in p c) ≡ is_pinned_header (header_in c)
  pinned_told = go (word_at c OWNER_AT == FREE_OWNER) where
    go : (t : Bool) → is_pinned (record { place = p; size = length c; holding = cond t None (Some (live_in c)) }) ≡ (not t && keeps_tag (word_at c TAG_AT))
    go true = refl
    go false = ap not (tag_told (word_at c TAG_AT)) ∙ twice (keeps_tag (word_at c TAG_AT)) where
      twice : (t : Bool) → not (not t) ≡ t
      twice true = refl
      twice false = refl

  pub purgeable_told : is_purgeable (block_in p c) ≡ is_purgeable_header (header_in c)
  purgeable_told = go (word_at c OWNER_AT == FREE_OWNER) where
    go : (t : Bool) → is_purgeable (record { place = p; size = length c; holding = cond t None (Some (live_in c)) }) ≡ (not t && not (keeps_tag (word_at c TAG_AT)))
    go true = refl
    go false = tag_told (word_at c TAG_AT)

module _ (region : List ℕ) (at : ℕ) (s : IsSplit region at) (n : ℕ) (o : Opened region at s n) (h : Header) (e : h ≡ header_in (drop at region)) where
  pub free_at : is_free_header h ≡ is_free (block_in at o.part)
  free_at = ap is_free_header (e ∙ o.header) ∙ sym (free_told at o.part)

  pub pinned_at : is_pinned_header h ≡ is_pinned (block_in at o.part)
  pinned_at = ap is_pinned_header (e ∙ o.header) ∙ sym (pinned_told at o.part)

  pub purgeable_at : is_purgeable_header h ≡ is_purgeable (block_in at o.part)
  purgeable_at = ap is_purgeable_header (e ∙ o.header) ∙ sym (purgeable_told at o.part)

-- the blocks tile the region
pub tiles_laid : (p : ℕ) (cs : List (List ℕ)) → AllWhole cs → Tiles p (p + length (joined cs)) (blocks_from p cs)
tiles_laid p [] w = omega arith
tiles_laid p (c ∷ cs) w = (refl, w.0, subst (λ n. Tiles (p + length c) n (blocks_from (p + length c) cs)) (let joined_length = length-append c (joined cs) in omega arith) (tiles_laid (p + length c) cs w.2))

-- the parts before a place, and those from it on, are no others
module _ (region : List ℕ) (at : ℕ) (s : IsSplit region at) where
  pub rest_is : s.rest ≡ parts_in (length region) (drop at region)
  rest_is =
      let rest_bytes = ap (drop at) s.is ∙ drop_at (joined s.front) (joined s.rest) at s.at_is in
      let region_length = ap length s.is ∙ length-append (joined s.front) (joined s.rest) in
      sym (ap (parts_in (length region)) rest_bytes ∙ parts_are (length region) s.rest (omega arith) s.rest_whole)

  pub front_is : s.front ≡ parts_in (length region) (take at region)
  front_is =
      let front_bytes = ap (take at) s.is ∙ take_at (joined s.front) (joined s.rest) at s.at_is in
      let region_length = ap length s.is ∙ length-append (joined s.front) (joined s.rest) in
      sym (ap (parts_in (length region)) front_bytes ∙ parts_are (length region) s.front (omega arith) s.front_whole)

pub rest_same : (region : List ℕ) (at : ℕ) (s t : IsSplit region at) → s.rest ≡ t.rest
rest_same region at s t = rest_is region at s ∙ sym (rest_is region at t)

pub front_same : (region : List ℕ) (at : ℕ) (s t : IsSplit region at) → s.front ≡ t.front
front_same region at s t = front_is region at s ∙ sym (front_is region at t)

-- so many blocks as parts
pub length-blocks : (p : ℕ) (cs : List (List ℕ)) → length (blocks_from p cs) ≡ length cs
length-blocks p [] = refl
length-blocks p (c ∷ cs) = ap suc (length-blocks (p + length c) cs)

-- the block at which a search starts
starts_told : (rover p : ℕ) (c : List ℕ) (h : Header) → h ≡ header_in c → h.size ≡ length c
    → starts_at rover (block_in p c) ≡ (nat_le rover p || (is_free_header h && (p + h.size == rover)))
starts_told rover p c h e n = ap₂ (λ t m. nat_le rover p || (t && (p + m == rover))) (free_told p c ∙ ap is_free_header (sym e)) (sym n)

-- no search starts before the place
pub record HasPassed (rover : ℕ) (region : List ℕ) (at : ℕ) : Type 0 where
  pub split : IsSplit region at
  pub value : position_or_len (starts_at rover) (blocks_in region) ≡ length split.front + position_or_len (starts_at rover) (blocks_from at split.rest)

-- a search starts at the block of the place
abbrev pub StartsAt : ℕ → List ℕ → ℕ → Type 0
StartsAt rover region at = (s : IsSplit region at) × (length s.front ≡ position_or_len (starts_at rover) (blocks_in region))

-- before the first block none is passed
pub passed_none : (rover : ℕ) (region : List ℕ) → IsLaid region → HasPassed rover region 0
passed_none rover region l = record { split = split_first region l; value = ap (position_or_len (starts_at rover)) (blocks_laid region l) ∙ omega arith }

module _ (rover : ℕ) (region : List ℕ) (at : ℕ) (p : HasPassed rover region at) where
  module _ (lt : at < length region) (h : Header) (e : h ≡ header_in (drop at region)) (t : Bool)
      (t_is : t ≡ (nat_le rover at || (is_free_header h && (at + h.size == rover)))) where
    abbrev o : Opened region at p.split h.size
    o = opened region at p.split lt h e

    told : starts_at rover (block_in at o.part) ≡ t
    told = starts_told rover at o.part h (e ∙ o.header) (sym o.len) ∙ sym t_is

    pub start_here : t ≡ true → StartsAt rover region at
    start_here starts =
        let start_is_here = ap (position_or_len (starts_at rover)) o.blocks ∙ cond-false _ _ _ (ap not (told ∙ starts)) in
        (p.split, let passed_so_far = p.value in omega arith)

    pub passed_then : t ≡ false → HasPassed rover region (at + h.size)
    passed_then passes =
        let position_in_rest = ap (position_or_len (starts_at rover)) o.blocks ∙ cond-true _ _ _ (ap not (told ∙ passes)) in
        let front_length_step = ap length o.front ∙ length-append p.split.front (o.part ∷ []) in
        record { split = o.next; value = let passed_so_far = p.value in omega arith }

  pub start_last : length region ≤ at → StartsAt rover region at
  start_last le =
      let no_blocks_left = ap (λ cs. position_or_len (starts_at rover) (blocks_from at cs)) (nothing_left region at p.split le) in
      (p.split, let passed_so_far = p.value in omega arith)

-- a part replaced by one of the same length, in another region
module _ (region : List ℕ) (at n : ℕ) (s : IsSplit region at) (o : Opened region at s n) where
  pub opened_is : region ≡ joined s.front ++ (o.part ++ joined o.next.rest)
  opened_is = s.is ∙ ap (λ cs. joined s.front ++ joined cs) o.rest

  pub whole_rest : AllWhole (o.part ∷ o.next.rest)
  whole_rest = subst AllWhole o.rest s.rest_whole

  module _ (part : List ℕ) (same : length part ≡ n) (told : word_at part 0 ≡ n) (after : List ℕ) (is : after ≡ joined s.front ++ (part ++ joined o.next.rest)) where
    pub part_whole : AllWhole (part ∷ o.next.rest)
    part_whole = (let block_large = o.large in omega arith, told ∙ sym same, whole_rest.2)

    abbrev pub split_here : IsSplit after at
    split_here = record { front = s.front; rest = part ∷ o.next.rest; is = is; at_is = s.at_is; front_whole = s.front_whole; rest_whole = part_whole }

    abbrev pub split_next : IsSplit after (at + n)
    split_next = record {
      front = s.front ++ (part ∷ []);
      rest = o.next.rest;
      is = is ∙ sym (append_assoc (joined s.front) part (joined o.next.rest))
          ∙ ap (λ xs. xs ++ joined o.next.rest) (ap (λ xs. joined s.front ++ xs) (sym (append-nil part)) ∙ sym (joined-append s.front (part ∷ [])));
      at_is = ap length (joined-append s.front (part ∷ [])) ∙ length-append (joined s.front) (part ++ [])
          ∙ (let part_length = ap length (append-nil part) in let front_length = s.at_is in omega arith);
      front_whole = whole-append s.front (part ∷ []) s.front_whole (part_whole.0, part_whole.1, tt);
      rest_whole = whole_rest.2;
    }

    pub blocks_next : blocks_from 0 split_next.front ≡ blocks_from 0 s.front ++ (block_in at part ∷ [])
    blocks_next = blocks-append 0 s.front (part ∷ []) ∙ ap (λ p. blocks_from 0 s.front ++ (block_in p part ∷ [])) (let front_length = s.at_is in omega arith)

    pub length_after : length after ≡ length region
    length_after =
        let after_length = ap length is ∙ length-append (joined s.front) (part ++ joined o.next.rest) in
        let part_and_rest = length-append part (joined o.next.rest) in
        let region_length = ap length opened_is ∙ length-append (joined s.front) (o.part ++ joined o.next.rest) in
        let old_part_and_rest = length-append o.part (joined o.next.rest) in let part_length = o.len in omega arith
