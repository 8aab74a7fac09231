-- A new file has a group where its lumps are put between two marks and no other lump has the name of a mark of it.
use Rattle.art_rules.proofs.Common.{[], AllByRecursion, ap, arith, false, length, List, or-false_false, refl, suc, true, zero, ℕ, ◌++◌, ◌+◌, ◌<◌, ◌||◌, ◌∙◌, ◌∷◌, ◌≡◌}
use Rattle.trim_rules.specs.Rules.{Group, Lump, is_end, is_start, lump_at}
use Rattle.made_rules.specs.Wads as made
use Rattle.trim_rules.specs.Files.{stored_from}
use Rattle.trim_rules.proofs.MemberLemmas.{HasGroup}

-- a lump whose name is no mark of the group
pub record IsPlain (group : Group) (lump : made.Lump) : Type 0 where
  pub start : is_start group lump.name ≡ false
  pub end : is_end group lump.name ≡ false

-- no lump has the name of a mark
record AreFree (group : Group) (lumps : List Lump) : Type 0 where
  files : (k : ℕ) → k < length lumps → (lump_at lumps k).file ≡ 0
  no_start : (k : ℕ) → k < length lumps → is_start group (lump_at lumps k).name ≡ false
  no_end : (k : ℕ) → k < length lumps → is_end group (lump_at lumps k).name ≡ false

free-stored : (group : Group) (place : ℕ) (lumps : List made.Lump) → AllByRecursion (IsPlain group) lumps → AreFree group (stored_from place lumps)
unfolding stored_from
free-stored group place [] all =
    record { files = λ k lt. absurd (omega arith); no_start = λ k lt. absurd (omega arith); no_end = λ k lt. absurd (omega arith) }
free-stored group place (lump ∷ rest) all =
    let rest_free = free-stored group (place + length lump.bytes) rest all.1 in
    record {
      files = λ k lt. files_at k lt (λ j less. rest_free.files j less);
      no_start = λ k lt. start_at k lt (λ j less. rest_free.no_start j less) all.0.start;
      no_end = λ k lt. end_at k lt (λ j less. rest_free.no_end j less) all.0.end;
    } where
      tail : List Lump
      tail = stored_from (place + length lump.bytes) rest

      files_at : (k : ℕ) → k < suc (length tail) → ((j : ℕ) → j < length tail → (lump_at tail j).file ≡ 0)
          → (lump_at (record { file = 0; place = place; size = length lump.bytes; name = lump.name } ∷ tail) k).file ≡ 0
      files_at zero lt more = refl
      files_at (suc j) lt more = more j (omega arith)

      start_at : (k : ℕ) → k < suc (length tail) → ((j : ℕ) → j < length tail → is_start group (lump_at tail j).name ≡ false) → is_start group lump.name ≡ false
          → is_start group (lump_at (record { file = 0; place = place; size = length lump.bytes; name = lump.name } ∷ tail) k).name ≡ false
      start_at zero lt more one = one
      start_at (suc j) lt more one = more j (omega arith)

      end_at : (k : ℕ) → k < suc (length tail) → ((j : ℕ) → j < length tail → is_end group (lump_at tail j).name ≡ false) → is_end group lump.name ≡ false
          → is_end group (lump_at (record { file = 0; place = place; size = length lump.bytes; name = lump.name } ∷ tail) k).name ≡ false
      end_at zero lt more one = one
      end_at (suc j) lt more one = more j (omega arith)

-- the first mark of the group is the end with that number, and no mark is behind it
record HasEnd (group : Group) (lumps : List Lump) (count : ℕ) : Type 0 where
  inside : count < length lumps
  files : (k : ℕ) → k < length lumps → (lump_at lumps k).file ≡ 0
  ends : is_end group (lump_at lumps count).name ≡ true
  no_start : (k : ℕ) → k < length lumps → is_start group (lump_at lumps k).name ≡ false
  no_end : (k : ℕ) → k < count → is_end group (lump_at lumps k).name ≡ false
  behind : (k : ℕ) → k < length lumps → count < k → (is_start group (lump_at lumps k).name || is_end group (lump_at lumps k).name) ≡ false

-- a lump in front of others, and what holds of all of them
before_all : (P : Lump → Type 0) (x : Lump) (lumps : List Lump) → P x → ((j : ℕ) → j < length lumps → P (lump_at lumps j)) → (k : ℕ) → k < suc (length lumps) → P (lump_at (x ∷ lumps) k)
before_all P x lumps one more zero lt = one
before_all P x lumps one more (suc j) lt = more j (omega arith)

-- the same of those up to a number
before_some : (P : Lump → Type 0) (x : Lump) (lumps : List Lump) (n : ℕ) → P x → ((j : ℕ) → j < n → P (lump_at lumps j)) → (k : ℕ) → k < suc n → P (lump_at (x ∷ lumps) k)
before_some P x lumps n one more zero lt = one
before_some P x lumps n one more (suc j) lt = more j (omega arith)

-- and of those behind it
behind_all : (P : Lump → Type 0) (x : Lump) (lumps : List Lump) (n : ℕ) → ((j : ℕ) → j < length lumps → n < j → P (lump_at lumps j))
    → (k : ℕ) → k < suc (length lumps) → suc n < k → P (lump_at (x ∷ lumps) k)
behind_all P x lumps n more zero lt past = absurd (omega arith)
behind_all P x lumps n more (suc j) lt past = more j (omega arith) (omega arith)

end-first : (group : Group) (x : Lump) (lumps : List Lump) → x.file ≡ 0 → is_end group x.name ≡ true → is_start group x.name ≡ false → AreFree group lumps → HasEnd group (x ∷ lumps) 0
end-first group x lumps file is not free = record {
  inside = omega arith;
  files = before_all (λ l. l.file ≡ 0) x lumps file free.files;
  ends = is;
  no_start = before_all (λ l. is_start group l.name ≡ false) x lumps not free.no_start;
  no_end = λ k lt. absurd (omega arith);
  behind = λ k lt past. behind_first k lt past;
} where
  behind_first : (k : ℕ) → k < suc (length lumps) → 0 < k → (is_start group (lump_at (x ∷ lumps) k).name || is_end group (lump_at (x ∷ lumps) k).name) ≡ false
  behind_first zero lt past = absurd (omega arith)
  behind_first (suc j) lt past = let in_lumps : j < length lumps = omega arith in or-false_false _ _ (free.no_start j in_lumps) (free.no_end j in_lumps)

end-later : (group : Group) (x : Lump) (lumps : List Lump) (count : ℕ) → x.file ≡ 0 → is_start group x.name ≡ false → is_end group x.name ≡ false → HasEnd group lumps count → HasEnd group (x ∷ lumps) (suc count)
end-later group x lumps count file not_start not_end has =
    let end_within_lumps : count < length lumps = has.inside in
    record {
      inside = omega arith;
      files = before_all (λ l. l.file ≡ 0) x lumps file has.files;
      ends = has.ends;
      no_start = before_all (λ l. is_start group l.name ≡ false) x lumps not_start has.no_start;
      no_end = before_some (λ l. is_end group l.name ≡ false) x lumps count not_end has.no_end;
      behind = behind_all (λ l. (is_start group l.name || is_end group l.name) ≡ false) x lumps count has.behind;
    }

group-first : (group : Group) (x : Lump) (lumps : List Lump) (count : ℕ) → x.file ≡ 0 → is_start group x.name ≡ true → HasEnd group lumps count → HasGroup group (x ∷ lumps) 0 count
group-first group x lumps count file is has =
    let end_within_lumps : count < length lumps = has.inside in
    let end_place : 0 + suc count ≡ suc count = omega arith in
    record {
      inside = omega arith;
      files = before_all (λ l. l.file ≡ 0) x lumps file has.files;
      starts = is;
      ends = ap (λ n. is_end group (lump_at (x ∷ lumps) n).name) end_place ∙ has.ends;
      no_start = λ k lt after. start_later k lt after;
      no_end = λ k lt after within. end_later k after (let is_before_end : k < suc count = omega arith in is_before_end);
      before = λ k lt. absurd (omega arith);
      behind = λ k lt past. behind_all (λ l. (is_start group l.name || is_end group l.name) ≡ false) x lumps count has.behind k lt (omega arith);
    } where
      start_later : (k : ℕ) → k < suc (length lumps) → 0 < k → is_start group (lump_at (x ∷ lumps) k).name ≡ false
      start_later zero lt after = absurd (omega arith)
      start_later (suc j) lt after = has.no_start j (omega arith)

      end_later : (k : ℕ) → 0 < k → k < suc count → is_end group (lump_at (x ∷ lumps) k).name ≡ false
      end_later zero after within = absurd (omega arith)
      end_later (suc j) after within = has.no_end j (omega arith)

group-later : (group : Group) (x : Lump) (lumps : List Lump) (start count : ℕ) → x.file ≡ 0 → is_start group x.name ≡ false → is_end group x.name ≡ false
    → HasGroup group lumps start count → HasGroup group (x ∷ lumps) (suc start) count
group-later group x lumps start count file not_start not_end has =
    let end_within_lumps : start + suc count < length lumps = has.inside in
    let end_place : suc start + suc count ≡ suc (start + suc count) = omega arith in
    record {
      inside = omega arith;
      files = before_all (λ l. l.file ≡ 0) x lumps file has.files;
      starts = has.starts;
      ends = ap (λ n. is_end group (lump_at (x ∷ lumps) n).name) end_place ∙ has.ends;
      no_start = λ k lt after. start_later k lt after;
      no_end = λ k lt after within. end_later k lt after (let is_before_end : k < suc (start + suc count) = omega arith in is_before_end);
      before = before_some (λ l. (is_start group l.name || is_end group l.name) ≡ false) x lumps start (or-false_false _ _ not_start not_end) has.before;
      behind = λ k lt past. behind_all (λ l. (is_start group l.name || is_end group l.name) ≡ false) x lumps (start + suc count) has.behind k lt (omega arith);
    } where
      start_later : (k : ℕ) → k < suc (length lumps) → suc start < k → is_start group (lump_at (x ∷ lumps) k).name ≡ false
      start_later zero lt after = absurd (omega arith)
      start_later (suc j) lt after = has.no_start j (omega arith) (omega arith)

      end_later : (k : ℕ) → k < suc (length lumps) → suc start < k → k < suc (start + suc count) → is_end group (lump_at (x ∷ lumps) k).name ≡ false
      end_later zero lt after within = absurd (omega arith)
      end_later (suc j) lt after within = has.no_end j (omega arith) (omega arith) (omega arith)

-- lumps up to the end of a group, and others
stored-end : (group : Group) (place : ℕ) (inner behind : List made.Lump) (end : made.Lump)
    → AllByRecursion (IsPlain group) inner → AllByRecursion (IsPlain group) behind → is_end group end.name ≡ true → is_start group end.name ≡ false
    → HasEnd group (stored_from place (inner ++ end ∷ behind)) (length inner)
unfolding stored_from
stored-end group place [] behind end all rest is not =
    end-first group _ (stored_from (place + length end.bytes) behind) refl is not (free-stored group (place + length end.bytes) behind rest)
stored-end group place (lump ∷ inner) behind end all rest is not =
    end-later group _ (stored_from (place + length lump.bytes) (inner ++ end ∷ behind)) (length inner) refl all.0.start all.0.end
    (stored-end group (place + length lump.bytes) inner behind end all.1 rest is not)

-- A new file with lumps between two marks of a group, and no other mark of it, has that group.
pub stored-group : (group : Group) (place : ℕ) (front inner behind : List made.Lump) (start end : made.Lump)
    → AllByRecursion (IsPlain group) front → AllByRecursion (IsPlain group) inner → AllByRecursion (IsPlain group) behind
    → is_start group start.name ≡ true → is_end group end.name ≡ true → is_start group end.name ≡ false
    → HasGroup group (stored_from place (front ++ start ∷ (inner ++ end ∷ behind))) (length front) (length inner)
unfolding stored_from
stored-group group place [] inner behind start end a b c s e n =
    group-first group _ (stored_from (place + length start.bytes) (inner ++ end ∷ behind)) (length inner) refl s
    (stored-end group (place + length start.bytes) inner behind end b c e n)
stored-group group place (lump ∷ front) inner behind start end a b c s e n =
    group-later group _ (stored_from (place + length lump.bytes) (front ++ start ∷ (inner ++ end ∷ behind))) (length front) (length inner) refl a.0.start a.0.end
    (stored-group group (place + length lump.bytes) front inner behind start end a.1 b c s e n)
