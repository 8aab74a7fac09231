-- The flats of a directory whose first lumps are flats between marks, each the last flat of its name in the given files.
use Rattle.art_rules.proofs.Common.{and-false_left, and-false_right, ap, arith, Bool, bytes_eq, bytes_eq-Decides, cases_lt, false, get_or, inl, inr, length, List, refl, Some, some-injective, suc, sym, true, zero, ℕ, ◌&&◌, ◌+◌, ◌<◌, ◌∙◌, ◌≡◌, ◌≤◌}
use Rattle.art_rules.proofs.Laws.{greatest-some}
use Rattle.trim_rules.specs.Rules.{Flats, Lump, flat_of, has_name, is_member, lump_at}
use Rattle.trim_rules.proofs.MemberLemmas.{HasGroup, between-member, behind-member, is_lump-at}

-- The flats of a trimmed directory are these, by name and in order.
pub record HasFlats (trimmed lumps : List Lump) (flats : List ℕ) : Type 0 where
  pub group : HasGroup Flats trimmed 0 (length flats)
  pub names : (k : ℕ) → k < length flats → (lump_at trimmed (suc k)).name ≡ (lump_at lumps (get_or flats k 0)).name
  pub last : (k : ℕ) → k < length flats → flat_of lumps (lump_at lumps (get_or flats k 0)).name ≡ Some (get_or flats k 0)
  pub ascending : (j k : ℕ) → j < k → k < length flats → get_or flats j 0 < get_or flats k 0

by_value : (b : Bool) (P : Type 0) → (b ≡ true → P) → (b ≡ false → P) → P
by_value true P whole rest = whole refl
by_value false P whole rest = rest refl

-- two of them have two names
apart : (trimmed lumps : List Lump) (flats : List ℕ) → HasFlats trimmed lumps flats → (j k : ℕ) → j < k → k < length flats
    → bytes_eq (lump_at lumps (get_or flats k 0)).name (lump_at lumps (get_or flats j 0)).name ≡ false
apart trimmed lumps flats has j k lt inside =
    let has_same_name = bytes_eq (lump_at lumps (get_or flats k 0)).name (lump_at lumps (get_or flats j 0)).name in
    by_value has_same_name (has_same_name ≡ false)
    (λ same.
    let names : (lump_at lumps (get_or flats k 0)).name ≡ (lump_at lumps (get_or flats j 0)).name =
    (bytes_eq-Decides (lump_at lumps (get_or flats k 0)).name (lump_at lumps (get_or flats j 0)).name).0 same in
    let earlier_inside : j < length flats = omega arith in
    let lumps_same : get_or flats k 0 ≡ get_or flats j 0 =
    some-injective _ _ (sym (has.last k inside) ∙ ap (flat_of lumps) names ∙ has.last j earlier_inside) in
    let earlier_flat_below : get_or flats j 0 < get_or flats k 0 = has.ascending j k lt inside in
    absurd (omega arith))
    (λ differ. differ)

-- each is found by its name
pub trimmed_flat : (trimmed lumps : List Lump) (flats : List ℕ) → HasFlats trimmed lumps flats → (k : ℕ) → k < length flats
    → flat_of trimmed (lump_at lumps (get_or flats k 0)).name ≡ Some (suc k)
trimmed_flat trimmed lumps flats has k inside =
    let name = (lump_at lumps (get_or flats k 0)).name in
    let is_flat_of_name = λ (n : ℕ). is_member Flats trimmed n && has_name trimmed name n in
    let end : 0 + suc (length flats) < length trimmed = has.group.inside in
    let flat_inside : suc k < length trimmed = omega arith in
    let is_behind : 0 < suc k = omega arith in
    let before_end : suc k < 0 + suc (length flats) = omega arith in
    greatest-some is_flat_of_name (length trimmed) (suc k) flat_inside
    (rw (between-member Flats trimmed 0 (length flats) has.group (suc k) is_behind before_end)
    (is_lump-at (λ lump. bytes_eq lump.name name) trimmed (suc k) flat_inside
    ∙ (bytes_eq-Decides (lump_at trimmed (suc k)).name name).1 (has.names k inside)))
    (λ n above within. elim (cases_lt n (suc (length flats))) [
      | inl among ↦ later n above within among
      | inr past ↦
          let past_end : 0 + suc (length flats) ≤ n = omega arith in
          and-false_left (is_member Flats trimmed n) _ (behind-member Flats trimmed 0 (length flats) has.group n within past_end)
    ]) where
      later : (n : ℕ) → suc k < n → n < length trimmed → n < suc (length flats)
          → (is_member Flats trimmed n && has_name trimmed (lump_at lumps (get_or flats k 0)).name n) ≡ false
      later zero above within among = absurd (omega arith)
      later (suc m) above within among =
          let inside' : m < length flats = omega arith in
          let place_is_later : k < m = omega arith in
          and-false_right (is_member Flats trimmed (suc m)) _
          (is_lump-at (λ lump. bytes_eq lump.name (lump_at lumps (get_or flats k 0)).name) trimmed (suc m) within
          ∙ ap (λ name. bytes_eq name (lump_at lumps (get_or flats k 0)).name) (has.names m inside')
          ∙ apart trimmed lumps flats has k m place_is_later inside')
