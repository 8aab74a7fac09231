-- An index of the least texture of each name, as it grows.
use Rattle.art_rules.proofs.Common.{ap, Bool, BTreeMap, bytes_eq, bytes_eq-Decides, cond, false, is_some, length, List, nat_cmp, None, Option, refl, slice_cmp, slice_get, Some, sym, texts_ties, true, Updates, ℕ, ◌+◌, ◌<◌, ◌∙◌, ◌≡◌}
use Rattle.art_rules.specs.Words.{is_named, least, least_named, or_else, Texture}
use Rattle.art_rules.proofs.Laws.{least-is, least-more}
use Rattle.lump_cache.specs.Indexes.{indexed}

-- the test of texture i
named_at : (textures : List Texture) (i : ℕ) (t : Texture) (name : List ℕ) → slice_get textures i ≡ Some t → is_named textures name i ≡ bytes_eq t.name name
named_at textures i t name at = rw at refl

stays : (found : Option ℕ) → or_else found None ≡ found
stays None = refl
stays (Some n) = refl

kept : (i : ℕ) (found : Option ℕ) (b : Bool) → (b ≡ true → is_some found ≡ true) → or_else found (cond b (Some i) None) ≡ found
kept i (Some n) b h = refl
kept i None true h = let false_is_true : false ≡ true = h refl in cc
kept i None false h = refl

-- what an index has for a name, once texture i has come with another
abbrev pub with_name : List ℕ → ℕ → List ℕ → Option ℕ → Option ℕ
with_name key i name found = or_else found (cond (bytes_eq key name) (Some i) None)

-- a name that was indexed before changes nothing
pub name_known : (key : List ℕ) (i : ℕ) (name : List ℕ) (index : BTreeMap (List ℕ) ℕ) → is_some (indexed index key) ≡ true → indexed index name ≡ with_name key i name (indexed index name)
name_known key i name index known =
    sym (kept i (indexed index name) (bytes_eq key name) (λ e. sym (ap (λ k. is_some (indexed index k)) ((bytes_eq-Decides key name).0 e)) ∙ known))

pick : (i : ℕ) (found : Option ℕ) (b : Bool) → (b ≡ true → found ≡ None) → cond b (Some i) found ≡ or_else found (cond b (Some i) None)
pick i found true h = rw (h refl) refl
pick i found false h = sym (stays found)

pub none_if : (found : Option ℕ) → is_some found ≡ false → found ≡ None
none_if None e = refl
none_if (Some n) e = cc

-- a new name was put into the index
pub name_put : (key : List ℕ) (i : ℕ) (name : List ℕ) (old new : BTreeMap (List ℕ) ℕ) → indexed old key ≡ None →
    Updates (slice_cmp nat_cmp) old new key (Some i) → indexed new name ≡ with_name key i name (indexed old name)
name_put key i name old new unknown updates =
    updates.0 name
    ∙ ap (λ b. cond b (Some i) (indexed old name)) (sym (texts_ties key name))
    ∙ pick i (indexed old name) (bytes_eq key name) (λ e. ap (indexed old) (sym ((bytes_eq-Decides key name).0 e)) ∙ unknown)

-- one texture more
pub name_more : (textures : List Texture) (i : ℕ) (t : Texture) (key name : List ℕ) (old new : Option ℕ) → slice_get textures i ≡ Some t → key ≡ t.name →
    new ≡ with_name key i name old → old ≡ least (is_named textures name) i → new ≡ least (is_named textures name) (i + 1)
name_more textures i t key name old new at is put so_far =
    put
    ∙ ap (λ f. or_else f (cond (bytes_eq key name) (Some i) None)) so_far
    ∙ ap (λ b. or_else (least (is_named textures name) i) (cond b (Some i) None)) (ap (λ k. bytes_eq k name) is ∙ sym (named_at textures i t name at))
    ∙ sym (least-more (is_named textures name) i)

-- a texture that was found by its name is there
pub least_there : (textures : List Texture) (name : List ℕ) (number : ℕ) → Some number ≡ least_named textures name → number < length textures
unfolding least_named
least_there textures name number found = (least-is (is_named textures name) (length textures) number (sym found)).0
