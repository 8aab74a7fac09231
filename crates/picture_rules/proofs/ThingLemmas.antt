-- Laws of the vissprites of a list of events to which one more is added.
use Rattle.word_rules.proofs.Common.{[], ap, append-nil, Bool, cond, eqb-true, false, List, list_any, map, map-append, or-false, refl, sym, true, ℕ, ◌++◌, ◌==◌, ◌||◌, ◌∙◌, ◌∷◌, ◌≡◌}
use Rattle.picture_rules.specs.Rules.{Event, FragmentEvent, LeafEvent, ViewValue, leaves_entered}
use Rattle.level_rules.proofs.walk.DrawsegLemmas.{leaves_entered-append}
use Rattle.picture_rules.specs.declared.sprite.SpriteEntry.{SpriteEntry}
use Rattle.picture_rules.specs.Scene.{Scene, leaf_sector}
use Rattle.picture_rules.specs.Things.{first_mentions, sectors_entered, is_entered, with_things, with_sectors, view_entries}

-- a number more is a first mention where it was not mentioned before
or_moved : (a b c : Bool) → ((a || b) || c) ≡ (b || (a || c))
or_moved true true c = refl
or_moved true false c = refl
or_moved false true c = refl
or_moved false false c = refl

or_same : (a b c : Bool) → (a ≡ true → b ≡ true) → (b || c) ≡ (b || (a || c))
or_same true b c h = rw (h refl) refl
or_same false b c h = refl

mention_of : (before : List ℕ) (n s : ℕ) → list_any (λ m. m == n) before ≡ true → (n == s) ≡ true → list_any (λ m. m == s) before ≡ true
mention_of before n s h e = let same_number : n ≡ s = eqb-true n s e in ap (λ (k : ℕ). list_any (λ m. m == k) before) (sym same_number) ∙ h

mention_step : (before : List ℕ) (n : ℕ) (ns : List ℕ) (s : ℕ) (b : Bool) → list_any (λ m. m == n) before ≡ b →
    first_mentions before (ns ++ s ∷ []) ≡ first_mentions before ns ++ cond (list_any (λ m. m == s) before || list_any (λ m. m == s) ns) [] (s ∷ []) →
    first_mentions (n ∷ before) (ns ++ s ∷ []) ≡ first_mentions (n ∷ before) ns ++ cond (list_any (λ m. m == s) (n ∷ before) || list_any (λ m. m == s) ns) [] (s ∷ []) →
    cond b (first_mentions before (ns ++ s ∷ [])) (n ∷ first_mentions (n ∷ before) (ns ++ s ∷ [])) ≡ cond b (first_mentions before ns) (n ∷ first_mentions (n ∷ before) ns) ++ cond (list_any (λ m. m == s) before || list_any (λ m. m == s) (n ∷ ns)) [] (s ∷ [])
mention_step before n ns s true e i j =
    i ∙ ap (λ (c : Bool). first_mentions before ns ++ cond c [] (s ∷ [])) (or_same (n == s) (list_any (λ m. m == s) before) (list_any (λ m. m == s) ns) (mention_of before n s e))
mention_step before n ns s false e i j =
    ap (λ (xs : List ℕ). n ∷ xs) (j ∙ ap (λ (c : Bool). first_mentions (n ∷ before) ns ++ cond c [] (s ∷ [])) (or_moved (n == s) (list_any (λ m. m == s) before) (list_any (λ m. m == s) ns)))

mentions_more : (before ns : List ℕ) (s : ℕ) → first_mentions before (ns ++ s ∷ []) ≡ first_mentions before ns ++ cond (list_any (λ m. m == s) before || list_any (λ m. m == s) ns) [] (s ∷ [])
unfolding first_mentions
mentions_more before [] s = rw (or-false (list_any (λ m. m == s) before)) refl
mentions_more before (n ∷ ns) s = mention_step before n ns s (list_any (λ m. m == n) before) refl (mentions_more before ns s) (mentions_more (n ∷ before) ns s)

sectors_more : (v : ViewValue) (scene : Scene) (entries : List SpriteEntry) (xs : List ℕ) (n : ℕ) → with_sectors v scene entries (xs ++ n ∷ []) ≡ with_things v scene n (with_sectors v scene entries xs) (scene.things_of n)
unfolding with_sectors
sectors_more v scene entries [] n = refl
sectors_more v scene entries (m ∷ ms) n = sectors_more v scene (with_things v scene m entries (scene.things_of m)) ms n

-- a fragment enters no sector
pub sectors_entered-fragment : (scene : Scene) (es : List Event) (seg first last : ℕ) → sectors_entered scene (es ++ FragmentEvent seg first last ∷ []) ≡ sectors_entered scene es
unfolding sectors_entered leaves_entered
sectors_entered-fragment scene es seg first last =
    ap (λ ls. first_mentions [] (map (leaf_sector scene) ls)) (leaves_entered-append es (FragmentEvent seg first last ∷ []) ∙ append-nil (leaves_entered es))

-- a fragment adds no sprite
pub view_entries-fragment : (v : ViewValue) (scene : Scene) (es : List Event) (seg first last : ℕ) → view_entries v scene (es ++ FragmentEvent seg first last ∷ []) ≡ view_entries v scene es
unfolding view_entries sectors_entered leaves_entered
view_entries-fragment v scene es seg first last =
    ap (λ (ls : List ℕ). with_sectors v scene [] (first_mentions [] (map (leaf_sector scene) ls))) (leaves_entered-append es (FragmentEvent seg first last ∷ []) ∙ append-nil (leaves_entered es))

-- a leaf is the first of its sector where none of it was entered before
pub sectors_entered-leaf : (scene : Scene) (es : List Event) (n : ℕ) → sectors_entered scene (es ++ LeafEvent n ∷ []) ≡ sectors_entered scene es ++ cond (is_entered scene es (leaf_sector scene n)) [] (leaf_sector scene n ∷ [])
unfolding sectors_entered leaves_entered is_entered
sectors_entered-leaf scene es n =
    ap (λ (ls : List ℕ). first_mentions [] (map (leaf_sector scene) ls)) (leaves_entered-append es (LeafEvent n ∷ []))
    ∙ ap (first_mentions []) (map-append (leaf_sector scene) (leaves_entered es) (n ∷ []))
    ∙ mentions_more [] (map (leaf_sector scene) (leaves_entered es)) (leaf_sector scene n)

-- a leaf of a sector that was entered before adds none either
pub view_entries-again : (v : ViewValue) (scene : Scene) (es : List Event) (n : ℕ) → is_entered scene es (leaf_sector scene n) ≡ true → view_entries v scene (es ++ LeafEvent n ∷ []) ≡ view_entries v scene es
unfolding view_entries
view_entries-again v scene es n h =
    ap (with_sectors v scene [])
    (sectors_entered-leaf scene es n ∙ ap (λ b. sectors_entered scene es ++ cond b [] (leaf_sector scene n ∷ [])) h ∙ append-nil (sectors_entered scene es))

-- and one of another sector adds that sector's things, in drawing order
pub view_entries-new : (v : ViewValue) (scene : Scene) (es : List Event) (n : ℕ) → is_entered scene es (leaf_sector scene n) ≡ false →
    view_entries v scene (es ++ LeafEvent n ∷ []) ≡ with_things v scene (leaf_sector scene n) (view_entries v scene es) (scene.things_of (leaf_sector scene n))
unfolding view_entries
view_entries-new v scene es n h =
    ap (with_sectors v scene []) (sectors_entered-leaf scene es n ∙ ap (λ (b : Bool). sectors_entered scene es ++ cond b [] (leaf_sector scene n ∷ [])) h)
    ∙ sectors_more v scene [] (sectors_entered scene es) (leaf_sector scene n)
