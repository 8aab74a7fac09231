-- Lists of pictures with the same members: a scene needs the same lumps with each of them.
use Rattle.art_rules.proofs.Common.{any-contains, ap, Contains, Contains-append_cases, Contains-append_left, Contains-append_right, inl, inr, length, List, list_any, map-append, refl, same_from_decides, subst, sym, ℕ, ◌++◌, ◌==◌, ◌||◌, ◌↔◌, ◌∙◌, ◌≡◌, ◌⊎◌}
use Rattle.texture_build.proofs.MarkLemmas.{filter_same}
use Rattle.sound_scene.specs.Rules.{Frame, Lump, LumpNo, SceneValue, ZoneSizes, art_of, book_lumps, enough, has_flat, is_list, is_map_lump, is_needed, is_patch_of_any, needed_lumps, roomy, sizes_of, zone_sizes}
use Rattle.sound_scene.specs.{Views.lump_numbers, Sound.SoundValue, Sound.art_with, Sound.with_book}

-- lists with the same members
abbrev pub HaveSame : List ℕ → List ℕ → Type 0
HaveSame xs ys = (n : ℕ) → Contains xs n ↔ Contains ys n

-- a test for a number tells the same of both
pub any_same : (xs ys : List ℕ) (k : ℕ) → HaveSame xs ys → list_any (λ n. n == k) xs ≡ list_any (λ n. n == k) ys
any_same xs ys k same =
    let any_is_contains = any-contains xs k in same_from_decides
    (list_any (λ n. n == k) xs) (list_any (λ n. n == k) ys) (λ e. (same k).0 (any_is_contains.0 e), λ c. any_is_contains.1 ((same k).1 c)) (any-contains ys k)

-- a lump is needed with both or with none
needed_number : (lumps : List Lump) (scene : SceneValue) (xs ys : List ℕ) (k : ℕ) → HaveSame xs ys → is_needed lumps (art_with scene xs) k ≡ is_needed lumps (art_with scene ys) k
unfolding is_needed
needed_number lumps scene xs ys k same =
    ap (λ b. (scene.base.colormap == k) || (scene.base.playpal == k) || is_map_lump scene.base.label k || is_list lumps k || is_patch_of_any scene.prepared k || list_any (has_flat k) scene.faces.flats || b) (any_same xs ys k same)

-- the lumps that a scene needs
pub needed_same : (lumps : List Lump) (scene : SceneValue) (xs ys : List ℕ) → HaveSame xs ys → needed_lumps lumps (art_with scene xs) ≡ needed_lumps lumps (art_with scene ys)
unfolding needed_lumps
needed_same lumps scene xs ys same =
    filter_same (is_needed lumps (art_with scene xs)) (is_needed lumps (art_with scene ys)) 0 (length lumps) (λ k l. needed_number lumps scene xs ys k same)

-- and the sizes of a zone for them
pub sizes_same : (lumps : List Lump) (scene : SceneValue) (xs ys : List ℕ) → HaveSame xs ys → zone_sizes lumps (art_with scene xs) ≡ zone_sizes lumps (art_with scene ys)
unfolding zone_sizes enough roomy
sizes_same lumps scene xs ys same = rw (needed_same lumps scene xs ys same) refl

-- with the pictures of its book a scene needs what it needs alone
pub needed_alone : (lumps : List Lump) (scene : SceneValue) (pictures : List ℕ) → HaveSame pictures (book_lumps scene.book) → needed_lumps lumps (art_with scene pictures) ≡ needed_lumps lumps (art_of scene)
unfolding art_of
needed_alone lumps scene pictures same = needed_same lumps scene pictures (book_lumps scene.book) same

-- and has the sizes of it alone
pub sizes_alone : (lumps : List Lump) (scene : SceneValue) (pictures : List ℕ) → HaveSame pictures (book_lumps scene.book) → zone_sizes lumps (art_with scene pictures) ≡ sizes_of lumps scene
unfolding art_of sizes_of
sizes_alone lumps scene pictures same = sizes_same lumps scene pictures (book_lumps scene.book) same

-- in each of two cases
either : {P Q R S : Type 0} → (P → R) → (Q → S) → P ⊎ Q → R ⊎ S
either f g (inl p) = inl (f p)
either f g (inr q) = inr (g q)

-- a member of one of two lists
together : (xs ys : List ℕ) (n : ℕ) → Contains xs n ⊎ Contains ys n → Contains (xs ++ ys) n
together xs ys n (inl there) = Contains-append_left xs ys n there
together xs ys n (inr there) = Contains-append_right xs ys n there

-- one list after the other
pub both_same : (xs ys cs ds : List ℕ) → HaveSame xs cs → HaveSame ys ds → HaveSame (xs ++ ys) (cs ++ ds)
both_same xs ys cs ds one two n = (
  λ there. together cs ds n (either (one n).0 (two n).0 (Contains-append_cases xs ys n there)),
  λ there. together xs ys n (either (one n).1 (two n).1 (Contains-append_cases cs ds n there)),
)

-- the pictures of two books, one list after the other
pub books_same : (xs ys both : List LumpNo) (one two : List Frame) → both ≡ xs ++ ys → HaveSame (lump_numbers xs) (book_lumps one) → HaveSame (lump_numbers ys) (book_lumps two) → HaveSame (lump_numbers both) (book_lumps one ++ book_lumps two)
books_same xs ys both one two joined first second =
    let numbers = ap lump_numbers joined ∙ map-append (λ (lump : LumpNo). lump.0) xs ys in
    subst (λ (ns : List ℕ). HaveSame ns (book_lumps one ++ book_lumps two)) (sym numbers) (both_same (lump_numbers xs) (lump_numbers ys) (book_lumps one) (book_lumps two) first second)

-- what a scene needs with a further book
pub with_book_is : (lumps : List Lump) (book : List Frame) (sound : SoundValue) (pictures named : List ℕ) (sizes : ZoneSizes) → HaveSame pictures (book_lumps sound.scene.book ++ book_lumps book) →
    named ≡ needed_lumps lumps (art_with sound.scene pictures) → sizes ≡ zone_sizes lumps (art_with sound.scene pictures) → record sound { named = named; sizes = sizes } ≡ with_book lumps book sound
unfolding with_book
with_book_is lumps book sound pictures named sizes same one two =
    let all_lumps = book_lumps sound.scene.book ++ book_lumps book in
    ap (λ (ns : List ℕ). record sound { named = ns; sizes = sizes }) (one ∙ needed_same lumps sound.scene pictures all_lumps same)
    ∙ ap (λ (z : ZoneSizes). record sound { named = needed_lumps lumps (art_with sound.scene all_lumps); sizes = z }) (two ∙ sizes_same lumps sound.scene pictures all_lumps same)
