-- Lists of lumps by their numbers, and what marks of numbers list.
use Rattle.art_rules.proofs.Common.{[], All, AllByRecursion, ap, arith, Bool, filter, get_or, length, List, list_any, list_any-append, range_with_len, refl, subst, suc, sym, zero, ℕ, ◌++◌, ◌<◌, ◌==◌, ◌||◌, ◌∙◌, ◌∷◌, ◌≡◌}
use Rattle.wad_trim.specs.Rules.{Lump, LumpNo, SectorFlats, flat_lumps, has_flat, picture_lumps}
use Rattle.texture_build.specs.Views.{is_marked}
use Rattle.texture_build.proofs.MarkLemmas.{filter_same}
use Rattle.sound_scene.specs.Views.{lump_numbers}

-- a test of lumps by their numbers
pub any-number : (p : ℕ → Bool) (lumps : List LumpNo) → list_any (λ (lump : LumpNo). p lump.0) lumps ≡ list_any p (lump_numbers lumps)
any-number p [] = refl
any-number p (lump ∷ lumps) = ap (λ (b : Bool). p lump.0 || b) (any-number p lumps)

-- what holds of all numbers holds of all lumps
lumps_below : (count : ℕ) (lumps : List LumpNo) → AllByRecursion (λ n. n < count) (lump_numbers lumps) → (i : ℕ) (d : LumpNo) → i < length lumps → (get_or lumps i d).0 < count
lumps_below count [] all i d l = absurd (omega (arith, l))
lumps_below count (lump ∷ rest) all zero d l = all.0
lumps_below count (lump ∷ rest) all (suc i) d l = lumps_below count rest all.1 i d (omega (arith, l))

pub all-numbers : (count : ℕ) (lumps : List LumpNo) (ns : List ℕ) → lump_numbers lumps ≡ ns → AllByRecursion (λ n. n < count) ns → All (λ (lump : LumpNo). lump.0 < count) lumps
all-numbers count lumps ns e all = lumps_below count lumps (subst (AllByRecursion (λ n. n < count)) (sym e) all)

-- the marked lumps are the flats of sectors
pub flats-marked : (lumps : List Lump) (flats : List SectorFlats) (marks : List Bool) → length marks ≡ length lumps →
    ((k : ℕ) → k < length lumps → is_marked marks k ≡ list_any (has_flat k) flats) → filter (is_marked marks) (range_with_len 0 (length marks)) ≡ flat_lumps lumps flats
unfolding flat_lumps
flats-marked lumps flats marks e same =
    ap (λ (m : ℕ). filter (is_marked marks) (range_with_len 0 m)) e
    ∙ filter_same (is_marked marks) (λ n. list_any (has_flat n) flats) 0 (length lumps) (λ k l. same k (omega (arith, l)))

-- the marked lumps are the pictures
pub pictures-marked : (lumps : List Lump) (pictures : List ℕ) (marks : List Bool) → length marks ≡ length lumps →
    ((k : ℕ) → k < length lumps → is_marked marks k ≡ list_any (λ m. m == k) pictures) → filter (is_marked marks) (range_with_len 0 (length marks)) ≡ picture_lumps lumps pictures
unfolding picture_lumps
pictures-marked lumps pictures marks e same =
    ap (λ (m : ℕ). filter (is_marked marks) (range_with_len 0 m)) e
    ∙ filter_same (is_marked marks) (λ n. list_any (λ m. m == n) pictures) 0 (length lumps) (λ k l. same k (omega (arith, l)))

-- the pictures of two lists
pub either-picture : (xs ys : List ℕ) (k : ℕ) → (list_any (λ m. m == k) xs || list_any (λ m. m == k) ys) ≡ list_any (λ m. m == k) (xs ++ ys)
either-picture xs ys k = sym (list_any-append (λ (m : ℕ). m == k) xs ys)
