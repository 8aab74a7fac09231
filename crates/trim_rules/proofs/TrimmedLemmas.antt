-- The groups of a trimmed file: the flats of part 1 and the pictures of part 2, where no lump that is copied has the
-- name of a mark.
use Rattle.art_rules.proofs.Common.{[], AllByRecursion, and-second_false, ap, append_assoc, Bool, Decides-eqb, false, filter, length, List, list_any, map, map-append, None, not, Option, or-true_right, or_parts, range_with_len, refl, Some, subst, suc, sym, true, ℕ, ⊤, ◌&&◌, ◌++◌, ◌<◌, ◌||◌, ◌∙◌, ◌∷◌, ◌≡◌}
use Rattle.art_rules.proofs.Laws.{none-below}
use Rattle.trim_rules.specs.Rules.{F_END, F_START, Flats, Group, HEAD_SIZE, Lump, MAP_LUMPS, S_END, S_START, SceneArt, Sprites, has_name, is_end, is_start, lump_at, map_of}
use Rattle.trim_rules.specs.declared.part.TrimPart.{TrimPart}
use Rattle.trim_rules.specs.declared.part.TrimPart.TheVariants.{Mark, Label, Copy}
use Rattle.trim_rules.specs.Parts.{called_lumps, copy_part, flat_lumps, group_parts, is_lump_part, is_mark, label_or_copy, label_part, map_parts, marked_lump, part_name, picture_lumps, trim_parts}
use Rattle.trim_rules.specs.Files.{part_lump, stored_from, stored_lumps, trimmed_lumps}
use Rattle.trim_rules.proofs.{MemberLemmas.HasGroup, GroupLemmas.IsPlain, GroupLemmas.stored-group}

-- a part is a mark of the file, or a lump that is there and has no mark's name
abbrev pub IsUnmarked : List Lump → TrimPart → Type 0
IsUnmarked lumps (Mark name) = ⊤
IsUnmarked lumps (Label lump) = is_mark (lump_at lumps lump.0).name ≡ false
IsUnmarked lumps (Copy lump) = is_mark (lump_at lumps lump.0).name ≡ false

abbrev pub IsThere : List Lump → TrimPart → Type 0
IsThere lumps (Mark name) = ⊤
IsThere lumps (Label lump) = lump.0 < length lumps
IsThere lumps (Copy lump) = lump.0 < length lumps

unmarked_part : (lumps : List Lump) (parts : List TrimPart) (p : TrimPart)
    → ((n : ℕ) → n < length lumps → (list_any (is_lump_part n) parts && is_mark (lump_at lumps n).name) ≡ false)
    → ((n : ℕ) → is_lump_part n p ≡ true → list_any (is_lump_part n) parts ≡ true) → IsThere lumps p → IsUnmarked lumps p
unfolding is_lump_part
unmarked_part lumps parts (Mark name) none among there = tt
unmarked_part lumps parts (Label lump) none among there =
    and-second_false _ _ (among lump.0 ((Decides-eqb lump.0 lump.0).1 refl)) (none lump.0 there)
unmarked_part lumps parts (Copy lump) none among there =
    and-second_false _ _ (among lump.0 ((Decides-eqb lump.0 lump.0).1 refl)) (none lump.0 there)

unmarked_all : (lumps : List Lump) (parts ps : List TrimPart)
    → ((n : ℕ) → n < length lumps → (list_any (is_lump_part n) parts && is_mark (lump_at lumps n).name) ≡ false)
    → ((n : ℕ) → list_any (is_lump_part n) ps ≡ true → list_any (is_lump_part n) parts ≡ true)
    → AllByRecursion (IsThere lumps) ps → AllByRecursion (IsUnmarked lumps) ps
unmarked_all lumps parts [] none among there = tt
unmarked_all lumps parts (p ∷ ps) none among there = (
  unmarked_part lumps parts p none (λ n is. among n (ap (λ b. b || list_any (is_lump_part n) ps) is)) there.0,
  unmarked_all lumps parts ps none (λ n is. among n (or-true_right (is_lump_part n p) _ is)) there.1,
)

-- where no part has the name of a mark, none of them has
pub parts-unmarked : (lumps : List Lump) (parts : List TrimPart) → marked_lump lumps parts ≡ None → AllByRecursion (IsThere lumps) parts → AllByRecursion (IsUnmarked lumps) parts
unfolding marked_lump
parts-unmarked lumps parts none there =
    unmarked_all lumps parts parts
    (none-below (λ n. list_any (is_lump_part n) parts && is_mark (lump_at lumps n).name) (length lumps) none)
    (λ n is. is) there

-- a part that is no mark is plain in both groups
plain_name : (group : Group) (name : List ℕ) → is_mark name ≡ false → (is_start group name ≡ false) × (is_end group name ≡ false)
unfolding is_mark
plain_name Flats name e = or_parts _ _ (or_parts _ _ e).0
plain_name Sprites name e = or_parts _ _ (or_parts _ _ e).1

all_first : {X : Type 0} (P : X → Type 0) (xs ys : List X) → AllByRecursion P (xs ++ ys) → AllByRecursion P xs
all_first P [] ys all = tt
all_first P (x ∷ xs) ys all = (all.0, all_first P xs ys all.1)

all_second : {X : Type 0} (P : X → Type 0) (xs ys : List X) → AllByRecursion P (xs ++ ys) → AllByRecursion P ys
all_second P [] ys all = all
all_second P (x ∷ xs) ys all = all_second P xs ys all.1

all_both : {X : Type 0} (P : X → Type 0) (xs ys : List X) → AllByRecursion P xs → AllByRecursion P ys → AllByRecursion P (xs ++ ys)
all_both P [] ys a b = b
all_both P (x ∷ xs) ys a b = (a.0, all_both P xs ys a.1 b)

module _ (bytes : ℕ → List ℕ) (lumps : List Lump) (group : Group) where
  plain_part : (p : TrimPart) → is_mark (part_name lumps p) ≡ false → IsPlain group (part_lump bytes lumps p)
  unfolding part_lump
  plain_part p e = let no_start_nor_end = plain_name group (part_name lumps p) e in record { start = no_start_nor_end.0; end = no_start_nor_end.1 }

  plain_copy : (n : ℕ) → IsUnmarked lumps (copy_part n) → IsPlain group (part_lump bytes lumps (copy_part n))
  unfolding part_name
  plain_copy n e = plain_part (copy_part n) e

  plain_copies : (ns : List ℕ) → AllByRecursion (IsUnmarked lumps) (map copy_part ns) → AllByRecursion (IsPlain group) (map (part_lump bytes lumps) (map copy_part ns))
  plain_copies [] all = tt
  plain_copies (n ∷ ns) all = (plain_copy n all.0, plain_copies ns all.1)

  plain_label : (called : Bool) (label : ℕ) → IsUnmarked lumps (label_or_copy called label) → IsPlain group (part_lump bytes lumps (label_or_copy called label))
  unfolding label_or_copy part_name
  plain_label true label e = plain_copy label e
  plain_label false label e = plain_part (label_part label) e

  plain_level : (called : Bool) (o : Option ℕ) → AllByRecursion (IsUnmarked lumps) (map_parts called o) → AllByRecursion (IsPlain group) (map (part_lump bytes lumps) (map_parts called o))
  unfolding map_parts
  plain_level called None all = tt
  plain_level called (Some label) all = (plain_label called label all.0, plain_copies (range_with_len (suc label) (length MAP_LUMPS)) all.1)

-- the parts of a group, put, with more behind them
group-shape : (bytes : ℕ → List ℕ) (lumps : List Lump) (start : List ℕ) (ns : List ℕ) (end : List ℕ) (more : List TrimPart)
    → map (part_lump bytes lumps) (group_parts start ns end ++ more)
    ≡ part_lump bytes lumps (Mark start) ∷ (map (part_lump bytes lumps) (map copy_part ns) ++ part_lump bytes lumps (Mark end) ∷ map (part_lump bytes lumps) more)
unfolding group_parts
group-shape bytes lumps start ns end more =
    let lump = part_lump bytes lumps in
    ap (λ ls. lump (Mark start) ∷ ls)
    (ap (map lump) (append_assoc (map copy_part ns) (Mark end ∷ []) more)
    ∙ map-append lump (map copy_part ns) (Mark end ∷ more))

-- what is behind the pictures
behind_groups : List Lump → SceneArt → List ℕ → List TrimPart
behind_groups lumps art name =
    map_parts (list_any (has_name lumps name) (called_lumps lumps art.prepared)) (map_of lumps name)
    ++ map copy_part (filter (λ n. not (has_name lumps name n)) (called_lumps lumps art.prepared))

trim_parts-are : (lumps : List Lump) (art : SceneArt) (name : List ℕ)
    → trim_parts lumps art name ≡ group_parts F_START (flat_lumps lumps art.flats) F_END ++ (group_parts S_START (picture_lumps lumps art.pictures) S_END ++ behind_groups lumps art name)
unfolding trim_parts behind_groups
trim_parts-are lumps art name = refl

plain_behind : (bytes : ℕ → List ℕ) (lumps : List Lump) (art : SceneArt) (name : List ℕ) (group : Group) → AllByRecursion (IsUnmarked lumps) (behind_groups lumps art name)
    → AllByRecursion (IsPlain group) (map (part_lump bytes lumps) (behind_groups lumps art name))
unfolding behind_groups
plain_behind bytes lumps art name group all =
    let lump = part_lump bytes lumps in
    let is_name_called = list_any (has_name lumps name) (called_lumps lumps art.prepared) in
    let level = map_parts is_name_called (map_of lumps name) in
    let called_unnamed = filter (λ n. not (has_name lumps name n)) (called_lumps lumps art.prepared) in
    subst (AllByRecursion (IsPlain group)) (sym (map-append lump level (map copy_part called_unnamed)))
    (all_both (IsPlain group) (map lump level) (map lump (map copy_part called_unnamed))
    (plain_level bytes lumps group is_name_called (map_of lumps name) (all_first (IsUnmarked lumps) level (map copy_part called_unnamed) all))
    (plain_copies bytes lumps group called_unnamed (all_second (IsUnmarked lumps) level (map copy_part called_unnamed) all)))

-- a mark of the one group is plain in the other
plain_mark : (bytes : ℕ → List ℕ) (lumps : List Lump) (group : Group) (name : List ℕ) → is_start group name ≡ false → is_end group name ≡ false → IsPlain group (part_lump bytes lumps (Mark name))
unfolding part_lump part_name
plain_mark bytes lumps group name a b = record { start = a; end = b }

inner_copies : (lumps : List Lump) (start : List ℕ) (ns : List ℕ) (end : List ℕ) → AllByRecursion (IsUnmarked lumps) (group_parts start ns end) → AllByRecursion (IsUnmarked lumps) (map copy_part ns)
unfolding group_parts
inner_copies lumps start ns end all = all_first (IsUnmarked lumps) (map copy_part ns) (Mark end ∷ []) all.1

-- a group of the other kind is plain as a whole
plain_group : (bytes : ℕ → List ℕ) (lumps : List Lump) (group : Group) (start : List ℕ) (ns : List ℕ) (end : List ℕ)
    → is_start group start ≡ false → is_end group start ≡ false → is_start group end ≡ false → is_end group end ≡ false
    → AllByRecursion (IsUnmarked lumps) (group_parts start ns end) → AllByRecursion (IsPlain group) (map (part_lump bytes lumps) (group_parts start ns end))
unfolding group_parts
plain_group bytes lumps group start ns end a b c d all =
    let lump = part_lump bytes lumps in (
      plain_mark bytes lumps group start a b,
      subst (AllByRecursion (IsPlain group)) (sym (map-append lump (map copy_part ns) (Mark end ∷ [])))
          (all_both (IsPlain group) (map lump (map copy_part ns)) (lump (Mark end) ∷ [])
          (plain_copies bytes lumps group ns (all_first (IsUnmarked lumps) (map copy_part ns) (Mark end ∷ []) all.1))
          (plain_mark bytes lumps group end c d, tt)),
    )

mark_named : (bytes : ℕ → List ℕ) (lumps : List Lump) (name : List ℕ) → (part_lump bytes lumps (Mark name)).name ≡ name
unfolding part_lump part_name
mark_named bytes lumps name = refl

-- The trimmed file has the flats of part 1 as its flats.
pub trimmed-flats : (bytes : ℕ → List ℕ) (lumps : List Lump) (art : SceneArt) (name : List ℕ)
    → AllByRecursion (IsUnmarked lumps) (trim_parts lumps art name)
    → HasGroup Flats (trimmed_lumps bytes lumps (trim_parts lumps art name)) 0 (length (map (part_lump bytes lumps) (map copy_part (flat_lumps lumps art.flats))))
unfolding trimmed_lumps stored_lumps
trimmed-flats bytes lumps art name all =
    let lump = part_lump bytes lumps in
    let flats = flat_lumps lumps art.flats in
    let pictures = picture_lumps lumps art.pictures in
    let rest = group_parts S_START pictures S_END ++ behind_groups lumps art name in
    let are : AllByRecursion (IsUnmarked lumps) (group_parts F_START flats F_END ++ rest) =
    subst (AllByRecursion (IsUnmarked lumps)) (trim_parts-are lumps art name) all in
    let unmarked : AllByRecursion (IsUnmarked lumps) rest = all_second (IsUnmarked lumps) (group_parts F_START flats F_END) rest are in
    let rest_plain : AllByRecursion (IsPlain Flats) (map lump rest) =
    subst (AllByRecursion (IsPlain Flats)) (sym (map-append lump (group_parts S_START pictures S_END) (behind_groups lumps art name)))
    (all_both (IsPlain Flats) (map lump (group_parts S_START pictures S_END)) (map lump (behind_groups lumps art name))
    (plain_group bytes lumps Flats S_START pictures S_END refl refl refl refl (all_first (IsUnmarked lumps) (group_parts S_START pictures S_END) (behind_groups lumps art name) unmarked))
    (plain_behind bytes lumps art name Flats (all_second (IsUnmarked lumps) (group_parts S_START pictures S_END) (behind_groups lumps art name) unmarked))) in
    subst (λ ls. HasGroup Flats (stored_from HEAD_SIZE ls) 0 (length (map lump (map copy_part flats))))
    (sym (ap (map lump) (trim_parts-are lumps art name) ∙ group-shape bytes lumps F_START flats F_END rest))
    (stored-group Flats HEAD_SIZE [] (map lump (map copy_part flats)) (map lump rest) (lump (Mark F_START)) (lump (Mark F_END)) tt
    (plain_copies bytes lumps Flats flats (inner_copies lumps F_START flats F_END (all_first (IsUnmarked lumps) (group_parts F_START flats F_END) rest are)))
    rest_plain (ap (is_start Flats) (mark_named bytes lumps F_START)) (ap (is_end Flats) (mark_named bytes lumps F_END)) (ap (is_start Flats) (mark_named bytes lumps F_END)))

-- And the pictures of part 2 as its sprite lumps.
pub trimmed-pictures : (bytes : ℕ → List ℕ) (lumps : List Lump) (art : SceneArt) (name : List ℕ)
    → AllByRecursion (IsUnmarked lumps) (trim_parts lumps art name)
    → HasGroup Sprites (trimmed_lumps bytes lumps (trim_parts lumps art name))
    (length (map (part_lump bytes lumps) (group_parts F_START (flat_lumps lumps art.flats) F_END)))
    (length (map (part_lump bytes lumps) (map copy_part (picture_lumps lumps art.pictures))))
unfolding trimmed_lumps stored_lumps
trimmed-pictures bytes lumps art name all =
    let lump = part_lump bytes lumps in
    let flats = flat_lumps lumps art.flats in
    let pictures = picture_lumps lumps art.pictures in
    let flat_parts = group_parts F_START flats F_END in
    let rest = behind_groups lumps art name in
    let all_unmarked : AllByRecursion (IsUnmarked lumps) (flat_parts ++ (group_parts S_START pictures S_END ++ rest)) =
    subst (AllByRecursion (IsUnmarked lumps)) (trim_parts-are lumps art name) all in
    let rest_unmarked : AllByRecursion (IsUnmarked lumps) (group_parts S_START pictures S_END ++ rest) =
    all_second (IsUnmarked lumps) flat_parts (group_parts S_START pictures S_END ++ rest) all_unmarked in
    let front : AllByRecursion (IsPlain Sprites) (map lump flat_parts) =
    plain_group bytes lumps Sprites F_START flats F_END refl refl refl refl (all_first (IsUnmarked lumps) flat_parts (group_parts S_START pictures S_END ++ rest) all_unmarked) in
    subst (λ ls. HasGroup Sprites (stored_from HEAD_SIZE ls) (length (map lump flat_parts)) (length (map lump (map copy_part pictures))))
    (sym (ap (map lump) (trim_parts-are lumps art name)
    ∙ map-append lump flat_parts (group_parts S_START pictures S_END ++ rest)
    ∙ ap (λ ls. map lump flat_parts ++ ls) (group-shape bytes lumps S_START pictures S_END rest)))
    (stored-group Sprites HEAD_SIZE (map lump flat_parts) (map lump (map copy_part pictures)) (map lump rest) (lump (Mark S_START)) (lump (Mark S_END)) front
    (plain_copies bytes lumps Sprites pictures (inner_copies lumps S_START pictures S_END (all_first (IsUnmarked lumps) (group_parts S_START pictures S_END) rest rest_unmarked)))
    (plain_behind bytes lumps art name Sprites (all_second (IsUnmarked lumps) (group_parts S_START pictures S_END) rest rest_unmarked))
    (ap (is_start Sprites) (mark_named bytes lumps S_START)) (ap (is_end Sprites) (mark_named bytes lumps S_END)) (ap (is_start Sprites) (mark_named bytes lumps S_END)))
