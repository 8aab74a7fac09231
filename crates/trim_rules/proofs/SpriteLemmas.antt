-- The pictures of a frame in a directory that has fewer sprite lumps under other numbers: where those of the frame
-- are among them, they stay its pictures.
use Rattle.art_rules.proofs.Common.{[], ap, Bool, cond, false, filter, filter-append, List, map, map-append, None, Option, option_map, range_with_len, refl, Some, suc, sym, true, ℕ, ⊤, ◌++◌, ◌+◌, ◌==◌, ◌∙◌, ◌∷◌, ◌≡◌}
use Rattle.trim_rules.specs.Rules.{Lump, Mention, SECOND_PAIR_AT, SPRITE_LETTERS, Sprites, frame_picture, is_of_frame, is_of_rotation, is_of_sprite, joined_lists, last_that, lump_at, lump_mentions, members, mention_at, mentions, name_mentions, or_else, picture_by, picture_if}
use Rattle.trim_rules.proofs.MentionLemmas.{frame_picture-fewer}

-- the same mention of the lump that has another number
abbrev pub renumber : (ℕ → ℕ) → Mention → Mention
renumber σ m = record { lump = σ m.lump; frame = m.frame; rotation = m.rotation; flip = m.flip }

-- a mention of a lump that is kept
abbrev pub is_kept : (ℕ → Bool) → Mention → Bool
is_kept keep m = keep m.lump

-- the last that passes, under other numbers
renumbered_step : (σ : ℕ → ℕ) (o : Option Mention) (b : Bool) (m : Mention)
    → or_else (option_map (renumber σ) o) (cond b (Some (renumber σ m)) None) ≡ option_map (renumber σ) (or_else o (cond b (Some m) None))
renumbered_step σ None true m = refl
renumbered_step σ None false m = refl
renumbered_step σ (Some v) b m = refl

pub last_that-renumbered : (σ : ℕ → ℕ) (passes : Mention → Bool) → ((m : Mention) → passes (renumber σ m) ≡ passes m)
    → (all : List Mention) → last_that passes (map (renumber σ) all) ≡ option_map (renumber σ) (last_that passes all)
unfolding last_that
last_that-renumbered σ passes same [] = refl
last_that-renumbered σ passes same (m ∷ rest) =
    rw (last_that-renumbered σ passes same rest, same m) (renumbered_step σ (last_that passes rest) (passes m) m)

of_frame : (σ : ℕ → ℕ) (frame : ℕ) (m : Mention) → is_of_frame frame (renumber σ m) ≡ is_of_frame frame m
unfolding is_of_frame
of_frame σ frame m = refl

of_rotation : (σ : ℕ → ℕ) (frame rotation : ℕ) (m : Mention) → is_of_rotation frame rotation (renumber σ m) ≡ is_of_rotation frame rotation m
unfolding is_of_rotation is_of_frame
of_rotation σ frame rotation m = refl

picture_step : (σ : ℕ → ℕ) (b : Bool) (last : Mention) (o : Option Mention)
    → cond b (Some (renumber σ last)) (option_map (renumber σ) o) ≡ option_map (renumber σ) (cond b (Some last) o)
picture_step σ true last o = refl
picture_step σ false last o = refl

picture_if-renumbered : (σ : ℕ → ℕ) (all : List Mention) (frame k : ℕ) (o : Option Mention)
    → picture_if (map (renumber σ) all) frame (option_map (renumber σ) o) k ≡ option_map (renumber σ) (picture_if all frame o k)
unfolding picture_if picture_by
picture_if-renumbered σ all frame k None = refl
picture_if-renumbered σ all frame k (Some last) =
    rw (last_that-renumbered σ (is_of_rotation frame (suc k)) (of_rotation σ frame (suc k)) all)
    (picture_step σ (last.rotation == 0) last (last_that (is_of_rotation frame (suc k)) all))

pub frame_picture-renumbered : (σ : ℕ → ℕ) (all : List Mention) (frame k : ℕ)
    → frame_picture (map (renumber σ) all) frame k ≡ option_map (renumber σ) (frame_picture all frame k)
unfolding frame_picture
frame_picture-renumbered σ all frame k =
    rw (last_that-renumbered σ (is_of_frame frame) (of_frame σ frame) all)
    (picture_if-renumbered σ all frame k (last_that (is_of_frame frame) all))

-- what a name mentions, under another number
mention_step : (σ : ℕ → ℕ) (n : ℕ) (b : Bool) (frame rotation : ℕ) (flip : Bool)
    → map (renumber σ) (cond b (record { lump = n; frame = frame; rotation = rotation; flip = flip } ∷ []) [])
    ≡ cond b (record { lump = σ n; frame = frame; rotation = rotation; flip = flip } ∷ []) []
mention_step σ n true frame rotation flip = refl
mention_step σ n false frame rotation flip = refl

mention_at-renumbered : (σ : ℕ → ℕ) (n : ℕ) (name : List ℕ) (offset : ℕ) (flip : Bool)
    → map (renumber σ) (mention_at n name offset flip) ≡ mention_at (σ n) name offset flip
unfolding mention_at
mention_at-renumbered σ n name offset flip = mention_step σ n _ _ _ flip

second_step : (σ : ℕ → ℕ) (n : ℕ) (name : List ℕ) (b : Bool)
    → map (renumber σ) (cond b [] (mention_at n name SECOND_PAIR_AT true)) ≡ cond b [] (mention_at (σ n) name SECOND_PAIR_AT true)
second_step σ n name true = refl
second_step σ n name false = mention_at-renumbered σ n name SECOND_PAIR_AT true

name_mentions-renumbered : (σ : ℕ → ℕ) (n : ℕ) (name : List ℕ) → map (renumber σ) (name_mentions n name) ≡ name_mentions (σ n) name
unfolding name_mentions
name_mentions-renumbered σ n name =
    map-append (renumber σ) (mention_at n name SPRITE_LETTERS false) _
    ∙ rw (mention_at-renumbered σ n name SPRITE_LETTERS false, second_step σ n name _) refl

sprite_step : (σ : ℕ → ℕ) (n : ℕ) (name : List ℕ) (b : Bool)
    → map (renumber σ) (cond b (name_mentions n name) []) ≡ cond b (name_mentions (σ n) name) []
sprite_step σ n name true = name_mentions-renumbered σ n name
sprite_step σ n name false = refl

-- the lumps from a number on stand for these, by name
abbrev pub StandFor : List Lump → List Lump → (ℕ → ℕ) → ℕ → List ℕ → Type 0
StandFor trimmed lumps σ a [] = ⊤
StandFor trimmed lumps σ a (n ∷ ns) = (σ a ≡ n) × ((lump_at trimmed a).name ≡ (lump_at lumps n).name) × StandFor trimmed lumps σ (a + 1) ns

lump_mentions-renumbered : (trimmed lumps : List Lump) (σ : ℕ → ℕ) (sprite : List ℕ) (a n : ℕ) → σ a ≡ n → (lump_at trimmed a).name ≡ (lump_at lumps n).name
    → map (renumber σ) (lump_mentions trimmed sprite a) ≡ lump_mentions lumps sprite n
unfolding lump_mentions
lump_mentions-renumbered trimmed lumps σ sprite a n is same =
    sprite_step σ a (lump_at trimmed a).name (is_of_sprite sprite (lump_at trimmed a).name)
    ∙ rw (is, same) refl

unfoldable pub count_of : List ℕ → ℕ
count_of [] = 0
count_of (n ∷ ns) = suc (count_of ns)

pub joined-renumbered : (trimmed lumps : List Lump) (σ : ℕ → ℕ) (sprite : List ℕ) (a : ℕ) (ns : List ℕ) → StandFor trimmed lumps σ a ns
    → map (renumber σ) (joined_lists (lump_mentions trimmed sprite) (range_with_len a (count_of ns))) ≡ joined_lists (lump_mentions lumps sprite) ns
unfolding joined_lists count_of
joined-renumbered trimmed lumps σ sprite a [] stand = refl
joined-renumbered trimmed lumps σ sprite a (n ∷ ns) stand =
    map-append (renumber σ) (lump_mentions trimmed sprite a) (joined_lists (lump_mentions trimmed sprite) (range_with_len (a + 1) (count_of ns)))
    ∙ rw (lump_mentions-renumbered trimmed lumps σ sprite a n stand.0 stand.1, joined-renumbered trimmed lumps σ sprite (a + 1) ns stand.2) refl

-- the mentions of the lumps that are kept
kept_one : (keep : ℕ → Bool) (n : ℕ) (b c : Bool) → keep n ≡ c → (frame rotation : ℕ) (flip : Bool)
    → filter (is_kept keep) (cond b (record { lump = n; frame = frame; rotation = rotation; flip = flip } ∷ []) [])
    ≡ cond c (cond b (record { lump = n; frame = frame; rotation = rotation; flip = flip } ∷ []) []) []
kept_one keep n true true e frame rotation flip = rw e refl
kept_one keep n true false e frame rotation flip = rw e refl
kept_one keep n false true e frame rotation flip = refl
kept_one keep n false false e frame rotation flip = refl

kept_mention : (keep : ℕ → Bool) (n : ℕ) (c : Bool) → keep n ≡ c → (name : List ℕ) (offset : ℕ) (flip : Bool)
    → filter (is_kept keep) (mention_at n name offset flip) ≡ cond c (mention_at n name offset flip) []
unfolding mention_at
kept_mention keep n c e name offset flip = kept_one keep n _ c e _ _ flip

kept_second : (keep : ℕ → Bool) (n : ℕ) (c : Bool) → keep n ≡ c → (name : List ℕ) (b : Bool)
    → filter (is_kept keep) (cond b [] (mention_at n name SECOND_PAIR_AT true)) ≡ cond c (cond b [] (mention_at n name SECOND_PAIR_AT true)) []
kept_second keep n true e name true = refl
kept_second keep n false e name true = refl
kept_second keep n c e name false = kept_mention keep n c e name SECOND_PAIR_AT true

both_kept : {X : Type 0} (c : Bool) (xs ys : List X) → cond c xs [] ++ cond c ys [] ≡ cond c (xs ++ ys) []
both_kept true xs ys = refl
both_kept false xs ys = refl

kept_name : (keep : ℕ → Bool) (n : ℕ) (c : Bool) → keep n ≡ c → (name : List ℕ)
    → filter (is_kept keep) (name_mentions n name) ≡ cond c (name_mentions n name) []
unfolding name_mentions
kept_name keep n c e name =
    filter-append (is_kept keep) (mention_at n name SPRITE_LETTERS false) _
    ∙ rw (kept_mention keep n c e name SPRITE_LETTERS false, kept_second keep n c e name _) (both_kept c _ _)

kept_lump : (keep : ℕ → Bool) (n : ℕ) (c : Bool) → keep n ≡ c → (name : List ℕ) (b : Bool)
    → filter (is_kept keep) (cond b (name_mentions n name) []) ≡ cond c (cond b (name_mentions n name) []) []
kept_lump keep n c e name true = kept_name keep n c e name
kept_lump keep n true e name false = refl
kept_lump keep n false e name false = refl

kept_join : (lumps : List Lump) (sprite : List ℕ) (keep : ℕ → Bool) (n : ℕ) (rest : List ℕ) (c : Bool) → keep n ≡ c
    → filter (is_kept keep) (lump_mentions lumps sprite n) ≡ cond c (lump_mentions lumps sprite n) []
    → filter (is_kept keep) (joined_lists (lump_mentions lumps sprite) rest) ≡ joined_lists (lump_mentions lumps sprite) (filter keep rest)
    → filter (is_kept keep) (lump_mentions lumps sprite n ++ joined_lists (lump_mentions lumps sprite) rest)
    ≡ joined_lists (lump_mentions lumps sprite) (cond c (n ∷ filter keep rest) (filter keep rest))
unfolding joined_lists
kept_join lumps sprite keep n rest true e one more =
    filter-append (is_kept keep) (lump_mentions lumps sprite n) _ ∙ rw (one, more) refl
kept_join lumps sprite keep n rest false e one more =
    filter-append (is_kept keep) (lump_mentions lumps sprite n) _ ∙ rw (one, more) refl

kept_mentions : (lumps : List Lump) (sprite : List ℕ) (keep : ℕ → Bool) (n : ℕ)
    → filter (is_kept keep) (lump_mentions lumps sprite n) ≡ cond (keep n) (lump_mentions lumps sprite n) []
unfolding lump_mentions
kept_mentions lumps sprite keep n = kept_lump keep n (keep n) refl (lump_at lumps n).name _

pub joined-kept : (lumps : List Lump) (sprite : List ℕ) (keep : ℕ → Bool) (ks : List ℕ)
    → filter (is_kept keep) (joined_lists (lump_mentions lumps sprite) ks) ≡ joined_lists (lump_mentions lumps sprite) (filter keep ks)
unfolding joined_lists
joined-kept lumps sprite keep [] = refl
joined-kept lumps sprite keep (n ∷ rest) =
    kept_join lumps sprite keep n rest (keep n) refl (kept_mentions lumps sprite keep n) (joined-kept lumps sprite keep rest)

some_of : (σ : ℕ → ℕ) (o : Option Mention) (m : Mention) → option_map (renumber σ) o ≡ Some m → (n : Mention) × (o ≡ Some n) × (renumber σ n ≡ m)
some_of σ None m e = absurd (cc)
some_of σ (Some n) m e = (n, refl, cc)

-- The picture of a frame from a rotation, in a directory whose sprite lumps are these, stands for that of the given
-- directory, where the last mention of the frame and this picture are among them.
pub trimmed_picture : (trimmed lumps : List Lump) (σ : ℕ → ℕ) (keep : ℕ → Bool) (sprite : List ℕ) (a frame k : ℕ) (last m : Mention)
    → members Sprites trimmed ≡ range_with_len a (count_of (filter keep (members Sprites lumps)))
    → StandFor trimmed lumps σ a (filter keep (members Sprites lumps))
    → last_that (is_of_frame frame) (mentions lumps sprite) ≡ Some last → keep last.lump ≡ true
    → frame_picture (mentions lumps sprite) frame k ≡ Some m → keep m.lump ≡ true
    → (n : Mention) × (frame_picture (mentions trimmed sprite) frame k ≡ Some n) × (renumber σ n ≡ m)
unfolding mentions
trimmed_picture trimmed lumps σ keep sprite a frame k last m are stand is kl e km =
    let mentions_same : map (renumber σ) (mentions trimmed sprite) ≡ filter (is_kept keep) (mentions lumps sprite) =
    ap (λ ks. map (renumber σ) (joined_lists (lump_mentions trimmed sprite) ks)) are
    ∙ joined-renumbered trimmed lumps σ sprite a (filter keep (members Sprites lumps)) stand
    ∙ sym (joined-kept lumps sprite keep (members Sprites lumps)) in
    some_of σ (frame_picture (mentions trimmed sprite) frame k) m
    (sym (frame_picture-renumbered σ (mentions trimmed sprite) frame k)
    ∙ ap (λ ms. frame_picture ms frame k) mentions_same
    ∙ frame_picture-fewer (is_kept keep) (mentions lumps sprite) frame k last m is kl e km)
