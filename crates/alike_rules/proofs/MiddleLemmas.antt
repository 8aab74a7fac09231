-- Art whose lumps have other numbers: the same dots of masked middles, and of the whole masked pass.
use Rattle.picture_rules.proofs.Common.{[], ap, Bool, cond, false, filter, length, List, map, map-append, None, Option, refl, slice_get, Some, suc, sym, true, zero, ℕ, ◌&&◌, ◌+◌, ◌==◌, ◌∙◌, ◌∷◌, ◌≡◌}
use Rattle.alike_rules.specs.Rules.{Art, Drawseg, LUMP, MIDDLE, Post, Source, SpriteEntry, ViewValue, columns_at, drawseg_scale, joined_lists, listed_from, masked_dots, middle_by, middle_column, middle_masked, middles_at, middles_of, painter_of, posts_dots, same_number, scale_map, sprite_dots, sprite_in_front, sprite_step, sprites_from}
use Rattle.alike_rules.proofs.DotLemmas.{IsMovedArt, joined-moved, moved_dot, moved_source, painter-moved, posts_dots-moved}
use Rattle.alike_rules.proofs.EntryLemmas.{front-same, moved_entry, sprite_dots-moved}

module _ (σ : ℕ → ℕ) (art other : Art) (moved : IsMovedArt σ art other) (v : ViewValue) where
  no_posts-moved : (k : ℕ) (d : Drawseg) (x : ℕ) (s : Source)
      → posts_dots v.shape (painter_of MIDDLE k (moved_source σ s)) x (middle_masked d x) (other.byte (moved_source σ s).number) (other.shade (scale_map v d.light (drawseg_scale d x))) []
      ≡ map (moved_dot σ) (posts_dots v.shape (painter_of MIDDLE k s) x (middle_masked d x) (art.byte s.number) (art.shade (scale_map v d.light (drawseg_scale d x))) [])
  unfolding posts_dots joined_lists
  no_posts-moved k d x s = refl

  -- where no lump is the source there are no posts
  posts-moved : (b : Bool) (k : ℕ) (d : Drawseg) (x : ℕ) (s : Source) (posts : List Post) → (s.kind == LUMP) ≡ b → ((s.kind == LUMP) ≡ false → posts ≡ [])
      → posts_dots v.shape (painter_of MIDDLE k (moved_source σ s)) x (middle_masked d x) (other.byte (moved_source σ s).number) (other.shade (scale_map v d.light (drawseg_scale d x))) posts
      ≡ map (moved_dot σ) (posts_dots v.shape (painter_of MIDDLE k s) x (middle_masked d x) (art.byte s.number) (art.shade (scale_map v d.light (drawseg_scale d x))) posts)
  posts-moved true k d x s posts e none =
      rw (painter-moved σ MIDDLE k s)
      (posts_dots-moved σ v.shape (painter_of MIDDLE k s) x (middle_masked d x) (art.byte s.number) (other.byte (moved_source σ s).number)
      (art.shade (scale_map v d.light (drawseg_scale d x))) (other.shade (scale_map v d.light (drawseg_scale d x)))
      (λ i. ap (λ b. other.byte (cond b (σ s.number) s.number) i) e ∙ moved.byte s.number i)
      (λ i. moved.shade (scale_map v d.light (drawseg_scale d x)) i) posts)
  posts-moved false k d x s posts e none = rw (none e) (no_posts-moved k d x s)

  column-moved : (k : ℕ) (d : Drawseg) (x : ℕ) → middle_column v other k d x ≡ map (moved_dot σ) (middle_column v art k d x)
  unfolding middle_column middle_by
  column-moved k d x =
      rw (moved.texture_source d.middle (d.column x), moved.texture_posts d.middle (d.column x))
      (posts-moved _ k d x (art.texture_source d.middle (d.column x)) (art.texture_posts d.middle (d.column x)) refl (moved.no_posts d.middle (d.column x)))

  filter-same : (p q : ℕ → Bool) → ((n : ℕ) → p n ≡ q n) → (ns : List ℕ) → filter p ns ≡ filter q ns
  filter-same p q same [] = refl
  filter-same p q same (n ∷ ns) = rw (same n, filter-same p q same ns) refl

  columns-same : (es : List SpriteEntry) (moment : Option ℕ) (d : Drawseg) → columns_at (map (moved_entry σ) es) moment d ≡ columns_at es moment d
  unfolding columns_at
  columns-same es moment d =
      filter-same (λ x. d.masked && same_number (sprite_in_front (map (moved_entry σ) es) d x) moment) (λ x. d.masked && same_number (sprite_in_front es d x) moment)
      (λ x. rw (front-same σ es d x) refl) (listed_from (λ x. x) d.first d.last)

  middles_of-moved : (es : List SpriteEntry) (moment : Option ℕ) (k : ℕ) (o : Option Drawseg)
      → middles_of v other (map (moved_entry σ) es) moment k o ≡ map (moved_dot σ) (middles_of v art es moment k o)
  unfolding middles_of
  middles_of-moved es moment k None = refl
  middles_of-moved es moment k (Some d) =
      rw (columns-same es moment d) (joined-moved (moved_dot σ) (middle_column v art k d) (middle_column v other k d) (λ x. column-moved k d x) (columns_at es moment d))

  middles-moved : (ds : List Drawseg) (es : List SpriteEntry) (moment : Option ℕ) (n : ℕ)
      → middles_at v other ds (map (moved_entry σ) es) moment n ≡ map (moved_dot σ) (middles_at v art ds es moment n)
  unfolding middles_at
  middles-moved ds es moment zero = refl
  middles-moved ds es moment (suc n) =
      rw (middles_of-moved es moment n (slice_get ds n), middles-moved ds es moment n)
      (sym (map-append (moved_dot σ) (middles_of v art es moment n (slice_get ds n)) (middles_at v art ds es moment n)))

  step-moved : (ds : List Drawseg) (es : List SpriteEntry) (i : ℕ) (e : SpriteEntry)
      → sprite_step v other ds (map (moved_entry σ) es) i (moved_entry σ e) ≡ map (moved_dot σ) (sprite_step v art ds es i e)
  unfolding sprite_step
  step-moved ds es i e =
      rw (middles-moved ds es (Some i) (length ds), sprite_dots-moved σ art other moved v ds e)
      (sym (map-append (moved_dot σ) (middles_at v art ds es (Some i) (length ds)) (sprite_dots v art ds e)))

  from-moved : (ds : List Drawseg) (es : List SpriteEntry) (i : ℕ) (fs : List SpriteEntry)
      → sprites_from v other ds (map (moved_entry σ) es) i (map (moved_entry σ) fs) ≡ map (moved_dot σ) (sprites_from v art ds es i fs)
  unfolding sprites_from
  from-moved ds es i [] = refl
  from-moved ds es i (f ∷ fs) =
      rw (step-moved ds es i f, from-moved ds es (i + 1) fs) (sym (map-append (moved_dot σ) (sprite_step v art ds es i f) (sprites_from v art ds es (i + 1) fs)))

  -- the dots of the masked pass
  pub masked_dots-moved : (ds : List Drawseg) (es : List SpriteEntry) → masked_dots v other ds (map (moved_entry σ) es) ≡ map (moved_dot σ) (masked_dots v art ds es)
  unfolding masked_dots
  masked_dots-moved ds es =
      rw (from-moved ds es 0 es, middles-moved ds es None (length ds))
      (sym (map-append (moved_dot σ) (sprites_from v art ds es 0 es) (middles_at v art ds es None (length ds))))
