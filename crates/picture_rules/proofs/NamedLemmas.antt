-- Laws of what a trace names: each dot of a view's paints is of an item of the view's list, in its columns.
use Rattle.word_rules.proofs.Common.{[], All, All-from_recursion, All-weaker, AllByRecursion, ap, arith, Bool, cond, false, inl, inr, int_lt, length, List, map, None, Option, option_map, refl, same_Some, slice_get, slice_get-map, Some, subst, suc, sym, true, zero, zip, ℕ, ℤ, ◌++◌, ◌+◌, ◌∙◌, ◌∷◌, ◌≡◌, ◌≢◌, ◌≤◌, ◌⊎◌}
use Rattle.picture_rules.specs.Rules.{Art, Dot, Event, LeafFragment, MIDDLE, MaskedColumn, PLANE, Painter, Post, SKY, SPRITE, Source, ViewShape, ViewValue, WALL, column_dots, drawsegs, joined_lists, listed, listed_from, lump_source, natural, painter_of, post_colour, post_dots, post_rows, posts_dots, rows_between, view_events}
use Rattle.picture_rules.specs.declared.list.ListedFragment.{ListedFragment}
use Rattle.picture_rules.specs.declared.list.ListedPlane.{ListedPlane}
use Rattle.picture_rules.specs.{declared.list.ListedSprite.ListedSprite, declared.plane.Flat4.Flat4}
use Rattle.picture_rules.specs.declared.plane.Flat4.TheVariants.{Sky, Lump}
use Rattle.picture_rules.specs.{declared.plane.PlaneKey.PlaneKey, declared.sprite.Placed.Placed}
use Rattle.picture_rules.specs.{declared.sprite.Seen.Seen, declared.sprite.Shape5.Shape5}
use Rattle.picture_rules.specs.declared.sprite.SpriteEntry.{SpriteEntry}
use Rattle.picture_rules.specs.plane.Floors.{floor_dots, run_dots}
use Rattle.picture_rules.specs.{plane.Planes.Plane, plane.Planes.column, sprite.Drawsegs.Drawseg}
use Rattle.picture_rules.specs.plane.Skies.{plane_dots, plane_dots_by, sky_dots}
use Rattle.picture_rules.specs.sprite.Entries.{entry_for, entry_of, entry_within, picture_first, picture_last}
use Rattle.picture_rules.specs.sprite.Middles.{columns_at, masked_dots, middle_by, middle_column, middles_at, middles_of, sprite_step, sprites_from}
use Rattle.picture_rules.specs.sprite.Order.{draw_order, insert_entry}
use Rattle.picture_rules.specs.sprite.Sprites.{sprite_column, sprite_dots}
use Rattle.picture_rules.specs.wall.Strips.{WallStrip, strip_dots, wall_column, wall_column_by, wall_dots, wall_strips}
use Rattle.picture_rules.specs.wall.Walls.{Wall, clip_before, wall_edges, wall_of}
use Rattle.picture_rules.specs.Counts.{view_steps}
use Rattle.picture_rules.specs.Lists.{ViewListValue, event_list, event_planes, listed_fragment, listed_plane, listed_sprite, plane_makers, shown_things, view_list}
use Rattle.picture_rules.specs.Masked.{drawseg_of, drawsegs_from, view_drawsegs}
use Rattle.picture_rules.specs.Named.{IsListed, IsOfListedKind}
use Rattle.picture_rules.specs.Paints.{paints_by, paints_of, view_paints}
use Rattle.picture_rules.specs.{Planes.planes_dots, Planes.planes_from, Scene.Scene}
use Rattle.picture_rules.specs.Things.{view_entries}
use Rattle.picture_rules.specs.Walls.{fragment_wall, walls_dots, walls_from, walls_of}
use Rattle.picture_rules.proofs.ListLemmas.{entries-of_shown, plane_makers-count}
use Rattle.picture_rules.proofs.sprite.MaskedLemmas.{columns_range, from_first}

-- what holds of each item of two lists, of one of them
all_cond : {X : Type 0} (Q : X → Type 0) (b : Bool) (xs ys : List X) → AllByRecursion Q xs → AllByRecursion Q ys → AllByRecursion Q (cond b xs ys)
all_cond Q true xs ys h k = h
all_cond Q false xs ys h k = k

-- the columns from first to last, and the rows
columns_between : (first last : ℕ) → AllByRecursion (λ x. (first ≤ x) × (x ≤ last)) (listed_from (λ x. x) first last)
unfolding listed_from
columns_between first last = from_first first last

rows_within : (first last : ℤ) → AllByRecursion (λ x. (natural first ≤ x) × (x ≤ natural last)) (rows_between first last)
unfolding rows_between
rows_within first last =
    all_cond (λ x. (natural first ≤ x) × (x ≤ natural last)) (int_lt last first) [] (listed_from (λ x. x) (natural first) (natural last)) tt (columns_between (natural first) (natural last))

-- what holds of each number and item of a list whose first one has number k
abbrev AllNumbered : {X : Type 0} → (ℕ → X → Type 0) → ℕ → List X → Type 0
AllNumbered Q k [] = Unit {0}
AllNumbered Q k (x ∷ xs) = Q k x × AllNumbered Q (k + 1) xs

numbered_from : {X : Type 0} (Q : ℕ → X → Type 0) (k : ℕ) (xs : List X) → ((i : ℕ) (x : X) → slice_get xs i ≡ Some x → Q (k + i) x) → AllNumbered Q k xs
numbered_from Q k [] h = tt
numbered_from Q k (x ∷ xs) h =
    let same_number : k + 0 ≡ k = omega arith in (
      subst (λ (n : ℕ). Q n x) same_number (h 0 x refl),
      numbered_from Q (k + 1) xs (λ i y is. let next : k + suc i ≡ (k + 1) + i = omega arith in subst (λ (n : ℕ). Q n y) next (h (suc i) y is)),
    )

numbered : {X : Type 0} (Q : ℕ → X → Type 0) (xs : List X) → ((i : ℕ) (x : X) → slice_get xs i ≡ Some x → Q i x) → AllNumbered Q 0 xs
numbered Q xs h = numbered_from Q 0 xs (λ i x is. let index_is : i ≡ 0 + i = omega arith in subst (λ (n : ℕ). Q n x) index_is (h i x is))

-- each item of a list is what its place says
all_places : {X : Type 0} (Q : X → Type 0) (xs : List X) → ((i : ℕ) (x : X) → slice_get xs i ≡ Some x → Q x) → AllByRecursion Q xs
all_places Q [] h = tt
all_places Q (x ∷ xs) h = (h 0 x refl, all_places Q xs (λ i y is. h (suc i) y is))

-- the pair at a place of two lists, the second of which is at least as long
get_zip : {X Y : Type 0} (xs : List X) (ys : List Y) (i : ℕ) (x : X) → length xs ≤ length ys → slice_get xs i ≡ Some x → (y : Y) × (slice_get ys i ≡ Some y) × (slice_get (zip xs ys) i ≡ Some (x, y))
get_zip [] ys i x l h = absurd (cc)
get_zip (z ∷ zs) [] i x l h = absurd (omega arith)
get_zip {X} {Y} (z ∷ zs) (y ∷ ys) zero x l h = (y, refl, ap (λ (w : X). Some (w, y)) (same_Some z x h))
get_zip (z ∷ zs) (y ∷ ys) (suc i) x l h = get_zip zs ys i x (omega arith) h

-- dots that pass, of strips and runs and posts
module _ (P : Dot → Type 0) where
  all_append : (xs ys : List Dot) → AllByRecursion P xs → AllByRecursion P ys → AllByRecursion P (xs ++ ys)
  all_append [] ys h k = k
  all_append (d ∷ ds) ys h k = (h.0, all_append ds ys h.1 k)

  all_joined : {X : Type 0} (Q : X → Type 0) (f : X → List Dot) (xs : List X) → ((x : X) → Q x → AllByRecursion P (f x)) → AllByRecursion Q xs → AllByRecursion P (joined_lists f xs)
  unfolding joined_lists
  all_joined Q f [] h k = tt
  all_joined Q f (x ∷ xs) h k = all_append (f x) (joined_lists f xs) (h x k.0) (all_joined Q f xs h k.1)

  any_joined : {X : Type 0} (f : X → List Dot) (xs : List X) → ((x : X) → AllByRecursion P (f x)) → AllByRecursion P (joined_lists f xs)
  unfolding joined_lists
  any_joined f [] h = tt
  any_joined f (x ∷ xs) h = all_append (f x) (joined_lists f xs) (h x) (any_joined f xs h)

  -- whatever this painter paints in this column passes
  abbrev PassAt : Painter → ℕ → Type 0
  PassAt painter x = (y colour : ℕ) → P (record { x = x; y = y; colour = colour; painter = painter })

  column_all : (painter : Painter) (x : ℕ) (colour : ℕ → ℕ) (rows : List ℕ) → PassAt painter x → AllByRecursion P (column_dots painter x colour rows)
  unfolding column_dots
  column_all painter x colour [] h = tt
  column_all painter x colour (y ∷ ys) h = (h y (colour y), column_all painter x colour ys h)

  run_all : (painter : Painter) (x : ℕ) (colour : ℕ → ℕ) (run : Option (ℕ × ℕ)) → PassAt painter x → AllByRecursion P (run_dots painter x colour run)
  unfolding run_dots
  run_all painter x colour None h = tt
  run_all painter x colour (Some r) h = column_all painter x colour (listed_from (λ y. y) r.0 r.1) h

  post_all : (shape : ViewShape) (painter : Painter) (x : ℕ) (c : MaskedColumn) (byte shade : ℕ → ℕ) (post : Post) → PassAt painter x → AllByRecursion P (post_dots shape painter x c byte shade post)
  unfolding post_dots
  post_all shape painter x c byte shade post h = column_all painter x (post_colour shape c byte shade post) (post_rows shape c post) h

  posts_all : (shape : ViewShape) (painter : Painter) (x : ℕ) (c : MaskedColumn) (byte shade : ℕ → ℕ) (posts : List Post) → PassAt painter x → AllByRecursion P (posts_dots shape painter x c byte shade posts)
  unfolding posts_dots
  posts_all shape painter x c byte shade posts h =
      any_joined (post_dots shape painter x c byte shade) posts (λ post. post_all shape painter x c byte shade post h)

-- item k of the fragments has these columns
record IsFragmentAt (list : ViewListValue) (k first last : ℕ) : Type 0 where
  fragment : ListedFragment
  is : slice_get list.fragments k ≡ Some fragment
  first_is : fragment.first ≡ first
  last_is : fragment.last ≡ last

-- item n of the planes is that of this plane
record IsPlaneAt (list : ViewListValue) (n : ℕ) (p : Plane) : Type 0 where
  plane : ListedPlane
  is : slice_get list.planes n ≡ Some plane
  key_is : plane.key ≡ p.key

-- the item that a vissprite names is its own
record IsSpriteOf (list : ViewListValue) (e : SpriteEntry) : Type 0 where
  sprite : ListedSprite
  is : slice_get list.sprites e.number ≡ Some sprite
  first_is : sprite.first ≡ natural e.first
  last_is : sprite.last ≡ natural e.last
  lump_is : sprite.lump ≡ e.lump

-- the item of a dot is in the list, and its kind is one that the list has
record IsNamed (list : ViewListValue) (d : Dot) : Type 0 where
  listed : IsListed list d
  kind : IsOfListedKind d

-- dots by kind
module _ (list : ViewListValue) where
  not_fragment : {X : Type 0} (kind : ℕ) → (kind ≢ WALL) × (kind ≢ MIDDLE) → (kind ≡ WALL) ⊎ (kind ≡ MIDDLE) → X
  not_fragment kind no_such (inl is) = absurd (no_such.0 is)
  not_fragment kind no_such (inr is) = absurd (no_such.1 is)

  fragment_dot : (kind k first last x : ℕ) (source : Source) → (kind ≡ WALL) ⊎ (kind ≡ MIDDLE) → IsFragmentAt list k first last → first ≤ x → x ≤ last → PassAt (IsNamed list) (painter_of kind k source) x
  unfolding painter_of
  fragment_dot kind k first last x source is h from to y colour = record {
    listed = record {
      fragment = λ own. (h.fragment, h.is, omega (arith, h.first_is), omega (arith, h.last_is));
      plane = λ other. not_fragment kind ((λ e. absurd (omega arith)), (λ e. absurd (omega arith))) is;
      sky = λ other. not_fragment kind ((λ e. absurd (omega arith)), (λ e. absurd (omega arith))) is;
      sprite = λ other. not_fragment kind ((λ e. absurd (omega arith)), (λ e. absurd (omega arith))) is;
    };
    kind = elim is [ inl e ↦ (omega arith, omega arith) | inr e ↦ (omega arith, omega arith) ];
  }

  floor_dot : (n lump x : ℕ) (p : Plane) → IsPlaneAt list n p → p.key.flat ≡ Lump lump → PassAt (IsNamed list) (painter_of PLANE n (lump_source lump)) x
  unfolding painter_of lump_source
  floor_dot n lump x p h flat y colour = record {
    listed = record {
      fragment = λ kind. not_fragment PLANE ((λ e. absurd (omega arith)), (λ e. absurd (omega arith))) kind;
      plane = λ kind. (h.plane, h.is, ap (λ (key : PlaneKey). key.flat) h.key_is ∙ flat);
      sky = λ kind. absurd (omega arith);
      sprite = λ kind. absurd (omega arith);
    };
    kind = (omega arith, omega arith);
  }

  sky_dot : (n x : ℕ) (source : Source) (p : Plane) → IsPlaneAt list n p → p.key.flat ≡ Sky → PassAt (IsNamed list) (painter_of SKY n source) x
  unfolding painter_of
  sky_dot n x source p h flat y colour = record {
    listed = record {
      fragment = λ kind. not_fragment SKY ((λ e. absurd (omega arith)), (λ e. absurd (omega arith))) kind;
      plane = λ kind. absurd (omega arith);
      sky = λ kind. (h.plane, h.is, ap (λ (key : PlaneKey). key.flat) h.key_is ∙ flat);
      sprite = λ kind. absurd (omega arith);
    };
    kind = (omega arith, omega arith);
  }

  sprite_dot : (e : SpriteEntry) (x : ℕ) → IsSpriteOf list e → natural e.first ≤ x → x ≤ natural e.last → PassAt (IsNamed list) (painter_of SPRITE e.number (lump_source e.lump)) x
  unfolding painter_of lump_source
  sprite_dot e x h from to y colour = record {
    listed = record {
      fragment = λ kind. not_fragment SPRITE ((λ e. absurd (omega arith)), (λ e. absurd (omega arith))) kind;
      plane = λ kind. absurd (omega arith);
      sky = λ kind. absurd (omega arith);
      sprite = λ kind. (h.sprite, h.is, omega (arith, h.first_is), omega (arith, h.last_is), h.lump_is);
    };
    kind = (omega arith, omega arith);
  }

  -- the walls
  strip_all : (v : ViewValue) (art : Art) (k x light : ℕ) (column scale : ℤ) (s : WallStrip) → ((source : Source) → PassAt (IsNamed list) (painter_of WALL k source) x) → AllByRecursion (IsNamed list) (strip_dots v art k x light column scale s)
  unfolding strip_dots
  strip_all v art k x light column scale s h = column_all (IsNamed list) _ x _ (rows_between s.rows.first s.rows.last) (h _)

  wall_column_all : (v : ViewValue) (art : Art) (walls : List Wall) (k : ℕ) (w : Wall) (x : ℕ) → ((source : Source) → PassAt (IsNamed list) (painter_of WALL k source) x) → AllByRecursion (IsNamed list) (wall_column v art walls k w x)
  unfolding wall_column wall_column_by
  wall_column_all v art walls k w x h =
      any_joined (IsNamed list) _ (wall_strips w.numbers (clip_before v.shape walls k x) (wall_edges v.shape w x)) (λ s. strip_all v art k x _ _ _ s h)

  wall_all : (v : ViewValue) (art : Art) (walls : List Wall) (k : ℕ) (w : Wall) → IsFragmentAt list k w.first w.last → AllByRecursion (IsNamed list) (wall_dots v art walls k w)
  unfolding wall_dots
  wall_all v art walls k w h =
      all_joined (IsNamed list) (λ x. (w.first ≤ x) × (x ≤ w.last)) (wall_column v art walls k w) (listed_from (λ x. x) w.first w.last)
      (λ x within. wall_column_all v art walls k w x (λ source. fragment_dot WALL k w.first w.last x source (inl refl) h within.0 within.1))
      (columns_between w.first w.last)

  walls_from_all : (v : ViewValue) (scene : Scene) (walls : List Wall) (k : ℕ) (ws : List Wall) → AllNumbered (λ k (w : Wall). IsFragmentAt list k w.first w.last) k ws → AllByRecursion (IsNamed list) (walls_from v scene walls k ws)
  unfolding walls_from
  walls_from_all v scene walls k [] h = tt
  walls_from_all v scene walls k (w ∷ ws) h =
      all_append (IsNamed list) (wall_dots v scene.art walls k w) (walls_from v scene walls (k + 1) ws) (wall_all v scene.art walls k w h.0) (walls_from_all v scene walls (k + 1) ws h.1)

  walls_all : (v : ViewValue) (scene : Scene) (walls : List Wall) → ((k : ℕ) (w : Wall) → slice_get walls k ≡ Some w → IsFragmentAt list k w.first w.last) → AllByRecursion (IsNamed list) (walls_dots v scene walls)
  unfolding walls_dots
  walls_all v scene walls h = walls_from_all v scene walls 0 walls (numbered (λ k (w : Wall). IsFragmentAt list k w.first w.last) walls h)

  -- the planes
  plane_by_all : (v : ViewValue) (art : Art) (sky n : ℕ) (p : Plane) (flat : Flat4) → IsPlaneAt list n p → p.key.flat ≡ flat → AllByRecursion (IsNamed list) (plane_dots_by v art sky n p flat)
  unfolding plane_dots_by sky_dots floor_dots
  plane_by_all v art sky n p Sky h is =
      any_joined (IsNamed list) _ (listed (λ x. x) v.shape.width) (λ x. run_all (IsNamed list) _ x _ (column p x) (sky_dot n x _ p h is))
  plane_by_all v art sky n p (Lump lump) h is =
      any_joined (IsNamed list) _ (listed (λ x. x) v.shape.width) (λ x. run_all (IsNamed list) _ x _ (column p x) (floor_dot n lump x p h is))

  planes_from_all : (v : ViewValue) (scene : Scene) (n : ℕ) (planes : List Plane) → AllNumbered (IsPlaneAt list) n planes → AllByRecursion (IsNamed list) (planes_from v scene n planes)
  unfolding planes_from plane_dots
  planes_from_all v scene n [] h = tt
  planes_from_all v scene n (p ∷ ps) h =
      all_append (IsNamed list) (plane_dots v scene.art scene.sky n p) (planes_from v scene (n + 1) ps) (plane_by_all v scene.art scene.sky n p p.key.flat h.0 refl) (planes_from_all v scene (n + 1) ps h.1)

  planes_all : (v : ViewValue) (scene : Scene) (planes : List Plane) → ((n : ℕ) (p : Plane) → slice_get planes n ≡ Some p → IsPlaneAt list n p) → AllByRecursion (IsNamed list) (planes_dots v scene planes)
  unfolding planes_dots
  planes_all v scene planes h = planes_from_all v scene 0 planes (numbered (IsPlaneAt list) planes h)

  -- the masked pass
  sprite_all : (v : ViewValue) (art : Art) (ds : List Drawseg) (e : SpriteEntry) → IsSpriteOf list e → AllByRecursion (IsNamed list) (sprite_dots v art ds e)
  unfolding sprite_dots sprite_column
  sprite_all v art ds e h =
      all_joined (IsNamed list) (λ x. (natural e.first ≤ x) × (x ≤ natural e.last)) (sprite_column v art ds e) (rows_between e.first e.last)
      (λ x within. posts_all (IsNamed list) v.shape _ x _ _ _ _ (sprite_dot e x h within.0 within.1))
      (rows_within e.first e.last)

  middle_all : (v : ViewValue) (art : Art) (k : ℕ) (d : Drawseg) (x : ℕ) → ((source : Source) → PassAt (IsNamed list) (painter_of MIDDLE k source) x) → AllByRecursion (IsNamed list) (middle_column v art k d x)
  unfolding middle_column middle_by
  middle_all v art k d x h = posts_all (IsNamed list) v.shape _ x _ _ _ _ (h _)

  module _ (v : ViewValue) (art : Art) (ds : List Drawseg) (noted : (k : ℕ) (d : Drawseg) → slice_get ds k ≡ Some d → IsFragmentAt list k d.first d.last) where
    middles_of_all : (sprites : List SpriteEntry) (moment : Option ℕ) (k : ℕ) (o : Option Drawseg) → slice_get ds k ≡ o → AllByRecursion (IsNamed list) (middles_of v art sprites moment k o)
    unfolding middles_of
    middles_of_all sprites moment k None is = tt
    middles_of_all sprites moment k (Some d) is =
        all_joined (IsNamed list) (λ x. (d.first ≤ x) × (x ≤ d.last)) (middle_column v art k d) (columns_at sprites moment d)
        (λ x within. middle_all v art k d x (λ source. fragment_dot MIDDLE k d.first d.last x source (inr refl) (noted k d is) within.0 within.1))
        (columns_range sprites moment d)

    middles_all : (sprites : List SpriteEntry) (moment : Option ℕ) (n : ℕ) → AllByRecursion (IsNamed list) (middles_at v art ds sprites moment n)
    unfolding middles_at
    middles_all sprites moment zero = tt
    middles_all sprites moment (suc n) =
        all_append (IsNamed list) (middles_of v art sprites moment n (slice_get ds n)) (middles_at v art ds sprites moment n) (middles_of_all sprites moment n (slice_get ds n) refl) (middles_all sprites moment n)

    step_all : (sprites : List SpriteEntry) (i : ℕ) (e : SpriteEntry) → IsSpriteOf list e → AllByRecursion (IsNamed list) (sprite_step v art ds sprites i e)
    unfolding sprite_step
    step_all sprites i e h =
        all_append (IsNamed list) (middles_at v art ds sprites (Some i) (length ds)) (sprite_dots v art ds e) (middles_all sprites (Some i) (length ds)) (sprite_all v art ds e h)

    sprites_all : (sprites : List SpriteEntry) (i : ℕ) (es : List SpriteEntry) → AllByRecursion (IsSpriteOf list) es → AllByRecursion (IsNamed list) (sprites_from v art ds sprites i es)
    unfolding sprites_from
    sprites_all sprites i [] h = tt
    sprites_all sprites i (e ∷ es) h =
        all_append (IsNamed list) (sprite_step v art ds sprites i e) (sprites_from v art ds sprites (i + 1) es) (step_all sprites i e h.0) (sprites_all sprites (i + 1) es h.1)

    masked_all : (sprites : List SpriteEntry) → AllByRecursion (IsSpriteOf list) sprites → AllByRecursion (IsNamed list) (masked_dots v art ds sprites)
    unfolding masked_dots
    masked_all sprites h =
        all_append (IsNamed list) (sprites_from v art ds sprites 0 sprites) (middles_at v art ds sprites None (length ds)) (sprites_all sprites 0 sprites h) (middles_all sprites None (length ds))

-- what holds of each vissprite holds of each in drawing order
all_inserted : (Q : SpriteEntry → Type 0) (e : SpriteEntry) (fs : List SpriteEntry) → Q e → AllByRecursion Q fs → AllByRecursion Q (insert_entry e fs)
unfolding insert_entry
all_inserted Q e [] h k = (h, tt)
all_inserted Q e (f ∷ fs) h k = all_cond Q _ (e ∷ (f ∷ fs)) (f ∷ insert_entry e fs) (h, k) (k.0, all_inserted Q e fs h k.1)

all_ordered : (Q : SpriteEntry → Type 0) (es : List SpriteEntry) → AllByRecursion Q es → AllByRecursion Q (draw_order es)
unfolding draw_order
all_ordered Q [] h = tt
all_ordered Q (e ∷ es) h = all_inserted Q e (draw_order es) h.0 (all_ordered Q es h.1)

-- the fragments of a view's list are those of its walls
wall_at : (v : ViewValue) (scene : Scene) (ss : List LeafFragment) (k : ℕ) (w : Wall) → slice_get (map (fragment_wall v scene) ss) k ≡ Some w →
    (f : ListedFragment) × (slice_get (map listed_fragment ss) k ≡ Some f) × (f.first ≡ w.first) × (f.last ≡ w.last)
unfolding fragment_wall wall_of listed_fragment
wall_at v scene [] k w h = absurd (cc)
wall_at v scene (s ∷ ss) zero w h =
    (listed_fragment s, refl, ap (λ (o : Wall). o.first) (same_Some (fragment_wall v scene s) w h), ap (λ (o : Wall). o.last) (same_Some (fragment_wall v scene s) w h))
wall_at v scene (s ∷ ss) (suc k) w h = wall_at v scene ss k w h

-- so are what the masked pass needs of them
drawseg_at : (v : ViewValue) (scene : Scene) (walls : List Wall) (k : ℕ) (ws : List Wall) (i : ℕ) (d : Drawseg) →
    slice_get (drawsegs_from v scene walls k ws) i ≡ Some d → (w : Wall) × (slice_get ws i ≡ Some w) × (w.first ≡ d.first) × (w.last ≡ d.last)
unfolding drawsegs_from drawseg_of
drawseg_at v scene walls k [] i d h = absurd (cc)
drawseg_at v scene walls k (w ∷ ws) zero d h =
    (w, refl, ap (λ (o : Drawseg). o.first) (same_Some (drawseg_of v scene walls k w) d h), ap (λ (o : Drawseg). o.last) (same_Some (drawseg_of v scene walls k w) d h))
drawseg_at v scene walls k (w ∷ ws) (suc i) d h = drawseg_at v scene walls (k + 1) ws i d h

-- a vissprite's number is its place
number_if : (k : ℕ) (f e : SpriteEntry) (misses : Bool) → cond misses None (Some f) ≡ Some e → f.number ≡ k → e.number ≡ k
number_if k f e true h is = absurd (cc)
number_if k f e false h is = ap (λ (o : SpriteEntry). o.number) (sym (same_Some f e h)) ∙ is

entry_number : (v : ViewValue) (k : ℕ) (placed : Placed) (seen : Seen) (shape : Shape5) (e : SpriteEntry) → entry_for v k placed seen shape ≡ Some e → e.number ≡ k
unfolding entry_for entry_within entry_of
entry_number v k placed seen shape e h = number_if k (entry_of v k placed seen shape (picture_first v seen shape) (picture_last v seen shape)) e _ h refl

-- the list of events
module _ (v : ViewValue) (scene : Scene) (events : List Event) where
  fragment_at : (k : ℕ) (w : Wall) → slice_get (walls_of v scene events) k ≡ Some w → IsFragmentAt (event_list v scene events) k w.first w.last
  unfolding event_list walls_of
  fragment_at k w h = let wall_found = wall_at v scene (drawsegs events) k w h in
      record { fragment = wall_found.0; is = wall_found.1; first_is = wall_found.2; last_is = wall_found.3 }

  note_at : (k : ℕ) (d : Drawseg) → slice_get (view_drawsegs v scene (walls_of v scene events)) k ≡ Some d → IsFragmentAt (event_list v scene events) k d.first d.last
  unfolding view_drawsegs
  note_at k d h =
      let drawseg_found = drawseg_at v scene (walls_of v scene events) 0 (walls_of v scene events) k d h in
      let fragment_is = fragment_at k drawseg_found.0 drawseg_found.1 in record {
        fragment = fragment_is.fragment;
        is = fragment_is.is;
        first_is = fragment_is.first_is ∙ drawseg_found.2;
        last_is = fragment_is.last_is ∙ drawseg_found.3;
      }

  plane_at : (n : ℕ) (p : Plane) → slice_get (event_planes v scene events) n ≡ Some p → IsPlaneAt (event_list v scene events) n p
  unfolding event_list listed_plane
  plane_at n p h =
      let makers_counted = plane_makers-count v scene events in
      let pair_found = get_zip (event_planes v scene events) (plane_makers v scene events) n p (omega (arith, makers_counted)) h in
      record {
        plane = listed_plane p pair_found.0;
        is = slice_get-map (λ both. listed_plane both.0 both.1) (zip (event_planes v scene events) (plane_makers v scene events)) n ∙ ap (option_map (λ both. listed_plane both.0 both.1)) pair_found.2;
        key_is = refl;
      }

  sprite_of : (k : ℕ) (e : SpriteEntry) → slice_get (view_entries v scene events) k ≡ Some e → IsSpriteOf (event_list v scene events) e
  unfolding event_list listed_sprite
  sprite_of k e h =
      let entries_are_shown = entries-of_shown v scene events in
      let count = entries_are_shown.count in
      let pair_found = get_zip (view_entries v scene events) (shown_things v scene events) k e (omega (arith, count)) h in
      let its_thing = entries_are_shown.each k e pair_found.0 h pair_found.1 in
      let number = entry_number v k _ its_thing.seen its_thing.shape e its_thing.is_made in
      record {
        sprite = listed_sprite e pair_found.0;
        is = ap (slice_get (event_list v scene events).sprites) number ∙ slice_get-map (λ both. listed_sprite both.0 both.1) (zip (view_entries v scene events) (shown_things v scene events)) k ∙ ap (option_map (λ both. listed_sprite both.0 both.1)) pair_found.2;
        first_is = refl;
        last_is = refl;
        lump_is = refl;
      }

  paints_all : AllByRecursion (IsNamed (event_list v scene events)) (paints_of v scene events)
  unfolding paints_of paints_by event_planes view_steps
  paints_all =
      let list = event_list v scene events in let walls = walls_of v scene events in
      all_append (IsNamed list) (walls_dots v scene walls) (planes_dots v scene (event_planes v scene events) ++ masked_dots v scene.art (view_drawsegs v scene walls) (draw_order (view_entries v scene events)))
      (walls_all list v scene walls fragment_at)
      (all_append (IsNamed list) (planes_dots v scene (event_planes v scene events)) (masked_dots v scene.art (view_drawsegs v scene walls) (draw_order (view_entries v scene events)))
      (planes_all list v scene (event_planes v scene events) plane_at)
      (masked_all list v scene.art (view_drawsegs v scene walls) note_at (draw_order (view_entries v scene events))
      (all_ordered (IsSpriteOf list) (view_entries v scene events) (all_places (IsSpriteOf list) (view_entries v scene events) sprite_of))))

named_paints : (v : ViewValue) (scene : Scene) → All (IsNamed (view_list v scene)) (view_paints v scene)
unfolding view_list view_paints
named_paints v scene = All-from_recursion (IsNamed (view_list v scene)) (view_paints v scene) (paints_all v scene (view_events v scene.level))

-- Each dot of a view's paints is of an item of its list.
pub listed-paints : (v : ViewValue) (scene : Scene) → All (IsListed (view_list v scene)) (view_paints v scene)
listed-paints v scene = All-weaker (IsNamed (view_list v scene)) (IsListed (view_list v scene)) (λ d h. h.listed) (view_paints v scene) (named_paints v scene)

-- And none is of another kind, of which the list would say nothing.
pub listed-kinds : (v : ViewValue) (scene : Scene) → All IsOfListedKind (view_paints v scene)
listed-kinds v scene = All-weaker (IsNamed (view_list v scene)) IsOfListedKind (λ d h. h.kind) (view_paints v scene) (named_paints v scene)
