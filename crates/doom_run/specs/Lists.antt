-- The job `list`: for each view of a path a line an item, and a line of sums; a view that is over a limit has its line alone.
use Rattle.std.specs.Prelude.{ℕ, ◌+◌, ◌++◌, List, [], ◌∷◌, codes}
use Rattle.doom_run.specs.Rules.{Counts, Flat4, Fragment, Leaf, ListedFragment, ListedPlane, ListedSprite, PlaneMaker, Scene, ViewListValue, view_counts, view_list}
use Rattle.refusals.specs.Lines.{labelled, labelled_signed}
use Rattle.picture_rules.specs.declared.plane.Flat4.TheVariants.{Sky, Lump}
use Rattle.doom_run.specs.{Layers.SeenView, Views.ViewsValue, Views.view_lines}

-- a line of item number k of a view begins so
abbrev pub item_start : List ℕ → ℕ → ℕ → List ℕ
item_start label view k = labelled (codes "view ") view ++ labelled label k

abbrev pub fragment_line : ℕ → ℕ → ListedFragment → List ℕ
fragment_line view k f =
    item_start (codes " fragment ") view k
    ++ (labelled (codes " seg ") f.seg ++ (labelled (codes " first ") f.first ++ (labelled (codes " last ") f.last ++ codes "\n")))

-- the flat of a plane: a lump's number, or the sky
abbrev pub flat_part : Flat4 → List ℕ
flat_part Sky = codes " flat sky"
flat_part (Lump n) = labelled (codes " flat ") n

-- what made a plane
abbrev pub maker_part : PlaneMaker → List ℕ
maker_part (Leaf n) = labelled (codes " leaf ") n
maker_part (Fragment n) = labelled (codes " fragment ") n

abbrev pub plane_line : ℕ → ℕ → ListedPlane → List ℕ
plane_line view k p =
    item_start (codes " plane ") view k
    ++ (labelled_signed (codes " height ") p.key.height
    ++ (flat_part p.key.flat
    ++ (labelled_signed (codes " light ") p.key.light
    ++ (maker_part p.maker ++ (labelled (codes " columns ") p.columns ++ codes "\n")))))

abbrev pub sprite_line : ℕ → ℕ → ListedSprite → List ℕ
sprite_line view k s =
    item_start (codes " sprite ") view k
    ++ (labelled (codes " thing ") s.thing
    ++ (labelled (codes " lump ") s.lump ++ (labelled (codes " first ") s.first ++ (labelled (codes " last ") s.last ++ codes "\n"))))

-- the sums: what is kept, and of fragments and vissprites all that there are
abbrev pub sums_line : ℕ → Counts → ViewListValue → List ℕ
sums_line view counts list =
    labelled (codes "view ") view
    ++ (labelled (codes " fragments ") counts.fragments
    ++ (labelled (codes " of ") list.all_fragments
    ++ (labelled (codes " planes ") counts.planes
    ++ (labelled (codes " openings ") counts.openings
    ++ (labelled (codes " sprites ") counts.sprites
    ++ (labelled (codes " of ") list.all_sprites ++ codes "\n"))))))

-- the lines of items, from number k on
unfoldable pub lines_from : {A : Type 0} → (ℕ → A → List ℕ) → ℕ → List A → List ℕ
lines_from line k [] = []
lines_from line k (x ∷ xs) = line k x ++ lines_from line (k + 1) xs

-- the lines of all items of a view, each kind in the order of its numbers, and that of the sums
unfoldable pub items_lines : ℕ → Counts → ViewListValue → List ℕ
items_lines view counts list =
    lines_from (fragment_line view) 0 list.fragments
    ++ (lines_from (plane_line view) 0 list.planes
    ++ (lines_from (sprite_line view) 0 list.sprites ++ sums_line view counts list))

abbrev pub list_lines : Scene → ℕ → SeenView → List ℕ
list_lines scene view s = items_lines view (view_counts s.view scene) (view_list s.view scene)

abbrev pub listed_bytes : ViewsValue → List ℕ
listed_bytes r = view_lines list_lines r
