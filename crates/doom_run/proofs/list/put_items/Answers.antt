use Rattle.std.proofs.Common.{List, ◌++◌, ◌∙◌, ap, append_assoc, refl}
use Rattle.art_rules.proofs.Laws.{writes_stop, writes_stopped, writes_then}
use Rattle.doom_run.specs.Rules.{ListedFragment, ListedPlane, ListedSprite}
use Rattle.doom_run.specs.Lists.{fragment_line, lines_from, plane_line, sprite_line, sums_line}
use Rattle.doom_run.proofs.{LimitLemmas.same_bytes, ListLemmas.items_are}
use Rattle.doom_run.proofs.list.put_items.Goals as goal

pub returns-in_err-put_each : goal.returns-in_err-put_each
returns-in_err-put_each g c =
    let view = c.args.view in
    let list = c.args.list.now in
    let lines_after = lines_from (plane_line view) 0 list.planes ++ (lines_from (sprite_line view) 0 list.sprites ++ sums_line view c.args.counts.now list) in
    let fragments_written = same_bytes (ap (λ (xs : List ListedFragment). lines_from (fragment_line view) 0 xs) c.fragments.ensures) c.put_each.ensures in
    writes_stop c.from_residual.result lines_after _ fragments_written _ c.in_err-put_each.was c.from_residual.ensures.0 (items_are view c.args.counts.now list)

pub returns-in_err-put_each-2 : goal.returns-in_err-put_each-2
returns-in_err-put_each-2 g c =
    let view = c.args.view in
    let list = c.args.list.now in
    let lines_after = lines_from (sprite_line view) 0 list.sprites ++ sums_line view c.args.counts.now list in
    let fragments_written = same_bytes (ap (λ (xs : List ListedFragment). lines_from (fragment_line view) 0 xs) c.fragments.ensures) c.put_each.ensures in
    let planes_written = same_bytes (ap (λ (xs : List ListedPlane). lines_from (plane_line view) 0 xs) c.planes.ensures) c.put_each-2.ensures in
    writes_stopped c.from_residual-in_err-put_each-2.result lines_after _ fragments_written _ c.in_ok-put_each.was planes_written _ c.in_err-put_each-2.was c.from_residual-in_err-put_each-2.ensures.0
    (items_are view c.args.counts.now list)

pub returns-in_err-put_each-3 : goal.returns-in_err-put_each-3
returns-in_err-put_each-3 g c =
    let view = c.args.view in
    let list = c.args.list.now in
    let fragments = lines_from (fragment_line view) 0 list.fragments in
    let planes = lines_from (plane_line view) 0 list.planes in
    let sprites = lines_from (sprite_line view) 0 list.sprites in
    let sums = sums_line view c.args.counts.now list in
    let fragments_written = same_bytes (ap (λ (xs : List ListedFragment). lines_from (fragment_line view) 0 xs) c.fragments.ensures) c.put_each.ensures in
    let planes_written = same_bytes (ap (λ (xs : List ListedPlane). lines_from (plane_line view) 0 xs) c.planes.ensures) c.put_each-2.ensures in
    let sprites_written = same_bytes (ap (λ (xs : List ListedSprite). lines_from (sprite_line view) 0 xs) c.sprites.ensures) c.put_each-3.ensures in
    writes_stopped c.from_residual-in_err-put_each-3.result sums _ (writes_then (fragments ++ planes) fragments_written _ c.in_ok-put_each.was planes_written refl) _ c.in_ok-put_each-2.was sprites_written _
    c.in_err-put_each-3.was c.from_residual-in_err-put_each-3.ensures.0 (append_assoc fragments planes (sprites ++ sums) ∙ items_are view c.args.counts.now list)

pub returns : goal.returns
returns g c =
    let view = c.args.view in
    let list = c.args.list.now in
    let sums = sums_line view c.args.counts.now list in
    let sprites = lines_from (sprite_line view) 0 list.sprites ++ sums in
    let planes = lines_from (plane_line view) 0 list.planes ++ sprites in
    let fragments_written = same_bytes (ap (λ (xs : List ListedFragment). lines_from (fragment_line view) 0 xs) c.fragments.ensures) c.put_each.ensures in
    let planes_written = same_bytes (ap (λ (xs : List ListedPlane). lines_from (plane_line view) 0 xs) c.planes.ensures) c.put_each-2.ensures in
    let sprites_written = same_bytes (ap (λ (xs : List ListedSprite). lines_from (sprite_line view) 0 xs) c.sprites.ensures) c.put_each-3.ensures in
    writes_then _ fragments_written _ c.in_ok-put_each.was
    (writes_then planes planes_written _ c.in_ok-put_each-2.was (writes_then sprites sprites_written _ c.in_ok-put_each-3.was c.put_sums.ensures refl) refl)
    (items_are view c.args.counts.now list)
