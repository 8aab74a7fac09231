use Rattle.art_rules.proofs.Common.{ap, arith, IfOk-weaker, list_any, option_copied, ◌++◌, ◌==◌, ◌||◌, ◌∙◌}
use Rattle.art_rules.specs.Words.{book_lumps}
use Rattle.wad_trim.specs.Plans.{layer_lumps}
use Rattle.wad_trim.proofs.ListLemmas.{either-picture, pictures-marked}
use Rattle.wad_trim.proofs.parts.picture_lumps.Goals as goal

pub returns : goal.returns
returns c =
    let lumps = c.args.dir.now.lumps in
    let sprite_lumps = book_lumps c.args.sprites.now in
    let layers = layer_lumps (option_copied c.args.weapons) in
    let count = c.in_ok-marks.ensures.count ∙ c.count.ensures.count in
    IfOk-weaker c.lumps.result _ _
    (λ found e. e ∙ pictures-marked lumps (sprite_lumps ++ layers) c.mark_layers.new.marks (c.mark_layers.ensures.count ∙ c.mark_pictures.ensures.count ∙ count)
    (λ k l. c.mark_layers.ensures.marked k (omega (arith, l, c.mark_pictures.ensures.count, count))
    ∙ ap (λ b. b || list_any (λ m. m == k) layers) (c.mark_pictures.ensures.marked k (omega (arith, l, count)) ∙ ap (λ b. b || list_any (λ m. m == k) sprite_lumps) (c.in_ok-marks.ensures.none k))
    ∙ either-picture sprite_lumps layers k))
    c.lumps.ensures
