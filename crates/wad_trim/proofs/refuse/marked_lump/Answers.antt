use Rattle.art_rules.proofs.Common.{[], ap, arith, Option, option_map, sym, take, ℕ, ◌∙◌, ◌∷◌}
use Rattle.wad_trim.specs.{Rules.LumpNo, Rules.TrimPart, Rules.marked_lump, Lessers.lesser}
use Rattle.wad_trim.proofs.MarkedLemmas.{marked-more, marked-none}
use Rattle.wad_trim.proofs.refuse.marked_lump.Goals as goal

pub loop-part-init : goal.loop-part-init
loop-part-init c = sym (marked-none c.args.dir.now.lumps)

pub loop-part-preserved : goal.loop-part-preserved
loop-part-preserved c =
    let lumps = c.args.dir.now.lumps in
    let all_parts = c.args.parts.now in
    let part_no = c.loop-part.part-index in
    c.lesser-least.ensures
    ∙ ap (λ (o : Option ℕ). lesser o (option_map (λ (l : LumpNo). l.0) c.marked_part.result)) c.loop-part.invariant
    ∙ ap (lesser (marked_lump lumps (take part_no all_parts))) (c.marked_part.ensures ∙ ap (λ (p : TrimPart). marked_lump lumps (p ∷ [])) c.part-item.is)
    ∙ sym (marked-more lumps all_parts part_no c.part-item.result (omega arith))
