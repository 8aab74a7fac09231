use Rattle.art_rules.proofs.Common.{[], ap, false, get_or, Global, map, map-append, sym, ◌++◌, ◌∙◌, ◌∷◌, Vec}
use Rattle.art_rules.specs.Words.{LumpNo}
use Rattle.texture_build.proofs.MarkLemmas.{passed_on, passed_off}
use Rattle.texture_build.proofs.lumps.marked_lumps.Goals as goal
use Rattle.texture_build.proofs.lumps.marked_lumps.Goals.{then-marked+in_ok-push, else-marked}

pub loop-number-preserved : goal.loop-number-preserved
loop-number-preserved c =
    let lump_no = c.loop-number.number in
    elim c.if-marked.branch [
      | then-marked+in_ok-push w ↦
          ap (λ (v : Vec LumpNo Global). map (λ (lump : LumpNo). lump.0) v.items) w.lumps-is
          ∙ ap (map (λ (lump : LumpNo). lump.0)) w.in_ok-push.ensures.items
          ∙ map-append (λ (lump : LumpNo). lump.0) c.loop-number.lumps.items (record { 0 = lump_no } ∷ [])
          ∙ ap (λ xs. xs ++ lump_no ∷ []) c.loop-number.invariant
          ∙ sym (passed_on (λ n. get_or c.args.marks.now n false) lump_no w.if-marked.true)
      | else-marked w ↦
          ap (λ (v : Vec LumpNo Global). map (λ (lump : LumpNo). lump.0) v.items) w.lumps-is
          ∙ c.loop-number.invariant
          ∙ sym (passed_off (λ n. get_or c.args.marks.now n false) lump_no w.if-marked.false)
    ]
