use Rattle.art_rules.proofs.Common.{[], ap, Bool, Global, List, map-append, sym, ◌++◌, ◌∙◌, ◌∷◌, Vec}
use Rattle.art_rules.specs.Words.{LumpNo}
use Rattle.texture_build.specs.Views.{is_marked}
use Rattle.texture_build.proofs.MarkLemmas.{passed_on, passed_off}
use Rattle.sound_scene.specs.Views.{lump_numbers}
use Rattle.sound_scene.proofs.marks.Marks.lumps.Goals as goal
use Rattle.sound_scene.proofs.marks.Marks.lumps.Goals.{then-marked+in_ok-push, else-marked}

pub loop-number-preserved : goal.loop-number-preserved
loop-number-preserved c =
    let lump_number = c.loop-number.number in
    let is_marked_lump = is_marked c.args.self.now in
    let marked_items_are = c.deref-marked-items.ensures.value ∙ c.self.view_is in
    elim c.if-marked.branch [
      | then-marked+in_ok-push w ↦
          ap (λ (v : Vec LumpNo Global). lump_numbers v.items) w.lumps-is
          ∙ ap lump_numbers w.in_ok-push.ensures.items
          ∙ map-append (λ (lump : LumpNo). lump.0) c.loop-number.lumps.items (record { 0 = lump_number } ∷ [])
          ∙ ap (λ xs. xs ++ lump_number ∷ []) c.loop-number.invariant
          ∙ sym (passed_on is_marked_lump lump_number (ap (λ (m : List Bool). is_marked m lump_number) (sym marked_items_are) ∙ w.if-marked.true))
      | else-marked w ↦
          ap (λ (v : Vec LumpNo Global). lump_numbers v.items) w.lumps-is
          ∙ c.loop-number.invariant
          ∙ sym (passed_off is_marked_lump lump_number (ap (λ (m : List Bool). is_marked m lump_number) (sym marked_items_are) ∙ w.if-marked.false))
    ]
