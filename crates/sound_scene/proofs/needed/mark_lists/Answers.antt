use Rattle.art_rules.proofs.Common.{arith, List, subst, ℕ, ◌||◌, ◌∙◌}
use Rattle.sound_scene.specs.Rules.{PNAMES, TEXTURE1, TEXTURE2, is_last, is_list}
use Rattle.texture_build.proofs.JudgeLemmas.{pnames_name, texture1_name, texture2_name}
use Rattle.sound_scene.specs.Views.{AddsMarks}
use Rattle.sound_scene.proofs.MarkLemmas.{adds_then}
use Rattle.sound_scene.proofs.needed.mark_lists.Goals as goal

pub returns-clause-marked : goal.returns-clause-marked
unfolding is_list
returns-clause-marked c =
    let lumps = c.args.dir.now.lumps in
    let marks_before = c.args.marks.now in
    let with_pnames = c.mark_last.new.marks in
    let with_texture1 = c.mark_last-2.new.marks in
    let with_lists = c.mark_last-3.new.marks in
    adds_then marks_before with_texture1 with_lists (λ n. is_last lumps PNAMES n || is_last lumps TEXTURE1 n) (is_last lumps TEXTURE2) (omega (arith, c.mark_last.ensures.count, c.mark_last-2.ensures.count))
    (adds_then marks_before with_pnames with_texture1 (is_last lumps PNAMES) (is_last lumps TEXTURE1) c.mark_last.ensures.count
    (subst (λ (name : List ℕ). AddsMarks marks_before with_pnames (is_last lumps name)) (c.from_bytes.ensures ∙ pnames_name) c.mark_last.ensures.marked)
    (subst (λ (name : List ℕ). AddsMarks with_pnames with_texture1 (is_last lumps name)) (c.from_bytes-2.ensures ∙ texture1_name) c.mark_last-2.ensures.marked))
    (subst (λ (name : List ℕ). AddsMarks with_texture1 with_lists (is_last lumps name)) (c.from_bytes-3.ensures ∙ texture2_name) c.mark_last-3.ensures.marked)
