use Rattle.art_rules.proofs.Common.{All, ap, is_some, IsSome, length, length-map, Ok, refl, subst, sym, ℕ, ◌<◌, ◌∙◌}
use Rattle.lump_cache.proofs.CallLemmas.{reads_more, reads_nothing, reads_same, reads_short, reads_stop_first}
use Rattle.art_rules.specs.Words.{last_of, OutOfMemory, prepared_textures}
use Rattle.texture_lists.specs.declared.number.TexNo.{TexNo}
use Rattle.texture_build.specs.Views.{is_marked, is_wanted, prepared_at}
use Rattle.texture_build.proofs.PrepareLemmas.{tells_wanted, wanted_prepared}
use Rattle.texture_build.proofs.prepare.prepare_wanted.Goals as goal

-- the preparing stops the call
pub returns-in_err-textures-clause-tells : goal.returns-in_err-textures-clause-tells
returns-in_err-textures-clause-tells g c =
    let lists = c.args.lists.now in
    let wanted = c.args.wanted.now in
    reads_stop_first (λ bytes. prepared_textures (last_of c.args.dir.now.lumps) bytes lists (is_wanted wanted)) c.prepare_marked.result _ c.from_residual-in_err-textures.result
    (tells_wanted lists (is_marked c.deref.result.now) (is_wanted wanted) c.prepare_marked.result
    (λ number. ap (λ marks. is_marked marks number) c.deref.ensures.value ∙ c.in_ok-marks.ensures.marked number) c.prepare_marked.ensures.tells)
    c.in_err-textures.was c.from_residual-in_err-textures.ensures.1 (λ lump w. w) (λ bytes refusal is. is)

-- memory ran out after it
pub returns-in_err-new-clause-tells : goal.returns-in_err-new-clause-tells
returns-in_err-new-clause-tells g c =
    let lists = c.args.lists.now in
    let wanted = c.args.wanted.now in
    reads_same c.from_residual-in_err-new.result OutOfMemory (λ bytes. prepared_textures (last_of c.args.dir.now.lumps) bytes lists (is_wanted wanted)) c.from_residual-in_err-new.ensures.1
    (reads_short OutOfMemory refl (λ lump w. w)
    (tells_wanted lists (is_marked c.deref.result.now) (is_wanted wanted) (Ok c.in_ok-textures.textures)
    (λ number. ap (λ marks. is_marked marks number) c.deref.ensures.value ∙ c.in_ok-marks.ensures.marked number) c.in_ok-textures.ensures.tells))

pub returns-clause-tells : goal.returns-clause-tells
returns-clause-tells g c =
    let lists = c.args.lists.now in
    let wanted = c.args.wanted.now in
    reads_more (λ bytes. prepared_textures (last_of c.args.dir.now.lumps) bytes lists (is_wanted wanted)) c.in_ok-textures.textures _
    (reads_nothing (g.S.Shelf.view c.args.shelf.now) c.args.dir.now c.args.cache.now _) c.prepare_marked.result
    (tells_wanted lists (is_marked c.deref.result.now) (is_wanted wanted) c.prepare_marked.result
    (λ number. ap (λ marks. is_marked marks number) c.deref.ensures.value ∙ c.in_ok-marks.ensures.marked number) c.prepare_marked.ensures.tells)
    c.in_ok-textures.was (λ lump w. w) (λ bytes one two. two ∙ ap Ok (sym c.in_ok-new.ensures))

pub returns-clause-wanted : goal.returns-clause-wanted
returns-clause-wanted g c =
    let wanted = c.args.wanted.now in
    subst (λ textures. All (λ (tex : TexNo). IsSome (prepared_at textures tex.0)) wanted) (sym c.in_ok-new.ensures)
    (wanted_prepared c.in_ok-textures.textures.items c.in_ok-marks.marks.items wanted c.count.result c.in_ok-marks.ensures.count
    (subst (λ (n : ℕ). All (λ (tex : TexNo). tex.0 < n) wanted) (sym c.count.ensures.value) c.requires.below)
    (c.in_ok-textures.ensures.marks ∙ c.deref.ensures.value) c.in_ok-marks.ensures.marked)

pub returns-clause-count : goal.returns-clause-count
returns-clause-count g c =
    ap length c.in_ok-new.ensures ∙ sym (length-map c.in_ok-textures.textures.items is_some)
    ∙ ap length (c.in_ok-textures.ensures.marks ∙ c.deref.ensures.value) ∙ c.in_ok-marks.ensures.count ∙ c.count.ensures.value
