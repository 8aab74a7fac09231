use Rattle.std.proofs.Common.{refl}
use Rattle.level_scene.specs.Rules.{Refused, level_in}
use Rattle.lump_cache.proofs.CallLemmas.{reads_as, reads_refused, reads_stop_first}
use Rattle.level_scene.proofs.LevelLemmas.{level_in-none, level_in-stop, level_in-more, of_map}
use Rattle.level_scene.proofs.level.read_level.Goals as goal

pub returns-in-Err-clause-tells : goal.returns-in-Err-clause-tells
returns-in-Err-clause-tells g c =
    let refusal = c.in-Err.refusal in
    reads_refused (g.S.Shelf.view c.args.shelf.now) c.args.dir.now c.args.cache.now (Refused refusal) refusal refl (λ contents held. level_in-none _ c.args.dir.now.lumps c.args.name.now refusal c.in-Err.ensures.label)

pub returns-in_err-level-clause-tells : goal.returns-in_err-level-clause-tells
returns-in_err-level-clause-tells g c =
    let lumps = c.args.dir.now.lumps in
    let name = c.args.name.now in
    let label = c.in-Ok.label.0 in
    reads_stop_first (λ bytes. level_in bytes lumps name) c.level_behind.result c.in_err-level.field-0.0 c.from_residual.result c.level_behind.ensures.tells c.in_err-level.was c.from_residual.ensures.1
    (λ lump. of_map lumps name label lump c.in-Ok.ensures.label) (λ bytes. level_in-stop bytes lumps name label c.in-Ok.ensures.label)

pub returns-clause-tells : goal.returns-clause-tells
returns-clause-tells g c =
    let lumps = c.args.dir.now.lumps in
    let name = c.args.name.now in
    let label = c.in-Ok.label.0 in
    reads_as c.in_ok-level.level (c.in-Ok.label, c.in_ok-level.level) c.in_ok-level.ensures.tells
    (λ lump. of_map lumps name label lump c.in-Ok.ensures.label) (λ bytes. level_in-more bytes lumps name label c.in-Ok.ensures.label c.in_ok-level.level)
