use Rattle.std.proofs.Common.{◌≡◌, Ok, ap, sym, take, ◌∙◌}
use Rattle.texture_build.proofs.CallLemmas.{reads_told}
use Rattle.texture_build.proofs.SizeLemmas.{beside_earlier, beside_lent}
use Rattle.level_audit.specs.Rules.{PALETTE_SIZE, lump_bytes}
use Rattle.level_audit.proofs.ColourLemmas.{live_long}
use Rattle.level_audit.proofs.colours.read_palette.Goals as goal

pub returns-clause-tells : goal.returns-clause-tells
returns-clause-tells g c =
    let lumps = c.args.dir.now.lumps in
    let number = c.args.playpal.0 in
    let lent = c.live_lump.result.now in
    reads_told tt c.in_ok-first_palette.field-0 c.in_ok-fetch_live.ensures.tells (λ lump same. same)
    (λ contents hold.
    let live_bytes_are = c.in_ok-fetch_live.ensures.bytes contents hold in
    let value = c.live_lump.ensures.value in let lent_is_lump : lent ≡ lump_bytes contents lumps number = cc in
    let first_palette_is = c.in_ok-first_palette.ensures.first
    (live_long contents lumps number PALETTE_SIZE lent c.requires.there hold.within lent_is_lump c.requires.long) in
    ap Ok (sym (first_palette_is ∙ ap (take PALETTE_SIZE) lent_is_lump)))

pub returns-clause-fits : goal.returns-clause-fits
returns-clause-fits g c =
    beside_earlier c.args.playpal.0 c.in_ok-fetch_live.ensures.tells.keeps
    (beside_lent c.args.dir.now.lumps c.fetch_live.new.cache c.args.playpal.0 c.live_lump.result.now c.requires.there c.live_lump.ensures.value c.live_lump.ensures.fits)
