use Rattle.std.proofs.Common.{◌≤◌, ◌+◌, ℕ, ◌++◌, length, ap, refl, arith}
use Rattle.art_rules.proofs.Laws.{writes_stop, writes_stopped, writes_then}
use Rattle.wad_trim.specs.Rules.{HEADER_SIZE, MAX_FILE_BYTES, parts_size, word_bytes}
use Rattle.wad_trim.proofs.FileLemmas.{fits-size}
use Rattle.wad_trim.proofs.write.put_header.Goals as goal

pub returns-in_err-put : goal.returns-in_err-put
returns-in_err-put g c =
    writes_stop c.from_residual.result (word_bytes (length c.args.parts.now) ++ word_bytes (HEADER_SIZE + parts_size c.args.dir.now.lumps c.args.parts.now)) _
    c.put.ensures _ c.in_err-put.was c.from_residual.ensures.0 refl

pub returns-in_err-put_word : goal.returns-in_err-put_word
returns-in_err-put_word g c =
    writes_stopped c.from_residual-in_err-put_word.result (word_bytes (HEADER_SIZE + parts_size c.args.dir.now.lumps c.args.parts.now)) _
    c.put.ensures _ c.in_ok-put.was c.put_word.ensures _ c.in_err-put_word.was c.from_residual-in_err-put_word.ensures.0 refl

pub overflow_cast-parts_size : goal.overflow_cast-parts_size
overflow_cast-parts_size g c =
    let file_fits : HEADER_SIZE + parts_size c.args.dir.now.lumps c.args.parts.now ≤ MAX_FILE_BYTES = fits-size c.args.dir.now.lumps c.args.parts.now c.requires.fits in
    omega (arith, file_fits, c.parts_size.ensures.value)

pub overflow_add-parts_size : goal.overflow_add-parts_size
overflow_add-parts_size g c =
    let file_fits : HEADER_SIZE + parts_size c.args.dir.now.lumps c.args.parts.now ≤ MAX_FILE_BYTES = fits-size c.args.dir.now.lumps c.args.parts.now c.requires.fits in
    omega (arith, file_fits, c.parts_size.ensures.value)

pub returns : goal.returns
returns g c =
    let count = word_bytes (length c.args.parts.now) in
    writes_then _ c.put.ensures _ c.in_ok-put.was
    (writes_then (count ++ word_bytes (HEADER_SIZE + parts_size c.args.dir.now.lumps c.args.parts.now)) c.put_word.ensures _ c.in_ok-put_word.was c.put_word-2.ensures
    (ap (λ (n : ℕ). count ++ word_bytes (HEADER_SIZE + n)) c.parts_size.ensures.value)) refl
