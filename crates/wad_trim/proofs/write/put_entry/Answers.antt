use Rattle.std.proofs.Common.{List, ℕ, ◌++◌, ap, refl}
use Rattle.art_rules.proofs.Laws.{writes_stop, writes_stopped, writes_then}
use Rattle.made_rules.specs.Bytes.{word_bytes}
use Rattle.wad_trim.proofs.write.put_entry.Goals as goal

pub returns-in_err-put_word : goal.returns-in_err-put_word
returns-in_err-put_word g c =
    writes_stop c.from_residual.result (word_bytes c.args.size ++ c.args.name.now) _ c.put_word.ensures _ c.in_err-put_word.was c.from_residual.ensures.0 refl

pub returns-in_err-put_word-2 : goal.returns-in_err-put_word-2
returns-in_err-put_word-2 g c =
    writes_stopped c.from_residual-in_err-put_word-2.result c.args.name.now _ c.put_word.ensures _ c.in_ok-put_word.was c.put_word-2.ensures _ c.in_err-put_word-2.was c.from_residual-in_err-put_word-2.ensures.0 refl

pub returns : goal.returns
returns g c =
    writes_then _ c.put_word.ensures _ c.in_ok-put_word.was
    (writes_then (word_bytes c.args.size ++ c.args.name.now) c.put_word-2.ensures _ c.in_ok-put_word-2.was c.put.ensures (ap (λ (v : List ℕ). word_bytes c.args.size ++ v) c.bytes.ensures)) refl
