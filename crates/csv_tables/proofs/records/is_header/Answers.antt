use Rattle.view_rules.proofs.Common.{Bor, ◌≡◌, ◌+◌, ◌&&◌, ℕ, List, [], map, length, drop, sym, ap, ◌∙◌, length-map, get_or-map}
use Rattle.csv.specs.Records.{fields_of}
use Rattle.csv_tables.specs.Records.{is_header}
use Rattle.csv_tables.proofs.RecordLemmas.{is_header-length, is_header-at, is_header-done}
use Rattle.csv_tables.proofs.records.is_header.Goals as goal

pub returns-then-len-names : goal.returns-then-len-names
returns-then-len-names c =
    let name_count : length (map (λ (n : Bor (List ℕ)). n.now) c.args.names.now) ≡ length c.args.names.now = length-map c.args.names.now (λ n. n.now) in
    sym (is_header-length (map (λ (n : Bor (List ℕ)). n.now) c.args.names.now) (fields_of c.args.fields.now) (rw name_count (λ e. c.if-len-names.true (c.len.ensures ∙ e))))

pub returns-then-not-has_field : goal.returns-then-not-has_field
returns-then-not-has_field c =
    let step = is_header-at c.args.names.now (fields_of c.args.fields.now) c.loop-i.i _ _ c.loop-i-test.true (sym c.len.ensures ∙ c.if-len-names.false) c.has_field.ensures (get_or-map (λ (n : Bor (List ℕ)). n.now) c.args.names.now c.loop-i.i _ [] c.loop-i-test.true) in
    sym (sym c.loop-i.invariant ∙ step ∙ ap (λ r. r && is_header (drop (c.loop-i.i + 1) (map (λ (n : Bor (List ℕ)). n.now) c.args.names.now)) (drop (c.loop-i.i + 1) (fields_of c.args.fields.now))) c.if-not-has_field.true)

pub loop-i-preserved : goal.loop-i-preserved
loop-i-preserved c =
    let step = is_header-at c.args.names.now (fields_of c.args.fields.now) c.loop-i.i _ _ c.loop-i-test.true (sym c.len.ensures ∙ c.if-len-names.false) c.has_field.ensures (get_or-map (λ (n : Bor (List ℕ)). n.now) c.args.names.now c.loop-i.i _ [] c.loop-i-test.true) in
    sym (step ∙ ap (λ r. r && is_header (drop (c.loop-i.i + 1) (map (λ (n : Bor (List ℕ)). n.now) c.args.names.now)) (drop (c.loop-i.i + 1) (fields_of c.args.fields.now))) c.if-not-has_field.false) ∙ c.loop-i.invariant

pub returns : goal.returns
returns c = sym (sym c.loop-i.invariant ∙ is_header-done c.args.names.now (fields_of c.args.fields.now) c.loop-i.i c.loop-i-test.false (sym c.len.ensures ∙ c.if-len-names.false))
