use Rattle.view_rules.proofs.Common.{Bor, List, ℕ, ◌≡◌, ◌∙◌, sym, refl, rules, arith, inl, inr, true, map, length, Some, ◌∷◌, [], is_ok, map-append, length-map, length-append}
use Rattle.csv.specs.{Reading.Reached, Reading.default_config, Reading.strip_bom, Records.fields_of}
use Rattle.csv.specs.declared.parser.State.TheVariants as st
use Rattle.csv.proofs.ReadFacts.{rows-end, rows-more}
use Rattle.csv_tables.proofs.RecordLemmas.{any-length, first_records-full, first_records-end, true-false}
use Rattle.csv_tables.proofs.records.first_records.Goals as goal

pub loop-row-init : goal.loop-row-init
unfolding Reached
loop-row-init c =
    let reader_is = c.from_reader-rdr.ensures in
    let headers_set = c.has_headers.ensures in
    let flexible_set = c.flexible.ensures in
    let start = c.into_iter-row-iterator.ensures.into_iter_gives ∙ refl in
    let reader_same = c.into_byte_records-row-items.ensures.rdr in
    let bytes_left = c.into_byte_records-row-items.ensures.left in
    rw (start, reader_same, c.new-rows.ensures.items) (
      rw (flexible_set, headers_set) at reader_is.trim ∙ c.new.ensures.trim,
      inr (inr (rw (flexible_set, headers_set) at reader_is.has_headers, reader_is.headers)),
      bytes_left,
      rw (flexible_set, headers_set) at reader_is.config ∙ c.new.ensures.config,
      strip_bom c.args.bytes.now,
      reader_is.source,
      (sym reader_is.state, refl),
      omega arith,
      rw flexible_set at reader_is.flexible,
    )

pub loop-row-preserved : goal.loop-row-preserved
loop-row-preserved c =
    let so_far = c.loop-row.invariant in
    let next_record = rw (c.in-Some.is, c.in-Ok.is) at ((c.next.ensures.steps so_far.2 so_far.0).0 so_far.1) in
    let push_is_ok : is_ok c.push.result ≡ true = search rules in
    let items = rw push_is_ok at c.push.ensures.items in
    let rows_reached = rows-more (λ (s : Bor (List ℕ)). Some s.now) c.loop-row.row-iterator.rdr c.next.new.self.rdr (fields_of c.in-Ok.fields) default_config st.StartRecord (strip_bom c.args.bytes.now) so_far.4 (map fields_of c.loop-row.rows.items) so_far.3 so_far.5 so_far.6 next_record.0 in (
      next_record.0.3 ∙ so_far.0,
      inl next_record.1,
      next_record.2,
      next_record.0.2 ∙ so_far.3,
      rows_reached.0,
      rows_reached.1,
      rw (items, map-append fields_of c.loop-row.rows.items (c.in-Ok.fields ∷ [])) rows_reached.2,
      search (rules, length-append),
      (rw (c.in-Some.is, c.in-Ok.is) at (c.next.ensures.steps so_far.2 so_far.0).3) ∙ so_far.8,
    )

pub returns-then-len-limit : goal.returns-then-len-limit
returns-then-len-limit c =
    let so_far = c.loop-row.invariant in
    let rows_at_limit : length c.loop-row.rows.items ≡ c.args.limit = search rules in
    first_records-full c.args.limit c.args.bytes.now so_far.4 c.loop-row.row-iterator.rdr.state (map fields_of c.loop-row.rows.items) so_far.6 (length-map c.loop-row.rows.items fields_of ∙ rows_at_limit)

pub returns : goal.returns
returns c =
    let so_far = c.loop-row.invariant in let no_next_record = rw c.in-None.is at ((c.next.ensures.steps so_far.2 so_far.0).0 so_far.1) in
    let no_rows_left = rows-end (λ (s : Bor (List ℕ)). Some s.now) c.loop-row.row-iterator.rdr c.next.new.self.rdr [] default_config
    so_far.4 so_far.3 so_far.5 no_next_record in
    first_records-end c.args.limit c.args.bytes.now so_far.4 c.loop-row.row-iterator.rdr.state (map fields_of c.loop-row.rows.items) so_far.6 no_rows_left (rw (length-map c.loop-row.rows.items fields_of) so_far.7)

pub prove-unreachable-requires : goal.prove-unreachable-requires
prove-unreachable-requires c =
    let so_far = c.loop-row.invariant in
    let next_refused = rw (c.in-Some.is, c.in-Err.is) at ((c.next.ensures.steps so_far.2 so_far.0).0 so_far.1) in
    let not_length = any-length (λ (s : Bor (List ℕ)). Some s.now) c.loop-row.row-iterator.rdr c.next.new.self.rdr c.in-Err.error.kind so_far.8 next_refused in
    true-false (sym c.if-prove.true ∙ c.is_of_length-refused.ensures ∙ not_length)
