use Rattle.art_rules.proofs.Laws.{prefix_written}
use Rattle.command_line.specs.Commands.{command_of}
use Rattle.doom_run.specs.Words.{texts}
use Rattle.doom_run.proofs.{FullLemmas.run_held, FullLemmas.run_room, alike.RunLemmas.trimmed-run}
use Rattle.doom_run.proofs.RunLemmas.{absent_at, complete_at, end_at, prefix_at_end, refusal_at, steady_reads, stopped_at}
use Rattle.doom_run.proofs.RunsLemmas.{runs_asked, runs_ends, runs_full, runs_least, runs_read_fault, runs_read_settled, runs_taken, runs_unread, runs_unwritten, runs_usage, runs_write_fault, runs_write_settled, runs_wrong, runs_zoned}
use Rattle.doom_run.proofs.top.run.Goals as goal

pub returns-clause-ends : goal.returns-clause-ends
returns-clause-ends g c files is held = end_at _ _ _ _ c.perform-status.result (runs_ends _ c.perform-status.ensures.runs files held) is

pub returns-clause-prefix : goal.returns-clause-prefix
returns-clause-prefix g c files accepted held is =
    let runs = c.perform-status.ensures.runs in
    prefix_at_end _ _ _ _ c.perform-status.result accepted (runs_ends _ runs files held) (runs_unwritten _ runs) is

pub returns-clause-unwritten : goal.returns-clause-unwritten
returns-clause-unwritten g c is = runs_unwritten _ c.perform-status.ensures.runs is

pub returns-clause-before : goal.returns-clause-before
returns-clause-before g c none is = runs_unread _ c.perform-status.ensures.runs none is

pub returns-clause-stopped : goal.returns-clause-stopped
returns-clause-stopped g c files stop held is =
    let runs = c.perform-status.ensures.runs in
    stopped_at _ _ _ _ c.perform-status.result stop (runs_ends _ runs files held) (runs_unwritten _ runs) is

pub returns-clause-usage : goal.returns-clause-usage
returns-clause-usage g c files is = runs_usage _ c.perform-status.ensures.runs files is

pub returns-clause-wrong_words : goal.returns-clause-wrong_words
returns-clause-wrong_words g c files is = runs_wrong _ c.perform-status.ensures.runs files is

pub returns-clause-refused : goal.returns-clause-refused
returns-clause-refused g c files refusal is held = rw is at (runs_ends _ c.perform-status.ensures.runs files held)

pub returns-clause-refusal : goal.returns-clause-refusal
returns-clause-refusal g c files refusal held is =
    refusal_at _ _ _ _ c.perform-status.result refusal (runs_ends _ c.perform-status.ensures.runs files held) is

pub returns-clause-read_fault : goal.returns-clause-read_fault
returns-clause-read_fault g c is = runs_read_fault _ c.perform-status.ensures.runs is

pub returns-clause-steady : goal.returns-clause-steady
returns-clause-steady g c files is held steady = (rw is at (runs_ends _ c.perform-status.ensures.runs files held)).0 steady

pub returns-clause-absent : goal.returns-clause-absent
returns-clause-absent g c files held is =
    let runs = c.perform-status.ensures.runs in
    absent_at _ _ _ _ c.perform-status.result (runs_ends _ runs files held) is
    (λ wanted widest full. run_held (command_of (texts c.args.words.now)) files wanted widest (runs_full _ runs files wanted widest full held) is)

pub returns-clause-write_fault : goal.returns-clause-write_fault
returns-clause-write_fault g c is = runs_write_fault _ c.perform-status.ensures.runs is

pub returns-clause-read_settled : goal.returns-clause-read_settled
returns-clause-read_settled g c other = runs_read_settled _ c.perform-status.ensures.runs other

pub returns-clause-write_settled : goal.returns-clause-write_settled
returns-clause-write_settled g c other = runs_write_settled _ c.perform-status.ensures.runs other

pub returns-clause-zone_full : goal.returns-clause-zone_full
returns-clause-zone_full g c files wanted widest is held = runs_full _ c.perform-status.ensures.runs files wanted widest is held

pub returns-clause-zoned : goal.returns-clause-zoned
returns-clause-zoned g c wanted widest is = runs_zoned _ c.perform-status.ensures.runs wanted widest is

pub returns-clause-least : goal.returns-clause-least
returns-clause-least g c files is held = runs_least _ c.perform-status.ensures.runs files is held

pub returns-clause-taken : goal.returns-clause-taken
returns-clause-taken g c files held calm = runs_taken _ c.perform-status.ensures.runs files held calm

pub returns-clause-asked : goal.returns-clause-asked
returns-clause-asked g c is = runs_asked _ c.perform-status.ensures.runs is

pub returns-clause-complete : goal.returns-clause-complete
returns-clause-complete g c files accepted held is room read write =
    let runs = c.perform-status.ensures.runs in
    complete_at _ _ _ _ c.perform-status.result accepted (runs_ends _ runs files held) is
    read write
    (λ wanted widest full. run_room (command_of (texts c.args.words.now)) files accepted wanted widest (runs_full _ runs files wanted widest full held) room is)

pub returns-clause-complete_steady : goal.returns-clause-complete_steady
returns-clause-complete_steady g c files accepted held is room steady write =
    let runs = c.perform-status.ensures.runs in
    complete_at _ _ _ _ c.perform-status.result accepted (runs_ends _ runs files held) is
    (steady_reads _ _ _ _ c.perform-status.result accepted (runs_ends _ runs files held) is (λ fault. steady (runs_asked _ runs fault)))
    write
    (λ wanted widest full. run_room (command_of (texts c.args.words.now)) files accepted wanted widest (runs_full _ runs files wanted widest full held) room is)

pub returns-clause-noted_prefix : goal.returns-clause-noted_prefix
returns-clause-noted_prefix g c = prefix_written c.put_note.ensures

pub returns-clause-trimmed : goal.returns-clause-trimmed
returns-clause-trimmed g c files level wads accepted done held are is = trimmed-run (texts c.args.words.now) files level wads accepted are is
