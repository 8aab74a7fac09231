use Rattle.std.proofs.Common.{◌≡◌, ◌+◌, ◌++◌, ◌∙◌, length, length-append, ap, arith}
use Rattle.outside.proofs.ShelfLemmas.{follows_then, as_many, stands_at}
use Rattle.wad_dir.proofs.EntryLemmas.{all_joined, grown_by}
use Rattle.wad_dir.proofs.FileLemmas.{file_more, file_stops, all_read, file_taken}
use Rattle.wad_dir.proofs.load.read_lumps.Goals as goal

pub returns-in_err-found-clause-answers : goal.returns-in_err-found-clause-answers
returns-in_err-found-clause-answers g c contents stand =
    let as_many_files : length c.args.files.now ≡ length contents = as_many (g.S.Shelf.view c.args.shelf.now) _ _ stand in
    let count_is : c.len.result ≡ length c.loop-i.lumps.items = c.len.ensures ∙ c.loop-i.lumps.ok.0 in
    file_stops (g.S.Shelf.view c.args.shelf.now).steady contents c.loop-i.i c.loop-i.lumps.items _ c.from_residual.result
    (omega arith) (c.loop-i.invariant.read contents stand) c.loop-i.invariant.follows.steady
    (rw count_is at (c.read_file.ensures.answers _ (c.loop-i.invariant.follows.file _ _ (stands_at (g.S.Shelf.view c.args.shelf.now) _ contents c.loop-i.i _ stand (omega arith)))))
    c.in_err-found.was c.from_residual.ensures.1

pub returns-in_err-found-clause-taken : goal.returns-in_err-found-clause-taken
returns-in_err-found-clause-taken g c contents stand = omega (arith, file_taken (g.S.Shelf.view c.args.shelf.now) (g.S.Shelf.view c.loop-i.shelf) (g.S.Shelf.view c.read_file.new.shelf) _ contents c.loop-i.i _ stand (omega arith) c.loop-i.invariant.follows (c.loop-i.invariant.taken contents stand) c.read_file.ensures.taken)

pub returns-in_err-extend_from_slice-clause-taken : goal.returns-in_err-extend_from_slice-clause-taken
returns-in_err-extend_from_slice-clause-taken g c contents stand = omega (arith, file_taken (g.S.Shelf.view c.args.shelf.now) (g.S.Shelf.view c.loop-i.shelf) (g.S.Shelf.view c.read_file.new.shelf) _ contents c.loop-i.i _ stand (omega arith) c.loop-i.invariant.follows (c.loop-i.invariant.taken contents stand) c.read_file.ensures.taken)

pub loop-i-preserved : goal.loop-i-preserved
loop-i-preserved g c =
    let count_is : c.len.result ≡ length c.loop-i.lumps.items = c.len.ensures ∙ c.loop-i.lumps.ok.0 in
    let lumps_added : c.extend_from_slice.new.self.items ≡ c.loop-i.lumps.items ++ c.in_ok-found.found.items =
    grown_by c.loop-i.lumps.items _ c.in_ok-found.found.items _ c.in_ok-extend_from_slice.ensures.items c.deref.ensures.value in
    let lengths_add : length c.extend_from_slice.new.self.items ≡ length c.loop-i.lumps.items + length c.in_ok-found.found.items =
    ap length lumps_added ∙ length-append c.loop-i.lumps.items c.in_ok-found.found.items in
    record {
      few = omega (arith, c.in_ok-found.ensures.few);
      owned = all_joined c.loop-i.i (length c.args.files.now) c.loop-i.lumps.items c.in_ok-found.found.items _ lumps_added (omega arith) c.loop-i.invariant.owned c.in_ok-found.ensures.owned;
      follows = follows_then c.loop-i.invariant.follows c.read_file.ensures.follows;
      settled = c.in_ok-found.ensures.causes.ok ∙ c.loop-i.invariant.settled;
      read = λ contents stand.
          let as_many_files : length c.args.files.now ≡ length contents = as_many (g.S.Shelf.view c.args.shelf.now) _ _ stand in
          file_more contents c.loop-i.i c.loop-i.lumps.items c.extend_from_slice.new.self.items c.in_ok-found.found.items (omega arith) lumps_added lengths_add
          (rw count_is at (c.in_ok-found.ensures.answers _ (c.loop-i.invariant.follows.file _ _ (stands_at (g.S.Shelf.view c.args.shelf.now) _ contents c.loop-i.i _ stand (omega arith)))).ok)
          (c.loop-i.invariant.read contents stand);
      taken = λ contents stand. file_taken (g.S.Shelf.view c.args.shelf.now) (g.S.Shelf.view c.loop-i.shelf) (g.S.Shelf.view c.read_file.new.shelf) _ contents c.loop-i.i _ stand (omega arith) c.loop-i.invariant.follows (c.loop-i.invariant.taken contents stand) c.read_file.ensures.taken;
      taken_by_count = omega (arith, c.in_ok-found.ensures.taken_by_count);
    }

pub returns-clause-answers : goal.returns-clause-answers
returns-clause-answers g c contents stand =
    let as_many_files : length c.args.files.now ≡ length contents = as_many (g.S.Shelf.view c.args.shelf.now) _ _ stand in
    all_read (g.S.Shelf.view c.args.shelf.now).steady contents c.loop-i.i c.loop-i.lumps (omega arith) (c.loop-i.invariant.read contents stand)
