use Rattle.std.proofs.Common.{length, refl}
use Rattle.std.proofs.lemmas.Option.{slice_get_read}
use Rattle.fileset_shapes.specs.sorted_sets.Members.{IsIn}
use Rattle.directory_faults.proofs.Inserted.{none_in, one_in}
use Rattle.directory_faults.proofs.LedWrong.{IsWrongAt, all_wrong}
use Rattle.directory_faults.proofs.wrong.insert_wrong_rows.Goals as goal

pub loop-row-init : goal.loop-row-init
loop-row-init c = none_in c.args.rows.now (IsWrongAt c.in_ok-kinds.kinds c.args.is_clone) (IsIn c.args.found.now)

pub loop-row-preserved : goal.loop-row-preserved
loop-row-preserved c =
    let rows = c.args.rows.now in
    let number = c.loop-row.row-index in
    let row = c.row-item.result in
    one_in rows (IsWrongAt c.in_ok-kinds.kinds c.args.is_clone) (IsIn c.args.found.now) (IsIn c.loop-row.found) (IsIn c.insert_wrong.new.found) number row
    (slice_get_read rows (length rows) number row refl c.loop-row-test.true c.row-item.is) c.loop-row.invariant c.in_ok-insert_wrong.ensures

pub returns : goal.returns
returns c = λ pages frame table number are_files are clone.
    all_wrong pages frame table number c.args.files.now c.args.rows.now c.in_ok-kinds.kinds c.args.is_clone are_files are clone c.in_ok-kinds.ensures
    (IsIn c.args.found.now) (IsIn c.loop-row.found) c.loop-row.row-index c.loop-row-test.false c.loop-row.invariant
