use Rattle.std.proofs.Common.{length, refl}
use Rattle.std.proofs.lemmas.Option.{slice_get_read}
use Rattle.page_faults.specs.sorted_sets.Members.{IsIn}
use Rattle.directory_faults.proofs.Inserted.{none_in, one_in}
use Rattle.index_row_faults.specs.Undue.{IsUndueAt}
use Rattle.index_row_faults.proofs.Undues.{all_undue}
use Rattle.index_row_faults.proofs.undue.insert_undue_indexes.Goals as goal

pub loop-index-init : goal.loop-index-init
loop-index-init c = none_in c.args.indexes.now IsUndueAt (IsIn c.args.found.now)

pub loop-index-preserved : goal.loop-index-preserved
loop-index-preserved c =
    let indexes = c.args.indexes.now in
    let number = c.loop-index.index-index in
    let index = c.index-item.result in
    one_in indexes IsUndueAt (IsIn c.args.found.now) (IsIn c.loop-index.found) (IsIn c.insert_undue.new.found) number index
    (slice_get_read indexes (length indexes) number index refl c.loop-index-test.true c.index-item.is) c.loop-index.invariant c.in_ok-insert_undue.ensures

pub returns : goal.returns
returns c = λ pages table number are.
    all_undue pages table number c.args.indexes.now are (IsIn c.args.found.now) (IsIn c.loop-index.found) c.loop-index.index-index c.loop-index-test.false c.loop-index.invariant
