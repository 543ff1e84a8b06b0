use Rattle.std.proofs.Common.{length, refl}
use Rattle.std.proofs.lemmas.Option.{slice_get_read}
use Rattle.page_faults.specs.sorted_sets.Members.{IsIn}
use Rattle.directory_faults.proofs.Inserted.{all_in, none_in, one_in}
use Rattle.index_row_faults.specs.Totals.{IsSurplusAt}
use Rattle.index_row_faults.proofs.totals.insert_surplus.Goals as goal

pub loop-at-init : goal.loop-at-init
loop-at-init c = none_in c.args.entries.now (IsSurplusAt c.args.in_rows.now c.args.in_entries.now) (IsIn c.args.found.now)

pub loop-at-preserved : goal.loop-at-preserved
loop-at-preserved c =
    let entries = c.args.entries.now in
    let number = c.loop-at.at-index in
    let at = c.at-item.result in
    one_in entries (IsSurplusAt c.args.in_rows.now c.args.in_entries.now) (IsIn c.args.found.now) (IsIn c.loop-at.found) (IsIn c.insert_one.new.found) number at
    (slice_get_read entries (length entries) number at refl c.loop-at-test.true c.at-item.is) c.loop-at.invariant c.in_ok-insert_one.ensures

pub returns : goal.returns
returns c =
    all_in c.args.entries.now (IsSurplusAt c.args.in_rows.now c.args.in_entries.now) (IsIn c.args.found.now) (IsIn c.loop-at.found) c.loop-at.at-index c.loop-at-test.false c.loop-at.invariant
