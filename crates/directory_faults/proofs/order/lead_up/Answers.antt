use Rattle.std.proofs.Common.{length, refl}
use Rattle.std.proofs.lemmas.Option.{slice_get_read}
use Rattle.directory_faults.specs.Order.{LeadsUp}
use Rattle.directory_faults.proofs.Items.{so_all, so_more}
use Rattle.directory_faults.proofs.order.lead_up.Goals as goal

pub loop-row-preserved : goal.loop-row-preserved
loop-row-preserved c =
    let rows = c.args.rows.now in
    let number = c.loop-row.row-index in
    let row = c.row-item.result in
    so_more (LeadsUp c.args.places.now) rows number row (slice_get_read rows (length rows) number row refl c.loop-row-test.true c.row-item.is) (c.leads_up.ensures c.if-not-leads_up.false) c.loop-row.invariant

pub returns : goal.returns
returns c is = so_all (LeadsUp c.args.places.now) c.args.rows.now c.loop-row.row-index c.loop-row-test.false c.loop-row.invariant
