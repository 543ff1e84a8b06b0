use Rattle.std.proofs.Common.{inr, List, refl, subst}
use Rattle.page_store.specs.domain_base.Page.{zero_bytes}
use Rattle.cell_records.specs.declared.record.Record.{Record}
use Rattle.metadata_cells.specs.Cell.{IsCell}
use Rattle.metadata_cells.proofs.writing.write_cell.Goals as goal

pub put_cell-requires-clause-zeros : goal.put_cell-requires-clause-zeros
unfolding zero_bytes
put_cell-requires-clause-zeros g c = refl

pub put_bytes-requires-clause-good : goal.put_bytes-requires-clause-good
put_bytes-requires-clause-good g c = inr (_, c.put_cell.ensures.cell)

pub returns-clause-stands : goal.returns-clause-stands
returns-clause-stands g c = record {
  bytes = c.put_cell.new.out;
  there = c.put_bytes.ensures.there;
  is = subst (λ (rs : List Record). IsCell c.put_cell.new.out (record { head = c.args.head.now; records = rs })) c.as_slice.ensures c.put_cell.ensures.cell;
}
