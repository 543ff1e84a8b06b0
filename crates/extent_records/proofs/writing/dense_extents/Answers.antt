use Rattle.std.proofs.Common.{sym, subst}
use Rattle.cell_records.specs.declared.record.Record.TheVariants.{DenseExtents}
use Rattle.extent_records.specs.Writing.{HasRows}
use Rattle.extent_records.proofs.WritingLemmas.{dense_extents_are}
use Rattle.extent_records.proofs.writing.dense_extents.Goals as goal

pub returns : goal.returns
returns c = subst (λ l. HasRows 13 c.args.rows.now (DenseExtents l)) (sym c.extent_rows.ensures) (dense_extents_are c.args.rows.now c.requires c.if-rows-gt-DENSE_ROWS.false)
