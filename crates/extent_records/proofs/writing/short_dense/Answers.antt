use Rattle.std.proofs.Common.{sym, subst}
use Rattle.cell_records.specs.declared.record.Record.TheVariants.{ShortDense}
use Rattle.extent_records.specs.Writing.{HasRows}
use Rattle.extent_records.proofs.WritingLemmas.{short_dense_are}
use Rattle.extent_records.proofs.writing.short_dense.Goals as goal

pub returns : goal.returns
returns c = subst (λ l. HasRows 14 c.args.rows.now (ShortDense l)) (sym c.extent_rows.ensures) (short_dense_are c.args.rows.now c.requires c.if-rows-gt-SHORT_ROWS.false)
