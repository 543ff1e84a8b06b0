use Rattle.std.proofs.Common.{sym, subst}
use Rattle.cell_records.specs.declared.record.Record.TheVariants.{Extents}
use Rattle.extent_records.specs.Writing.{HasRows}
use Rattle.extent_records.proofs.WritingLemmas.{extents_are}
use Rattle.extent_records.proofs.writing.extents.Goals as goal

pub returns : goal.returns
returns c = subst (λ l. HasRows 3 c.args.rows.now (Extents l)) (sym c.extent_rows.ensures) (extents_are c.args.rows.now c.requires c.if-rows-gt-CHAIN_ROWS.false)
