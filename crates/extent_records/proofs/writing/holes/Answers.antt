use Rattle.std.proofs.Common.{sym, subst}
use Rattle.cell_records.specs.declared.record.Record.TheVariants.{Holes}
use Rattle.extent_records.specs.Writing.{HasRows}
use Rattle.extent_records.proofs.WritingLemmas.{holes_are}
use Rattle.extent_records.proofs.writing.holes.Goals as goal

pub returns : goal.returns
returns c = subst (λ l. HasRows 5 c.args.rows.now (Holes l)) (sym c.hole_rows.ensures) (holes_are c.args.rows.now c.requires c.if-rows-gt-CHAIN_ROWS.false)
