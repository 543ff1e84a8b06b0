use Rattle.std.proofs.Common.{sym, subst}
use Rattle.cell_records.specs.declared.record.Record.TheVariants.{ShortExtents}
use Rattle.extent_records.specs.Writing.{HasRows}
use Rattle.extent_records.proofs.WritingLemmas.{short_extents_are}
use Rattle.extent_records.proofs.writing.short_extents.Goals as goal

pub returns : goal.returns
returns c = subst (λ l. HasRows 4 c.args.rows.now (ShortExtents l)) (sym c.extent_rows.ensures) (short_extents_are c.args.rows.now c.requires c.if-rows-gt-SHORT_ROWS.false)
