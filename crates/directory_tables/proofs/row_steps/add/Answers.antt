use Rattle.std.proofs.Common.{◌∙◌, sym, ap}
use Rattle.std.specs.Option.{is_some}
use Rattle.directory_rows.specs.Directory.{rows_in}
use Rattle.directory_rows.proofs.Entered.{named_found}
use Rattle.directory_tables.proofs.row_steps.add.Goals as goal

pub add_row-requires-clause-fresh : goal.add_row-requires-clause-fresh
add_row-requires-clause-fresh g c =
    named_found c.args.name.now (rows_in (g.S.BitfileSet.files c.args.set.now) c.args.dir) ∙ ap is_some (sym c.find_row.ensures) ∙ sym c.is_some.ensures ∙ c.if-is_some.false
