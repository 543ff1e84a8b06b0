use Rattle.std.proofs.Common.{◌∙◌, not, sym, ap}
use Rattle.std.specs.Option.{is_some}
use Rattle.directory_rows.specs.Directory.{rows_in}
use Rattle.directory_rows.proofs.Entered.{named_found}
use Rattle.directory_tables.proofs.row_steps.remove.Goals as goal

pub remove_row-requires-clause-there : goal.remove_row-requires-clause-there
remove_row-requires-clause-there g c =
    named_found c.args.name.now (rows_in (g.S.BitfileSet.files c.args.set.now) c.args.dir) ∙ ap is_some (sym c.find_row.ensures) ∙ c.is_none.ensures ∙ ap not c.if-is_none.false
