use Rattle.std.proofs.Common.{◌∙◌, is_some, ap}
use Rattle.directory_rows.specs.Directory.{rows_in}
use Rattle.directory_rows.proofs.Entered.{named_found}
use Rattle.name_space.proofs.unlink.take_name.Goals as goal

pub remove_row-requires-clause-there : goal.remove_row-requires-clause-there
remove_row-requires-clause-there g c =
    let old = g.S.BitfileSet.files c.args.set.now in
    named_found c.args.name.now (rows_in old c.args.spot.dir) ∙ ap is_some c.requires.named
