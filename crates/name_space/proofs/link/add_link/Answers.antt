use Rattle.std.proofs.Common.{◌∙◌, is_some, ap}
use Rattle.directory_rows.specs.Directory.{rows_in}
use Rattle.directory_rows.proofs.Entered.{named_found}
use Rattle.name_space.proofs.link.add_link.Goals as goal

pub add_row-requires-clause-fresh : goal.add_row-requires-clause-fresh
add_row-requires-clause-fresh g c =
    let old = g.S.BitfileSet.files c.args.set.now in
    named_found c.args.name.now (rows_in old c.args.place.dir) ∙ ap is_some c.requires.free
