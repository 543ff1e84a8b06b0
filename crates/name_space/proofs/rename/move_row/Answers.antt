use Rattle.std.proofs.Common.{◌∙◌, is_some, ap}
use Rattle.directory_rows.specs.Directory.{rows_in}
use Rattle.directory_rows.proofs.Entered.{named_found}
use Rattle.name_space.proofs.RenamedNames.{still_free}
use Rattle.name_space.proofs.rename.move_row.Goals as goal

pub remove_row-requires-clause-there : goal.remove_row-requires-clause-there
remove_row-requires-clause-there g c =
    let old = g.S.BitfileSet.files c.args.set.now in
    named_found c.args.name.now (rows_in old c.args.spot.dir) ∙ ap is_some c.requires.named

pub add_row-requires-clause-fresh : goal.add_row-requires-clause-fresh
add_row-requires-clause-fresh g c =
    let old = g.S.BitfileSet.files c.args.set.now in
    let mid = g.S.BitfileSet.files c.remove_row.new.set in
    still_free old mid c.args.spot.dir c.args.dir c.args.name.now c.args.new_name.now (c.args.spot.tag, c.args.spot.kind) c.requires.good c.requires.named c.requires.free c.in-Ok.ensures.ok
