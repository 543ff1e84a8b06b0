use Rattle.std.proofs.Common.{◌≡◌, false, sym, subst}
use Rattle.directory_rows.specs.page_store.Bitfiles.{new_file}
use Rattle.directory_rows.specs.directory_pages.Rows.{is_named}
use Rattle.directory_rows.specs.Directory.{rows_in}
use Rattle.name_space.proofs.CreatedNames.{free_before}
use Rattle.name_space.proofs.create.make_row.Goals as goal

pub add_row-requires-clause-fresh : goal.add_row-requires-clause-fresh
add_row-requires-clause-fresh g c =
    let old = g.S.BitfileSet.files c.args.set.now in
    subst (λ fs. is_named c.args.name.now (rows_in fs c.args.dir) ≡ false) (sym c.in-Ok.ensures.ok)
    (free_before old c.args.dir c.in-Ok.tag (new_file c.args.kind c.args.uid c.args.gid) c.args.name.now c.in-Ok.ensures.fresh c.requires.good.directory c.requires.free)
