use Rattle.directory_rows.specs.Directory.{row_pages}
use Rattle.directory_rows.proofs.Parts.{copied_more}
use Rattle.directory_rows.proofs.list.copy_all.Goals as goal

pub loop-number-preserved : goal.loop-number-preserved
loop-number-preserved g c =
    copied_more (row_pages (g.S.BitfileSet.files c.args.set.now) c.args.dir) c.loop-number.number c.loop-number.rows.items c.copy_rows.new.rows.items c.loop-number.invariant c.in_ok-copy_rows.ensures
