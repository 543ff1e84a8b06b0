use Rattle.std.proofs.Common.{List, length, refl, sym, subst}
use Rattle.std.proofs.lemmas.Option.{slice_get_read}
use Rattle.fileset_shapes.specs.page_ways.Frame.{frame_in}
use Rattle.directory_faults.specs.declared.rows.RowThere.{RowThere}
use Rattle.directory_faults.proofs.RowsRead.{AreFirstRows, all_rows, none_first, one_first}
use Rattle.directory_faults.proofs.rows.read_rows.Goals as goal

pub loop-file-init : goal.loop-file-init
loop-file-init g c =
    subst (λ (l : List RowThere). AreFirstRows (g.M.MetaPages.pages c.args.pages.now) (frame_in c.args.frame.now) c.args.files.now 0 l) (sym c.new-rows.ensures.items) (none_first (g.M.MetaPages.pages c.args.pages.now) (frame_in c.args.frame.now) c.args.files.now)

pub loop-file-preserved : goal.loop-file-preserved
loop-file-preserved g c =
    let files = c.args.files.now in
    let number = c.loop-file.file-index in
    let file = c.file-item.result in
    one_first (g.M.MetaPages.pages c.args.pages.now) (frame_in c.args.frame.now) files number file (slice_get_read files (length files) number file refl c.loop-file-test.true c.file-item.is)
    c.loop-file.rows.items c.push_file_rows.new.rows.items c.loop-file.invariant c.in_ok-push_file_rows.ensures

pub returns : goal.returns
returns g c = λ table number are.
    all_rows (g.M.MetaPages.pages c.args.pages.now) (frame_in c.args.frame.now) table number c.args.files.now are c.loop-file.file-index c.loop-file.rows.items c.loop-file-test.false c.loop-file.invariant
