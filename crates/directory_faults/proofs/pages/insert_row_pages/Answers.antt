use Rattle.std.proofs.Common.{length, refl}
use Rattle.std.proofs.lemmas.Option.{slice_get_read}
use Rattle.fileset_shapes.specs.page_ways.Frame.{frame_in}
use Rattle.fileset_shapes.specs.sorted_sets.Members.{IsIn}
use Rattle.directory_faults.specs.Pages.{IsBadOf}
use Rattle.directory_faults.proofs.Inserted.{none_in, one_in}
use Rattle.directory_faults.proofs.RowPages.{all_row_pages}
use Rattle.directory_faults.proofs.pages.insert_row_pages.Goals as goal

pub loop-file-init : goal.loop-file-init
loop-file-init g c = none_in c.args.files.now (IsBadOf (g.M.MetaPages.pages c.args.pages.now) (frame_in c.args.frame.now)) (IsIn c.args.found.now)

pub loop-file-preserved : goal.loop-file-preserved
loop-file-preserved g c =
    let files = c.args.files.now in
    let number = c.loop-file.file-index in
    let file = c.file-item.result in
    one_in files (IsBadOf (g.M.MetaPages.pages c.args.pages.now) (frame_in c.args.frame.now)) (IsIn c.args.found.now) (IsIn c.loop-file.found) (IsIn c.insert_of_file.new.found) number file
    (slice_get_read files (length files) number file refl c.loop-file-test.true c.file-item.is) c.loop-file.invariant c.in_ok-insert_of_file.ensures

pub returns : goal.returns
returns g c = λ table number are.
    all_row_pages (g.M.MetaPages.pages c.args.pages.now) (frame_in c.args.frame.now) table number c.args.files.now are (IsIn c.args.found.now) (IsIn c.loop-file.found) c.loop-file.file-index c.loop-file-test.false c.loop-file.invariant
