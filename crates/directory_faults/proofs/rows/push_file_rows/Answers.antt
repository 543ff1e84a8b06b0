use Rattle.std.proofs.Common.{◌≡◌, ◌∙◌, length, sym}
use Rattle.fileset_shapes.specs.domain_base.declared.place.Kind.TheVariants.{Directory, File}
use Rattle.fileset_shapes.specs.page_ways.Frame.{frame_in}
use Rattle.fileset_shapes.proofs.Answered.{on_ok}
use Rattle.directory_faults.specs.Rows.{Adds, IsRowOf, IsRowOnPages}
use Rattle.directory_faults.proofs.RowsRead.{of_directory, of_file}
use Rattle.directory_faults.proofs.rows.push_file_rows.Goals as goal

pub returns-in-Directory : goal.returns-in-Directory
returns-in-Directory g c =
    let pages = g.M.MetaPages.pages c.args.pages.now in
    let frame = frame_in c.args.frame.now in
    let file = c.args.file.now in
    let old = c.args.rows.now.items in
    let new = c.push_dir_rows.new.rows.items in
    on_ok c.push_dir_rows.result (Adds (IsRowOnPages pages frame file (length file.seen.homes.items)) old new) (Adds (IsRowOf pages frame file) old new)
    (of_directory pages frame file c.in-Directory.is old new) c.push_dir_rows.ensures

pub returns-in-File : goal.returns-in-File
returns-in-File g c =
    of_file (g.M.MetaPages.pages c.args.pages.now) (frame_in c.args.frame.now) c.args.file.now
    (λ directory. let e : File ≡ Directory = sym c.in-File.is ∙ directory in absurd (cc)) c.args.rows.now.items
