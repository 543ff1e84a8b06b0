use Rattle.fileset_files.proofs.Created.{together_uncreated}
use Rattle.fileset_files.proofs.Given.{map_four_err}
use Rattle.fileset_files.proofs.bitfiles.Bitfiles.create.Goals as goal

pub returns-clause-kept : goal.returns-clause-kept
returns-clause-kept g c = λ chains are.
    let pages = g.M.MetaPages.pages c.args.pages.now in
    let new = g.M.MetaPages.pages c.create_file.new.pages in
    map_four_err c.create_file.result
    (λ fault none tags_are cells_are pages_are. together_uncreated fault c.args.self.now.fileset c.args.self.now.tags c.create_file.new.tags chains c.args.space.now c.create_file.new.space c.args.cells.now c.create_file.new.cells pages new none tags_are cells_are pages_are are)
    c.create_file.ensures.err c.create_file.ensures.same c.create_file.ensures.cells c.create_file.ensures.pages
