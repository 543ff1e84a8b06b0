use Rattle.fileset_files.proofs.Created.{not_created_as, together_uncreated}
use Rattle.fileset_files.proofs.Given.{map_three_err}
use Rattle.fileset_files.proofs.NewDirectory.{root_can}
use Rattle.fileset_files.proofs.bitfiles.Bitfiles.create_root.Goals as goal

pub create_as-requires-clause-tag : goal.create_as-requires-clause-tag
create_as-requires-clause-tag g c = root_can (g.M.MetaPages.pages c.args.pages.now) c.args.self.now.tags c.requires.fresh

pub returns-clause-kept : goal.returns-clause-kept
returns-clause-kept g c = λ chains are.
    let pages = g.M.MetaPages.pages c.args.pages.now in
    let new = g.M.MetaPages.pages c.create_as.new.pages in
    let places = c.args.self.now.tags in
    map_three_err c.create_as.result
    (λ fault none cells_are pages_are. together_uncreated fault c.args.self.now.fileset places c.create_as.new.tags chains c.args.space.now c.create_as.new.space c.args.cells.now c.create_as.new.cells pages new
    (not_created_as fault places c.args.space.now c.create_as.new.space c.args.cells.now pages none) c.create_as.ensures.same cells_are pages_are are)
    c.create_as.ensures.err c.create_as.ensures.cells c.create_as.ensures.pages
