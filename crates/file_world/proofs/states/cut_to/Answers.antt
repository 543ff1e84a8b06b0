use Rattle.index_pages.specs.page_store.Homes.{pages_of}
use Rattle.file_world.proofs.states.cut_to.Goals as goal

pub returns : goal.returns
returns c = λ states was.
    let world = c.args.world.now in
    c.one_file_is_cut.ensures world.files.fileset world.files.tags world.space world.cells (pages_of world.pages.entries.items) (pages_of c.truncate.new.pages.entries.items) c.args.tag c.args.size states was
    (λ chains are. c.in_ok-truncate.ensures.together world.space world.cells chains are)
