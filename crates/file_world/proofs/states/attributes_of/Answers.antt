use Rattle.index_pages.specs.page_store.Homes.{pages_of}
use Rattle.file_world.proofs.states.attributes_of.Goals as goal

pub returns : goal.returns
returns c = λ states was.
    let world = c.args.world.now in
    c.files_are_told.ensures.attributes world.files.fileset world.files.tags world.space world.cells (pages_of world.pages.entries.items) c.args.tag states c.attributes.result was c.attributes.ensures
