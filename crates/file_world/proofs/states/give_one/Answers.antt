use Rattle.index_pages.specs.page_store.Homes.{pages_of}
use Rattle.index_pages.specs.domain_base.declared.version.Version.TheVariants.{Four}
use Rattle.index_pages.specs.extent_maps.declared.run.PagePlace.TheVariants.{At}
use Rattle.file_world.proofs.states.give_one.Goals as goal

pub returns : goal.returns
returns c = λ states was.
    let world = c.args.world.now in
    c.one_page_is_placed.ensures world.files.fileset world.files.tags world.space c.give_page.new.space world.cells c.give_page.new.cells (pages_of world.pages.entries.items) (pages_of c.give_page.new.pages.entries.items) c.args.tag c.args.page (At c.in_ok-home.home) Four states was
    (λ chains are. c.in_ok-home.ensures.ok chains are)
