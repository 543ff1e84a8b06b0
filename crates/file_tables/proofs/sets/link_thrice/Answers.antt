use Rattle.release_steps.specs.domain_base.declared.place.Kind.TheVariants.{File}
use Rattle.release_steps.specs.page_store.Homes.{pages_of}
use Rattle.file_tables.proofs.First.{is_some, linked_there}
use Rattle.file_tables.specs.Worlds.{only_new}
use Rattle.file_tables.proofs.sets.link_thrice.Goals as goal

pub set_links-requires-clause-live : goal.set_links-requires-clause-live
set_links-requires-clause-live c = λ set was.
    let world = c.args.world.now in
    is_some set c.args.tag (c.one_set_is_shown.ensures world.files.fileset world.files.tags world.space world.space world.cells world.cells (pages_of world.pages.entries.items) (only_new File c.args.tag) set c.args.tag c.requires was)

pub returns : goal.returns
returns c = (_, c.in_ok-set_links.ensures.ok (only_new File c.args.tag) c.requires, linked_there c.args.tag)
