use Rattle.index_pages.specs.page_store.Homes.{pages_of}
use Rattle.index_pages.specs.domain_base.declared.version.Version.TheVariants.{Four}
use Rattle.file_world.proofs.Kept.{given_or_kept}
use Rattle.file_world.proofs.calls.give.Goals as goal

pub returns : goal.returns
returns c =
    let files = c.args.world.now.files in
    given_or_kept files.fileset files.tags c.args.tag c.args.page Four c.requires.0 c.give_page.new.space c.args.world.now.cells c.give_page.new.cells (pages_of c.args.world.now.pages.entries.items) (pages_of c.give_page.new.pages.entries.items) c.give_page.result
    (c.give_page.ensures.ok c.requires.0 c.requires.1) (c.give_page.ensures.kept c.requires.0 c.requires.1)
