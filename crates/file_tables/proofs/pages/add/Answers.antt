use Rattle.std.proofs.Common.{◌∙◌, sym}
use Rattle.release_steps.specs.page_store.Homes.{pages_of}
use Rattle.file_tables.proofs.Counted.{directory_any, page_added, pages_any}
use Rattle.file_tables.proofs.pages.add.Goals as goal

pub add_page-requires-clause-directory : goal.add_page-requires-clause-directory
add_page-requires-clause-directory c = λ set was.
    let world = c.args.world.now in
    let (one, shown, directory, count) = c.requires.pages in
    let same = c.one_set_is_shown.ensures world.files.fileset world.files.tags world.space world.space world.cells world.cells (pages_of world.pages.entries.items) one set c.args.tag shown was in
    directory_any one set c.args.tag same directory

pub add_page-requires-clause-last : goal.add_page-requires-clause-last
add_page-requires-clause-last c = λ set was.
    let world = c.args.world.now in
    let (one, shown, directory, count) = c.requires.pages in
    let same = c.one_set_is_shown.ensures world.files.fileset world.files.tags world.space world.space world.cells world.cells (pages_of world.pages.entries.items) one set c.args.tag shown was in
    sym count ∙ pages_any one set c.args.tag same

pub returns : goal.returns
returns c =
    let (one, shown, directory, count) = c.requires.pages in
    let has = page_added one c.args.tag c.args.count _ directory count in
    (_, c.in_ok-add_page.ensures.ok one shown, has.directory, has.pages)
