use Rattle.std.proofs.Common.{◌∙◌, ◌<◌, subst, sym}
use Rattle.release_steps.specs.page_store.Homes.{pages_of}
use Rattle.file_tables.proofs.Counted.{directory_any, page_written, pages_any}
use Rattle.file_tables.proofs.pages.write.Goals as goal

pub write_page-requires-clause-directory : goal.write_page-requires-clause-directory
write_page-requires-clause-directory c = λ set was.
    let world = c.args.world.now in
    let (one, shown, directory, count) = c.requires.pages in
    let same = c.one_set_is_shown.ensures world.files.fileset world.files.tags world.space world.space world.cells world.cells (pages_of world.pages.entries.items) one set c.args.tag shown was in
    directory_any one set c.args.tag same directory

pub write_page-requires-clause-there : goal.write_page-requires-clause-there
write_page-requires-clause-there c = λ set was.
    let world = c.args.world.now in
    let (one, shown, directory, count) = c.requires.pages in
    let same = c.one_set_is_shown.ensures world.files.fileset world.files.tags world.space world.space world.cells world.cells (pages_of world.pages.entries.items) one set c.args.tag shown was in
    subst (λ n. c.args.number < n) (sym count ∙ pages_any one set c.args.tag same) c.requires.there

pub returns : goal.returns
returns c =
    let (one, shown, directory, count) = c.requires.pages in
    let has = page_written one c.args.tag c.args.number c.args.count _ directory count c.requires.there in
    (_, c.write_page.ensures.put one shown, has.directory, has.pages)
