use Rattle.std.proofs.Common.{◌≡◌, ◌∙◌, ◌<◌, ◌≤◌, ℕ, subst, sym}
use Rattle.release_steps.specs.page_store.Homes.{pages_of}
use Rattle.file_tables.proofs.Counted.{count_any, directory_any, put_in}
use Rattle.file_tables.proofs.indexes.put_in.Goals as goal

pub insert_index_page-requires-clause-directory : goal.insert_index_page-requires-clause-directory
insert_index_page-requires-clause-directory c = λ set was.
    let world = c.args.world.now in
    let (one, shown, directory, count) = c.requires.index in
    let same = c.one_set_is_shown.ensures world.files.fileset world.files.tags world.space world.space world.cells world.cells (pages_of world.pages.entries.items) one set c.args.tag shown was in
    directory_any one set c.args.tag same directory

pub insert_index_page-requires-clause-there : goal.insert_index_page-requires-clause-there
insert_index_page-requires-clause-there c = λ set was.
    let world = c.args.world.now in
    let (one, shown, directory, count) = c.requires.index in
    let same = c.one_set_is_shown.ensures world.files.fileset world.files.tags world.space world.space world.cells world.cells (pages_of world.pages.entries.items) one set c.args.tag shown was in
    subst (λ n. c.args.number ≤ n) (sym count ∙ count_any one set c.args.tag same) c.requires.there

pub returns : goal.returns
returns c =
    let (one, shown, directory, count) = c.requires.index in
    let has = put_in one c.args.tag c.args.number c.args.count _ directory count c.requires.there in
    (_, c.in_ok-insert_index_page.ensures.ok one shown, has.directory, has.pages)
