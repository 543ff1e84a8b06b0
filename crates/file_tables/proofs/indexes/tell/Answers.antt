use Rattle.std.proofs.Common.{◌≡◌, ◌∙◌, ◌<◌, ◌≤◌, ℕ, subst, sym}
use Rattle.release_steps.specs.page_store.Homes.{pages_of}
use Rattle.file_tables.proofs.Counted.{directory_any}
use Rattle.file_tables.proofs.indexes.tell.Goals as goal

pub count_index_of-pages-requires-clause-directory : goal.count_index_of-pages-requires-clause-directory
count_index_of-pages-requires-clause-directory c = λ set was.
    let world = c.args.world.now in
    let (one, shown, directory, count) = c.requires in
    let same = c.one_set_is_shown.ensures world.files.fileset world.files.tags world.space world.space world.cells world.cells (pages_of world.pages.entries.items) one set c.args.tag shown was in
    directory_any one set c.args.tag same directory
