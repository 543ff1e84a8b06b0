use Rattle.release_steps.specs.page_store.Homes.{pages_of}
use Rattle.file_tables.proofs.Counted.{some_any}
use Rattle.file_tables.proofs.indexes.take_away.Goals as goal

pub remove-requires-clause-live : goal.remove-requires-clause-live
remove-requires-clause-live c = λ set was.
    let world = c.args.world.now in
    let (one, shown, directory, count) = c.requires in
    let same = c.one_set_is_shown.ensures world.files.fileset world.files.tags world.space world.space world.cells world.cells (pages_of world.pages.entries.items) one set c.args.tag shown was in
    some_any one set c.args.tag same directory

pub returns : goal.returns
returns c =
    let (one, shown, directory, count) = c.requires in
    (_, c.in_ok-remove.ensures.ok one shown)
