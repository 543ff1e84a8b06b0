use Rattle.std.proofs.Common.{◌*◌, ◌≤◌}
use Rattle.release_steps.specs.page_store.Homes.{pages_of}
use Rattle.release_steps.specs.file_release.Sharing.{IsKnown}
use Rattle.release_steps.specs.release_list.Cursors.{IsAhead}
use Rattle.release_tables.specs.Going.{HasWellBy}
use Rattle.release_tables.proofs.cost.release_counted.Given as goal

abbrev pub invariant-loop : goal.invariant-loop
invariant-loop l = (l.steps ≤ 16 * l.counter) × HasWellBy (pages_of l.pages.pages.entries.items) l.space l.cells l.list.list × IsAhead (pages_of l.pages.pages.entries.items) l.list.cursor
    × IsKnown (pages_of l.pages.pages.entries.items) l.list.known
