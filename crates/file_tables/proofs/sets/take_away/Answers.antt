use Rattle.std.proofs.Common.{IsSome, subst}
use Rattle.release_steps.specs.page_store.Homes.{pages_of}
use Rattle.file_tables.proofs.sets.take_away.Goals as goal

pub remove-requires-clause-live : goal.remove-requires-clause-live
remove-requires-clause-live c = λ set was.
    let world = c.args.world.now in
    subst (λ o. IsSome o)
    (c.one_set_is_shown.ensures world.files.fileset world.files.tags world.space world.space world.cells world.cells (pages_of world.pages.entries.items) c.requires.0 set c.args.tag c.requires.1 was) c.requires.2

pub returns : goal.returns
returns c = (_, c.in_ok-remove.ensures.ok c.requires.0 c.requires.1)
