use Rattle.std.proofs.Common.{sym}
use Rattle.release_steps.specs.page_store.Homes.{pages_of}
use Rattle.release_tables.proofs.Besides.{turned_beside, turned_stands}
use Rattle.release_tables.proofs.beside.turned.Goals as goal

pub returns : goal.returns
returns c = λ list has.
    let world = c.args.two.world in
    let other = c.args.two.other in
    let pages = pages_of world.pages.entries.items in
    let are = has.3 in (
      has.0,
      has.2,
      has.1,
      record {
        stands = turned_stands world.files.fileset other.fileset world.files.tags other.tags list world.space world.cells pages has.0 has.1 has.2 are.stands are.beside;
        beside = turned_beside world.files.fileset other.fileset world.files.tags other.tags list world.space world.cells pages has.0 has.1 has.2 are.stands are.beside;
        differ = λ same. are.differ (sym same);
      },
    )
