use Rattle.std.proofs.Common.{Some}
use Rattle.release_steps.specs.page_store.Homes.{pages_of}
use Rattle.release_tables.proofs.Pairs.{pair_listed}
use Rattle.release_tables.proofs.clones.list_first.Goals as goal

pub returns : goal.returns
returns c =
    let world = c.args.world.now in
    let pair = c.args.pair.now in (
      c.requires.0,
      pair_listed world.space world.cells (pages_of world.pages.entries.items) pair.at pair.clone pair.at (Some pair.clone) c.args.list.now.list c.add.new.self.list c.requires.0 c.requires.1 c.requires.1.first c.in_ok-add.ensures.ok c.in_ok-add.ensures.tag_pages,
    )
