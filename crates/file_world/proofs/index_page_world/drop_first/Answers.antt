use Rattle.std.proofs.Common.{Some, subst}
use Rattle.index_pages.specs.page_store.Homes.{pages_of}
use Rattle.file_world.specs.IndexPageWorlds.{IsIndexOn}
use Rattle.file_world.proofs.IndexPageKept.{dropped}
use Rattle.file_world.proofs.index_page_world.drop_first.Goals as goal

pub returns : goal.returns
returns c =
    let old = pages_of c.args.world.now.pages.entries.items in
    let was : IsIndexOn old c.args.world.now.space (Some c.in-Some.first) = subst (λ first. IsIndexOn old c.args.world.now.space first) c.in-Some.is c.requires in
    dropped old (pages_of c.drop_index_page-world.new.pages.entries.items) c.args.world.now.space c.in-Some.first c.drop_index_page-world.result was (c.drop_index_page-world.ensures.dropped was.homes was.are)
