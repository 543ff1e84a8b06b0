use Rattle.tag_dirs.proofs.InPlace.{next_set}
use Rattle.tag_dirs.proofs.entries.change_next.Goals as goal

pub returns-clause-changes : goal.returns-clause-changes
returns-clause-changes g c =
    next_set (g.M.MetaPages.pages c.args.pages.now) (g.M.MetaPages.pages c.set.new.self) c.args.home.now c.args.next.now c.next_bytes.result c.next_bytes.ensures c.requires c.set.ensures.value
