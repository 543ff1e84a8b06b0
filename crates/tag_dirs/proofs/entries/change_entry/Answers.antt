use Rattle.tag_dirs.proofs.InPlace.{entry_set}
use Rattle.tag_dirs.proofs.entries.change_entry.Goals as goal

pub returns-clause-changes : goal.returns-clause-changes
returns-clause-changes g c =
    entry_set (g.M.MetaPages.pages c.args.pages.now) (g.M.MetaPages.pages c.set.new.self) c.args.home.now c.args.place c.args.entry.now c.entry_bytes.result c.requires.place c.entry_bytes.ensures c.requires.page c.set.ensures.value
