use Rattle.tag_dirs.proofs.Slots.{used_allowed}
use Rattle.tag_dirs.proofs.dir.TagDir.switch.Goals as goal

pub change-requires-clause-allowed : goal.change-requires-clause-allowed
change-requires-clause-allowed g c =
    let both = used_allowed (g.M.MetaPages.pages c.args.pages.now) c.args.self.now c.args.tag c.requires.directory c.requires.used in
    (c.requires.cell, both.0, both.1)
