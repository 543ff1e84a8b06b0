use Rattle.no_faults.proofs.Lists.{adds_left}
use Rattle.no_faults.proofs.list.add_left.Goals as goal

pub returns-in_ok-add : goal.returns-in_ok-add
returns-in_ok-add g c =
    let pages = g.M.MetaPages.pages c.args.pages.now in
    adds_left pages c.args.at.now c.args.list.now.list c.add.new.self.list c.requires c.in_ok-add.ensures.ok c.in_ok-add.ensures.tag_pages (c.in_ok-says_left.ensures.0 c.if-branch.true)
