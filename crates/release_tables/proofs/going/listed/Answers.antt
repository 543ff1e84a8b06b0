use Rattle.release_tables.proofs.Wells.{one_well}
use Rattle.release_tables.proofs.going.listed.Goals as goal

pub returns : goal.returns
returns c =
    let going = c.requires.1 in
    let may = c.may_go.ensures in
    let yes = c.if-not-may_go.false in
    one_well _ _ _ c.args.at.now c.requires.0 going (may.alone c.requires.0 going.file yes) (may.says c.requires.0 going.file yes) c.new-list.result.list c.add.new.self.list c.new-list.ensures.entries c.new-list.ensures.tag_pages c.in_ok-add.ensures.ok c.in_ok-add.ensures.tag_pages
