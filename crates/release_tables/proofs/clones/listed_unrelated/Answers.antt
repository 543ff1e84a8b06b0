use Rattle.std.proofs.Common.{◌≤◌, rules}
use Rattle.release_steps.specs.page_store.Homes.{pages_of}
use Rattle.release_tables.proofs.Pairs.{all_listed}
use Rattle.release_tables.proofs.clones.listed_unrelated.Goals as goal

pub returns : goal.returns
returns c =
    let world = c.args.world.now in
    let pair = c.args.pair.now in
    let r = c.requires in
    let two = r.2 in
    let first = c.may_go.ensures in
    let second = c.may_go-else-not-may_go.ensures in
    let yes = c.if-not-may_go.false in
    let yes_too = c.if-not-may_go-2.false in
    let low : 1 ≤ c.in-Some.home.vol = search rules in
    all_listed world.space world.cells (pages_of world.pages.entries.items) pair.at pair.clone r.0 r.1 two (first.alone r.0 two.file.file yes) (second.alone r.1 two.reader.file yes_too) (first.says r.0 two.file.file yes) (second.says r.1 two.reader.file yes_too)
    c.in-Some.home low c.in-Some.ensures.some
    c.new-list.result.list c.add.new.self.list c.add-2.new.self.list c.add_tag_page.new.self.list c.new-list.ensures.entries c.new-list.ensures.tag_pages c.in_ok-add.ensures.ok c.in_ok-add.ensures.tag_pages c.in_ok-add-2.ensures.ok c.in_ok-add-2.ensures.tag_pages
    c.in_ok-add_tag_page.ensures.ok c.in_ok-add_tag_page.ensures.entries c.allocate.new.self c.in-Some.ensures.taken
