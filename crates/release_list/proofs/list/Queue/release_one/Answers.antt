use Rattle.std.proofs.Common.{◌≡◌, ◌∙◌, [], length, ap, arith, sym}
use Rattle.release_list.specs.Listing.{Roomy}
use Rattle.release_list.proofs.Lists.{nil_of}
use Rattle.release_list.proofs.Stepping.{tag_page_went}
use Rattle.release_list.proofs.list.Queue.release_one.Goals as goal

pub returns-then-count-eq0-clause-ok : goal.returns-then-count-eq0-clause-ok
returns-then-count-eq0-clause-ok g c = λ files well some.
    let items = c.self.inside.entries.items in
    let zero : c.len-count.result ≡ 0 = c.if-count-eq0.true in
    let empty : length items ≡ 0 = omega (arith, zero, c.len-count.ensures, c.self.inside.entries.ok.0) in
    let none : c.args.self.now.list.entries ≡ [] = sym (ap (λ (q : Roomy). q.list.entries) c.self.view_is) ∙ nil_of items empty in
    tag_page_went c.args.group c.args.version c.args.self.now.list c.give_tag_page.new.self.list files c.args.space.now c.give_tag_page.new.space c.args.cells.now (g.M.MetaPages.pages c.args.pages.now) (g.M.MetaPages.pages c.give_tag_page.new.pages) well none (c.give_tag_page.ensures.some some)
