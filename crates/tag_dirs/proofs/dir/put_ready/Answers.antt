use Rattle.std.proofs.Common.{◌≡◌, false, subst}
use Rattle.metadata_cells.specs.domain_base.declared.place.Home.{Home}
use Rattle.tag_dirs.specs.Directory.{AddsPage, has_home}
use Rattle.tag_dirs.proofs.Added.{links_last, page_added}
use Rattle.tag_dirs.proofs.dir.put_ready.Goals as goal

pub returns-clause-added : goal.returns-clause-added
returns-clause-added g c = λ places index home dir ready first unused.
    let old = g.M.MetaPages.pages c.args.pages.now in
    let mid = g.M.MetaPages.pages c.lead_on.new.pages in
    let new = g.M.MetaPages.pages c.put.new.self in
    subst (λ (h : Home). has_home places h ≡ false → AddsPage (record { index = index; home = h }) places old new) ready.stands
    (λ apart. page_added old mid new places index c.args.ready.home c.args.ready.page dir first unused apart (links_last places c.args.ready.last c.args.ready.home old mid ready.last c.lead_on.ensures.leads) c.put.ensures.value ready.fresh)
