use Rattle.std.proofs.Common.{◌∙◌, List, subst}
use Rattle.metadata_cells.specs.page_store.Pages.{Pages}
use Rattle.tag_dirs.specs.declared.dir.TagPlace.{TagPlace}
use Rattle.tag_dirs.specs.Directory.{IsLast, Leads}
use Rattle.tag_dirs.proofs.Added.{links_last, page_added}
use Rattle.tag_dirs.proofs.dir.TagDir.add_page.Goals as goal

pub returns-clause-added : goal.returns-clause-added
returns-clause-added g c =
    let old = g.M.MetaPages.pages c.args.pages.now in
    let mid = g.M.MetaPages.pages c.lead_on.new.pages in
    let new = g.M.MetaPages.pages c.put.new.self in
    let last = c.last_home-last.result in
    let places = c.args.self.now in
    let is_last : IsLast places last = subst (λ (ps : List TagPlace). IsLast ps last) (c.as_slice.ensures.value ∙ c.self.view_is) c.last_home-last.ensures in
    let leads : Leads last c.args.home old mid = subst (λ (ps : Pages). Leads last c.args.home ps mid) c.reserve.ensures.same c.lead_on.ensures.leads in
    page_added old mid new places c.args.index c.args.home c.in_ok-page.page c.requires.directory c.requires.first c.requires.unused c.requires.apart
    (links_last places last c.args.home old mid is_last leads) c.put.ensures.value c.in_ok-page.ensures
