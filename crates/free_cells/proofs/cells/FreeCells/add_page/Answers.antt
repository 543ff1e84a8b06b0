use Rattle.std.proofs.Common.{◌≡◌, ◌∙◌, false, IsSomeAnd, ap, subst, sym}
use Rattle.std.specs.Option.{option_map}
use Rattle.metadata_cells.specs.domain_base.declared.place.Home.{Home}
use Rattle.metadata_cells.specs.page_store.Pages.{same_home}
use Rattle.metadata_cells.specs.CellPage.{index_of, next_of}
use Rattle.free_cells.specs.Belong.{Belong}
use Rattle.free_cells.proofs.Belongs.{all_join, all_on, belong_grown, belong_linked, last_apart, last_leads}
use Rattle.free_cells.proofs.cells.FreeCells.add_page.Goals as goal

pub prepare_page-requires-clause-others : goal.prepare_page-requires-clause-others
prepare_page-requires-clause-others g c = all_on c.args.self.now (g.M.MetaPages.pages c.args.pages.now) c.requires.belong c.args.home.vol

pub link_page-requires-clause-apart : goal.link_page-requires-clause-apart
link_page-requires-clause-apart g c = ap (λ (h : Home). same_home h c.args.home) c.last_home-last.ensures ∙ last_apart c.args.self.now c.args.home c.requires.some c.requires.fresh

pub returns-clause-ok : goal.returns-clause-ok
returns-clause-ok g c = all_join c.args.self.now c.prepare_page.new.self c.args.home c.in_ok-page.page _ c.in_ok-page.ensures.page c.in_ok-page.ensures.ok

pub returns-clause-linked : goal.returns-clause-linked
returns-clause-linked g c =
    let pages = g.M.MetaPages.pages c.link_page.new.pages in
    last_leads c.args.self.now c.args.home.vol pages c.args.home.page
    (subst (λ (h : Home). IsSomeAnd (pages h) (λ page. next_of page ≡ c.args.home.page)) c.last_home-last.ensures c.link_page.ensures.next)

pub returns-clause-belong : goal.returns-clause-belong
returns-clause-belong g c =
    let old = g.M.MetaPages.pages c.prepare_page.new.pages in
    let new = g.M.MetaPages.pages c.link_page.new.pages in
    let cells = c.args.self.now in
    let home = c.args.home in
    let last = c.last_home-last.ensures in
    let belong = subst (Belong cells) (sym c.prepare_page.ensures.pages) c.requires.belong in
    let link = c.link_page.ensures in
    let linked = belong_linked cells home c.requires.some c.requires.fresh old new belong
    (subst (λ (h : Home). option_map index_of (new h) ≡ option_map index_of (old h)) last link.index) link.others link.well_formed
    (subst (λ (l : Home). (h : Home) → same_home h home ≡ false → same_home h l ≡ false → new h ≡ old h) last link.elsewhere) in
    let empty = c.in_ok-page.ensures.page in
    belong_grown cells c.prepare_page.new.self new home c.in_ok-page.page linked link.there (record { good = empty.good; indexed = empty.indexed })
    (last_leads cells home.vol new home.page (subst (λ (h : Home). IsSomeAnd (new h) (λ page. next_of page ≡ home.page)) last link.next)) c.in_ok-page.ensures.ok
