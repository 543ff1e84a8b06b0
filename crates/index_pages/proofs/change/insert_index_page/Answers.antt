use Rattle.std.proofs.Common.{◌≡◌, List, Option, subst, sym}
use Rattle.file_release.specs.domain_base.declared.place.Home.{Home}
use Rattle.file_release.specs.page_store.Pages.{Pages}
use Rattle.file_release.proofs.OfFileChains.Spaces.{not_held}
use Rattle.index_pages.specs.Changes.{InsertsIndexPage}
use Rattle.index_pages.specs.Homes.{AreIndexHomes}
use Rattle.index_pages.proofs.change.insert_index_page.Goals as goal

pub link_index_page-begins-requires-clause-index : goal.link_index_page-begins-requires-clause-index
link_index_page-begins-requires-clause-index g c =
    let mid = g.M.MetaPages.pages c.reserve.new.self in
    let (homes, are, within, held) = c.requires.index in (
      homes,
      subst (λ (ps : Pages). AreIndexHomes ps c.args.first homes) (sym c.reserve.ensures.same) are,
      within,
      λ there. not_held c.args.space.now c.in-Some.home.vol c.in-Some.home.page c.in-Some.ensures.some (held c.in-Some.home there),
    )

pub returns-clause-inserted : goal.returns-clause-inserted
returns-clause-inserted g c = λ homes are.
    let mid = g.M.MetaPages.pages c.reserve.new.self in
    let new = g.M.MetaPages.pages c.link_index_page-begins.new.pages in
    subst (λ (ps : Pages). InsertsIndexPage c.link_index_page-begins.result c.in-Some.home c.args.number c.args.bytes ps new homes) c.reserve.ensures.same
    (c.link_index_page-begins.ensures.inserted homes (subst (λ (ps : Pages). AreIndexHomes ps c.args.first homes) (sym c.reserve.ensures.same) are))
