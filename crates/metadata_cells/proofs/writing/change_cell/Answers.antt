use Rattle.std.proofs.Common.{◌≡◌, ◌+◌, ◌*◌, subst}
use Rattle.std.specs.Option.{IsSomeAnd}
use Rattle.page_store.specs.domain_base.Page.{overwritten}
use Rattle.page_store.specs.domain_base.declared.place.Home.{Home}
use Rattle.page_store.specs.Pages.{with_page}
use Rattle.metadata_cells.specs.CellPage.{ChangesPage, home_of, recounted}
use Rattle.metadata_cells.proofs.Places.{changed_twice}
use Rattle.metadata_cells.proofs.writing.change_cell.Goals as goal

pub returns-clause-changes : goal.returns-clause-changes
returns-clause-changes g c =
    let old = g.M.MetaPages.pages c.args.pages.now in
    let mid = g.M.MetaPages.pages c.set.new.self in
    let new = g.M.MetaPages.pages c.recount.new.pages in
    let at = c.args.at.now in
    let bytes = c.args.bytes.now in
    let set : IsSomeAnd (old (home_of at)) (λ page. mid ≡ with_page (home_of at) (overwritten page (16 + 292 * c.from.result) bytes) old) =
    subst (λ (h : Home). IsSomeAnd (old h) (λ page. mid ≡ with_page h (overwritten page (16 + 292 * c.from.result) bytes) old)) c.home_of.ensures c.set.ensures.value in
    let cell : IsSomeAnd (old (home_of at)) (λ page. mid ≡ with_page (home_of at) (overwritten page (16 + 292 * at.cell) bytes) old) =
    subst (λ n. IsSomeAnd (old (home_of at)) (λ page. mid ≡ with_page (home_of at) (overwritten page (16 + 292 * n) bytes) old)) c.from.ensures set in
    changed_twice old mid new at bytes cell (subst (λ (h : Home). ChangesPage h recounted mid new) c.home_of-2.ensures c.recount.ensures.changes)
