use Rattle.std.proofs.Common.{IsSomeAnd, subst, sym}
use Rattle.index_pages.specs.domain_base.declared.place.Home.{Home}
use Rattle.index_pages.specs.page_store.Homes.{pages_of}
use Rattle.index_pages.specs.metadata_cells.CellPage.{IsEmptyPage}
use Rattle.index_pages.proofs.OfFreeCells.PutThere.{there}
use Rattle.file_world.proofs.world.first_pages.Goals as goal

pub returns : goal.returns
returns c =
    subst (λ (h : Home). IsSomeAnd (pages_of c.put.new.self.entries.items h) (IsEmptyPage 0)) c.home_at.ensures
    (subst (λ o. IsSomeAnd o (IsEmptyPage 0)) (sym (there _ _ c.home_at.result c.in_ok-page.page c.put.ensures.value)) c.in_ok-page.ensures)
