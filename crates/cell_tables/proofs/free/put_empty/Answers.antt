use Rattle.std.proofs.Common.{◌≡◌, ◌∙◌, IsSomeAnd, ap, subst, sym}
use Rattle.free_cells.specs.page_store.Pages.{Pages}
use Rattle.free_cells.specs.metadata_cells.CellPage.{IsEmptyPage}
use Rattle.free_cells.proofs.PutThere.{other, there}
use Rattle.cell_tables.proofs.free.put_empty.Goals as goal

pub returns-clause-there : goal.returns-clause-there
returns-clause-there c = subst (λ o. IsSomeAnd o (IsEmptyPage 0)) (sym (there _ _ c.args.home c.in_ok-page.page c.put.ensures.value)) c.in_ok-page.ensures

pub returns-clause-others : goal.returns-clause-others
returns-clause-others c = λ h apart. other _ _ c.args.home c.in_ok-page.page c.put.ensures.value h apart ∙ ap (λ (pages : Pages). pages h) c.reserve.ensures.same
