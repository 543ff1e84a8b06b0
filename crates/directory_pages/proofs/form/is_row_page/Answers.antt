use Rattle.std.proofs.Common.{sym, subst}
use Rattle.directory_pages.specs.RowPage.{IsRowPage}
use Rattle.directory_pages.proofs.form.is_row_page.Goals as goal

pub returns-clause-bad : goal.returns-clause-bad
returns-clause-bad c none rows is = c.are_page_bytes.ensures.bad none rows (subst (λ bs. IsRowPage bs rows) (sym c.bytes.ensures.value) is)
