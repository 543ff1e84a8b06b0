use Rattle.std.proofs.Common.{List, ℕ, subst}
use Rattle.std.proofs.lemmas.Result.{err_from_is_err_and}
use Rattle.fileset_table.specs.Page.{IsTablePage}
use Rattle.fileset_table.specs.Reading.{Fails}
use Rattle.fileset_table.proofs.table.FilesetTable.read.Goals as goal

pub returns-in_err-slots : goal.returns-in_err-slots
returns-in_err-slots c =
    let p = err_from_is_err_and c.from_residual.result c.from_residual.ensures.1 in
    rw (p.1, p.2) (subst (λ (bytes : List ℕ). Fails (IsTablePage bytes) c.in_err-slots.field-0.0) c.bytes.ensures.value c.in_err-slots.ensures)
