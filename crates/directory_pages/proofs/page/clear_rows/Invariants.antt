use Rattle.std.proofs.Common.{◌≡◌, ◌++◌, drop}
use Rattle.cell_records.specs.domain_base.Page.{zero_bytes}
use Rattle.directory_pages.proofs.page.clear_rows.Given as goal

abbrev pub invariant-loop-at : goal.invariant-loop-at
invariant-loop-at l = l.page ≡ zero_bytes l.at ++ drop l.at l.initial.page
