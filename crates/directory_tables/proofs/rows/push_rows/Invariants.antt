use Rattle.directory_rows.specs.page_store.Tags.{files_of}
use Rattle.directory_rows.specs.Directory.{IsWellFormed}
use Rattle.directory_tables.proofs.rows.push_rows.Given as goal

abbrev pub invariant-loop-line : goal.invariant-loop-line
invariant-loop-line l = IsWellFormed (files_of l.set.files.items) (record { slot = 1; seq = 1 })
