use Rattle.directory_rows.specs.page_store.Tags.{files_of}
use Rattle.directory_tables.specs.Steps.{HasIndex}
use Rattle.directory_tables.proofs.indexes.push_index.Given as goal

abbrev pub invariant-loop-line : goal.invariant-loop-line
invariant-loop-line l = HasIndex (record { slot = 1; seq = 1 }) (files_of l.set.files.items)
