use Rattle.directory_rows.specs.directory_pages.Entries.{Rise}
use Rattle.directory_tables.proofs.Rising.{AreLow}
use Rattle.directory_tables.proofs.index_steps.rising.Given as goal

abbrev pub invariant-loop-hash : goal.invariant-loop-hash
invariant-loop-hash l = record { rise : Rise l.entries.items; low : AreLow l.hash l.entries.items }
