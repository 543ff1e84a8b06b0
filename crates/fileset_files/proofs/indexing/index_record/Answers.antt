use Rattle.std.proofs.Common.{ℕ, ◌<◌, ◌≤◌, ◌^◌, rules}
use Rattle.file_chains.specs.cell_records.declared.record.Record.TheVariants.{DirIndex}
use Rattle.file_chains.specs.cell_records.Records.{Allowed}
use Rattle.fileset_files.proofs.indexing.index_record.Goals as goal

allowed : (vol page entries : ℕ) → 1 ≤ vol → vol ≤ 8 → page < 2 ^ 32 → entries < 2 ^ 32 → Allowed (DirIndex vol page entries)
unfolding Allowed
allowed vol page entries low high page_fits entries_fit = ((low, high), page_fits, entries_fit)

pub returns-clause-allowed : goal.returns-clause-allowed
returns-clause-allowed c = allowed _ _ _ (search rules) (search rules) (search rules) (search rules)
