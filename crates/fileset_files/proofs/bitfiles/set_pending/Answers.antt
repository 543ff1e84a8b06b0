use Rattle.file_chains.specs.cell_records.declared.record.Record.TheVariants.{Pending}
use Rattle.file_chains.specs.cell_records.declared.record.Leftover.TheVariants.{Remove}
use Rattle.file_chains.specs.cell_records.Records.{Allowed}
use Rattle.fileset_files.proofs.bitfiles.set_pending.Goals as goal

allowed : Allowed (Pending Remove)
unfolding Allowed
allowed = tt

pub set_first-requires-clause-allowed : goal.set_first-requires-clause-allowed
set_first-requires-clause-allowed g c = allowed
