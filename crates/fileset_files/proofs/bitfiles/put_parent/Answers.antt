use Rattle.std.proofs.Common.{ℕ, ◌<◌, ◌^◌, rules}
use Rattle.file_chains.specs.cell_records.declared.record.Record.TheVariants.{Parent}
use Rattle.file_chains.specs.cell_records.Records.{Allowed}
use Rattle.fileset_files.proofs.bitfiles.put_parent.Goals as goal

allowed : (slot seq : ℕ) → slot < 2 ^ 32 → seq < 2 ^ 16 → Allowed (Parent slot seq)
unfolding Allowed
allowed slot seq slot_fits seq_fits = (slot_fits, seq_fits)

pub set_first-requires-clause-allowed : goal.set_first-requires-clause-allowed
set_first-requires-clause-allowed g c = allowed _ _ (search rules) (search rules)
