use Rattle.std.proofs.Common.{ℕ, ◌≤◌, subst}
use Rattle.file_chains.specs.cell_records.declared.record.Record.TheVariants.{DirIndex}
use Rattle.file_chains.specs.cell_records.Records.{Allowed}
use Rattle.fileset_files.proofs.indexing.read_index.Goals as goal

on_volume : (vol page entries : ℕ) → Allowed (DirIndex vol page entries) → (1 ≤ vol) × (vol ≤ 8)
unfolding Allowed
on_volume vol page entries allowed = allowed.0

pub index_place-requires-clause-low : goal.index_place-requires-clause-low
index_place-requires-clause-low c = (on_volume c.in-DirIndex.vol c.in-DirIndex.page c.in-DirIndex.entries (subst Allowed c.in-DirIndex.is c.requires)).0

pub index_place-requires-clause-high : goal.index_place-requires-clause-high
index_place-requires-clause-high c = (on_volume c.in-DirIndex.vol c.in-DirIndex.page c.in-DirIndex.entries (subst Allowed c.in-DirIndex.is c.requires)).1
