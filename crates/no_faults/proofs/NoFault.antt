-- A domain that stands, with parents and bits as they should be, has no fault.
use Rattle.std.proofs.Common.{subst, ⊎_elim}
use Rattle.domain_memory.specs.fileset_model.Filesets.{FilesetMap}
use Rattle.domain_memory.specs.domain_layout.CellRules.{IsCellsFault}
use Rattle.domain_memory.specs.domain_layout.DirectoryRules.{IsDirectoryFault, IsIndexFault}
use Rattle.domain_memory.specs.domain_layout.Faults.{FaultRow, HasNoFault, IsFilesFault, IsTablesFault}
use Rattle.domain_memory.specs.domain_layout.TagRules.{IsTagsFault}
use Rattle.domain_memory.specs.domain_standing.Domain.{DomainNow}
use Rattle.domain_memory.specs.domain_standing.Standing.{HaveParents, IsMarkedBut, StandsDomain}
use Rattle.domain_memory.specs.standing_laws.Sound.{StandsSound}
use Rattle.no_faults.proofs.NoBitmaps.{no_bitmaps}
use Rattle.no_faults.proofs.NoCells.{no_cells}
use Rattle.no_faults.proofs.NoExtents.{no_extents}
use Rattle.no_faults.proofs.NoIndexes.{no_indexes}
use Rattle.no_faults.proofs.NoRows.{no_rows}
use Rattle.no_faults.proofs.NoTable.{no_table, table_is}
use Rattle.no_faults.proofs.NoTags.{no_tags}
use Rattle.no_faults.proofs.OneLayout.{table_here}

module _ (d : DomainNow) (all : FilesetMap) (stands : StandsDomain d all) (sound : StandsSound d stands.files stands.indexes) (parents : HaveParents d) (marked : IsMarkedBut d) where
  no_tables : (row : FaultRow) → ¬ IsTablesFault d.pages d.frame row
  no_tables row (table, says, which) =
      let same = table_is d stands.tables table says in
      ⊎_elim (λ cells. no_cells d all stands sound row.home (subst (λ t. IsCellsFault d.pages d.frame t row.home) same cells.1))
      (λ tags. no_tags d all stands sound row.home (subst (λ t. IsTagsFault d.pages d.frame t row.home) same tags.1)) which

  no_files : (row : FaultRow) → ¬ IsFilesFault d.pages d.frame row
  no_files row (layout, same, laid, which) =
      let table = table_here d stands.tables layout same laid in
      ⊎_elim (λ extents. no_extents d all stands sound layout same laid row.home extents.1)
      (λ a. ⊎_elim (λ bits. no_bitmaps d all stands sound marked layout same laid row.home bits.1)
      (λ b. ⊎_elim (λ rows. no_rows d all stands sound parents row.home (subst (λ t. IsDirectoryFault d.pages d.frame t row.home) table rows.1))
      (λ indexes. no_indexes d all stands sound row.home (subst (λ t. IsIndexFault d.pages d.frame t row.home) table indexes.1)) b) a) which

  pub no_fault : HasNoFault d.pages d.frame
  no_fault row fault =
      ⊎_elim (λ table. no_table d row.home stands.tables table.1) (λ a. ⊎_elim (λ tables. no_tables row tables.1) (λ files. no_files row files.1) a) fault
