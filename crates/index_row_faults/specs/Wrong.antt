-- Indexes whose entries are not those of the rows, or which may not be there.
use Rattle.std.specs.Prelude.{ℕ}
use Rattle.page_faults.specs.domain_base.declared.place.Home.{Home}
use Rattle.page_faults.specs.domain_base.declared.place.Tag.{Tag}
use Rattle.page_faults.specs.page_store.Pages.{Pages}
use Rattle.page_faults.specs.fileset_table.Table.{Table}
use Rattle.page_faults.specs.domain_layout.DirectoryRules.{HasIndex, IsWrongIndex}
use Rattle.page_faults.specs.domain_layout.Reached.{Frame}
use Rattle.page_faults.specs.domain_layout.Seen.{SeenFile}

-- an index of the fileset in a slot breaks a rule of the indexes of directories, at a page
pub record HasWrongIndex (pages : Pages) (frame : Frame) (table : Table) (number : ℕ) (home : Home)
    : Type 0 where
  pub tag : Tag
  pub seen : SeenFile
  pub first : Home
  pub total : ℕ
  pub has : HasIndex pages table number tag seen first total
  pub wrong : IsWrongIndex pages frame table number tag seen first total home
