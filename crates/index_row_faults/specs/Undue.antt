-- Indexes of files, and of directories of one page.
use Rattle.std.specs.Prelude.{◌≡◌, ◌⊎◌, ℕ, IsTrue}
use Rattle.page_faults.specs.domain_base.declared.place.Home.{Home}
use Rattle.page_faults.specs.domain_base.declared.place.Kind.TheVariants.{Directory}
use Rattle.page_faults.specs.domain_base.declared.place.Tag.{Tag}
use Rattle.page_faults.specs.page_store.Pages.{Pages}
use Rattle.page_faults.specs.fileset_table.Table.{Table}
use Rattle.page_faults.specs.domain_layout.DirectoryRules.{HasIndex, HasSecondPage}
use Rattle.page_faults.specs.domain_layout.Seen.{SeenFile}
use Rattle.index_row_faults.specs.declared.there.IndexThere.{IndexThere}

-- an index that was read may not be there, and begins at a page
abbrev pub IsUndueAt : IndexThere → Home → Type 0
IsUndueAt index home = ¬ IsTrue index.may_be × (home ≡ index.first)

-- an index of the fileset in a slot begins at a page, and it is of a file, or of a directory of one
-- page
pub record HasUndueIndex (pages : Pages) (table : Table) (number : ℕ) (home : Home) : Type 0 where
  pub tag : Tag
  pub seen : SeenFile
  pub first : Home
  pub total : ℕ
  pub has : HasIndex pages table number tag seen first total
  pub at : home ≡ first
  pub wrong : (¬ seen.is.kind ≡ Directory) ⊎ ¬ HasSecondPage seen
