-- Indexes that were read of a fileset.
use Rattle.std.specs.Prelude.{◌≡◌, ◌↔◌, ℕ, List, IsTrue, Contains}
use Rattle.page_faults.specs.domain_base.declared.place.Home.{Home}
use Rattle.page_faults.specs.domain_base.declared.place.Kind.TheVariants.{Directory}
use Rattle.page_faults.specs.domain_base.declared.place.Tag.{Tag}
use Rattle.page_faults.specs.page_store.Pages.{Pages}
use Rattle.page_faults.specs.fileset_table.Table.{Table}
use Rattle.page_faults.specs.domain_layout.DirectoryRules.{HasIndex, HasSecondPage}
use Rattle.page_faults.specs.domain_layout.Seen.{SeenFile}
use Rattle.index_row_faults.specs.declared.there.IndexThere.{IndexThere}

-- it may be there where it is of a directory of more pages than one
abbrev pub MayBeOf : SeenFile → IndexThere → Type 0
MayBeOf seen index = IsTrue index.may_be ↔ ((seen.is.kind ≡ Directory) × HasSecondPage seen)

-- a file of the fileset in a slot has the index
pub record IsReadIndex (pages : Pages) (table : Table) (number : ℕ) (index : IndexThere) : Type 0
  where
    pub seen : SeenFile
    pub has : HasIndex pages table number index.tag seen index.first index.total
    pub may_be : MayBeOf seen index

-- an index of the file at a tag was read
pub record WasReadIndex (indexes : List IndexThere) (tag : Tag) (seen : SeenFile) (first : Home)
    (total : ℕ) : Type 0 where
  pub index : IndexThere
  pub among : Contains indexes index
  pub tag_is : index.tag ≡ tag
  pub first_is : index.first ≡ first
  pub total_is : index.total ≡ total
  pub may_be : MayBeOf seen index

-- a list has all indexes of the files of the fileset in a slot, and no others
pub record AreIndexesIn (pages : Pages) (table : Table) (number : ℕ) (indexes : List IndexThere)
    : Type 0 where
  pub each : (index : IndexThere) → Contains indexes index → IsReadIndex pages table number index
  pub all : (tag : Tag) (seen : SeenFile) (first : Home) (total : ℕ)
      → HasIndex pages table number tag seen first total
      → WasReadIndex indexes tag seen first total
