-- What steps leave of what a set of files shows.
use Rattle.std.specs.Prelude.{◌≡◌, ℕ, List, ◌∷◌, Option, Some, IsSomeAnd}
use Rattle.release_list.specs.domain_base.declared.place.CellAt.{CellAt}
use Rattle.release_list.specs.domain_base.declared.place.Home.{Home}
use Rattle.release_list.specs.domain_base.declared.place.Kind.TheVariants.{Directory}
use Rattle.release_list.specs.page_store.Bitfiles.{Bitfile}
use Rattle.release_list.specs.metadata_cells.Chain.{PlacedCell}
use Rattle.release_list.specs.tag_dirs.TagPage.{next_of}
use Rattle.release_list.specs.fileset_files.Shown.{index_of}
use Rattle.release_list.specs.Steps.{Now}
use Rattle.release_steps.specs.Kept.{IsBeside}
use Rattle.release_steps.specs.Tags.{start_of}
use Rattle.release_steps.specs.Waits.{StandsApart}

-- from a home on, each page of an index stands apart
abbrev pub IsIndexApart : Now → Option Home → List (List ℕ) → Type 0
IsIndexApart now (Some home) (page ∷ more) = StandsApart now home
    × IsSomeAnd (now.pages home) (λ stored. IsIndexApart now (next_of stored) more)
IsIndexApart now _ _ = Unit {0}

-- the pages of a file's index stand apart, and no entry is of a directory
pub record StaysShown (now : Now) (cells : List PlacedCell) (file : Bitfile) : Type 0 where
  pub index : IsIndexApart now (index_of cells) file.index
  pub beside : file.kind ≡ Directory → (at : CellAt) → start_of cells ≡ Some at
      → IsBeside now.list at
