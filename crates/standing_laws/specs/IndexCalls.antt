-- Calls on the index of a directory, as changes of a domain that stands.
use Rattle.std.specs.Prelude.{◌≡◌, ℕ, List, Some, if◌then◌else◌}
use Rattle.std.specs.Option.{option_and_then, option_map}
use Rattle.domain_standing.specs.domain_base.declared.place.CellAt.{CellAt}
use Rattle.domain_standing.specs.domain_base.declared.place.Home.{Home}
use Rattle.domain_standing.specs.domain_base.declared.place.Tag.{Tag}
use Rattle.domain_standing.specs.metadata_cells.Cell.{Cell}
use Rattle.domain_standing.specs.metadata_cells.Chain.{is_at}
use Rattle.domain_standing.specs.fileset_files.Changes.{says_removed, with_first}
use Rattle.domain_standing.specs.fileset_files.Files.{Chains}
use Rattle.domain_standing.specs.stored_set.Sets.{without_index}
use Rattle.domain_standing.specs.fileset_table.declared.slot.FilesetEntry.{FilesetEntry}
use Rattle.domain_standing.specs.fileset_table.declared.slot.SlotItem.TheVariants as slot
use Rattle.domain_standing.specs.release_list.Standing.{Files, with_file}
use Rattle.domain_standing.specs.release_steps.Calls.{StandsWell}
use Rattle.domain_standing.specs.release_steps.Tags.{start_of}
use Rattle.domain_standing.specs.Chains.{IndexesAt}
use Rattle.domain_standing.specs.Domain.{DomainNow, item_in}
use Rattle.standing_laws.specs.Leads.{fileset_now}

-- a tag of the original in a slot names the file that begins at a cell
pub record NamesFile (number : ℕ) (tag : Tag) (start : CellAt) (d : DomainNow) (chains : Chains)
    (files : Files) : Type 0 where
  pub entry : FilesetEntry
  pub original : item_in d number ≡ Some (slot.Original entry)
  pub well : StandsWell number (fileset_now d number chains files)
  pub begins : option_and_then start_of (chains tag) ≡ Some start

-- all is as it was but pages of metadata, the bytes of pages, and free space
abbrev pub KeepsTables : DomainNow → DomainNow → Type 0
KeepsTables d now =
    now ≡ record d { pages = now.pages; contents = now.contents; space = now.space }

-- the files, where the first cell of the one that begins there says something else
abbrev pub with_said : CellAt → (Cell → Cell) → Files → Files
with_said start says files = with_file start (option_map (with_first says) (files start)) files

-- the indexes, where that of the file that begins there has its pages at these homes
abbrev pub with_index_at : CellAt → List Home → IndexesAt → IndexesAt
with_index_at start homes indexes = λ at. if is_at at start then homes else indexes at

-- the files once a tag's is to be removed, whose first cell names no index then
abbrev pub with_removed : CellAt → Tag → Chains → Files → Files
with_removed start tag chains files =
    with_file start (option_map (with_first says_removed) (without_index tag chains tag)) files
