-- A file that is made shorter or longer.
use Rattle.std.specs.Prelude.{◌≡◌, ◌+◌, ◌/◌, ◌%◌, ◌<◌, ◌≤◌, ◌&&◌, ℕ, Bool, nat_lt, List, [], ◌∷◌, Option, Some, None, IsSomeAnd, min, unwrap_or}
use Rattle.std.specs.Option.{option_map}
use Rattle.file_chains.specs.domain_base.declared.place.CellAt.{CellAt}
use Rattle.file_chains.specs.domain_base.declared.place.Tag.{Tag}
use Rattle.file_chains.specs.page_store.Pages.{Pages}
use Rattle.file_chains.specs.cell_records.declared.record.Record.{Record}
use Rattle.file_chains.specs.cell_records.declared.record.Record.TheVariants as written
use Rattle.file_chains.specs.cell_records.declared.record.Leftover.TheVariants.{Trim}
use Rattle.file_chains.specs.metadata_cells.Cell.{Cell, record_of}
use Rattle.file_chains.specs.metadata_cells.Chain.{PlacedCell, StandsAt}
use Rattle.tag_dirs.specs.declared.dir.TagPlace.{TagPlace}
use Rattle.file_chains.specs.extent_maps.declared.run.PagePlace.TheVariants.{Absent}
use Rattle.file_chains.specs.extent_maps.declared.run.Run.{Run}
use Rattle.file_chains.specs.extent_maps.Runs.{Places, end_of}
use Rattle.file_chains.specs.free_cells.Cells.{Cells}
use Rattle.file_chains.specs.free_space.Spaces.{Spaces}
use Rattle.file_chains.specs.Changes.{with_record}
use Rattle.file_chains.specs.Files.{places_of}
use Rattle.fileset_files.specs.Changes.{with_chain, with_first}
use Rattle.fileset_files.specs.Files.{AreFiles, Chains, keep_of}
use Rattle.fileset_files.specs.Together.{AreTogether}

-- how many pages this number of bytes takes up
abbrev pub pages_in : ℕ → ℕ
pages_in size = size / 8192 + min 1 (size % 8192)

-- there is a page from one on and before another
pub record HasPageWithin (from to : ℕ) (places : Places) : Type 0 where
  pub page : ℕ
  pub begins : from ≤ page
  pub ends : page < to
  pub there : ¬ places page ≡ Absent

-- whether a run has such a page
abbrev pub meets : ℕ → ℕ → Run → Bool
meets from to run = nat_lt run.page to && nat_lt from (end_of run)

-- the number from which on a file's pages are stale once it has that size, if it has one there of
-- those that it keeps
abbrev pub IsLowered : ℕ → List PlacedCell → Option ℕ → Type 0
IsLowered size chain (Some from) = (from ≡ pages_in size)
    × IsSomeAnd (keep_of chain) (λ keep. HasPageWithin from keep (places_of chain))
IsLowered size chain None =
    IsSomeAnd (keep_of chain) (λ keep. ¬ HasPageWithin (pages_in size) keep (places_of chain))

-- a record of attributes that says this size and, if a number is given, that it keeps that number
-- of pages
abbrev pub resized : ℕ → Option ℕ → Record → Record
resized size lowered (written.Attributes kind uid gid flags was keep links birth unsynced) =
    written.Attributes kind uid gid flags size (unwrap_or lowered keep) links birth unsynced
resized size lowered r = r

abbrev pub says_size : ℕ → Option ℕ → Cell → Cell
says_size size lowered cell =
    with_record 1 (option_map (resized size lowered) (record_of 1 cell.records)) cell

-- a first cell that says this size, and where pages are stale that they are to be let go
abbrev pub says_truncated : ℕ → Option ℕ → Cell → Cell
says_truncated size None cell = says_size size None cell
says_truncated size (Some keep) cell =
    with_record 6 (Some (written.Pending Trim)) (says_size size (Some keep) cell)

-- the first cell of a chain, if it says that something is left to be done
abbrev pub pending_cell : List PlacedCell → Option CellAt
pending_cell [] = None
pending_cell (first ∷ rest) = option_map (λ _. first.at) (record_of 6 first.cell.records)

-- the tag's file has that size, and says so which of its pages are stale; it answers where its
-- first cell says that something is left to be done
pub record Truncates (fileset : ℕ) (places : List TagPlace) (tag : Tag) (size : ℕ)
    (at : Option CellAt) (chains : Chains) (new : Pages) : Type 0 where
  pub lowered : Option ℕ
  pub stale : IsSomeAnd (chains tag) (λ chain. IsLowered size chain lowered)
  pub files : AreFiles fileset places new
      (with_chain tag (with_first (says_truncated size lowered)) chains)
  pub pending : IsSomeAnd (chains tag)
      (λ chain. at ≡ pending_cell (with_first (says_truncated size lowered) chain))

-- the same, and all belongs together again
pub record TruncatesTogether (fileset : ℕ) (places : List TagPlace) (tag : Tag) (size : ℕ)
    (space : Spaces) (cells : Cells) (chains : Chains) (new : Pages) : Type 0 where
  pub lowered : Option ℕ
  pub stale : IsSomeAnd (chains tag) (λ chain. IsLowered size chain lowered)
  pub together : AreTogether fileset places space cells new
      (with_chain tag (with_first (says_truncated size lowered)) chains)

-- the same of the chain that begins there
pub record TruncatesChain (size : ℕ) (start : CellAt) (first : PlacedCell) (rest : List PlacedCell)
    (new : Pages) (at : Option CellAt) : Type 0 where
  pub lowered : Option ℕ
  pub stale : IsLowered size (first ∷ rest) lowered
  pub stands : StandsAt new start (says_truncated size lowered first.cell)
  pub pending : at ≡ pending_cell (with_first (says_truncated size lowered) (first ∷ rest))
