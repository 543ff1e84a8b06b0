-- What letting go of the things of a list leaves as it was.
use Rattle.std.specs.Prelude.{◌≡◌, ◌⊎◌, ◌<◌, ℕ, List, Option, Some, None, Contains, IsSomeAnd}
use Rattle.std.specs.Option.{option_map}
use Rattle.release_list.specs.domain_base.declared.place.CellAt.{CellAt}
use Rattle.release_list.specs.cell_records.declared.record.Leftover.TheVariants.{Trim}
use Rattle.release_list.specs.metadata_cells.Chain.{PlacedCell}
use Rattle.release_list.specs.extent_records.Writing.{most_rows}
use Rattle.release_list.specs.file_chains.Files.{places_of}
use Rattle.release_list.specs.fileset_files.Files.{attributes_of, first_record, keep_of}
use Rattle.release_list.specs.declared.list.Entry.{Entry}
use Rattle.release_list.specs.Listed.{left_of, stale_from}
use Rattle.release_list.specs.Listing.{Listing}
use Rattle.release_list.specs.Steps.{Now, kept_all, without_source}
use Rattle.release_steps.specs.Tags.{start_of}

-- no entry is the file's, and none gives it as the clone's file that reads through its own
abbrev pub IsBeside : Listing → CellAt → Type 0
IsBeside list at = (entry : Entry) → Contains list.entries entry
    → (¬ entry.at ≡ at) × (¬ entry.clone ≡ Some at)

-- no entry is the file's
abbrev pub HasNoEntry : Listing → CellAt → Type 0
HasNoEntry list at = (entry : Entry) → Contains list.entries entry → ¬ entry.at ≡ at

-- a page of a file is none of those that go: if an entry is the file's, the page stands before them
abbrev pub Stays : Now → CellAt → ℕ → Type 0
Stays now at page = (entry : Entry) → Contains now.list.entries entry → entry.at ≡ at
    → (chain : List PlacedCell) → now.files at ≡ Some chain → page < stale_from chain

-- a file is there, and its pages before those that go stand where they stood
abbrev pub KeepsFront : List PlacedCell → Option (List PlacedCell) → Type 0
KeepsFront chain now = IsSomeAnd now (λ after. (page : ℕ) → page < stale_from chain
    → places_of after page ≡ places_of chain page)

-- a file is there that keeps all of 65,536 pages, and has nothing left to let go of
abbrev pub KeepsAll : Option (List PlacedCell) → Type 0
KeepsAll now = IsSomeAnd now (λ after. (keep_of after ≡ Some 65536) × (left_of after ≡ None))

-- a file was to be trimmed by an entry of a list, and keeps all now
pub record IsTrimmed (list : Listing) (at : CellAt) (chain after : List PlacedCell) : Type 0 where
  pub entry : Entry
  pub inside : Contains list.entries entry
  pub is : entry.at ≡ at
  pub was : left_of chain ≡ Some Trim
  pub keeps : KeepsAll (Some after)

-- a file keeps as many pages as it did, and the same is left to be done with it; or it was trimmed
abbrev pub KeepsOrIsTrimmed : Listing → CellAt → List PlacedCell → List PlacedCell → Type 0
KeepsOrIsTrimmed list at chain after =
    ((keep_of after ≡ keep_of chain) × (left_of after ≡ left_of chain))
    ⊎ IsTrimmed list at chain after

-- the first cell of a file says the same, but for how many pages the file keeps, through which file
-- it reads, what is left to be done with it, and where its pages stand
pub record SaysTheSame (chain after : List PlacedCell) : Type 0 where
  pub start : start_of after ≡ start_of chain
  pub what : attributes_of after ≡ attributes_of chain
  pub born : option_map kept_all (first_record 1 after) ≡ option_map kept_all (first_record 1 chain)
  pub frozen : option_map without_source (first_record 2 after)
      ≡ option_map without_source (first_record 2 chain)
  pub others : (kind : ℕ) → ¬ kind ≡ 1 → ¬ kind ≡ 2 → ¬ kind ≡ 6 → most_rows kind ≡ 0
      → first_record kind after ≡ first_record kind chain
