-- What the first cell of a directory says of its index.
use Rattle.std.specs.Prelude.{ℕ, List, Option, Some, None}
use Rattle.std.specs.Option.{option_and_then, option_map}
use Rattle.file_chains.specs.cell_records.declared.record.Record.{Record}
use Rattle.file_chains.specs.cell_records.declared.record.Record.TheVariants as written
use Rattle.file_chains.specs.metadata_cells.Cell.{Cell}
use Rattle.file_chains.specs.metadata_cells.Chain.{PlacedCell}
use Rattle.file_chains.specs.Changes.{with_record}
use Rattle.fileset_files.specs.declared.indexing.IndexPlace.{IndexPlace}
use Rattle.fileset_files.specs.Files.{first_record}

-- an index that begins at that page of that volume
abbrev pub index_at : ℕ → ℕ → ℕ → IndexPlace
index_at vol page entries =
    record { first = record { vol = vol; page = page }; entries = entries }

-- where the index begins and how many entries it has, by a record if it is one of an index
abbrev pub index_place_in : Record → Option IndexPlace
index_place_in (written.DirIndex vol page entries) = Some (index_at vol page entries)
index_place_in _ = None

-- where the index of a directory begins and how many entries it has, if its first cell names one
abbrev pub index_place_of : List PlacedCell → Option IndexPlace
index_place_of cells = option_and_then index_place_in (first_record 9 cells)

-- the record that names this index
abbrev pub index_record : IndexPlace → Record
index_record index = written.DirIndex index.first.vol index.first.page index.entries

-- a first cell that says this of a directory's index, or that it has none
abbrev pub says_index : Option IndexPlace → Cell → Cell
says_index index cell = with_record 9 (option_map index_record index) cell
