-- Indexes all of whose pages are read.
use Rattle.std.specs.Prelude.{◌≤◌, ℕ, List}
use Rattle.filesets_reading.specs.domain_base.declared.place.Home.{Home}
use Rattle.filesets_reading.specs.page_store.Pages.{Pages}
use Rattle.filesets_reading.specs.cell_records.Fields.{number_at}
use Rattle.filesets_reading.specs.cell_records.declared.record.Record.{Record}
use Rattle.filesets_reading.specs.cell_records.declared.record.Record.TheVariants.{DirIndex}
use Rattle.filesets_reading.specs.domain_layout.Reached.{Frame, IsRead, IsUnread, index_way}

-- the volume of an index is one that there may be
abbrev pub HasIndexVolume : Record → Type 0
HasIndexVolume (DirIndex vol page entries) = (1 ≤ vol) × (vol ≤ 8)
HasIndexVolume _ = Unit {0}

-- each page that is come to from the first one of an index is read, and leads to none, or to one on
-- a volume that there may be
pub record IsReadIndex (pages : Pages) (frame : Frame) (first : Home) : Type 0 where
  pub read : (home : Home) → ¬ IsUnread pages frame (index_way first) home
  pub next : (place : ℕ) (home : Home) (page : List ℕ)
      → IsRead pages frame (index_way first) place home page → number_at 4 8 page ≤ 8

-- and so by some anchor
abbrev pub IsWholeIndex : Pages → Home → Type 0
IsWholeIndex pages first = (frame : Frame) × IsReadIndex pages frame first
