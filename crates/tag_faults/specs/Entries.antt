-- Used entries of tag directories that may name a cell.
use Rattle.std.specs.Prelude.{◌≡◌, ◌↔◌, ◌+◌, ◌*◌, ◌<◌, ◌≤◌, ℕ, List, Some, Contains}
use Rattle.cell_faults.specs.domain_base.declared.place.CellAt.{CellAt}
use Rattle.cell_faults.specs.domain_base.declared.place.Home.{Home}
use Rattle.cell_faults.specs.domain_base.declared.place.Tag.{Tag}
use Rattle.cell_faults.specs.page_store.Pages.{Pages}
use Rattle.cell_faults.specs.cell_records.Fields.{number_at}
use Rattle.cell_faults.specs.metadata_cells.Cell.{IsFileset}
use Rattle.cell_faults.specs.tag_dirs.TagPage.{slot_of}
use Rattle.cell_faults.specs.fileset_table.Table.{Table}
use Rattle.cell_faults.specs.domain_layout.Reached.{Frame}
use Rattle.cell_faults.specs.domain_layout.TagRules.{HasEntry, IsFirstOf, IsTagsPage}
use Rattle.tag_faults.specs.declared.named.NamedCell.{NamedCell}

-- the tag of an entry, and the address to which it leads
abbrev pub tag_of : NamedCell → Tag
tag_of entry = record { slot = entry.slot; seq = entry.seq }

-- the address to which an entry leads, whatever that is
abbrev pub address_of : NamedCell → CellAt
address_of entry = record { vol = entry.vol; page = entry.page; cell = entry.cell }

-- an entry of a page as a used one
abbrev pub named_at : ℕ → Home → List ℕ → ℕ → NamedCell
named_at number home page entry = record {
  number = number;
  slot = slot_of page entry;
  seq = number_at 2 (16 + 8 * entry) page;
  vol = number_at 1 (18 + 8 * entry) page;
  cell = number_at 1 (19 + 8 * entry) page;
  page = number_at 4 (20 + 8 * entry) page;
  home = home;
}

-- the entry at a place of a page leads to a volume, and may name a cell: its slot is not 0, and it
-- has a sequence
abbrev pub NamesCell : List ℕ → ℕ → Type 0
NamesCell page entry = (¬ number_at 1 (18 + 8 * entry) page ≡ 0)
    × (1 ≤ number_at 2 (16 + 8 * entry) page) × ¬ slot_of page entry ≡ 0

-- it does so, and is this one
abbrev pub IsEntryAt : List ℕ → ℕ → Home → NamedCell → ℕ → Type 0
IsEntryAt page number home one entry =
    NamesCell page entry × (named_at number home page entry ≡ one)

-- so is some entry of a page, of that at a home, and of one of a list
abbrev pub IsEntryOf : List ℕ → ℕ → Home → NamedCell → Type 0
IsEntryOf page number home one =
    (entry : ℕ) × (entry < 1022) × IsEntryAt page number home one entry

-- an entry of the page at a home that may name a cell
abbrev pub IsEntryThere : Pages → ℕ → NamedCell → Home → Type 0
IsEntryThere pages number one home =
    (page : List ℕ) × (pages home ≡ Some page) × IsEntryOf page number home one

-- such an entry of one of these pages
abbrev pub IsEntryAmong : Pages → ℕ → List Home → NamedCell → Type 0
IsEntryAmong pages number homes one =
    (home : Home) × Contains homes home × IsEntryThere pages number one home

-- so is some entry of the directory of a slot
abbrev pub IsEntryIn : Pages → Frame → Table → NamedCell → ℕ → Type 0
IsEntryIn pages frame table one number = (home : Home) × (place : ℕ) × (page : List ℕ)
    × IsTagsPage pages frame table number place home page × IsEntryOf page number home one

-- the entries of all slots that may name a cell
abbrev pub AreEntries : Pages → Frame → Table → List NamedCell → Type 0
AreEntries pages frame table entries = (one : NamedCell) → Contains entries one
    ↔ HasEntry pages frame table one.number (tag_of one) (address_of one) one.home

-- a cell says the fileset and the tag of an entry
abbrev pub SaysEntry : List ℕ → NamedCell → Type 0
SaysEntry bytes entry = IsFileset (number_at 1 14 bytes) (Some entry.number)
    × (number_at 4 8 bytes ≡ entry.slot) × (number_at 2 12 bytes ≡ entry.seq)

-- an entry on a page leads to no first cell of its fileset and tag
abbrev pub LeadsToNoFirst : Pages → Frame → Home → NamedCell → Type 0
LeadsToNoFirst pages frame home entry = (entry.home ≡ home)
    × ¬ IsFirstOf pages frame entry.number (tag_of entry) (address_of entry)
