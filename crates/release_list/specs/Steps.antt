-- The steps in which the things of a list are let go of.
use Rattle.std.specs.Prelude.{◌≡◌, ◌⊎◌, ◌++◌, ◌∷◌, ◌+◌, ◌-◌, ◌||◌, ◌≤◌, ℕ, List, [], Option, Some, None, IsSomeAnd, length, slice_get}
use Rattle.std.specs.Option.{option_map}
use Rattle.file_release.specs.domain_base.declared.place.CellAt.{CellAt}
use Rattle.file_release.specs.domain_base.declared.place.Home.{Home}
use Rattle.file_release.specs.domain_base.declared.version.Version.{Version}
use Rattle.file_release.specs.page_store.Pages.{Pages}
use Rattle.file_release.specs.cell_records.declared.record.Leftover.{Leftover}
use Rattle.file_release.specs.cell_records.declared.record.Leftover.TheVariants.{Trim}
use Rattle.file_release.specs.cell_records.declared.record.Record.{Record}
use Rattle.file_release.specs.cell_records.declared.record.Record.TheVariants as written
use Rattle.file_release.specs.metadata_cells.Cell.{Cell, record_of}
use Rattle.file_release.specs.metadata_cells.CellPage.{KeepsHeaders, KeepsWellFormed}
use Rattle.file_release.specs.metadata_cells.Chain.{LeavesOthers, PlacedCell, StandsAt, is_at}
use Rattle.file_release.specs.page_store.declared.fault.StoreFault.{StoreFault}
use Rattle.file_release.specs.page_store.declared.fault.StoreFault.TheVariants.{NoPage}
use Rattle.file_release.specs.tag_dirs.Directory.{Unlinks}
use Rattle.file_release.specs.free_cells.Cells.{Cells, FreesCell}
use Rattle.file_release.specs.free_space.declared.waiting.PageUse.TheVariants.{Metadata}
use Rattle.file_release.specs.free_space.Spaces.{Spaces, change_volume}
use Rattle.file_release.specs.free_space.VolumeSpace.{with_waiting}
use Rattle.file_release.specs.file_chains.Allocated.{AreAllocated, FindsNone}
use Rattle.file_release.specs.file_chains.Changes.{with_record}
use Rattle.file_release.specs.file_chains.Files.{IsFile}
use Rattle.file_release.specs.file_chains.MapChanges.{ChangesAtMost, LeavesOffTables}
use Rattle.file_release.specs.fileset_files.Changes.{with_first}
use Rattle.file_release.specs.declared.reader.Reader.{Reader}
use Rattle.file_release.specs.declared.released.Released.{Released}
use Rattle.file_release.specs.Releases.{LacksPlace, LeavesBoth, Releases}
use Rattle.file_release.specs.Sharing.{IsReleased, frozen_of}
use Rattle.release_list.specs.declared.list.Entry.{Entry}
use Rattle.release_list.specs.declared.went.Went.{Went}
use Rattle.release_list.specs.declared.went.Went.TheVariants as went
use Rattle.release_list.specs.Listed.{GoesWhole, IsListed, from_by, left_of, stale_from}
use Rattle.release_list.specs.Listing.{Listing, without_clone}
use Rattle.release_list.specs.Standing.{Files, IsQuotas, StandTogether, source_of, with_file}

-- what a step changes: the list, the files of the domain, free space, free cells and pages
pub record Now : Type 0 where
  pub list : Listing
  pub files : Files
  pub space : Spaces
  pub cells : Cells
  pub pages : Pages

abbrev pub now_of : Listing → Files → Spaces → Cells → Pages → Now
now_of list files space cells pages = record {
  list = list;
  files = files;
  space = space;
  cells = cells;
  pages = pages;
}

-- all belongs together, and the list is one of these files
pub record IsWell (now : Now) : Type 0 where
  pub together : StandTogether now.space now.cells now.pages now.files
  pub listed : IsListed now.space now.cells now.files now.list

-- the entry is the last of a list's
abbrev pub IsLast : List Entry → Entry → Listing → Type 0
IsLast front entry list = list.entries ≡ front ++ entry ∷ []

-- the reader is the clone's file that is given with an entry, and its chain
abbrev pub IsGiven : Files → Option CellAt → Option Reader → List PlacedCell → Type 0
IsGiven files None None own = own ≡ []
IsGiven files None (Some reader) own = ⊥
IsGiven files (Some clone) None own = ⊥
IsGiven files (Some clone) (Some reader) own = (reader.at ≡ clone) × (files clone ≡ Some own)
    × IsSomeAnd (source_of own) (λ source. source.frozen ≡ reader.frozen)

-- a reader is that clone's file, with as many frozen pages as its first cell says
abbrev pub ReadsFrozen : CellAt → List PlacedCell → Option Reader → Type 0
ReadsFrozen at own reader = IsSomeAnd reader (λ r. (r.at ≡ at)
    × IsSomeAnd (source_of own) (λ source. source.frozen ≡ r.frozen))

-- the files with this chain for a clone's, if there is a clone
abbrev pub with_clone : Option CellAt → List PlacedCell → Files → Files
with_clone None own files = files
with_clone (Some clone) own files = with_file clone (Some own) files

-- pages of the last entry's file go that are stale, or a cell: what its clone reads of them is
-- handed to that, and all else is given back; free cells, free space and pages belong together
pub record LetsPages (group : ℕ) (version : Version) (old new : Now) : Type 0 where
  pub front : List Entry
  pub entry : Entry
  pub last : IsLast front entry old.list
  pub chain : List PlacedCell
  pub is : old.files entry.at ≡ Some chain
  pub file : IsFile old.pages entry.at chain
  pub reader : Option Reader
  pub own : List PlacedCell
  pub given : IsGiven old.files entry.clone reader own
  pub what : Released
  pub releases : Releases (stale_from chain) entry.at reader group version chain own old.space
      new.space old.cells new.cells old.pages new.pages what
  pub files : new.files ≡ with_file entry.at (Some releases.after)
      (with_clone entry.clone releases.own_now old.files)
  pub same_list : new.list ≡ old.list
  pub allocated : AreAllocated new.space new.cells new.pages
  pub others : LeavesBoth old.cells chain own old.pages new.pages
  pub elsewhere : LeavesOffTables new.cells old.pages new.pages

-- a cell that leads to another one
abbrev pub leads_to : Option CellAt → PlacedCell → PlacedCell
leads_to next c = record {
  at = c.at;
  cell = record c.cell { head = record c.cell.head { next = next } };
}

-- the second of the last entry's quota cells goes: it is free, and the first leads past it
pub record LosesQuotaCell (old new : Now) : Type 0 where
  pub front : List Entry
  pub entry : Entry
  pub last : IsLast front entry old.list
  pub first : PlacedCell
  pub second : PlacedCell
  pub rest : List PlacedCell
  pub is : old.files entry.at ≡ Some (first ∷ second ∷ rest)
  pub quotas : IsQuotas old.pages entry.at (first ∷ second ∷ rest)
  pub after : List PlacedCell
  pub after_is : after ≡ leads_to second.cell.head.next first ∷ rest
  pub stands : IsQuotas new.pages entry.at after
  pub files : new.files ≡ with_file entry.at (Some after) old.files
  pub same_list : new.list ≡ old.list
  pub same_space : new.space ≡ old.space
  pub frees : FreesCell second.at old.cells new.cells
  pub allocated : AreAllocated new.space new.cells new.pages
  pub others : LeavesOthers (λ at. is_at first.at at || is_at second.at at) old.pages new.pages
  pub elsewhere : LeavesOffTables new.cells old.pages new.pages
  pub few : ChangesAtMost 2 old.pages new.pages

-- a record of attributes that says that all pages are kept
abbrev pub kept_all : Record → Record
kept_all (written.Attributes kind uid gid flags size keep links birth unsynced) =
    written.Attributes kind uid gid flags size 65536 links birth unsynced
kept_all r = r

-- a first cell that says that it keeps all, and that nothing is left to be done
abbrev pub says_trimmed : Cell → Cell
says_trimmed cell =
    with_record 6 None (with_record 1 (option_map kept_all (record_of 1 cell.records)) cell)

-- no page of the last entry's file is stale any more: its first cell says so, it keeps all from
-- now on, and the entry goes
pub record EndsTrim (old new : Now) : Type 0 where
  pub front : List Entry
  pub entry : Entry
  pub last : IsLast front entry old.list
  pub chain : List PlacedCell
  pub is : old.files entry.at ≡ Some chain
  pub trim : left_of chain ≡ Some Trim
  pub done : IsReleased (stale_from chain) chain
  pub files : new.files ≡ with_file entry.at (Some (with_first says_trimmed chain)) old.files
  pub list : new.list ≡ record { entries = front; tag_pages = old.list.tag_pages }
  pub same_space : new.space ≡ old.space
  pub same_cells : new.cells ≡ old.cells
  pub stands : (cell : Cell) → StandsAt old.pages entry.at cell
      → StandsAt new.pages entry.at (says_trimmed cell)
  pub well_formed : KeepsWellFormed old.pages new.pages
  pub headers : KeepsHeaders old.pages new.pages
  pub others : LeavesOthers (is_at entry.at) old.pages new.pages
  pub elsewhere : LeavesOffTables new.cells old.pages new.pages
  pub few : ChangesAtMost 1 old.pages new.pages

-- a record of a clone's file that says that it reads through none
abbrev pub without_source : Record → Record
without_source (written.CloneFile vol cell page frozen) = written.CloneFile 0 0 0 frozen
without_source r = r

abbrev pub says_no_source : Cell → Cell
says_no_source cell = with_record 2 (option_map without_source (record_of 2 cell.records)) cell

-- the last entry's file goes and has no page left: its clone reads through it no more, which the
-- clone's first cell says
pub record EndsReading (old new : Now) : Type 0 where
  pub front : List Entry
  pub entry : Entry
  pub last : IsLast front entry old.list
  pub chain : List PlacedCell
  pub is : old.files entry.at ≡ Some chain
  pub whole : GoesWhole chain
  pub done : IsReleased 0 chain
  pub clone : CellAt
  pub given : entry.clone ≡ Some clone
  pub own : List PlacedCell
  pub own_is : old.files clone ≡ Some own
  pub files : new.files ≡ with_file clone (Some (with_first says_no_source own)) old.files
  pub list : new.list ≡ record {
    entries = front ++ record entry { clone = None } ∷ [];
    tag_pages = old.list.tag_pages;
  }
  pub same_space : new.space ≡ old.space
  pub same_cells : new.cells ≡ old.cells
  pub stands : (cell : Cell) → StandsAt old.pages clone cell
      → StandsAt new.pages clone (says_no_source cell)
  pub well_formed : KeepsWellFormed old.pages new.pages
  pub headers : KeepsHeaders old.pages new.pages
  pub others : LeavesOthers (is_at clone) old.pages new.pages
  pub elsewhere : LeavesOffTables new.cells old.pages new.pages
  pub few : ChangesAtMost 1 old.pages new.pages

-- the last entry's file goes, or its quota cells, has no page left and no clone: its last cell is
-- free, nothing is left of it, and no entry gives it as its clone's any more
pub record EndsFile (old new : Now) : Type 0 where
  pub front : List Entry
  pub entry : Entry
  pub last : IsLast front entry old.list
  pub chain : List PlacedCell
  pub is : old.files entry.at ≡ Some chain
  pub whole : GoesWhole chain
  pub done : IsReleased 0 chain
  pub alone : entry.clone ≡ None
  pub files : new.files ≡ with_file entry.at None old.files
  pub list : new.list ≡ record {
    entries = without_clone entry.at front;
    tag_pages = old.list.tag_pages;
  }
  pub frees : FreesCell entry.at old.cells new.cells
  pub same_space : new.space ≡ old.space
  pub allocated : AreAllocated new.space new.cells new.pages
  pub others : LeavesOthers (is_at entry.at) old.pages new.pages
  pub elsewhere : LeavesOffTables new.cells old.pages new.pages
  pub few : ChangesAtMost 1 old.pages new.pages

-- the last of some homes
abbrev pub last_home : List Home → Option Home
last_home homes = slice_get homes (length homes - 1)

-- the last page of a tag directory on a list is on it no more, and waits as metadata; and the page
-- before it on the list leads to it no more
pub record TakesTagPage (group : ℕ) (list list_now : Listing) (space space_now : Spaces)
    (old new : Pages) : Type 0 where
  pub front : List Home
  pub home : Home
  pub last : list.tag_pages ≡ front ++ home ∷ []
  pub is : list_now ≡ record { entries = list.entries; tag_pages = front }
  pub waits : space_now ≡ change_volume (with_waiting (record {
    page = home.page;
    kind = Metadata;
    group = group;
  })) space home.vol
  pub unlinks : Unlinks (last_home front) home old new

-- no file is on the list, and a page of a tag directory goes
pub record GivesTagPage (group : ℕ) (old new : Now) : Type 0 where
  pub no_entry : old.list.entries ≡ []
  pub takes : TakesTagPage group old.list new.list old.space new.space old.pages new.pages
  pub same_files : new.files ≡ old.files
  pub same_cells : new.cells ≡ old.cells

-- something of a list is let go of
pub data Step (group : ℕ) (version : Version) (old new : Now) : Type 0 where
  pages_go : LetsPages group version old new → Step group version old new
  quota_goes : LosesQuotaCell old new → Step group version old new
  trim_ends : EndsTrim old new → Step group version old new
  reading_ends : EndsReading old new → Step group version old new
  file_ends : EndsFile old new → Step group version old new
  tag_page_goes : GivesTagPage group old new → Step group version old new

-- this number of steps, one after the other
pub data Steps (group : ℕ) (version : Version) (first : Now) : ℕ → Now → Type 0 where
  none : Steps group version first 0 first
  more : (n : ℕ) (between last : Now) → Steps group version first n between
      → Step group version between last → Steps group version first (n + 1) last

-- ** What a call answers

-- how many pages of metadata the next step changes at most: two, and five where a clone's file is
-- given, to which a page may be handed over
abbrev pub pages_beside : Option CellAt → ℕ
pages_beside None = 2
pages_beside (Some clone) = 5

-- how many pages of metadata a step of this entry changes at most: two, or five if a page may be
-- handed to a clone
abbrev pub pages_of_entry : Option Entry → ℕ
pages_of_entry None = 2
pages_of_entry (Some entry) = pages_beside entry.clone

-- how many pages of metadata the next step of a list changes at most
abbrev pub step_pages : Listing → ℕ
step_pages list = pages_of_entry (slice_get list.entries (length list.entries - 1))

-- what a step of an entry leaves of it: all, all but its clone, or nothing; and of the others all,
-- except a clone that has nothing left
abbrev pub list_after : Went → List Entry → Entry → Listing → Listing
list_after went.Part front entry list = list
list_after went.Reading front entry list = record {
  entries = front ++ record entry { clone = None } ∷ [];
  tag_pages = list.tag_pages;
}
list_after went.Last front entry list = record { entries = front; tag_pages = list.tag_pages }
list_after went.File front entry list = record {
  entries = without_clone entry.at front;
  tag_pages = list.tag_pages;
}

-- a cell in use stands there that has a record of a kind
pub record HasRecord (kind : ℕ) (pages : Pages) (at : CellAt) : Type 0 where
  pub cell : Cell
  pub stands : StandsAt pages at cell
  pub value : Record
  pub has : record_of kind cell.records ≡ Some value

-- all is well, and the entry is the last of the list
pub record HasEntry (front : List Entry) (entry : Entry) (now : Now) : Type 0 where
  pub last : IsLast front entry now.list
  pub well : IsWell now

-- all is well, the entry is the last of the list, and its file has let go of all that it was asked
-- to
pub record IsEnding (front : List Entry) (entry : Entry) (left : Option Leftover) (now : Now)
    : Type 0 where
  pub has : HasEntry front entry now
  pub chain : List PlacedCell
  pub is : now.files entry.at ≡ Some chain
  pub file : IsFile now.pages entry.at chain
  pub left_is : left_of chain ≡ left
  pub done : IsReleased (from_by left chain) chain

-- all is well, the entry is the last of the list, all of its file goes, and the file has let go of
-- all its pages
pub record IsEndingWhole (front : List Entry) (entry : Entry) (now : Now) : Type 0 where
  pub has : HasEntry front entry now
  pub chain : List PlacedCell
  pub is : now.files entry.at ≡ Some chain
  pub whole : GoesWhole chain
  pub done : IsReleased 0 chain

-- all is well, and the list's last entry is of quota cells
pub record HasQuotas (front : List Entry) (entry : Entry) (now : Now) : Type 0 where
  pub has : HasEntry front entry now
  pub chain : List PlacedCell
  pub is : now.files entry.at ≡ Some chain
  pub quotas : IsQuotas now.pages entry.at chain

-- or it is of a file
pub record HasFileEntry (front : List Entry) (entry : Entry) (now : Now) : Type 0 where
  pub has : HasEntry front entry now
  pub file : (chain : List PlacedCell) → now.files entry.at ≡ Some chain
      → IsFile now.pages entry.at chain

-- a step leads to a list and files that belong together
pub record Leaves (group : ℕ) (version : Version) (old : Now) (list : Listing) (space : Spaces)
    (cells : Cells) (pages : Pages) : Type 0 where
  pub files : Files
  pub step : Step group version old (now_of list files space cells pages)
  pub well : IsWell (now_of list files space cells pages)

-- this number of steps leads to a list and files that belong together
pub record LeadsTo (group : ℕ) (version : Version) (first : Now) (count : ℕ) (list : Listing)
    (space : Spaces) (cells : Cells) (pages : Pages) : Type 0 where
  pub files : Files
  pub steps : Steps group version first count (now_of list files space cells pages)
  pub well : IsWell (now_of list files space cells pages)

-- the last entry's clone reads a page through its file that no record of the clone's chain can have
pub record LacksRoom (list : Listing) (files : Files) : Type 0 where
  pub front : List Entry
  pub entry : Entry
  pub last : IsLast front entry list
  pub chain : List PlacedCell
  pub is : files entry.at ≡ Some chain
  pub reader : Option Reader
  pub own : List PlacedCell
  pub given : IsGiven files entry.clone reader own
  pub lacks : LacksPlace (stale_from chain) (frozen_of reader) chain own

-- this number of steps was done, at least one, and then one was not done, because no page was free
-- or memory was short
pub record StopsAfter (group : ℕ) (version : Version) (first : Now) (count : ℕ) (list : Listing)
    (space : Spaces) (cells : Cells) (pages : Pages) : Type 0 where
  pub some : 1 ≤ count
  pub files : Files
  pub before : Spaces
  pub steps : Steps group version first count (now_of list files before cells pages)
  pub fault : StoreFault
  pub cause : FindsNone before space cells fault
  pub full : fault ≡ NoPage → LacksRoom list files
  pub well : IsWell (now_of list files space cells pages)

-- this number of steps was done, and no other
abbrev pub LetsGo : ℕ → Version → Now → ℕ → Listing → Spaces → Cells → Pages → Type 0
LetsGo group version first count list space cells pages =
    LeadsTo group version first count list space cells pages
    ⊎ StopsAfter group version first count list space cells pages
