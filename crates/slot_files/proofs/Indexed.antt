-- The indexes that were read of a fileset's files are those that the layout says.
use Rattle.std.proofs.Common.{◌≡◌, ◌∙◌, ◌⊎◌, ◌↔◌, ℕ, ◌+◌, ◌<◌, ◌≤◌, Bool, List, [], ◌∷◌, ◌++◌, length, Option, Some, None, IsSome, IsTrue, cond, IsSomeAnd, Contains, slice_get, refl, sym, ap, subst, arith, ⊎_elim}
use Rattle.std.specs.Option.{option_and_then}
use Rattle.std.proofs.lemmas.Bool.{cases_lt}
use Rattle.std.proofs.lemmas.Option.{slice_get_within}
use Rattle.std.proofs.lemmas.List.Elements.{Contains-append_left, Contains-push, Contains-push_cases}
use Rattle.index_row_faults.specs.domain_base.declared.place.CellAt.{CellAt}
use Rattle.index_row_faults.specs.domain_base.declared.place.Home.{Home}
use Rattle.index_row_faults.specs.domain_base.declared.place.Tag.{Tag}
use Rattle.index_row_faults.specs.page_store.Pages.{Pages}
use Rattle.index_row_faults.specs.cell_records.declared.record.Record.{Record}
use Rattle.index_row_faults.specs.cell_records.declared.record.Record.TheVariants as written
use Rattle.index_row_faults.specs.metadata_cells.Chain.{LinksFrom, PlacedCell}
use Rattle.index_row_faults.specs.fileset_files.Files.{first_record}
use Rattle.index_row_faults.specs.fileset_files.Shown.{index_in}
use Rattle.index_row_faults.specs.fileset_files.declared.attributes.Attributes.{Attributes}
use Rattle.index_row_faults.specs.tag_dirs.Directory.{cell_of}
use Rattle.index_row_faults.specs.fileset_table.Table.{Table, entry_of as fileset_of}
use Rattle.index_row_faults.specs.fileset_table.declared.slot.FilesetEntry.{FilesetEntry}
use Rattle.index_row_faults.specs.fileset_table.declared.slot.SlotItem.{SlotItem}
use Rattle.index_row_faults.specs.fileset_table.declared.slot.SlotItem.TheVariants as slot
use Rattle.index_row_faults.specs.domain_layout.DirectoryRules.{Has, IsInClone, IsInItem, IsThere, total_in}
use Rattle.index_row_faults.specs.domain_layout.Faults.{HasNoTablesFault}
use Rattle.index_row_faults.specs.domain_layout.Reached.{Frame}
use Rattle.index_row_faults.specs.domain_layout.Seen.{SeenFile}
use Rattle.index_row_faults.proofs.OfDomainLayout.Files.{tags_of}
use Rattle.index_row_faults.proofs.OfDomainLayout.Named.{first_there}
use Rattle.index_row_faults.proofs.OfDomainLayout.OnePage.{some_same}
use Rattle.index_row_faults.specs.filesets_reading.Chains.{HasLinks}
use Rattle.index_row_faults.specs.filesets_reading.Tables.{AreTablesOf}
use Rattle.index_row_faults.specs.filesets_reading.declared.tables.DomainTables.{DomainTables}
use Rattle.index_row_faults.proofs.OfFilesetsReading.Unbroken.{unbroken}
use Rattle.index_row_faults.proofs.OfPageFaults.HomesFound.{on_volume}
use Rattle.index_row_faults.specs.directory_faults.There.{AreFilesIn, BeginAt, IsReadAs, IsReadFile}
use Rattle.index_row_faults.specs.directory_faults.declared.there.FileThere.{FileThere}
use Rattle.index_row_faults.proofs.OfDirectoryFaults.Inserted.{among_at, at_among}
use Rattle.index_row_faults.specs.There.{AreIndexesIn, MayBeOf}
use Rattle.index_row_faults.specs.declared.there.IndexThere.{IndexThere}
use Rattle.slot_files.specs.Files.{IsWhole}
use Rattle.slot_files.specs.Indexes.{AreIndexesOf, AreWhole, IsIndexOf, MayHaveIndex, Names, ReadsIndex, said_by, said_of}
use Rattle.slot_files.specs.declared.indexes.SaidIndex.{SaidIndex}
use Rattle.slot_files.proofs.SlotFiles.{none as no_fault, slot_there}

none_some : {P : Type 0} {X : Type 0} (x : X) → None ≡ Some x → P
none_some x is = absurd (cc)

-- ---- what a cell names

names_by : (o : Option Record) (said : SaidIndex) → option_and_then said_by o ≡ Some said → (value : Record) × (o ≡ Some value) × (index_in value ≡ Some said.first) × (total_in value ≡ said.total)
names_by None said is = none_some said is
names_by (Some (written.DirIndex vol page entries)) said is =
    let one : SaidIndex = record { first = record { vol = vol; page = page }; total = entries } in
    let same : one ≡ said = some_same one said is in
    (written.DirIndex vol page entries, refl, ap (λ (s : SaidIndex). Some s.first) same, ap (λ (s : SaidIndex). s.total) same)
names_by (Some _) said is = none_some said is

pub said_names : (cells : List PlacedCell) (said : SaidIndex) → said_of cells ≡ Some said → Names cells said.first said.total
said_names cells said is = names_by (first_record 9 cells) said is

by_names : (value : Record) (first : Home) (total : ℕ) → index_in value ≡ Some first → total_in value ≡ total → said_by value ≡ Some (record { first = first; total = total })
by_names (written.DirIndex vol page entries) first total begins counts =
    let home : Home = record { vol = vol; page = page } in
    let same : home ≡ first = some_same home first begins in
    λ i. Some (record { first = same i; total = counts i })
by_names _ first total begins counts = none_some first begins

pub names_said : (cells : List PlacedCell) (first : Home) (total : ℕ) → Names cells first total → said_of cells ≡ Some (record { first = first; total = total })
names_said cells first total (value, there, begins, counts) = ap (option_and_then said_by) there ∙ by_names value first total begins counts

-- where it stands is a volume
pub links_index : (pages : Pages) (at : CellAt) (vol page entries : ℕ) → HasLinks pages at → ((cells : List PlacedCell) → LinksFrom pages at cells → Some (written.DirIndex vol page entries) ≡ first_record 9 cells) → (1 ≤ vol) × (vol ≤ 8)
links_index pages at vol page entries has same = by_cells has.0 has.1 (same has.0 has.1)
  where
    by_cells : (cells : List PlacedCell) → LinksFrom pages at cells → Some (written.DirIndex vol page entries) ≡ first_record 9 cells → (1 ≤ vol) × (vol ≤ 8)
    by_cells [] is there = absurd is
    by_cells (first ∷ rest) is there = on_volume pages first.at first.cell is.1.stands vol page entries (sym there)

-- ---- what was read of a file

pub reads_none : (pages : Pages) (file : FileThere) → ((cells : List PlacedCell) → LinksFrom pages file.at cells → None ≡ said_of cells) → ReadsIndex pages file None
reads_none pages file none = record {
  each = tt;
  all = λ cells first total links names. none_some (record { first = first; total = total }) (none cells links ∙ names_said cells first total names);
}

pub reads_one : (pages : Pages) (file : FileThere) (said : SaidIndex) (may : Bool) → HasLinks pages file.at → ((cells : List PlacedCell) → LinksFrom pages file.at cells → Some said ≡ said_of cells)
    → IsTrue may ↔ MayHaveIndex file → ReadsIndex pages file (Some (record { tag = file.tag; first = said.first; total = said.total; may_be = may }))
reads_one pages file said may has same may_be = record {
  each = record { tag_is = refl; names = λ cells links. said_names cells said (sym (same cells links)); may_be = may_be };
  all = λ cells first total links names.
      let one : SaidIndex = record { first = first; total = total } in
      let both : said ≡ one = some_same said one (same cells links ∙ names_said cells first total names) in
      (ap (λ (s : SaidIndex). s.first) both, ap (λ (s : SaidIndex). s.total) both);
}

-- where the file of these cells was read, and may have an index, the index may be there
may_of : (frame : Frame) (cells : List PlacedCell) (seen : SeenFile) (file : FileThere) (index : IndexThere) → IsReadAs frame cells seen file → IsTrue index.may_be ↔ MayHaveIndex file → MayBeOf seen index
may_of frame cells seen file index read may = (
  (λ yes. let both = may.0 yes in let dir = ap (λ (a : Attributes). a.kind) (sym read.is) ∙ both.0 in (dir, (read.second dir).0 both.1)),
  (λ (dir, second). may.1 (ap (λ (a : Attributes). a.kind) read.is ∙ dir, (read.second dir).1 second)),
)

-- ---- a file of a fileset

-- its chain begins at the cell to which its tag leads
one_begin : (pages : Pages) (cells : List PlacedCell) (at place : CellAt) → LinksFrom pages at cells → BeginAt cells place → place ≡ at
one_begin pages [] at place links begins = absurd links
one_begin pages (first ∷ rest) at place links begins = sym begins ∙ links.0

links_there : (pages : Pages) (entry : FilesetEntry) (tag : Tag) (cells : List PlacedCell) (place : CellAt) → IsThere pages entry tag cells → BeginAt cells place → LinksFrom pages place cells
links_there pages entry tag cells place is begins = by_cell (cell_of pages is.places tag) is.leads
  where
    by_cell : (o : Option CellAt) → IsSomeAnd o (λ at. LinksFrom pages at cells) → LinksFrom pages place cells
    by_cell None leads = absurd leads
    by_cell (Some at) leads = subst (λ a. LinksFrom pages a cells) (sym (one_begin pages cells at place leads begins)) leads

module _ (pages : Pages) (table : Table) (number : ℕ) where
  links_at : (tag : Tag) (cells : List PlacedCell) (seen : SeenFile) (place : CellAt) → Has pages table number tag cells seen → BeginAt cells place → LinksFrom pages place cells
  links_at tag cells seen place has begins = by_item has.item has.is
    where
      by_entry : (clone : ℕ) (entry : FilesetEntry) (o : Option FilesetEntry) → IsSomeAnd o (λ original. IsInClone pages entry original clone tag cells seen) → LinksFrom pages place cells
      by_entry clone entry None is = absurd is
      by_entry clone entry (Some original) is =
          ⊎_elim (λ own. links_there pages entry tag cells place own.0 begins) (λ behind. links_there pages original tag cells place behind.1 begins) is.is

      by_item : (item : SlotItem) → IsInItem pages table item tag cells seen → LinksFrom pages place cells
      by_item slot.Free is = absurd is
      by_item (slot.Original entry) is = links_there pages entry tag cells place is.there begins
      by_item (slot.Clone of clone entry) is = by_entry clone entry (option_and_then fileset_of (slice_get table.slots of)) is
      by_item (slot.Removed first quota) is = absurd is

module _ (pages : Pages) (frame : Frame) (table : Table) (number : ℕ) (files : List FileThere) (are : AreFilesIn pages frame table number files) (indexes : List IndexThere) (read : AreIndexesOf pages files indexes) where
  pub indexes_in : AreIndexesIn pages table number indexes
  indexes_in = record {
    each = λ index among.
        let (file, within, is) = read.each index among in
        let its = are.each file within in
        let links = links_at pages table number file.tag its.cells its.seen file.at its.has its.read.begins in
        let (value, record_is, begins, entries) = is.names its.cells links in
        record {
          seen = its.seen;
          has = record {
            cells = its.cells;
            has = subst (λ (t : Tag). Has pages table number t its.cells its.seen) (sym is.tag_is) its.has;
            value = value;
            there = record_is;
            begins = begins;
            entries = entries;
          };
          may_be = may_of frame its.cells its.seen file index its.read is.may_be;
        };
    all = λ tag seen first total has.
        let was = are.all tag has.cells seen has.has in
        let file = was.file in
        let its = subst (λ (t : Tag). Has pages table number t has.cells seen) (sym was.tag_is) has.has in
        let links = links_at pages table number file.tag has.cells seen file.at its was.read.begins in
        let (index, among, is, first_is, total_is) = read.all file has.cells first total was.among links (has.value, has.there, has.begins, has.entries) in
        record {
          index = index;
          among = among;
          tag_is = is.tag_is ∙ was.tag_is;
          first_is = first_is;
          total_is = total_is;
          may_be = may_of frame has.cells seen file index was.read is.may_be;
        };
  }

-- ---- whole chains

module _ (pages : Pages) (frame : Frame) (tables : DomainTables) (are : AreTablesOf pages frame tables) (fault : HasNoTablesFault pages frame) (number : ℕ) (files : List FileThere) (read : AreFilesIn pages frame tables.filesets number files) where
  whole_there : (n : ℕ) (item : SlotItem) (entry : FilesetEntry) → slice_get tables.filesets.slots n ≡ Some item → fileset_of item ≡ Some entry → (tag : Tag) (cells : List PlacedCell) (place : CellAt) → IsThere pages entry tag cells → BeginAt cells place → IsWhole pages place
  whole_there n item entry there entry_is tag cells place is begins = by_cell (cell_of pages is.places tag) refl is.leads
    where
      by_cell : (o : Option CellAt) → cell_of pages is.places tag ≡ o → IsSomeAnd o (λ at. LinksFrom pages at cells) → IsWhole pages place
      by_cell None none_there leads = absurd leads
      by_cell (Some at) leads_there leads = subst (IsWhole pages) (sym (one_begin pages cells at place leads begins)) (λ broken.
          unbroken pages are.layout are.laid (no_fault pages frame tables are fault) n tag at
          (first_there pages are.layout are.laid (no_fault pages frame tables are fault) n entry.first_tag (record { item = item; there = slot_there pages frame tables are fault n item there; has = tags_of item entry entry_is }) is.places is.directory tag at leads_there) broken)

  pub files_whole : AreWhole pages files
  files_whole file among = by_item its.has.item its.has.there its.has.is
    where
      its : IsReadFile pages frame tables.filesets number file
      its = read.each file among

      by_entry : (of clone : ℕ) (entry : FilesetEntry) (item : SlotItem) → slice_get tables.filesets.slots number ≡ Some item → fileset_of item ≡ Some entry → (o : Option SlotItem) → slice_get tables.filesets.slots of ≡ o → (e : Option FilesetEntry) → option_and_then fileset_of o ≡ e
          → IsSomeAnd e (λ original. IsInClone pages entry original clone file.tag its.cells its.seen) → IsWhole pages file.at
      by_entry of clone entry item there own_is o behind None none is = absurd is
      by_entry of clone entry item there own_is None behind (Some original) some is = none_some original some
      by_entry of clone entry item there own_is (Some other) behind (Some original) some is =
          ⊎_elim (λ own. whole_there number item entry there own_is file.tag its.cells file.at own.0 its.read.begins)
          (λ through. whole_there of other original behind some file.tag its.cells file.at through.1 its.read.begins) is.is

      by_item : (item : SlotItem) → slice_get tables.filesets.slots number ≡ Some item → IsInItem pages tables.filesets item file.tag its.cells its.seen → IsWhole pages file.at
      by_item slot.Free there is = absurd is
      by_item (slot.Original entry) there is = whole_there number (slot.Original entry) entry there refl file.tag its.cells file.at is.there its.read.begins
      by_item (slot.Clone of clone entry) there is =
          by_entry of clone entry (slot.Clone of clone entry) there refl (slice_get tables.filesets.slots of) refl (option_and_then fileset_of (slice_get tables.filesets.slots of)) refl is
      by_item (slot.Removed first quota) there is = absurd is

-- ---- files one after the other

module _ (pages : Pages) (files : List FileThere) where
  -- the indexes of the first files
  pub record AreIndexesBefore (number : ℕ) (indexes : List IndexThere) : Type 0 where
    pub each : (index : IndexThere) → Contains indexes index → (file : FileThere) × Contains files file × IsIndexOf pages file index
    pub all : (k : ℕ) (file : FileThere) → k < number → slice_get files k ≡ Some file → (cells : List PlacedCell) (first : Home) (total : ℕ) → LinksFrom pages file.at cells → Names cells first total
        → (index : IndexThere) × Contains indexes index × IsIndexOf pages file index × (index.first ≡ first) × (index.total ≡ total)

  pub before_none : AreIndexesBefore 0 []
  before_none = record { each = λ index among. absurd (omega (arith, among.1)); all = λ k file below at cells first total links names. absurd (omega (arith, below)) }

  module _ (number : ℕ) (file : FileThere) (at : slice_get files number ≡ Some file) (indexes : List IndexThere) (are : AreIndexesBefore number indexes) where
    here : (k : ℕ) (other : FileThere) → k < number + 1 → number ≤ k → slice_get files k ≡ Some other → other ≡ file
    here k other below far there =
        let same : k ≡ number = omega (arith, below, far) in
        some_same other file (sym there ∙ ap (slice_get files) same ∙ at)

    pub before_same : ReadsIndex pages file None → AreIndexesBefore (number + 1) indexes
    before_same reads = record {
      each = are.each;
      all = λ k other below there cells first total links names.
          ⊎_elim (λ low. are.all k other low there cells first total links names)
          (λ far. absurd (reads.all cells first total (subst (λ (f : FileThere). LinksFrom pages f.at cells) (here k other below far there) links) names))
          (cases_lt k number);
    }

    pub before_one : (index : IndexThere) → ReadsIndex pages file (Some index) → AreIndexesBefore (number + 1) (indexes ++ index ∷ [])
    before_one index reads = record {
      each = λ one among.
          ⊎_elim (λ front. are.each one front)
          (λ last. subst (λ (i : IndexThere). (f : FileThere) × Contains files f × IsIndexOf pages f i) last (file, at_among files number file at, reads.each))
          (Contains-push_cases indexes index one among);
      all = λ k other below there cells first total links names.
          ⊎_elim
          (λ low.
          let (one, among, is, first_is, total_is) = are.all k other low there cells first total links names in
          (one, Contains-append_left indexes (index ∷ []) one among, is, first_is, total_is))
          (λ far.
          let same = here k other below far there in
          let both = reads.all cells first total (subst (λ (f : FileThere). LinksFrom pages f.at cells) same links) names in
          (index, Contains-push indexes index, subst (λ (f : FileThere). IsIndexOf pages f index) (sym same) reads.each, both.0, both.1))
          (cases_lt k number);
    }

  pub all_before : (count : ℕ) (indexes : List IndexThere) → length files ≤ count → AreIndexesBefore count indexes → AreIndexesOf pages files indexes
  all_before count indexes whole are = record {
    each = are.each;
    all = λ file cells first total among links names.
        let (k, at) = among_at files file among in
        are.all k file (omega (arith, whole, slice_get_within files k file at)) at cells first total links names;
  }
