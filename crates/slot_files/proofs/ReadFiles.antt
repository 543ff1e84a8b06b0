-- What was read of a file by its first cell is what its cells say.
use Rattle.std.proofs.Common.{◌≡◌, ◌∙◌, ◌⊎◌, ◌↔◌, ℕ, Bool, true, false, cond, nat_lt, List, [], ◌∷◌, Option, Some, None, Result, Ok, Err, IfOk, IfSome, IsTrue, refl, sym, ap, subst}
use Rattle.std.specs.Option.{option_and_then, option_map, option_map_or}
use Rattle.index_row_faults.specs.domain_base.declared.place.CellAt.{CellAt}
use Rattle.index_row_faults.specs.domain_base.declared.place.Home.{Home}
use Rattle.index_row_faults.specs.domain_base.declared.place.Kind.{Kind}
use Rattle.index_row_faults.specs.domain_base.declared.place.Kind.TheVariants.{Directory, File}
use Rattle.index_row_faults.specs.domain_base.declared.place.Tag.{Tag}
use Rattle.index_row_faults.specs.page_store.Pages.{Pages}
use Rattle.index_row_faults.specs.cell_records.declared.record.Record.{Record}
use Rattle.index_row_faults.specs.metadata_cells.Chain.{LinksFrom, PlacedCell}
use Rattle.index_row_faults.specs.file_chains.Files.{places_of}
use Rattle.index_row_faults.specs.fileset_files.Files.{attributes_of, first_record, is_removed, keep_of}
use Rattle.index_row_faults.specs.fileset_files.declared.attributes.Attributes.{Attributes}
use Rattle.index_row_faults.specs.file_release.Reading.{own_or, read_home}
use Rattle.index_row_faults.specs.metadata_cells.Chain.{records_of}
use Rattle.index_row_faults.specs.metadata_cells.Reading.{ReadsChain}
use Rattle.index_row_faults.proofs.OfMetadataCells.Linked.{linked}
use Rattle.index_row_faults.specs.extent_maps.Runs.{Places, home_at, place_of}
use Rattle.index_row_faults.specs.extent_maps.declared.run.PagePlace.{PagePlace}
use Rattle.index_row_faults.specs.extent_maps.declared.run.PagePlace.TheVariants.{Absent}
use Rattle.index_row_faults.specs.extent_records.Rows.{runs_of}
use Rattle.index_row_faults.specs.extent_records.Writing.{places_before}
use Rattle.index_row_faults.proofs.OfDomainLayout.OneShape.{links_same, own_same}
use Rattle.index_row_faults.specs.domain_layout.DirectoryRules.{HasSecondPage, HasWrongSize}
use Rattle.index_row_faults.specs.domain_layout.Reached.{Frame, IsWithin}
use Rattle.index_row_faults.specs.domain_layout.Seen.{IsOwn, IsSource, SeenFile, frozen_of, is_in_sync, kept_by, seen_in, seen_through, source_of}
use Rattle.index_row_faults.specs.domain_layout.Shape.{IsSameSeen}
use Rattle.index_row_faults.specs.filesets_reading.Chains.{HasLinks}
use Rattle.index_row_faults.specs.filesets_reading.Seen.{home_in}
use Rattle.index_row_faults.specs.directory_faults.There.{BeginAt, IsReadAs}
use Rattle.index_row_faults.specs.directory_faults.declared.there.FileThere.{FileThere}
use Rattle.slot_files.specs.Files.{HasPagesAt, IsBegun, IsOfClone, IsOfOriginal, IsReadAt, IsReadThrough, IsSameFile, IsThrough, ReadsSo, kept_homes, own_homes}
use Rattle.slot_files.specs.Said.{HasGap, ListsPlaces, LosesPage, place_in, runs_there, said_in}
use Rattle.slot_files.specs.declared.said.SaidHome.{SaidHome}
use Rattle.slot_files.specs.declared.said.SaidPlace.{SaidPlace}
use Rattle.slot_files.specs.declared.said.SaidRun.{SaidRun}
use Rattle.slot_files.proofs.SaidSizes.{wrong_size}
use Rattle.slot_files.proofs.SecondPages.{second_page}

some_same : {X : Type 0} (a b : X) → Some a ≡ Some b → a ≡ b
some_same a b e = cc

none_some : {P : Type 0} {X : Type 0} (x : X) → None ≡ Some x → P
none_some x is = absurd (cc)

no_kind : {P : Type 0} (k : Kind) → k ≡ File → k ≡ Directory → P
no_kind k file dir = absurd (let e : File ≡ Directory = sym file ∙ dir in absurd (cc))

no_bool : {P : Type 0} → false ≡ true → P
no_bool is = absurd (cc)

-- ---- answers

pub if_both : {X E : Type 0} (r : Result X E) (P Q R : X → Type 0) → ((x : X) → P x → Q x → R x) → IfOk r P → IfOk r Q → IfOk r R
if_both (Ok x) P Q R so p q = so x p q
if_both (Err e) P Q R so p q = tt

-- ---- places

pub chain_places : (pages : Pages) (at : CellAt) (records : List Record) (runs : List SaidRun) (places : List SaidPlace) → ReadsChain pages at records → runs_there runs ≡ runs_of records → ListsPlaces (place_of (runs_there runs)) places
    → (cells : List PlacedCell) → LinksFrom pages at cells → ListsPlaces (places_of cells) places
chain_places pages at records runs places read said listed cells links page =
    listed page
    ∙ ap (λ rs. place_of rs page)
    (said ∙ ap runs_of (read.2 ∙ ap records_of (links_same pages at read.0 cells (linked pages at read.0 read.1) links)))

pub source_there : (pages : Pages) (at : CellAt) (places : List SaidPlace) → HasLinks pages at → ((cells : List PlacedCell) → LinksFrom pages at cells → ListsPlaces (places_of cells) places) → IsSource pages (Some at) (place_in places)
source_there pages at places links listed = (links.0, links.1, listed links.0 links.1)

-- a source that is there has its pages somewhere
pub some_source : (pages : Pages) (from : Option CellAt) → IfSome from (HasLinks pages) → (source : Places) × IsSource pages from source
some_source pages None links = ((λ page. Absent), (λ page. refl))
some_source pages (Some at) links = (places_of links.0, (links.0, links.1, λ page. refl))

-- ---- one file

begin_at : (pages : Pages) (at place : CellAt) (cells : List PlacedCell) → LinksFrom pages at cells → place ≡ at → BeginAt cells place
begin_at pages at place [] links same = absurd links
begin_at pages at place (first ∷ rest) links same = links.0 ∙ sym same

module _ (pages : Pages) (frame : Frame) (tag : Tag) (at : CellAt) (is : Attributes) (homes : List PlacedCell → ℕ → Option Home) where
  -- a file has no pages that are asked for
  pub read_plain : (file : FileThere) → IsBegun pages tag at is file → is.kind ≡ File → IsReadAt pages frame tag at is homes file
  read_plain file begun plain = record {
    tag_is = begun.tag_is;
    read = λ cells links. record {
      begins = begin_at pages at file.at cells links begun.at_is;
      is = begun.is_so;
      homes = λ dir. no_kind is.kind plain dir;
      parent = begun.parent cells links;
      size = λ dir. no_kind is.kind plain dir;
      second = λ dir. no_kind is.kind plain dir;
    };
  }

  pub read_directory : (file found : FileThere) (places : List SaidPlace) (said : List (Option SaidHome)) → IsBegun pages tag at is file → IsSameFile found file → HasPagesAt frame places said found
      → ((cells : List PlacedCell) → LinksFrom pages at cells → ListsPlaces (places_of cells) places) → ((cells : List PlacedCell) → LinksFrom pages at cells → (page : ℕ) → said_in said page ≡ homes cells page)
      → IsReadAt pages frame tag at is homes found
  read_directory file found places said begun same has listed homed = record {
    tag_is = same.tag_is ∙ begun.tag_is;
    read = λ cells links. record {
      begins = begin_at pages at found.at cells links (same.at_is ∙ begun.at_is);
      is = same.is_so ∙ begun.is_so;
      homes = λ dir page home.
          subst (λ (o : Option Home). (home_in found.seen.homes.items page ≡ Some home) ↔ ((o ≡ Some home) × IsWithin frame home)) (homed cells links page) (has.homes page home);
      parent = same.parent_is ∙ begun.parent cells links;
      size = λ dir. by_rule cells links;
      second = λ dir.
          let two = second_page (record { is = is; homes = homes cells }) said (homed cells links) in
          ((λ yes. two.0 (has.second.0 yes)), (λ pages_two. has.second.1 (two.1 pages_two)));
    };
  }
    where
      by_rule : (cells : List PlacedCell) → LinksFrom pages at cells → IsTrue found.has_wrong_size ↔ HasWrongSize cells (record { is = is; homes = homes cells })
      by_rule cells links =
          let size = subst (λ (a : Attributes). IsTrue found.has_wrong_size ↔ (HasGap said a.size ⊎ LosesPage places said)) (same.is_so ∙ begun.is_so) has.size in
          let rule = wrong_size cells (record { is = is; homes = homes cells }) places said (listed cells links) (homed cells links) in
          ((λ wrong. rule.0 (size.0 wrong)), (λ wrong. size.1 (rule.1 wrong)))

-- ---- the homes that cells give

pub kept_said : (pages : Pages) (at : CellAt) (keep : ℕ) (places : List SaidPlace) (said : List (Option SaidHome)) → ((cells : List PlacedCell) → LinksFrom pages at cells → ListsPlaces (places_of cells) places)
    → ((page : ℕ) → said_in said page ≡ home_at (places_before keep (place_in places) page)) → (cells : List PlacedCell) → LinksFrom pages at cells → (page : ℕ) → said_in said page ≡ kept_homes keep cells page
kept_said pages at keep places said listed homes cells links page =
    homes page ∙ ap (λ (p : PagePlace). home_at (cond (nat_lt page keep) p Absent)) (listed cells links page)

pub own_said : (pages : Pages) (at : CellAt) (frozen : ℕ) (own source : List SaidPlace) (said : List (Option SaidHome)) → ((cells : List PlacedCell) → LinksFrom pages at cells → frozen ≡ frozen_of cells)
    → ((cells : List PlacedCell) → LinksFrom pages at cells → ListsPlaces (places_of cells) own) → ((page : ℕ) → said_in said page ≡ read_home frozen (place_in own) (place_in source) page)
    → (cells : List PlacedCell) → LinksFrom pages at cells → (page : ℕ) → said_in said page ≡ own_homes (place_in source) cells page
own_said pages at frozen own source said fresh listed homes cells links page =
    homes page ∙ (λ i. own_or (listed cells links page i) (cond (nat_lt page (fresh cells links i)) (home_at (place_in source page)) None))

-- ---- at a place

pub reads_same : (frame : Frame) (tag : Tag) (is now : List PlacedCell → SeenFile → Type 0) (found : Option FileThere) → ((cells : List PlacedCell) (seen : SeenFile) → is cells seen → now cells seen)
    → ((cells : List PlacedCell) (seen : SeenFile) → now cells seen → is cells seen) → ReadsSo frame tag is found → ReadsSo frame tag now found
reads_same frame tag is now None on back reads = record { each = tt; all = λ cells seen so. reads.all cells seen (back cells seen so) }
reads_same frame tag is now (Some file) on back reads = record {
  each = (reads.each.0, record { cells = reads.each.1.cells; seen = reads.each.1.seen; so = on reads.each.1.cells reads.each.1.seen reads.each.1.so; read = reads.each.1.read });
  all = λ cells seen so. reads.all cells seen (back cells seen so);
}

pub reads_none : (frame : Frame) (tag : Tag) (is : List PlacedCell → SeenFile → Type 0) → ((cells : List PlacedCell) (seen : SeenFile) → ¬ is cells seen) → ReadsSo frame tag is None
reads_none frame tag is none = record { each = tt; all = λ cells seen so. absurd (none cells seen so) }

-- what was read of cells with the homes that some file of them has is any file of them
as_same : (frame : Frame) (cells : List PlacedCell) (one other : SeenFile) (file : FileThere) → IsSameSeen one other → IsReadAs frame cells one file → IsReadAs frame cells other file
as_same frame cells one other file same read = record {
  begins = read.begins;
  is = read.is ∙ same.is;
  homes = λ dir page home.
      subst (λ (o : Option Home). (home_in file.seen.homes.items page ≡ Some home) ↔ ((o ≡ Some home) × IsWithin frame home)) (same.homes page) (read.homes (before dir) page home);
  parent = read.parent;
  size = λ dir. let size = read.size (before dir) in ((λ wrong. on (size.0 wrong)), (λ wrong. size.1 (back wrong)));
  second = λ dir. subst (λ (s : SeenFile). IsTrue file.has_second_page ↔ HasSecondPage s) (seen_eq one other same) (read.second (before dir));
}
  where
    before : other.is.kind ≡ Directory → one.is.kind ≡ Directory
    before dir = ap (λ (a : Attributes). a.kind) same.is ∙ dir

    back_same : IsSameSeen other one
    back_same = record { is = sym same.is; homes = λ page. sym (same.homes page) }

    seen_eq : (a b : SeenFile) → IsSameSeen a b → a ≡ b
    seen_eq a b eq = (λ i. record { is = eq.is i; homes = λ page. eq.homes page i })

    carry : (a b : SeenFile) → IsSameSeen a b → HasWrongSize cells a → HasWrongSize cells b
    carry a b eq wrong = subst (HasWrongSize cells) (seen_eq a b eq) wrong

    on : HasWrongSize cells one → HasWrongSize cells other
    on = carry one other same

    back : HasWrongSize cells other → HasWrongSize cells one
    back = carry other one back_same

-- ---- an original's

module _ (pages : Pages) (frame : Frame) (tag : Tag) (at : CellAt) where
  live : (cells : List PlacedCell) (seen : SeenFile) → seen_in cells ≡ Some seen → (is_removed cells ≡ false) × (option_and_then (kept_by cells) (attributes_of cells) ≡ Some seen)
  live cells seen there = by_removed (is_removed cells) refl there
    where
      by_removed : (b : Bool) → is_removed cells ≡ b → cond b None (option_and_then (kept_by cells) (attributes_of cells)) ≡ Some seen → (is_removed cells ≡ false) × (option_and_then (kept_by cells) (attributes_of cells) ≡ Some seen)
      by_removed true gone there = none_some seen there
      by_removed false stays there = (stays, there)

  pub removed_original : ((cells : List PlacedCell) → LinksFrom pages at cells → true ≡ is_removed cells) → ReadsSo frame tag (IsOfOriginal pages at) None
  removed_original gone =
      reads_none frame tag (IsOfOriginal pages at) (λ cells seen so. no_bool (sym (live cells seen so.1).0 ∙ sym (gone cells so.0)))

  pub nameless_original : ((cells : List PlacedCell) → LinksFrom pages at cells → None ≡ attributes_of cells) → ReadsSo frame tag (IsOfOriginal pages at) None
  nameless_original none =
      reads_none frame tag (IsOfOriginal pages at) (λ cells seen so. none_some seen (ap (option_and_then (kept_by cells)) (none cells so.0) ∙ (live cells seen so.1).1))

  pub keepless_original : ((cells : List PlacedCell) → LinksFrom pages at cells → None ≡ keep_of cells) → ReadsSo frame tag (IsOfOriginal pages at) None
  keepless_original none =
      reads_none frame tag (IsOfOriginal pages at) (λ cells seen so. by_attributes cells seen (none cells so.0) (attributes_of cells) (live cells seen so.1).1)
    where
      by_attributes : (cells : List PlacedCell) (seen : SeenFile) → None ≡ keep_of cells → (o : Option Attributes) → option_and_then (kept_by cells) o ≡ Some seen → ⊥
      by_attributes cells seen gone None there = none_some seen there
      by_attributes cells seen gone (Some is) there =
          none_some seen (ap (option_map (λ (keep : ℕ). record { is = is; homes = λ page. home_at (places_before keep (places_of cells) page) })) gone ∙ there)

  seen_by : (cells : List PlacedCell) (is : Attributes) (keep : ℕ) → is_removed cells ≡ false → attributes_of cells ≡ Some is → keep_of cells ≡ Some keep → seen_in cells ≡ Some (record { is = is; homes = kept_homes keep cells })
  seen_by cells is keep stays attributes keeps =
      ap (λ b. cond b None (option_and_then (kept_by cells) (attributes_of cells))) stays
      ∙ ap (option_and_then (kept_by cells)) attributes
      ∙ ap (option_map (λ (n : ℕ). record { is = is; homes = λ page. home_at (places_before n (places_of cells) page) })) keeps

  pub read_original : HasLinks pages at → (is : Attributes) (keep : ℕ) (file : FileThere) → ((cells : List PlacedCell) → LinksFrom pages at cells → false ≡ is_removed cells) → ((cells : List PlacedCell) → LinksFrom pages at cells → Some is ≡ attributes_of cells)
      → ((cells : List PlacedCell) → LinksFrom pages at cells → Some keep ≡ keep_of cells) → IsReadAt pages frame tag at is (kept_homes keep) file → ReadsSo frame tag (IsOfOriginal pages at) (Some file)
  read_original links is keep file stays attributes keeps read = record {
    each = (
      read.tag_is,
      record {
        cells = links.0;
        seen = record { is = is; homes = kept_homes keep links.0 };
        so = (links.1, there links.0 links.1);
        read = read.read links.0 links.1;
      },
    );
    all = λ cells seen so.
        subst (λ (s : SeenFile). IsReadAs frame cells s file) (some_same (record { is = is; homes = kept_homes keep cells }) seen (sym (there cells so.0) ∙ so.1)) (read.read cells so.0);
  }
    where
      there : (cells : List PlacedCell) → LinksFrom pages at cells → seen_in cells ≡ Some (record { is = is; homes = kept_homes keep cells })
      there cells l = seen_by cells is keep (sym (stays cells l)) (sym (attributes cells l)) (sym (keeps cells l))

  -- ---- a clone's own

  pub removed_own : ((cells : List PlacedCell) → LinksFrom pages at cells → true ≡ is_removed cells) → ReadsSo frame tag (IsOfClone pages at) None
  removed_own gone = reads_none frame tag (IsOfClone pages at) (λ cells seen so. no_bool (sym so.1 ∙ sym (gone cells so.0)))

  pub nameless_own : ((cells : List PlacedCell) → LinksFrom pages at cells → None ≡ attributes_of cells) → ReadsSo frame tag (IsOfClone pages at) None
  nameless_own none = reads_none frame tag (IsOfClone pages at) (λ cells seen so. none_some seen.is (none cells so.0 ∙ so.2.is))

  pub read_own : HasLinks pages at → (is : Attributes) (from : Option CellAt) (file : FileThere) → ((cells : List PlacedCell) → LinksFrom pages at cells → false ≡ is_removed cells) → ((cells : List PlacedCell) → LinksFrom pages at cells → Some is ≡ attributes_of cells)
      → ((cells : List PlacedCell) → LinksFrom pages at cells → from ≡ source_of cells) → IsReadThrough pages frame tag at is from file → ReadsSo frame tag (IsOfClone pages at) (Some file)
  read_own links is from file stays attributes same read = record {
    each = (
      read.read.tag_is,
      record {
        cells = links.0;
        seen = record { is = is; homes = own_homes read.source links.0 };
        so = (links.1, sym (stays links.0 links.1), own links.0 links.1);
        read = read.read.read links.0 links.1;
      },
    );
    all = λ cells seen so.
        as_same frame cells (record { is = is; homes = own_homes read.source cells }) seen file (own_same pages cells (record { is = is; homes = own_homes read.source cells }) seen (own cells so.0) so.2) (read.read.read cells so.0);
  }
    where
      own : (cells : List PlacedCell) → LinksFrom pages at cells → IsOwn pages cells (record { is = is; homes = own_homes read.source cells })
      own cells l = record {
        is = sym (attributes cells l);
        source = read.source;
        through = subst (λ o. IsSource pages o read.source) (same cells l) read.through;
        homes = λ page. refl;
      }

  -- the source of a file that stays is whole
  pub whole_from : (from : Option CellAt) (P : CellAt → Type 0) → HasLinks pages at → ((cells : List PlacedCell) → LinksFrom pages at cells → from ≡ source_of cells) → ((cells : List PlacedCell) → LinksFrom pages at cells → false ≡ is_removed cells)
      → ((cells : List PlacedCell) → LinksFrom pages at cells → is_removed cells ≡ false → IfSome (source_of cells) P) → IfSome from P
  whole_from from P links same stays whole = subst (λ o. IfSome o P) (sym (same links.0 links.1)) (whole links.0 links.1 (sym (stays links.0 links.1)))

  -- ---- through an original

  through_is : (number : ℕ) (cells : List PlacedCell) (o : Option Record) → first_record 1 cells ≡ o → seen_through number cells ≡ cond (option_map_or (is_in_sync number) o false) (seen_in cells) None
  through_is number cells o is = ap (λ r. cond (option_map_or (is_in_sync number) r false) (seen_in cells) None) is

  pub through_none : (number : ℕ) → ((cells : List PlacedCell) → LinksFrom pages at cells → None ≡ first_record 1 cells) → ReadsSo frame tag (IsThrough pages number at) None
  through_none number none =
      reads_none frame tag (IsThrough pages number at) (λ cells seen so. none_some seen (sym (through_is number cells None (sym (none cells so.0))) ∙ so.1))

  pub through_late : (number : ℕ) (value : Record) → ((cells : List PlacedCell) → LinksFrom pages at cells → Some value ≡ first_record 1 cells) → is_in_sync number value ≡ false → ReadsSo frame tag (IsThrough pages number at) None
  through_late number value says late =
      reads_none frame tag (IsThrough pages number at)
      (λ cells seen so. none_some seen (sym (through_is number cells (Some value) (sym (says cells so.0)) ∙ ap (λ b. cond b (seen_in cells) None) late) ∙ so.1))

  pub through_read : (number : ℕ) (value : Record) → ((cells : List PlacedCell) → LinksFrom pages at cells → Some value ≡ first_record 1 cells) → is_in_sync number value ≡ true → (found : Option FileThere) → ReadsSo frame tag (IsOfOriginal pages at) found
      → ReadsSo frame tag (IsThrough pages number at) found
  through_read number value says sync found reads =
      reads_same frame tag (IsOfOriginal pages at) (IsThrough pages number at) found
      (λ cells seen so. (so.0, is cells so.0 ∙ so.1)) (λ cells seen so. (so.0, sym (is cells so.0) ∙ so.1)) reads
    where
      is : (cells : List PlacedCell) → LinksFrom pages at cells → seen_through number cells ≡ seen_in cells
      is cells l = through_is number cells (Some value) (sym (says cells l)) ∙ ap (λ b. cond b (seen_in cells) None) sync
