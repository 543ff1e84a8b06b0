-- Where no rule is broken, a fileset's files stand as a set shows them, with their indexes.
use Rattle.std.proofs.Common.{◌≡◌, ◌∙◌, ◌⊎◌, inl, inr, ℕ, ◌+◌, ◌<◌, ◌≤◌, Bool, true, false, List, [], ◌∷◌, length, Option, Some, None, Contains, refl, sym, ap, subst, arith, ⊎_elim}
use Rattle.std.proofs.lemmas.Bool.{cases_Bool, cases_lt}
use Rattle.std.specs.List.{AllByRecursion}
use Rattle.std.specs.Option.{option_and_then, option_map_or}
use Rattle.fileset_shapes.specs.domain_base.Version.{most_pages}
use Rattle.fileset_shapes.specs.domain_base.declared.place.CellAt.{CellAt}
use Rattle.fileset_shapes.specs.domain_base.declared.place.Home.{Home}
use Rattle.fileset_shapes.specs.domain_base.declared.place.Tag.{Tag}
use Rattle.fileset_shapes.specs.domain_base.declared.version.Version.{Version}
use Rattle.fileset_shapes.specs.domain_base.declared.version.Version.TheVariants.{Four, Three}
use Rattle.fileset_shapes.specs.page_store.Bitfiles.{Bitfiles, same_tag}
use Rattle.fileset_shapes.specs.page_store.Pages.{Pages}
use Rattle.fileset_shapes.specs.cell_records.Fields.{number_at}
use Rattle.fileset_shapes.specs.cell_records.declared.record.Record.{Record}
use Rattle.fileset_shapes.specs.log_ring.Homes.{IsMember, member_of}
use Rattle.fileset_shapes.specs.log_recovery.Range.{IsLogInside}
use Rattle.fileset_shapes.specs.metadata_cells.Cell.{record_of}
use Rattle.fileset_shapes.specs.metadata_cells.Chain.{PlacedCell, places}
use Rattle.fileset_shapes.specs.directory_pages.Index.{IsIndexPage as IsPage}
use Rattle.fileset_shapes.specs.extent_maps.declared.run.PagePlace.TheVariants.{At}
use Rattle.fileset_shapes.specs.free_cells.Cells.{Cells, table_of}
use Rattle.fileset_shapes.specs.free_space.Spaces.{Spaces}
use Rattle.fileset_shapes.specs.tag_dirs.Directory.{has_home}
use Rattle.fileset_shapes.specs.fileset_files.Files.{AreFiles, Chains, first_record, place_at}
use Rattle.fileset_shapes.specs.fileset_files.Shown.{Shows, index_in, index_of}
use Rattle.fileset_shapes.specs.fileset_files.Together.{IsFilePage, IsHeldApart}
use Rattle.fileset_shapes.proofs.OfFilesetFiles.OneFile.{tags_same}
use Rattle.stored_set.specs.index_pages.Homes.{AreIndexHomes}
use Rattle.stored_set.specs.Standing.{AreTagsOnVolumes, StandsShown}
use Rattle.fileset_shapes.specs.domain_layout.CellRules.{IsUsed}
use Rattle.fileset_shapes.specs.domain_layout.DirectoryRules.{HasIndexAt, IsGoodIndexPage}
use Rattle.fileset_shapes.specs.domain_layout.Faults.{HasNoFault, HasNoTablesFault}
use Rattle.fileset_shapes.specs.domain_layout.Layout.{IsLayout, Layout}
use Rattle.fileset_shapes.specs.domain_layout.Owners.{BelongsTo, HasIndexPage, HasTagPage, IsOwnedOnce, Owner, frame_of}
use Rattle.fileset_shapes.specs.domain_layout.Owners.Owner.{of_cells, of_file, of_index, of_tags}
use Rattle.fileset_shapes.specs.domain_layout.Reached.{IsRead, IsUnread, MayBe, begins, index_way}
use Rattle.fileset_shapes.specs.domain_layout.TagRules.{HasTags}
use Rattle.fileset_shapes.proofs.OfDomainLayout.OnePage.{some_same}
use Rattle.fileset_shapes.proofs.OfDomainLayout.OwnedOnce.{index_read, no_index}
use Rattle.fileset_shapes.proofs.OfDomainLayout.Reached.{may_be_by, same_number}
use Rattle.fileset_shapes.proofs.OfFilesetsReading.OnTables.{on_table}
use Rattle.domain_standing.specs.Space.{AreCellsOf, IsSpaceOf}
use Rattle.domain_standing.proofs.FileCells.{IsInUse, chain_used}
use Rattle.domain_standing.proofs.FilePages.{IsOfChain, chained, of_chain, of_table, once, tables, tag_page, tag_within, two_chains}
use Rattle.domain_standing.proofs.Held.{held}
use Rattle.domain_standing.proofs.Indexes.{are_homes, collect, come_to}
use Rattle.domain_standing.proofs.Belonging.{together}

-- ---- the pages of volumes

-- as many as any version allows
pub at_most : (version : Version) (pages : ℕ) → pages ≤ most_pages version → pages ≤ 1048576
at_most Three pages most = omega (arith, most)
at_most Four pages most = most

-- ---- the first cell of a chain

-- a chain's first cell names an index
record Names (cells : List PlacedCell) (first : Home) : Type 0 where
  c : PlacedCell
  rest : List PlacedCell
  all : cells ≡ c ∷ rest
  value : Record
  there : record_of 9 c.cell.records ≡ Some value
  begins_at : index_in value ≡ Some first

nothing : {P X : Type 0} (x : X) → None ≡ Some x → P
nothing x is = absurd (cc)

names : (cells : List PlacedCell) (first : Home) → index_of cells ≡ Some first → Names cells first
names [] first is = nothing first is
names (c ∷ rest) first is = by_record (record_of 9 c.cell.records) refl is
  where
    by_record : (o : Option Record) → record_of 9 c.cell.records ≡ o → option_and_then index_in o ≡ Some first → Names (c ∷ rest) first
    by_record None none is = nothing first is
    by_record (Some value) there is = record { c = c; rest = rest; all = refl; value = value; there = there; begins_at = is }

-- ---- owners

index_of_tags : {P : Type 0} (at : CellAt) (k number : ℕ) → of_tags number ≡ of_index at k → P
index_of_tags at k number is = absurd (cc)

index_of_cells : {P : Type 0} (at : CellAt) (k : ℕ) → of_cells ≡ of_index at k → P
index_of_cells at k is = absurd (cc)

index_of_file : {P : Type 0} (at other : CellAt) (k page : ℕ) → of_file other page ≡ of_index at k → P
index_of_file at other k page is = absurd (cc)

same_cells : (at other : CellAt) (j k : ℕ) → of_index at j ≡ of_index other k → at ≡ other
same_cells at other j k is = cc

first_place : (cells : List PlacedCell) (c : PlacedCell) (rest : List PlacedCell) → cells ≡ c ∷ rest → Contains (places cells) c.at
first_place cells c rest all = subst (λ cs. Contains (places cs) c.at) (sym all) (0, omega arith, refl)

pub good_by : (page : List ℕ) → ¬ ¬ IsGoodIndexPage page → IsGoodIndexPage page
good_by page is = (
  record {
    whole = ⊎_elim (λ same. same) (λ other. absurd (is (λ good. other good.0.whole))) (same_number (length page) 8192);
    magic = ⊎_elim (λ same. same) (λ other. absurd (is (λ good. other good.0.magic))) (same_number (number_at 4 0 page) 0x58524944);
    count = ⊎_elim (λ high. absurd (is (λ good. omega (arith, high, good.0.count)))) (λ low. low) (cases_lt 1022 (number_at 4 4 page));
  },
  ⊎_elim (λ high. absurd (is (λ good. omega (arith, high, good.1)))) (λ low. low) (cases_lt 8 (number_at 4 8 page)),
)

module _ (pages : Pages) (layout : Layout) (space : Spaces) (cells : Cells) (laid : IsLayout pages layout) (none : HasNoFault pages (frame_of layout)) (log : IsLogInside layout.version layout.anchor)
    (small : (vol : ℕ) → IsMember layout.anchor vol → (member_of layout.anchor vol).pages ≤ 1048576)
    (is : IsSpaceOf pages layout space) (are : AreCellsOf pages layout cells) (number : ℕ) (first : Home) (has : HasTags layout.table number first)
    (chains : Chains) (files : AreFiles number (layout.tags number) pages chains) where
  no_tables : HasNoTablesFault pages (frame_of layout)
  no_tables = tables pages layout space cells laid none log is are number first has chains files

  one_owner : IsOwnedOnce pages layout
  one_owner = once pages layout space cells laid none log is are number first has chains files

  -- ---- the index of a tag

  -- a tag's chain names an index that begins there
  record HasFirst (tag : Tag) (start : Home) : Type 0 where
    chain : List PlacedCell
    there : chains tag ≡ Some chain
    names_it : Names chain start

  has_first : (tag : Tag) (start : Home) → option_and_then index_of (chains tag) ≡ Some start → HasFirst tag start
  has_first tag start is = by_chain (chains tag) refl is
    where
      by_chain : (o : Option (List PlacedCell)) → chains tag ≡ o → option_and_then index_of o ≡ Some start → HasFirst tag start
      by_chain None empty is = nothing start is
      by_chain (Some chain) there is = record { chain = chain; there = there; names_it = names chain start is }

  first_used : (tag : Tag) (start : Home) (h : HasFirst tag start) → ¬ ¬ IsUsed pages (frame_of layout) h.names_it.c.at h.names_it.c.cell
  first_used tag start h =
      (subst (AllByRecursion (IsInUse pages layout laid no_tables)) h.names_it.all (chain_used pages layout laid no_tables number first has chains files tag h.chain h.there)).0

  named_at : (tag : Tag) (start : Home) (h : HasFirst tag start) → ¬ ¬ HasIndexAt pages (frame_of layout) h.names_it.c.at start
  named_at tag start h unnamed =
      first_used tag start h (λ used. unnamed (record { cell = h.names_it.c.cell; is = used; value = h.names_it.value; there = h.names_it.there; begins = h.names_it.begins_at }))

  read_all : (tag : Tag) (start : Home) → HasFirst tag start → (home : Home) → ¬ IsUnread pages (frame_of layout) (index_way start) home
  read_all tag start h home unread = named_at tag start h (λ at. index_read pages layout laid none h.names_it.c.at start at home unread)

  good_all : (tag : Tag) (start : Home) → HasFirst tag start → (place : ℕ) (home : Home) (page : List ℕ) → IsRead pages (frame_of layout) (index_way start) place home page → IsGoodIndexPage page
  good_all tag start h place home page read =
      good_by page (λ wrong. named_at tag start h (λ at.
      no_index pages layout laid none home (inl (record { at = h.names_it.c.at; first = start; has = at; wrong = inr (place, page, read, inl wrong) }))))

  -- more pages than there can be
  abbrev most : ℕ
  most = 9437185

  abbrev homes_from : (tag : Tag) (start : Home) → HasFirst tag start → List Home
  homes_from tag start h = collect pages (frame_of layout) small start (read_all tag start h) (good_all tag start h) most start

  homes_by : (tag : Tag) (o : Option Home) → option_and_then index_of (chains tag) ≡ o → List Home
  homes_by tag None is = []
  homes_by tag (Some start) is = homes_from tag start (has_first tag start is)

  pub indexes : Tag → List Home
  indexes tag = homes_by tag (option_and_then index_of (chains tag)) refl

  are_by : (tag : Tag) (o : Option Home) (is : option_and_then index_of (chains tag) ≡ o) → AreIndexHomes pages o (homes_by tag o is)
  unfolding homes_by
  are_by tag None is = tt
  are_by tag (Some start) is =
      let h = has_first tag start is in
      are_homes pages (frame_of layout) small start (read_all tag start h) (good_all tag start h) most [] start begins (omega arith)

  -- a page of a tag's index belongs to that, by a cell of its chain
  record IsOfIndex (tag : Tag) (home : Home) : Type 0 where
    chain : List PlacedCell
    there : chains tag ≡ Some chain
    at : CellAt
    among : Contains (places chain) at
    place : ℕ
    page : HasIndexPage pages layout at place home
    may : MayBe (frame_of layout) home

  owned_by : (tag : Tag) (o : Option Home) (is : option_and_then index_of (chains tag) ≡ o) (home : Home) → Contains (homes_by tag o is) home → ¬ ¬ IsOfIndex tag home
  unfolding homes_by
  owned_by tag None is home among unowned = omega (arith, among.1)
  owned_by tag (Some start) is home among unowned =
      let h = has_first tag start is in
      let come = come_to pages (frame_of layout) small start (read_all tag start h) (good_all tag start h) most [] start begins home among in
      first_used tag start h (λ used. unowned (record {
        chain = h.chain;
        there = h.there;
        at = h.names_it.c.at;
        among = first_place h.chain h.names_it.c h.names_it.rest h.names_it.all;
        place = length come.passed;
        page = record {
          cell = h.names_it.c.cell;
          on = on_table pages layout laid h.names_it.c.at h.names_it.c.cell used.place used.stands;
          value = h.names_it.value;
          there = h.names_it.there;
          first = start;
          begins = h.names_it.begins_at;
          passed = come.passed;
          is = come.reached;
          behind = refl;
        };
        may = come.may;
      }))

  owned : (tag : Tag) (home : Home) → Contains (indexes tag) home → ¬ ¬ IsOfIndex tag home
  unfolding indexes
  owned tag home among = owned_by tag (option_and_then index_of (chains tag)) refl home among

  -- ---- where indexes stand

  stand : (tag : Tag) (home : Home) → Contains (indexes tag) home → IsFilePage space cells (layout.tags number) home
  stand tag home among = record {
    apart = record {
      held = held pages layout space is home (may_be_by (frame_of layout) home (λ wrong. own (λ i. wrong i.may))).0 (λ unowned. own (λ i. unowned (of_index i.at i.place, i.page)));
      off_table = λ there. own (λ i. index_of_cells i.at i.place (one_owner home of_cells (of_index i.at i.place) (of_table pages layout space cells laid none log is are number first has chains files home there) i.page));
    };
    no_tags = ⊎_elim
        (λ there. absurd (own (λ i. index_of_tags i.at i.place number (one_owner home (of_tags number) (of_index i.at i.place) (tag_page pages layout space cells laid none log is are number first has chains files home there) i.page))))
        (λ not_there. not_there) (cases_Bool (has_home (layout.tags number) home));
  }
    where
      own : ¬ ¬ IsOfIndex tag home
      own = owned tag home among

  apart : (s t : Tag) (page : ℕ) (home : Home) → Contains (indexes s) home → ¬ place_at chains t page ≡ At home
  apart s t page home among stands =
      let c = chained chains t page home stands in
      owned s home among (λ i. of_chain pages layout space cells laid none log is are number first has chains files t page home c (λ one.
      index_of_file i.at one.at i.place page (one_owner home (of_file one.at page) (of_index i.at i.place) one.extent i.page)))

  index_once : (s t : Tag) (home : Home) → Contains (indexes s) home → Contains (indexes t) home → s ≡ t
  index_once s t home one other =
      ⊎_elim (λ same. tags_same s t same)
      (λ differ. absurd (owned s home one (λ x. owned t home other (λ y.
      let same = same_cells x.at y.at x.place y.place (one_owner home (of_index x.at x.place) (of_index y.at y.place) x.page y.page) in
      two_chains pages layout space cells laid none log is are number first has chains files s t x.chain y.chain x.there y.there differ x.at x.among
      (subst (Contains (places y.chain)) (sym same) y.among)))))
      (cases_Bool (same_tag s t))

  pub standing : (set : Bitfiles) → Shows pages chains set → StandsShown number (layout.tags number) space cells pages chains indexes set
  unfolding indexes
  standing set shows = record {
    together = together pages layout space cells number first chains laid none log is are has files;
    shows = shows;
    indexed = λ tag. are_by tag (option_and_then index_of (chains tag)) refl;
    stand = stand;
    apart = apart;
    once = index_once;
  }

  pub on_volumes : AreTagsOnVolumes (layout.tags number)
  on_volumes home there = (tag_within pages layout space cells laid none log is are number first has chains files home there).0.first
