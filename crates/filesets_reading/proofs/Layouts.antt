-- Pages that have their tables are laid out as a domain's.
use Rattle.std.proofs.Common.{◌≡◌, ◌⊎◌, inl, inr, ℕ, ◌<◌, ◌≤◌, length, List, [], Option, Some, None, IsSomeAnd, slice_get, refl, sym, ap, subst, arith, ⊎_elim}
use Rattle.std.proofs.lemmas.Bool.{cases_lt}
use Rattle.std.proofs.lemmas.Option.{slice_get_within}
use Rattle.std.specs.Option.{option_map_or}
use Rattle.domain_layout.specs.domain_base.Version.{number_of}
use Rattle.domain_layout.specs.domain_base.declared.place.Home.{Home}
use Rattle.domain_layout.specs.domain_base.declared.version.Version.{Version}
use Rattle.domain_layout.specs.page_store.Pages.{Pages}
use Rattle.domain_layout.specs.disk_label.declared.anchor.Anchor.{Anchor}
use Rattle.domain_layout.specs.log_ring.Homes.{IsMember, member_of}
use Rattle.domain_layout.specs.tag_dirs.declared.dir.TagPlace.{TagPlace}
use Rattle.domain_layout.specs.fileset_table.Page.{IsTablePage}
use Rattle.domain_layout.specs.fileset_table.Table.{Table}
use Rattle.domain_layout.specs.fileset_table.declared.slot.SlotItem.{SlotItem}
use Rattle.domain_layout.specs.Faults.{HasNoTablesFault, SaysTable}
use Rattle.domain_layout.specs.Layout.{AreTagPlaces, IsCellTable, Layout, first_tag_of}
use Rattle.domain_layout.specs.Reached.{Frame, first_cells}
use Rattle.filesets_reading.specs.Good.{AreGood, IsNamed, frame_at}
use Rattle.filesets_reading.specs.Tables.{AreTablesOf, AreTagsOf, HasCellTable, HasTagsOf, HaveCellTables}
use Rattle.filesets_reading.specs.declared.tables.DomainTables.{DomainTables}

-- ---- members

member_or : (anchor : Anchor) (vol : ℕ) → IsMember anchor vol ⊎ ¬ IsMember anchor vol
member_or anchor vol =
    ⊎_elim (λ low. inr (λ is. omega (arith, low, is.first)))
    (λ first. ⊎_elim (λ high. inr (λ is. omega (arith, high, is.last)))
    (λ last. ⊎_elim (λ none. inr (λ is. omega (arith, none, is.there)))
    (λ there. ⊎_elim (λ wrong. inr (λ is. omega (arith, wrong, is.whole)))
    (λ whole. inl (record { first = first; last = last; there = there; whole = whole })) (cases_lt 2 (member_of anchor vol).state))
    (cases_lt (member_of anchor vol).state 1)) (cases_lt 8 vol)) (cases_lt vol 1)

cells_by : (pages : Pages) (frame : Frame) (vol : ℕ) → HasCellTable pages frame vol → (IsMember frame.anchor vol ⊎ ¬ IsMember frame.anchor vol) → List ℕ
cells_by pages frame vol has (inl member) = (has member).1
cells_by pages frame vol has (inr none) = []

cells_are : (pages : Pages) (frame : Frame) (vol : ℕ) (has : HasCellTable pages frame vol) (known : IsMember frame.anchor vol ⊎ ¬ IsMember frame.anchor vol) → IsMember frame.anchor vol
    → IsCellTable pages vol (first_cells frame vol) (cells_by pages frame vol has known)
unfolding cells_by
cells_are pages frame vol has (inl is) member = (has is).2
cells_are pages frame vol has (inr none) member = absurd (none member)

-- each volume has a table: one that is none of the 8 is no member
has_table : (pages : Pages) (frame : Frame) → HaveCellTables 9 pages frame → (vol : ℕ) → HasCellTable pages frame vol
has_table pages frame have vol member = have vol member.first (omega (arith, member.last)) member

-- ---- the table of filesets

-- a table that the anchor names stands there
pub no_table_page : (pages : Pages) (anchor : Anchor) (version : Version) (home : Home) → anchor.table ≡ Some home → HasNoTablesFault pages (frame_at anchor version)
    → ((table : Table) → ¬ IsSomeAnd (pages home) (λ page. IsTablePage page table)) → ⊥
no_table_page pages anchor version home at none wrong = none.table home (record { at = at; wrong = inr wrong })

-- a table has 32 slots
pub few_slots : (pages : Pages) (frame : Frame) (table : Table) → SaysTable pages frame table → (number : ℕ) (item : SlotItem) → slice_get table.slots number ≡ Some item → number < 32
few_slots pages frame table says number item there = by_page (pages says.home) says.there
  where
    by_page : (o : Option (List ℕ)) → IsSomeAnd o (λ page. IsTablePage page table) → number < 32
    by_page None is = absurd is
    by_page (Some page) is = omega (arith, slice_get_within table.slots number item there, is.slots.whole)

-- ---- the layout

pub good_by : (pages : Pages) (anchor : Anchor) (version : Version) (table : Table) → IsNamed anchor version → HasNoTablesFault pages (frame_at anchor version) → SaysTable pages (frame_at anchor version) table → AreGood pages (frame_at anchor version)
good_by pages anchor version table named none says = record { table = table; says = says; version = named.0; no_fault = none }

tags_in : List (List TagPlace) → ℕ → List TagPlace
tags_in tags number = option_map_or (λ places. places) (slice_get tags number) []

module _ (pages : Pages) (frame : Frame) (version : frame.anchor.version ≡ number_of frame.version) (tables : DomainTables) (says : SaysTable pages frame tables.filesets) (few : (number : ℕ) (item : SlotItem) → slice_get tables.filesets.slots number ≡ Some item → number < 32)
    (cells : HaveCellTables 9 pages frame) (tags : AreTagsOf pages tables.filesets tables.tags.items) where
  layout : Layout
  layout = record {
    anchor = frame.anchor;
    version = frame.version;
    table = tables.filesets;
    cells = λ vol. cells_by pages frame vol (has_table pages frame cells vol) (member_or frame.anchor vol);
    tags = tags_in tables.tags.items;
  }

  tag_places : (number : ℕ) (item : SlotItem) → slice_get tables.filesets.slots number ≡ Some item → AreTagPlaces pages (first_tag_of item) (tags_in tables.tags.items number)
  unfolding tags_in
  tag_places number item there = by_tags (slice_get tables.tags.items number) (tags number (few number item there))
    where
      by_tags : (o : Option (List TagPlace)) → IsSomeAnd o (HasTagsOf pages tables.filesets number) → AreTagPlaces pages (first_tag_of item) (option_map_or (λ places. places) o [])
      by_tags None has = absurd has
      by_tags (Some places) has = has item there

  table_there : IsSomeAnd frame.anchor.table (λ home. IsSomeAnd (pages home) (λ page. IsTablePage page tables.filesets))
  table_there = subst (λ o. IsSomeAnd o (λ home. IsSomeAnd (pages home) (λ page. IsTablePage page tables.filesets))) (sym says.at) says.there

  pub tables_of : AreTablesOf pages frame tables
  unfolding layout tags_in
  tables_of = record {
    layout = layout;
    is = refl;
    laid = record {
      version = version;
      table = table_there;
      cells = λ vol member. cells_are pages frame vol (has_table pages frame cells vol) (member_or frame.anchor vol) member;
      tags = tag_places;
    };
    table = refl;
    all = by_last (slice_get tables.tags.items 31) refl (tags 31 (omega arith));
    small = λ vol member. (has_table pages frame cells vol member).0;
    tags = λ number places there. ap (λ o. option_map_or (λ places. places) o []) there;
  } where
    by_last : (o : Option (List TagPlace)) → slice_get tables.tags.items 31 ≡ o → IsSomeAnd o (HasTagsOf pages tables.filesets 31) → 32 ≤ length tables.tags.items
    by_last None at is = absurd is
    by_last (Some places) at is = let within = slice_get_within tables.tags.items 31 places at in omega (arith, within)
