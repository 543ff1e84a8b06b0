-- Where a domain stands and its pages have no fault, pages that it holds are those of members, and chain cells and pages of indexes are well formed.
use Rattle.std.proofs.Common.{◌≡◌, ◌∙◌, inl, inr, ℕ, zero, suc, List, [], ◌∷◌, ◌++◌, length, Option, Some, None, IsSomeAnd, Contains, slice_get, refl, sym, ap, subst, arith}
use Rattle.std.specs.Option.{option_and_then}
use Rattle.domain_memory.specs.domain_base.declared.place.CellAt.{CellAt}
use Rattle.domain_memory.specs.domain_base.declared.place.Home.{Home}
use Rattle.domain_memory.specs.page_store.Pages.{Pages}
use Rattle.domain_memory.specs.cell_records.declared.record.Record.{Record}
use Rattle.domain_memory.specs.metadata_cells.Cell.{Cell, record_of}
use Rattle.domain_memory.specs.metadata_cells.CellPage.{home_of}
use Rattle.domain_memory.specs.metadata_cells.Chain.{PlacedCell}
use Rattle.domain_memory.specs.tag_dirs.TagPage.{next_of}
use Rattle.domain_memory.specs.fileset_files.Shown.{index_in, index_of}
use Rattle.domain_memory.specs.directory_pages.Index.{IsIndexPage as IsGoodPage}
use Rattle.domain_memory.specs.index_pages.Homes.{AreIndexHomes, IsIndexPage}
use Rattle.domain_memory.proofs.OfDomainStanding.Showing.{good_by}
use Rattle.domain_memory.specs.fileset_model.Filesets.{FilesetMap}
use Rattle.domain_memory.proofs.OfDomainLayout.NoTables.{none_of_tables}
use Rattle.domain_memory.specs.domain_layout.DirectoryRules.{HasIndexAt}
use Rattle.domain_memory.specs.domain_layout.Faults.{HasNoFault, HasNoTablesFault}
use Rattle.domain_memory.specs.domain_layout.Owners.{IsOnTable}
use Rattle.domain_memory.specs.domain_layout.Reached.{Frame, IsRead, IsUnread, IsWithin, Reaches, Way, begins, goes_on, index_way}
use Rattle.domain_memory.proofs.OfFilesetsReading.Ways.{pushed}
use Rattle.domain_memory.proofs.OfDomainLayout.OnePage.{some_same}
use Rattle.domain_memory.proofs.OfDomainLayout.OwnedOnce.{index_read, no_extent, no_index, tag_place, used_on}
use Rattle.domain_memory.proofs.OfDomainLayout.Reached.{is_read, may_be_by}
use Rattle.domain_memory.specs.domain_standing.Domain.{DomainNow, layout_of}
use Rattle.domain_memory.specs.domain_standing.Holders.{Holder, Holds}
use Rattle.domain_memory.specs.domain_standing.Standing.{StandsDomain}
use Rattle.domain_memory.specs.standing_laws.Sound.{IsSound, StandsSound}
use Rattle.domain_memory.proofs.OfStandingLaws.SoundTables.{faultless_cells, faultless_laters}
use Rattle.no_faults.proofs.InChains.{chain_is}
use Rattle.no_faults.proofs.OfIndexes.{index_first, index_leads, on_it}
use Rattle.no_faults.proofs.Said.{said_by, tags_owned}
use Rattle.no_faults.proofs.Ways.{at_of, before_of, contains_of, nothing}

-- pages of which each leads to the next are all read, where none is come to that is not
come_along : (pages : Pages) (frame : Frame) (way : Way) → ((home : Home) → ¬ IsUnread pages frame way home) → (homes : List Home) → slice_get homes 0 ≡ Some way.first
    → ((k : ℕ) (home : Home) (page : List ℕ) → slice_get homes k ≡ Some home → pages home ≡ Some page → way.next home page ≡ slice_get homes (suc k))
    → (k : ℕ) (home : Home) → slice_get homes k ≡ Some home → (page : List ℕ) × IsRead pages frame way k home page
come_along pages frame way none homes first leads zero home at =
    is_read pages frame way none [] home (subst (Reaches pages frame way []) (some_same way.first home (sym first ∙ at)) begins)
come_along pages frame way none homes first leads (suc k) home at =
    let front = before_of homes k home at in
    let earlier = come_along pages frame way none homes first leads k front.0 front.1 in
    let read : IsRead pages frame way k front.0 earlier.0 = earlier.1 in
    let next = is_read pages frame way none (read.passed ++ front.0 ∷ []) home
    (goes_on read.passed front.0 home earlier.0 read.reached read.may read.fresh read.there read.begins (leads k front.0 earlier.0 front.1 read.there ∙ at)) in
    let behind : length (read.passed ++ front.0 ∷ []) ≡ suc k = pushed read.passed front.0 ∙ ap suc read.at in
    (next.0, subst (λ n. IsRead pages frame way n home next.0) behind next.1)

none_there : (pages : Pages) (homes : List Home) (home : Home) → AreIndexHomes pages None homes → ¬ Contains homes home
none_there pages [] home are (k, within, is) = omega (arith, within)
none_there pages (h ∷ hs) home are among = are

module _ (d : DomainNow) (all : FilesetMap) (stands : StandsDomain d all) (no_fault : HasNoFault d.pages d.frame) where
  tables : HasNoTablesFault d.pages d.frame
  tables = none_of_tables d.pages d.frame no_fault

  -- ---- pages of indexes

  named_at : (at : CellAt) (first : Home) → option_and_then index_of (stands.files at) ≡ Some first → HasIndexAt d.pages d.frame at first
  named_at at first named = by_chain (stands.files at) refl named
    where
      of_first : (c : PlacedCell) (rest : List PlacedCell) → stands.files at ≡ Some (c ∷ rest) → (o : Option Record) → record_of 9 c.cell.records ≡ o → option_and_then index_in o ≡ Some first
          → HasIndexAt d.pages d.frame at first
      of_first c rest there None value says = nothing first says
      of_first c rest there (Some value) value_there says =
          let chain = chain_is d all stands at c rest there in
          record {
            cell = c.cell;
            is = used_on d.pages (layout_of d) stands.tables.laid tables at c.cell (subst (λ a. IsOnTable d.pages (layout_of d) a c.cell) chain.begins (chain.tables 0 c refl));
            value = value;
            there = value_there;
            begins = says;
          }

      by_cells : (chain : List PlacedCell) → stands.files at ≡ Some chain → index_of chain ≡ Some first → HasIndexAt d.pages d.frame at first
      by_cells [] there says = nothing first says
      by_cells (c ∷ rest) there says = of_first c rest there (record_of 9 c.cell.records) refl says

      by_chain : (o : Option (List PlacedCell)) → stands.files at ≡ o → option_and_then index_of o ≡ Some first → HasIndexAt d.pages d.frame at first
      by_chain None there says = nothing first says
      by_chain (Some chain) there says = by_cells chain there says

  -- each is read
  index_page : (at : CellAt) (first : Home) → option_and_then index_of (stands.files at) ≡ Some first → AreIndexHomes d.pages (Some first) (stands.indexes at)
      → (k : ℕ) (home : Home) → slice_get (stands.indexes at) k ≡ Some home → (page : List ℕ) × IsRead d.pages d.frame (index_way first) k home page
  index_page at first named are =
      come_along d.pages d.frame (index_way first) (index_read d.pages (layout_of d) stands.tables.laid no_fault at first (named_at at first named)) (stands.indexes at)
      (index_first d.pages (Some first) (stands.indexes at) are)
      (λ k home page is there.
      let leads = index_leads d.pages (Some first) (stands.indexes at) are k home is in
      let stored : IsIndexPage page = subst (λ o. IsSomeAnd o IsIndexPage) there leads.0 in
      on_it page stored.next (next_of page) refl ∙ sym (ap (option_and_then next_of) there) ∙ leads.1)

  index_good : (at : CellAt) (home : Home) → Contains (stands.indexes at) home → IsWithin d.frame home × IsSomeAnd (d.pages home) IsGoodPage
  index_good at home among = by_name (option_and_then index_of (stands.files at)) refl (stands.chains.indexed at)
    where
      by_name : (o : Option Home) → option_and_then index_of (stands.files at) ≡ o → AreIndexHomes d.pages o (stands.indexes at) → IsWithin d.frame home × IsSomeAnd (d.pages home) IsGoodPage
      by_name None named are = absurd (none_there d.pages (stands.indexes at) home are among)
      by_name (Some first) named are =
          let k = at_of (stands.indexes at) home among in
          let read = index_page at first named are k.0 home k.1 in
          let good = good_by read.0 (λ wrong. no_index d.pages (layout_of d) stands.tables.laid no_fault home
          (inl (record { at = at; first = first; has = named_at at first named; wrong = inr (k.0, read.0, read.1, inl wrong) }))) in
          (read.1.may.0, subst (λ o. IsSomeAnd o IsGoodPage) (sym read.1.there) good.0)

  -- ---- what is held

  within : (home : Home) (holder : Holder) → ¬ holder ≡ Holder.of_volume → ¬ holder ≡ Holder.of_log → Holds d stands.files stands.indexes holder home → IsWithin d.frame home
  within home Holder.of_volume no_volume no_log held = absurd (no_volume refl)
  within home Holder.of_log no_volume no_log held = absurd (no_log refl)
  within home Holder.of_table no_volume no_log held = (stands.tables.may home held).0
  within home Holder.of_cells no_volume no_log held = faultless_cells d stands.tables.laid no_fault home held.0 held.1
  within home (Holder.of_tags number) no_volume no_log held = (tag_place d.pages (layout_of d) stands.tables.laid tables number home (tags_owned d all stands number home held)).is.read.may.0
  within home (Holder.of_index at k) no_volume no_log held = (index_good at home (contains_of (stands.indexes at) k home held)).0
  within home (Holder.of_file start page) no_volume no_log held =
      let said = said_by d all stands start page home held in
      (may_be_by d.frame home (λ wrong. no_extent d.pages (layout_of d) stands.tables.laid no_fault (home_of said.at)
      (said.at, refl, record { page = page; home = home; has = said.extent; wrong = inl wrong }))).0

  pub faultless : StandsSound d stands.files stands.indexes
  faultless = record { within = within; laters = faultless_laters d stands.tables.laid no_fault; good = λ at home among. (index_good at home among).1 }

-- so it is with the files and indexes with which it stands
pub faultless_sound : (d : DomainNow) (all : FilesetMap) → StandsDomain d all → HasNoFault d.pages d.frame → IsSound d
faultless_sound d all stands none = record {
  files = stands.files;
  indexes = stands.indexes;
  below = record { tables = stands.tables; chains = stands.chains; owned = stands.owned; rest = stands.rest };
  sound = faultless d all stands none;
}
