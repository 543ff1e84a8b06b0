-- The pages of the indexes that the files of a domain name which was read.
use Rattle.std.proofs.Common.{◌≡◌, inl, inr, ℕ, zero, suc, List, [], ◌∷◌, Option, Some, None, refl, sym, ap, subst, arith}
use Rattle.std.specs.Option.{option_and_then, option_map_or}
use Rattle.domain_memory.specs.domain_base.declared.place.CellAt.{CellAt}
use Rattle.domain_memory.specs.domain_base.declared.place.Home.{Home}
use Rattle.domain_memory.specs.cell_records.declared.record.Record.{Record}
use Rattle.domain_memory.specs.metadata_cells.Cell.{record_of}
use Rattle.domain_memory.specs.metadata_cells.Chain.{PlacedCell}
use Rattle.domain_memory.specs.fileset_files.Shown.{index_in, index_of}
use Rattle.domain_memory.specs.index_pages.Homes.{AreIndexHomes, next_at}
use Rattle.domain_memory.specs.domain_layout.DirectoryRules.{HasIndexAt, IsGoodIndexPage}
use Rattle.domain_memory.specs.domain_layout.Owners.{frame_of}
use Rattle.domain_memory.specs.domain_layout.Reached.{IsRead, IsUnread, begins, index_way}
use Rattle.domain_memory.proofs.OfDomainLayout.OnePage.{some_same}
use Rattle.domain_memory.proofs.OfDomainLayout.OwnedOnce.{index_read, no_index, used_on}
use Rattle.domain_memory.proofs.OfDomainStanding.Indexes.{are_homes, collect}
use Rattle.domain_memory.proofs.OfDomainStanding.Showing.{good_by}
use Rattle.domain_memory.specs.domain_standing.Chains.{IndexesAt}
use Rattle.domain_memory.specs.domain_standing.Domain.{DomainNow, layout_of}
use Rattle.no_faults.specs.Attached.{IsReadFrom}
use Rattle.no_faults.proofs.Begun.{nowhere}
use Rattle.no_faults.proofs.Domain.{Chain, chain_at, files, small, tables}

module _ (d : DomainNow) (is : IsReadFrom d) where
  abbrev pub NamesIndex : CellAt → Home → Type 0
  NamesIndex at first = HasIndexAt d.pages (frame_of (layout_of d)) at first

  of_first : (at : CellAt) (chain : List PlacedCell) (c : Chain d is at chain) (first : Home) → (o : Option Record) → record_of 9 c.first.cell.records ≡ o → option_and_then index_in o ≡ Some first → NamesIndex c.first.at first
  of_first at chain c first None there named = nowhere first named
  of_first at chain c first (Some value) there named = record {
    cell = c.first.cell;
    is = used_on d.pages (layout_of d) is.tables.laid (tables d is) c.first.at c.first.cell c.on_way.0.on;
    value = value;
    there = there;
    begins = named;
  }

  pub names_index : (at : CellAt) (first : Home) → option_and_then index_of (files d is at) ≡ Some first → NamesIndex at first
  names_index at first named = by_chain (files d is at) refl named
    where
      of_chain : (chain : List PlacedCell) → files d is at ≡ Some chain → index_of chain ≡ Some first → NamesIndex at first
      of_chain chain there named_in =
          let c = chain_at d is at chain there in
          subst (λ a. NamesIndex a first) c.at_is (of_first at chain c first (record_of 9 c.first.cell.records) refl (subst (λ cs. index_of cs ≡ Some first) c.all named_in))

      by_chain : (o : Option (List PlacedCell)) → files d is at ≡ o → option_and_then index_of o ≡ Some first → NamesIndex at first
      by_chain None there named_in = nowhere first named_in
      by_chain (Some chain) there named_in = of_chain chain there named_in

  -- ---- its pages

  module _ (at : CellAt) (first : Home) (names : NamesIndex at first) where
    pub read_all : (home : Home) → ¬ IsUnread d.pages (frame_of (layout_of d)) (index_way first) home
    read_all home unread = index_read d.pages (layout_of d) is.tables.laid is.no_fault at first names home unread

    pub good_all : (place : ℕ) (home : Home) (page : List ℕ) → IsRead d.pages (frame_of (layout_of d)) (index_way first) place home page → IsGoodIndexPage page
    good_all place home page read =
        good_by page (λ wrong. no_index d.pages (layout_of d) is.tables.laid is.no_fault home (inl (record { at = at; first = first; has = names; wrong = inr (place, page, read, inl wrong) })))

    abbrev pub pages_of : List Home
    pages_of = collect d.pages (frame_of (layout_of d)) (small d is) first read_all good_all 9437185 first

    are_pages : AreIndexHomes d.pages (Some first) pages_of
    are_pages = are_homes d.pages (frame_of (layout_of d)) (small d is) first read_all good_all 9437185 [] first begins (omega arith)

  -- the pages do not hang on what is known of the index
  same_collected : (at : CellAt) (first : Home) (one other : NamesIndex at first) (n : ℕ) (home : Home)
      → collect d.pages (frame_of (layout_of d)) (small d is) first (read_all at first one) (good_all at first one) n home
      ≡ collect d.pages (frame_of (layout_of d)) (small d is) first (read_all at first other) (good_all at first other) n home
  same_collected at first one other zero home = refl
  same_collected at first one other (suc n) home = by_next (λ next. same_collected at first one other n next) (next_at d.pages home)
    where
      by_next : ((next : Home)
          → collect d.pages (frame_of (layout_of d)) (small d is) first (read_all at first one) (good_all at first one) n next
          ≡ collect d.pages (frame_of (layout_of d)) (small d is) first (read_all at first other) (good_all at first other) n next)
          → (o : Option Home)
          → home ∷ option_map_or (collect d.pages (frame_of (layout_of d)) (small d is) first (read_all at first one) (good_all at first one) n) o []
          ≡ home ∷ option_map_or (collect d.pages (frame_of (layout_of d)) (small d is) first (read_all at first other) (good_all at first other) n) o []
      by_next same None = refl
      by_next same (Some next) = ap (λ (hs : List Home). home ∷ hs) (same next)

  same_pages : (at : CellAt) (one first : Home) → one ≡ first → (names : NamesIndex at one) (also : NamesIndex at first) → pages_of at one names ≡ pages_of at first also
  same_pages at one first same =
      subst (λ f. (names : NamesIndex at one) (also : NamesIndex at f) → pages_of at one names ≡ pages_of at f also) same (λ names also. same_collected at one names also 9437185 one)

  homes_by : (at : CellAt) (o : Option Home) → option_and_then index_of (files d is at) ≡ o → List Home
  homes_by at None named = []
  homes_by at (Some first) named = pages_of at first (names_index at first named)

  pub indexes : IndexesAt
  indexes at = homes_by at (option_and_then index_of (files d is at)) refl

  homes_none : (at : CellAt) (o : Option Home) (named : option_and_then index_of (files d is at) ≡ o) → o ≡ None → homes_by at o named ≡ []
  unfolding homes_by
  homes_none at None named none = refl
  homes_none at (Some first) named none = nowhere first (sym none)

  -- none where no index is named, and else those that the first leads to
  pub indexes_none : (at : CellAt) → option_and_then index_of (files d is at) ≡ None → indexes at ≡ []
  unfolding indexes
  indexes_none at none = homes_none at (option_and_then index_of (files d is at)) refl none

  homes_are : (at : CellAt) (first : Home) (o : Option Home) (named : option_and_then index_of (files d is at) ≡ o) (is_first : option_and_then index_of (files d is at) ≡ Some first) → o ≡ Some first
      → homes_by at o named ≡ pages_of at first (names_index at first is_first)
  unfolding homes_by
  homes_are at first None named is_first some = nowhere first some
  homes_are at first (Some other) named is_first some = same_pages at other first (some_same other first some) (names_index at other named) (names_index at first is_first)

  pub indexes_are : (at : CellAt) (first : Home) (named : option_and_then index_of (files d is at) ≡ Some first) → indexes at ≡ pages_of at first (names_index at first named)
  unfolding indexes
  indexes_are at first named = homes_are at first (option_and_then index_of (files d is at)) refl named named

  are_by : (at : CellAt) (o : Option Home) (named : option_and_then index_of (files d is at) ≡ o) → AreIndexHomes d.pages o (homes_by at o named)
  unfolding homes_by
  are_by at None named = tt
  are_by at (Some first) named = are_pages at first (names_index at first named)

  pub indexed : (at : CellAt) → AreIndexHomes d.pages (option_and_then index_of (files d is at)) (indexes at)
  unfolding indexes
  indexed at = are_by at (option_and_then index_of (files d is at)) refl
