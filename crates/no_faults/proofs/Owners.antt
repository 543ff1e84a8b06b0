-- Where a domain stands, a page belongs to an owner where it is held for something.
use Rattle.std.proofs.Common.{◌≡◌, ◌∙◌, ◌⊎◌, ℕ, zero, suc, List, [], ◌∷◌, Option, Some, None, Contains, slice_get, refl, sym, ap, subst, arith, ⊎_elim}
use Rattle.std.specs.Option.{option_and_then, option_map_or}
use Rattle.domain_memory.specs.domain_base.declared.place.CellAt.{CellAt}
use Rattle.domain_memory.specs.domain_base.declared.place.Home.{Home}
use Rattle.domain_memory.specs.cell_records.Records.{kind_of}
use Rattle.domain_memory.specs.cell_records.declared.record.Record.{Record}
use Rattle.domain_memory.specs.metadata_cells.Cell.{Cell, record_of}
use Rattle.domain_memory.specs.metadata_cells.Chain.{PlacedCell, records_of}
use Rattle.domain_memory.specs.metadata_cells.declared.head.CellKind.TheVariants as kinds
use Rattle.domain_memory.specs.extent_maps.declared.run.PagePlace.TheVariants.{Absent, At}
use Rattle.domain_memory.specs.extent_records.Writing.{places_in}
use Rattle.domain_memory.proofs.OfExtentRecords.ChainLemmas.{shows_record}
use Rattle.domain_memory.specs.file_chains.Files.{IsFile, places_of}
use Rattle.domain_memory.specs.fileset_files.Shown.{index_in, index_of}
use Rattle.domain_memory.specs.release_list.Standing.{place_in}
use Rattle.domain_memory.specs.index_pages.Homes.{AreIndexHomes}
use Rattle.domain_memory.specs.fileset_model.Filesets.{FilesetMap}
use Rattle.domain_memory.specs.domain_layout.CellRules.{IsFirstPlace}
use Rattle.domain_memory.specs.domain_layout.Owners.{BelongsTo, HasExtent, HasIndexPage, IsOnTable, IsOwned, Owner}
use Rattle.domain_memory.specs.domain_layout.Reached.{index_way}
use Rattle.domain_memory.specs.domain_standing.Domain.{DomainNow, layout_of}
use Rattle.domain_memory.specs.domain_standing.Holders.{Holder, Holds}
use Rattle.domain_memory.specs.domain_standing.Standing.{StandsDomain}
use Rattle.domain_memory.specs.standing_laws.Sound.{StandsSound}
use Rattle.no_faults.proofs.InChains.{Found, chain_is, first_says, is_found, kind_at}
use Rattle.no_faults.proofs.NoCells.{in_all, limits_of}
use Rattle.no_faults.proofs.OfIndexes.{NamesIndex, index_is_way, index_named}
use Rattle.no_faults.proofs.Said.{nowhere, said_by, tags_owned}
use Rattle.no_faults.proofs.Twice.{in_records, limits_place}
use Rattle.no_faults.proofs.Ways.{comes, nothing, reach}

only_one : (v r : Record) → Contains (v ∷ []) r → v ≡ r
only_one v r (zero, within, is) = is
only_one v r (suc k, within, is) = absurd (omega (arith, within))

module _ (d : DomainNow) (all : FilesetMap) (stands : StandsDomain d all) (sound : StandsSound d stands.files stands.indexes) where
  -- ---- pages of files

  -- a cell says a page of the file in whose chain it stands
  pub record SaysPage (at : CellAt) (page : ℕ) (home : Home) (value : Record) : Type 0 where
    pub start : CellAt
    pub first : PlacedCell
    pub rest : List PlacedCell
    pub there : stands.files start ≡ Some (first ∷ rest)
    pub file : IsFile d.pages start (first ∷ rest)
    pub k : ℕ
    pub c : PlacedCell
    pub in_chain : slice_get (first ∷ rest) k ≡ Some c
    pub at_is : c.at ≡ at
    pub among : Contains c.cell.records value
    pub held : place_in stands.files start page ≡ At home

  pub says_page : (at : CellAt) (page : ℕ) (home : Home) (has : HasExtent d.pages (layout_of d) at page home) → SaysPage at page home has.value
  says_page at page home has = ⊎_elim (λ first. by_volume first) (λ x. by_chain x) (is_found d all stands at has.cell has.on)
    where
      by_volume : IsFirstPlace d.frame at → SaysPage at page home has.value
      by_volume first =
          let says = (first_says d all stands at has.cell has.on first).says in
          let value = only_one _ has.value (subst (λ rs. Contains rs has.value) says has.among) in
          nowhere home (ap (λ r. places_in r page) value ∙ has.place)

      by_chain : Found d all stands at has.cell → SaysPage at page home has.value
      by_chain x = ⊎_elim (λ file. of_file file.0) (λ quotas. of_quotas quotas.1) (kind_at d all stands at has.cell x)
        where
          in_c : Contains x.c.cell.records has.value
          in_c = subst (λ (c : Cell). Contains c.records has.value) (sym x.cell_is) has.among

          of_quotas : has.cell.head.kind ≡ kinds.Quota → SaysPage at page home has.value
          of_quotas quota =
              let limits = in_all (λ r. (kind_of r ≡ 7) ⊎ (kind_of r ≡ 8)) has.cell.records (limits_of d all stands sound at has.cell has.on quota) has.value has.among in
              nowhere home (sym (limits_place has.value page limits) ∙ has.place)

          of_file : IsFile d.pages x.start (x.first ∷ x.rest) → SaysPage at page home has.value
          of_file file =
              let among = in_records (x.first ∷ x.rest) x.k x.c has.value x.in_chain in_c in
              let placed : places_of (x.first ∷ x.rest) page ≡ At home =
              ⊎_elim (λ none. nowhere home (sym none ∙ has.place)) (λ same. same ∙ has.place) (shows_record (records_of (x.first ∷ x.rest)) among.0 has.value page among.1 among.2 file.1.one_map) in
              record {
                start = x.start;
                first = x.first;
                rest = x.rest;
                there = x.there;
                file = file;
                k = x.k;
                c = x.c;
                in_chain = x.in_chain;
                at_is = x.at_is;
                among = in_c;
                held = ap (λ o. option_map_or (λ cs. places_of cs page) o Absent) x.there ∙ placed;
              }

  -- ---- pages of indexes

  names_by : (at : CellAt) (number : ℕ) (home : Home) (has : HasIndexPage d.pages (layout_of d) at number home) → NamesIndex d all stands sound at has.first
  names_by at number home has = record { cell = has.cell; on = has.on; value = has.value; there = has.there; begins = has.begins }

  pub index_held : (at : CellAt) (number : ℕ) (home : Home) → HasIndexPage d.pages (layout_of d) at number home → slice_get (stands.indexes at) number ≡ Some home
  index_held at number home has =
      let way = index_is_way d all stands sound at has.first (index_named d all stands sound at has.first (names_by at number home has)) in
      ap (slice_get (stands.indexes at)) (sym has.behind) ∙ (comes d.pages d.frame (index_way has.first) (stands.indexes at) way has.passed home has.is).there

  index_owned : (at : CellAt) (number : ℕ) (home : Home) → slice_get (stands.indexes at) number ≡ Some home → HasIndexPage d.pages (layout_of d) at number home
  index_owned at number home is = by_chain (stands.files at) refl (stands.chains.indexed at)
    where
      none_there : (homes : List Home) → AreIndexHomes d.pages None homes → ¬ slice_get homes number ≡ Some home
      none_there [] are is = nothing home is
      none_there (h ∷ hs) are is = are

      of_first : (first : PlacedCell) (rest : List PlacedCell) (begin : Home) → stands.files at ≡ Some (first ∷ rest) → index_of (first ∷ rest) ≡ Some begin → HasIndexPage d.pages (layout_of d) at number home
      of_first first rest begin there named =
          let chain = chain_is d all stands at first rest there in
          let value = named_value (record_of 9 first.cell.records) begin named in
          let r = reach d.pages d.frame (index_way begin) (stands.indexes at) (index_is_way d all stands sound at begin (ap (option_and_then index_of) there ∙ named)) number home is in
          record {
            cell = first.cell;
            on = subst (λ a. IsOnTable d.pages (layout_of d) a first.cell) chain.begins (chain.tables 0 first refl);
            value = value.0;
            there = value.1;
            first = begin;
            begins = value.2;
            passed = r.passed;
            is = r.reached;
            behind = r.behind;
          }
        where
          named_value : (o : Option Record) (begin : Home) → option_and_then index_in o ≡ Some begin → (value : Record) × (o ≡ Some value) × (index_in value ≡ Some begin)
          named_value None begin named = nothing begin named
          named_value (Some value) begin named = (value, refl, named)

      by_index : (chain : List PlacedCell) → stands.files at ≡ Some chain → (o : Option Home) → index_of chain ≡ o → AreIndexHomes d.pages o (stands.indexes at) → HasIndexPage d.pages (layout_of d) at number home
      by_index chain there None named are = absurd (none_there (stands.indexes at) are is)
      by_index [] there (Some begin) named are = nothing begin named
      by_index (first ∷ rest) there (Some begin) named are = of_first first rest begin there named

      by_chain : (o : Option (List PlacedCell)) → stands.files at ≡ o → AreIndexHomes d.pages (option_and_then index_of o) (stands.indexes at) → HasIndexPage d.pages (layout_of d) at number home
      by_chain None there are = absurd (none_there (stands.indexes at) are is)
      by_chain (Some chain) there are = by_index chain there (index_of chain) refl are

  -- ---- what is held belongs to an owner

  pub owned_as : (holder : Holder) (home : Home) → Holds d stands.files stands.indexes holder home → IsOwned d.pages (layout_of d) home
  owned_as Holder.of_volume home held = (Owner.of_volume, held)
  owned_as Holder.of_log home held = (Owner.of_log, held)
  owned_as Holder.of_table home held = (Owner.of_table, held)
  owned_as Holder.of_cells home held = (Owner.of_cells, held)
  owned_as (Holder.of_tags number) home held = (Owner.of_tags number, tags_owned d all stands number home held)
  owned_as (Holder.of_index at k) home held = (Owner.of_index at k, index_owned at k home held)
  owned_as (Holder.of_file start page) home held = let said = said_by d all stands start page home held in (Owner.of_file said.at page, said.extent)

  -- ---- and what belongs to an owner is held

  pub held_for : (owner : Owner) (home : Home) → BelongsTo d.pages (layout_of d) owner home → (holder : Holder) × Holds d stands.files stands.indexes holder home
  held_for Owner.of_volume home belongs = (Holder.of_volume, belongs)
  held_for Owner.of_log home belongs = (Holder.of_log, belongs)
  held_for Owner.of_table home belongs = (Holder.of_table, belongs)
  held_for Owner.of_cells home belongs = (Holder.of_cells, belongs)
  held_for (Owner.of_tags number) home belongs = (Holder.of_tags number, belongs.has)
  held_for (Owner.of_index at number) home belongs = (Holder.of_index at number, index_held at number home belongs)
  held_for (Owner.of_file at page) home belongs = let says = says_page at page home belongs in (Holder.of_file says.start page, says.held)
