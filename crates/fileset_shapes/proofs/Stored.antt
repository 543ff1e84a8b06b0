-- Where no rule is broken: each page of a file stands where pages of files may.
use Rattle.std.proofs.Common.{◌≡◌, ◌∙◌, inl, ℕ, zero, suc, List, [], ◌∷◌, Contains, refl, sym, subst, arith, ⊎_elim}
use Rattle.std.proofs.lemmas.List.Elements.{Contains-append_cases}
use Rattle.filesets_reading.specs.domain_base.declared.place.Home.{Home}
use Rattle.filesets_reading.specs.domain_base.declared.place.Tag.{Tag}
use Rattle.filesets_reading.specs.page_store.Pages.{Pages}
use Rattle.filesets_reading.specs.cell_records.declared.record.Record.{Record}
use Rattle.filesets_reading.specs.metadata_cells.CellPage.{home_of}
use Rattle.filesets_reading.specs.metadata_cells.Chain.{Follow, PlacedCell, StandsAt, records_of}
use Rattle.filesets_reading.specs.extent_maps.Runs.{place_of}
use Rattle.filesets_reading.specs.extent_maps.declared.run.PagePlace.{PagePlace}
use Rattle.filesets_reading.specs.extent_maps.declared.run.PagePlace.TheVariants.{Absent, At, Hole}
use Rattle.filesets_reading.proofs.OfExtentMaps.EditLemmas.{over, place_append}
use Rattle.filesets_reading.specs.extent_records.Rows.{runs_in, runs_of}
use Rattle.filesets_reading.specs.extent_records.Writing.{places_in}
use Rattle.filesets_reading.specs.file_chains.Files.{AreFile, places_of}
use Rattle.filesets_reading.proofs.OfDomainLayout.NoTables.{none_of_tables}
use Rattle.filesets_reading.specs.domain_layout.Faults.{HasNoFault, HasNoTablesFault}
use Rattle.filesets_reading.specs.domain_layout.Layout.{IsLayout, Layout}
use Rattle.filesets_reading.specs.domain_layout.Owners.{frame_of}
use Rattle.filesets_reading.specs.domain_layout.Reached.{MayBe}
use Rattle.filesets_reading.specs.domain_layout.TagRules.{IsFirstOf}
use Rattle.filesets_reading.proofs.OfDomainLayout.Named.{InChain, begins_file, goes_along, place_in}
use Rattle.filesets_reading.proofs.OfDomainLayout.OwnedOnce.{no_extent}
use Rattle.filesets_reading.proofs.OfDomainLayout.Reached.{may_be_by}
use Rattle.filesets_reading.proofs.OnTables.{on_table}

-- ---- which record says a place

-- a record of a list, and what it says
record SaidBy (records : List Record) (page : ℕ) (home : Home) : Type 0 where
  value : Record
  among : Contains records value
  place : places_in value page ≡ At home

said_by : (records : List Record) (page : ℕ) (home : Home) → place_of (runs_of records) page ≡ At home → SaidBy records page home
said_by [] page home at = absurd (let e : Absent ≡ At home = at in absurd (cc))
said_by (r ∷ rs) page home at = by_place (said_by rs page home) (places_in r page) refl (sym (place_append (runs_in r) (runs_of rs) page) ∙ at)
  where
    by_place : (place_of (runs_of rs) page ≡ At home → SaidBy rs page home) → (place : PagePlace) → places_in r page ≡ place → over place (place_of (runs_of rs) page) ≡ At home → SaidBy (r ∷ rs) page home
    by_place later (At h) here is = record { value = r; among = (0, omega arith, refl); place = here ∙ is }
    by_place later Hole here is = absurd (let e : Hole ≡ At home = is in absurd (cc))
    by_place later Absent here is =
        let rest = later is in
        record { value = rest.value; among = (suc rest.among.0, omega (arith, rest.among.1), rest.among.2); place = rest.place }

-- a record of a chain is one of a cell
record InCell (cells : List PlacedCell) (value : Record) : Type 0 where
  cell : PlacedCell
  is_of : Contains cells cell
  among : Contains cell.cell.records value

in_cell : (cells : List PlacedCell) (value : Record) → Contains (records_of cells) value → InCell cells value
in_cell [] value there = absurd (omega (arith, there.1))
in_cell (c ∷ cs) value there =
    ⊎_elim (λ here. record { cell = c; is_of = (0, omega arith, refl); among = here })
    (λ later.
    let rest = in_cell cs value later in
    record { cell = rest.cell; is_of = (suc rest.is_of.0, omega (arith, rest.is_of.1), rest.is_of.2); among = rest.among })
    (Contains-append_cases c.cell.records (records_of cs) value there)

-- ---- cells in use

module _ (pages : Pages) (layout : Layout) (laid : IsLayout pages layout) (no_fault : HasNoFault pages (frame_of layout)) where
  tables : HasNoTablesFault pages (frame_of layout)
  tables = none_of_tables pages (frame_of layout) no_fault

  -- each cell of a chain whose first one is in use
  chain_used : (first : PlacedCell) (rest : List PlacedCell) → StandsAt pages first.at first.cell → ¬ ¬ InChain pages layout first.at first.cell → Follow pages first.cell.head rest
      → (c : PlacedCell) → Contains (first ∷ rest) c → StandsAt pages c.at c.cell × (¬ ¬ InChain pages layout c.at c.cell)
  chain_used first [] stands on follow c (zero, within, is) = subst (λ (d : PlacedCell). StandsAt pages d.at d.cell × (¬ ¬ InChain pages layout d.at d.cell)) is (stands, on)
  chain_used first [] stands on follow c (suc k, within, is) = absurd (omega (arith, within))
  chain_used first (d ∷ ds) stands on follow c (zero, within, is) = subst (λ (e : PlacedCell). StandsAt pages e.at e.cell × (¬ ¬ InChain pages layout e.at e.cell)) is (stands, on)
  chain_used first (d ∷ ds) stands on (leads, may, stands_d, more) c (suc k, within, is) =
      chain_used d ds stands_d (λ away. on (λ in_chain. goes_along pages layout laid tables first.at d.at first.cell d.cell in_chain leads stands_d away)) more c (k, omega (arith, within), is)

  may_stand : (c : PlacedCell) → StandsAt pages c.at c.cell → ¬ ¬ InChain pages layout c.at c.cell → (value : Record) → Contains c.cell.records value → (page : ℕ) (home : Home) → places_in value page ≡ At home → MayBe (frame_of layout) home
  may_stand c stands on value among page home at =
      may_be_by (frame_of layout) home
      (λ wrong. on (λ in_chain.
      no_extent pages layout laid no_fault (home_of c.at) (
        c.at,
        refl,
        record {
          page = page;
          home = home;
          has = record { cell = c.cell; on = on_table pages layout laid c.at c.cell (place_in pages layout laid tables c.at c.cell in_chain) stands; value = value; among = among; place = at };
          wrong = inl wrong;
        },
      )))

  -- a page of a file stands where it may
  pub page_may : (number : ℕ) (tag : Tag) (first : PlacedCell) (rest : List PlacedCell) → ¬ ¬ IsFirstOf pages (frame_of layout) number tag first.at → AreFile pages first rest
      → (page : ℕ) (home : Home) → places_of (first ∷ rest) page ≡ At home → MayBe (frame_of layout) home
  page_may number tag first rest named file page home at =
      let said = said_by (records_of (first ∷ rest)) page home at in
      let of = in_cell (first ∷ rest) said.value said.among in
      let begins : ¬ ¬ InChain pages layout first.at first.cell = λ away. named (λ is. away (begins_file pages layout laid tables first.at first.cell is.place file.links.stands file.primary)) in
      let used = chain_used first rest file.links.stands begins file.links.follow of.cell of.is_of in
      may_stand of.cell used.0 used.1 said.value of.among page home said.place
