-- The tables of a domain stand on over steps.
use Rattle.std.proofs.Common.{◌≡◌, ◌∙◌, ◌↔◌, ℕ, ◌+◌, ◌<◌, Bool, true, List, length, Option, Some, None, IsSomeAnd, slice_index, refl, sym, subst, arith, ⊎_elim, true≢false}
use Rattle.std.proofs.lemmas.Bool.{cases_Bool, cases_lt}
use Rattle.standing_laws.specs.domain_base.declared.place.CellAt.{CellAt}
use Rattle.standing_laws.specs.domain_base.declared.place.Home.{Home}
use Rattle.standing_laws.specs.log_ring.Homes.{IsMember}
use Rattle.standing_laws.specs.metadata_cells.CellPage.{next_of}
use Rattle.standing_laws.specs.tag_dirs.Directory.{has_home}
use Rattle.standing_laws.specs.free_cells.Belong.{IsPageOf}
use Rattle.standing_laws.specs.free_cells.Cells.{is_free, table_of}
use Rattle.standing_laws.proofs.OfFreeCells.Belongs.{free_below, used_not_free}
use Rattle.standing_laws.proofs.OfFileChains.Added.{used_of}
use Rattle.standing_laws.proofs.OfFilesetFiles.Tags.{directory_same, pages_same}
use Rattle.standing_laws.specs.fileset_table.Page.{IsTablePage}
use Rattle.standing_laws.specs.release_list.Standing.{Files}
use Rattle.standing_laws.specs.release_list.Steps.{IsWell}
use Rattle.standing_laws.specs.domain_standing.Space.{AreCellsOf, IsFreeAt, IsOpen}
use Rattle.standing_laws.specs.domain_layout.Layout.{AreTagPlaces, IsCellTable, IsPageAt, first_tag_of}
use Rattle.standing_laws.specs.domain_layout.Reached.{first_cells}
use Rattle.standing_laws.specs.domain_standing.Chains.{IndexesAt}
use Rattle.standing_laws.specs.domain_standing.Domain.{DomainNow, all_of, layout_of}
use Rattle.standing_laws.specs.domain_standing.Holders.{Holder, Holds}
use Rattle.standing_laws.specs.domain_standing.Holders.Holder.{of_cells, of_table, of_tags}
use Rattle.standing_laws.specs.domain_standing.Sources.{StandAlone}
use Rattle.standing_laws.specs.domain_standing.Tables.{HasVolumeCell, StandTables, first_place}
use Rattle.standing_laws.specs.Leads.{StandsBelow}
use Rattle.standing_laws.proofs.CellsNow.{free_not_used, used_or_free}
use Rattle.standing_laws.proofs.TablesStand.{default_is, first_in, past}
use Rattle.release_laws.specs.Released.{Releases}
use Rattle.release_laws.proofs.Led.{go, led, led_is, member_of_table, on_was, well_now}

module _ (group count : ℕ) (d now : DomainNow) (files files_now : Files) (indexes : IndexesAt) (below : StandsBelow d files indexes) (alone : StandAlone d) (s : Releases group count d now files files_now) where
  abbrev it : DomainNow
  it = led group count d now files files_now indexes below alone s

  -- a page that is held for something else than cells is as it was
  pub page_stays : (home : Home) (holder : Holder) → Holds d files indexes holder home → ¬ holder ≡ of_cells → now.pages home ≡ d.pages home
  page_stays home holder held other = (go group count d now files files_now indexes below alone s).off home (λ on.
      other (below.owned.once home holder of_cells held (member_of_table d files indexes below home.vol home.page on, on)))

  pub tag_page : (number : ℕ) (home : Home) → has_home (d.tags number) home ≡ true → now.pages home ≡ d.pages home
  tag_page number home has = page_stays home (of_tags number) has (λ e. cc)

  -- ---- tables of cells

  module _ (vol : ℕ) (member : IsMember d.frame.anchor vol) where
    was : IsCellTable d.pages vol (first_cells d.frame vol) (table_of d.cells vol)
    was = below.tables.laid.cells vol member

    same : table_of now.cells vol ≡ table_of d.cells vol
    same = (go group count d now files files_now indexes below alone s).tables vol

    page_now : (place : ℕ) → place < length (table_of d.cells vol) → IsSomeAnd (now.pages (record { vol = vol; page = slice_index (table_of d.cells vol) place })) (IsPageAt (table_of d.cells vol) place)
    page_now place within = by_pages (d.pages home) (now.pages home) (was.each place within)
        (subst (λ (t : List ℕ). IsSomeAnd (now.pages (record { vol = vol; page = slice_index t place })) (IsPageOf t place)) same (well.together.allocated.belong.run vol place (subst (λ (t : List ℕ). place < length t) (sym same) within)))
        (subst (λ (t : List ℕ). place + 1 ≡ length t → IsSomeAnd (now.pages (record { vol = vol; page = slice_index t place })) (λ page. next_of page ≡ 0)) same (well.together.allocated.ends vol place))
      where
        home : Home
        home = record { vol = vol; page = slice_index (table_of d.cells vol) place }

        well : IsWell (all_of it files_now)
        well = well_now group count d now files files_now indexes below alone s

        by_pages : (o p : Option (List ℕ)) → IsSomeAnd o (IsPageAt (table_of d.cells vol) place) → IsSomeAnd p (IsPageOf (table_of d.cells vol) place) → (place + 1 ≡ length (table_of d.cells vol) → IsSomeAnd p (λ page. next_of page ≡ 0))
            → IsSomeAnd p (IsPageAt (table_of d.cells vol) place)
        by_pages o None at is ends = absurd is
        by_pages None (Some page) at is ends = absurd at
        by_pages (Some before) (Some page) at is ends = record {
          good = is.good;
          indexed = is.indexed;
          linked = ⊎_elim
              (λ inner. is.linked inner ∙ sym (default_is (table_of d.cells vol) (place + 1) 0 inner))
              (λ last. ends (omega (arith, last, within)) ∙ sym (past (table_of d.cells vol) (place + 1) 0 last))
              (cases_lt (place + 1) (length (table_of d.cells vol)));
        }

    table_now : IsCellTable now.pages vol (first_cells d.frame vol) (table_of now.cells vol)
    table_now = subst (IsCellTable now.pages vol (first_cells d.frame vol)) (sym same) (record { begins = was.begins; some = was.some; each = page_now })

    volume_cell : HasVolumeCell it vol
    volume_cell =
        let cell = below.tables.volumes vol member in
        record {
          cell = cell.cell;
          stands = (go group count d now files files_now indexes below alone s).volumes (first_place d.frame vol) cell.cell cell.stands (first_in (table_of d.cells vol) (first_cells d.frame vol) was.begins) cell.says.kind;
          says = cell.says;
        }

  -- ---- free cells

  free_there : (q : CellAt) → is_free now.cells q ≡ true → IsFreeAt now.pages (layout_of it) q
  free_there q free =
      let belong = (well_now group count d now files files_now indexes below alone s).together.allocated.belong in
      let on = belong.on_table q free in
      let within = free_below now.cells now.pages belong q free in
      record {
        member = member_of_table d files indexes below q.vol q.page (on_was group count d now files files_now indexes below alone s q.vol q.page on);
        table = on;
        within = within;
        free = ⊎_elim
            (λ in_use. absurd (true≢false (sym free ∙ used_not_free now.cells now.pages belong q (used_of now.pages q in_use.0 in_use.1))))
            (λ is. is)
            (used_or_free now.pages now.cells belong q on within);
      }

  there_free : (q : CellAt) → IsFreeAt now.pages (layout_of it) q → is_free now.cells q ≡ true
  there_free q is = ⊎_elim
      (λ free. free)
      (λ taken. absurd (free_not_used now.pages now.cells (well_now group count d now files files_now indexes below alone s).together.allocated.belong q is.table is.within is.free
      ((go group count d now files files_now indexes below alone s).used q (record { on = is.table; within = is.within; taken = taken }))))
      (cases_Bool (is_free now.cells q))

  cells_now : AreCellsOf now.pages (layout_of it) now.cells
  cells_now = record {
    tables = λ vol member. refl;
    others = λ vol none. (go group count d now files files_now indexes below alone s).tables vol ∙ below.tables.cells.others vol none;
    closed = λ vol member. subst (λ (b : Bool). (b ≡ true) ↔ ¬ IsOpen d.frame.anchor vol) (sym ((go group count d now files files_now indexes below alone s).marks vol)) (below.tables.cells.closed vol member);
    free = λ q. (free_there q, there_free q);
  }

  -- ---- tag directories and the table of filesets

  places_stay : (number : ℕ) (first : Option Home) → AreTagPlaces d.pages first (d.tags number) → AreTagPlaces now.pages first (d.tags number)
  places_stay number None are = are
  places_stay number (Some first) are = record {
    directory = directory_same d.pages now.pages (d.tags number) are.directory (pages_same d.pages now.pages (d.tags number) (tag_page number));
    begins = are.begins;
  }

  table_stays : (o : Option Home) → d.frame.anchor.table ≡ o → IsSomeAnd o (λ home. IsSomeAnd (d.pages home) (λ page. IsTablePage page d.table)) → IsSomeAnd o (λ home. IsSomeAnd (now.pages home) (λ page. IsTablePage page d.table))
  table_stays None at is = absurd is
  table_stays (Some home) at is = subst (λ o. IsSomeAnd o (λ page. IsTablePage page d.table)) (sym (page_stays home of_table at (λ e. cc))) is

  pub led_tables : StandTables it
  led_tables = record {
    laid = record {
      version = below.tables.laid.version;
      table = table_stays d.frame.anchor.table refl below.tables.laid.table;
      cells = table_now;
      tags = λ number item there. places_stay number (first_tag_of item) (below.tables.laid.tags number item there);
    };
    log = below.tables.log;
    few = below.tables.few;
    may = below.tables.may;
    volumes = volume_cell;
    cells = cells_now;
  }

  pub tables_go : StandTables now
  tables_go = subst StandTables (led_is group count d now files files_now indexes below alone s) led_tables
