-- The tables of a domain once the first cell of a file and the pages of its index have changed.
use Rattle.std.proofs.Common.{◌≡◌, ◌∙◌, ⊎_elim, ℕ, ◌+◌, ◌<◌, true, nat_eq, List, length, Option, Some, None, IsSomeAnd, slice_get, slice_index, refl, sym, ap, subst, arith}
use Rattle.std.proofs.lemmas.Bool.{cases_Bool, cases_lt, eq-eqb, eqb-true, true≢false}
use Rattle.domain_standing.specs.domain_base.declared.place.CellAt.{CellAt}
use Rattle.domain_standing.specs.domain_base.declared.place.Home.{Home}
use Rattle.domain_standing.specs.log_ring.Homes.{IsMember}
use Rattle.domain_standing.specs.page_store.Pages.{Pages}
use Rattle.domain_standing.specs.metadata_cells.Cell.{Cell}
use Rattle.domain_standing.specs.metadata_cells.CellPage.{next_of}
use Rattle.domain_standing.specs.metadata_cells.Chain.{StandsAt}
use Rattle.domain_standing.specs.metadata_cells.declared.head.CellKind.TheVariants.{Primary, Volume}
use Rattle.domain_standing.proofs.OfMetadataCells.Unique.{one_stands}
use Rattle.domain_standing.specs.free_cells.Belong.{IsPageOf, home_at}
use Rattle.domain_standing.specs.free_cells.Cells.{is_free, table_of}
use Rattle.domain_standing.proofs.OfFreeCells.Belongs.{free_below, used_not_free}
use Rattle.domain_standing.specs.free_space.Spaces.{Spaces}
use Rattle.domain_standing.specs.file_chains.Changes.{IsInUse}
use Rattle.domain_standing.specs.file_chains.MapChanges.{IsHandedOut}
use Rattle.domain_standing.proofs.OfFileChains.Added.{used_of}
use Rattle.domain_standing.proofs.OfFilesetFiles.Tags.{directory_same, pages_same}
use Rattle.domain_standing.specs.fileset_table.Page.{IsTablePage}
use Rattle.domain_standing.specs.fileset_table.declared.slot.SlotItem.{SlotItem}
use Rattle.domain_standing.specs.release_list.Standing.{Files}
use Rattle.domain_standing.proofs.OfReleaseList.Standings.{same_or_not}
use Rattle.domain_standing.specs.Space.{AreCellsOf, IsFreeAt}
use Rattle.domain_standing.specs.domain_layout.Filled.{Contents}
use Rattle.domain_standing.specs.domain_layout.Layout.{AreTagPlaces, IsCellTable, IsPageAt, first_tag_of}
use Rattle.domain_standing.specs.domain_layout.Reached.{first_cells}
use Rattle.domain_standing.specs.Chains.{IndexesAt}
use Rattle.domain_standing.specs.Domain.{DomainNow, layout_of}
use Rattle.domain_standing.specs.Holders.Holder.{of_table}
use Rattle.domain_standing.specs.Tables.{HasVolumeCell, StandTables, first_place}
use Rattle.standing_laws.specs.Leads.{StandsBelow}
use Rattle.standing_laws.proofs.CellsNow.{free_not_used, used_or_free}
use Rattle.standing_laws.proofs.IndexTold.{Told, cell_now, file_was, led, member_of_table, other_tag_page, page_stays, stands_now}
use Rattle.standing_laws.proofs.TablesStand.{default_is, first_in, past}

module _ (d : DomainNow) (files : Files) (indexes : IndexesAt) (below : StandsBelow d files indexes) (pages : Pages) (contents : Contents) (space : Spaces) (homes : List Home) (t : Told d files indexes pages space homes) where
  abbrev now : DomainNow
  now = led d files indexes below pages contents space homes t

  -- ---- free cells

  in_use_now : (at : CellAt) → IsHandedOut d.cells at → IsInUse pages at
  in_use_now at out = ⊎_elim
      (λ same. (t.says t.first.cell, subst (λ (a : CellAt). StandsAt pages a (t.says t.first.cell)) (sym same) (stands_now d files indexes below pages contents space homes t)))
      (λ apart. ⊎_elim
      (λ used. (used.0, cell_now d files indexes below pages contents space homes t at used.0 out.on apart used.1))
      (λ free. absurd (true≢false (sym ((below.tables.cells.free at).1 (record {
        member = member_of_table d files indexes below pages contents space homes t at.vol at.page out.on;
        table = out.on;
        within = out.within;
        free = free;
      })) ∙ out.taken)))
      (used_or_free d.pages d.cells t.well.together.allocated.belong at out.on out.within))
      (same_or_not at t.first.at)

  free_there : (at : CellAt) → is_free d.cells at ≡ true → IsFreeAt pages (layout_of now) at
  free_there at free =
      let on = t.belong.on_table at free in
      let within = free_below d.cells pages t.belong at free in
      record {
        member = member_of_table d files indexes below pages contents space homes t at.vol at.page on;
        table = on;
        within = within;
        free = ⊎_elim
            (λ in_use. absurd (true≢false (sym free ∙ used_not_free d.cells pages t.belong at (used_of pages at in_use.0 in_use.1))))
            (λ is. is)
            (used_or_free pages d.cells t.belong at on within);
      }

  there_free : (at : CellAt) → IsFreeAt pages (layout_of now) at → is_free d.cells at ≡ true
  there_free at is = ⊎_elim
      (λ free. free)
      (λ taken. absurd (free_not_used pages d.cells t.belong at is.table is.within is.free (in_use_now at (record { on = is.table; within = is.within; taken = taken }))))
      (cases_Bool (is_free d.cells at))

  cells_now : AreCellsOf pages (layout_of now) d.cells
  cells_now = record {
    tables = λ vol member. refl;
    others = below.tables.cells.others;
    closed = below.tables.cells.closed;
    free = λ at. (free_there at, there_free at);
  }

  -- ---- the tables of cells

  module _ (vol : ℕ) (member : IsMember d.frame.anchor vol) where
    was : IsCellTable d.pages vol (first_cells d.frame vol) (table_of d.cells vol)
    was = below.tables.laid.cells vol member

    page_now : (place : ℕ) → place < length (table_of d.cells vol) → IsSomeAnd (pages (record { vol = vol; page = slice_index (table_of d.cells vol) place })) (IsPageAt (table_of d.cells vol) place)
    page_now place within = by_page (pages (home_at d.cells vol place)) (t.belong.run vol place within) (t.ends vol place)
      where
        by_page : (o : Option (List ℕ)) → IsSomeAnd o (IsPageOf (table_of d.cells vol) place) → (place + 1 ≡ length (table_of d.cells vol) → IsSomeAnd o (λ page. next_of page ≡ 0)) → IsSomeAnd o (IsPageAt (table_of d.cells vol) place)
        by_page None is ends = absurd is
        by_page (Some page) is ends = record {
          good = is.good;
          indexed = is.indexed;
          linked = ⊎_elim
              (λ before. is.linked before ∙ sym (default_is (table_of d.cells vol) (place + 1) 0 before))
              (λ last. ends (omega (arith, last, within)) ∙ sym (past (table_of d.cells vol) (place + 1) 0 last))
              (cases_lt (place + 1) (length (table_of d.cells vol)));
        }

    table_now : IsCellTable pages vol (first_cells d.frame vol) (table_of d.cells vol)
    table_now = record { begins = was.begins; some = was.some; each = page_now }

    -- the first cell of the volume is none of a file
    volume_cell_now : HasVolumeCell now vol
    volume_cell_now =
        let cell = below.tables.volumes vol member in
        record {
          cell = cell.cell;
          stands = cell_now d files indexes below pages contents space homes t (first_place d.frame vol) cell.cell (first_in (table_of d.cells vol) (first_cells d.frame vol) was.begins) (apart cell) cell.stands;
          says = cell.says;
        }
      where
        apart : HasVolumeCell d vol → ¬ first_place d.frame vol ≡ t.first.at
        apart cell same =
            let file = file_was d files indexes below pages contents space homes t in
            let it = one_stands d.pages t.first.at t.first.cell cell.cell file.links.stands (subst (λ (a : CellAt). StandsAt d.pages a cell.cell) same cell.stands) in
            let e : Primary ≡ Volume = sym file.primary ∙ ap (λ (c : Cell). c.head.kind) it ∙ cell.says.kind in absurd (cc)

  -- ---- tag directories

  own_tags : (first : Option Home) → AreTagPlaces d.pages first (d.tags t.number) → AreTagPlaces pages first (d.tags t.number)
  own_tags None are = are
  own_tags (Some first) are = record { directory = t.are.directory; begins = are.begins }

  other_tags : (other : ℕ) → ¬ other ≡ t.number → (first : Option Home) → AreTagPlaces d.pages first (d.tags other) → AreTagPlaces pages first (d.tags other)
  other_tags other differ None are = are
  other_tags other differ (Some first) are = record {
    directory = directory_same d.pages pages (d.tags other) are.directory (pages_same d.pages pages (d.tags other) (other_tag_page d files indexes below pages contents space homes t other differ));
    begins = are.begins;
  }

  tags_now : (other : ℕ) (item : SlotItem) → slice_get d.table.slots other ≡ Some item → AreTagPlaces pages (first_tag_of item) (d.tags other)
  tags_now other item there = ⊎_elim
      (λ same.
      let is : other ≡ t.number = eqb-true other t.number same in
      subst (λ (k : ℕ). AreTagPlaces pages (first_tag_of item) (d.tags k)) (sym is)
      (own_tags (first_tag_of item) (below.tables.laid.tags t.number item (sym (ap (slice_get d.table.slots) is) ∙ there))))
      (λ not_same.
      let differ : ¬ other ≡ t.number = λ e. true≢false (sym (eq-eqb other t.number e) ∙ not_same) in
      other_tags other differ (first_tag_of item) (below.tables.laid.tags other item there))
      (cases_Bool (nat_eq other t.number))

  -- ---- the table of filesets

  table_stays : (o : Option Home) → d.frame.anchor.table ≡ o → IsSomeAnd o (λ home. IsSomeAnd (d.pages home) (λ page. IsTablePage page d.table)) → IsSomeAnd o (λ home. IsSomeAnd (pages home) (λ page. IsTablePage page d.table))
  table_stays None at is = absurd is
  table_stays (Some home) at is =
      subst (λ o. IsSomeAnd o (λ page. IsTablePage page d.table)) (sym (page_stays d files indexes below pages contents space homes t of_table home at (λ k e. cc) (λ e. cc) (λ e. cc))) is

  pub tables_told : StandTables now
  tables_told = record {
    laid = record {
      version = below.tables.laid.version;
      table = table_stays d.frame.anchor.table refl below.tables.laid.table;
      cells = table_now;
      tags = tags_now;
    };
    log = below.tables.log;
    few = below.tables.few;
    may = below.tables.may;
    volumes = volume_cell_now;
    cells = cells_now;
  }
