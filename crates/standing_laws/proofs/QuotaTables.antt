-- The tables of a domain stand on once an owner's limits are set in a slot's fileset.
use Rattle.std.proofs.Common.{◌≡◌, ◌∙◌, ◌↔◌, ℕ, ◌+◌, ◌<◌, Bool, true, List, [], ◌∷◌, ◌++◌, length, Option, Some, None, IsSomeAnd, Contains, slice_get, slice_index, refl, sym, ap, subst, arith, ⊎_elim, true≢false}
use Rattle.std.proofs.lemmas.Bool.{cases_Bool, cases_lt}
use Rattle.std.proofs.lemmas.List.Elements.{Contains-push_cases}
use Rattle.domain_standing.specs.domain_base.declared.place.CellAt.{CellAt}
use Rattle.domain_standing.specs.domain_base.declared.place.Home.{Home}
use Rattle.domain_standing.specs.log_ring.Homes.{IsMember}
use Rattle.domain_standing.specs.metadata_cells.CellPage.{next_of}
use Rattle.domain_standing.specs.tag_dirs.declared.dir.TagPlace.{TagPlace}
use Rattle.domain_standing.specs.free_cells.Belong.{IsPageOf, home_at}
use Rattle.domain_standing.specs.free_cells.Cells.{is_free, table_of}
use Rattle.domain_standing.proofs.OfFreeCells.Belongs.{free_below, used_not_free}
use Rattle.domain_standing.proofs.OfFileChains.Added.{used_of}
use Rattle.domain_standing.proofs.OfFilesetFiles.Tags.{directory_same, pages_same}
use Rattle.domain_standing.specs.fileset_table.declared.slot.SlotItem.{SlotItem}
use Rattle.domain_standing.specs.fileset_table.declared.slot.SlotItem.TheVariants as slot
use Rattle.domain_standing.specs.release_list.Standing.{Files}
use Rattle.domain_standing.proofs.OfReleaseList.Lists.{last_in}
use Rattle.domain_standing.proofs.OfReleaseList.Spread.{none_not, some_same}
use Rattle.domain_standing.proofs.OfDomainLayout.Reached.{member_or_none}
use Rattle.domain_standing.specs.Space.{AreCellsOf, IsFreeAt, IsOpen}
use Rattle.domain_standing.specs.domain_layout.Layout.{AreTagPlaces, IsCellTable, IsPageAt, first_tag_of}
use Rattle.domain_standing.specs.domain_layout.Reached.{first_cells}
use Rattle.domain_standing.specs.Chains.{IndexesAt}
use Rattle.domain_standing.specs.Domain.{DomainNow, item_in, layout_of}
use Rattle.domain_standing.specs.Tables.{HasVolumeCell, StandTables, first_place}
use Rattle.standing_laws.specs.Leads.{StandsBelow}
use Rattle.standing_laws.specs.SetsQuota.{SetsQuota}
use Rattle.standing_laws.proofs.CellsNow.{free_not_used, in_use_now, used_or_free}
use Rattle.standing_laws.proofs.QuotaCells.{after, are_used, goes, grown, is, marks, was}
use Rattle.standing_laws.proofs.QuotaSlots.{item_mine, item_other, number_or_not, tag_page}
use Rattle.standing_laws.proofs.TablesStand.{default_is, first_in, index_in, past}
use Rattle.standing_laws.proofs.TablesTaken.{low_table, member_taken}

first_still : {X : Type 0} (xs ys : List X) (x : X) → slice_get xs 0 ≡ Some x → slice_get (xs ++ ys) 0 ≡ Some x
first_still [] ys x is = absurd (none_not x is)
first_still (y ∷ xs) ys x is = is

module _ (number : ℕ) (d now : DomainNow) (files files_now : Files) (indexes : IndexesAt) (below : StandsBelow d files indexes) (s : SetsQuota number d now files files_now) where
  -- the domain with its frame as it is
  abbrev led : DomainNow
  led = record now { frame = d.frame }

  others_empty : (vol : ℕ) → ¬ IsMember d.frame.anchor vol → table_of now.cells vol ≡ []
  others_empty vol none = ⊎_elim
      (λ same. same ∙ below.tables.cells.others vol none)
      (λ more.
      let low = low_table now.cells vol more.page (subst (λ (t : List ℕ). Contains t more.page) (sym more.joins) (last_in (table_of d.cells vol) more.page)) in
      absurd (none (member_taken d files indexes below.owned (record { vol = vol; page = more.page }) low more.free)))
      (grown number d now files files_now indexes below s vol)

  member_now : (vol p : ℕ) → Contains (table_of now.cells vol) p → IsMember d.frame.anchor vol
  member_now vol p on = ⊎_elim
      (λ member. member)
      (λ none. let e : length (table_of now.cells vol) ≡ 0 = ap length (others_empty vol none) in absurd (omega (arith, e, on.1)))
      (member_or_none d.frame.anchor vol)

  -- ---- free cells

  free_there : (at : CellAt) → is_free now.cells at ≡ true → IsFreeAt now.pages (layout_of led) at
  free_there at free =
      let belong = s.sets.allocated.belong in
      let on = belong.on_table at free in
      let within = free_below now.cells now.pages belong at free in
      record {
        member = member_now at.vol at.page on;
        table = on;
        within = within;
        free = ⊎_elim
            (λ in_use. absurd (true≢false (sym free ∙ used_not_free now.cells now.pages belong at (used_of now.pages at in_use.0 in_use.1))))
            (λ is. is)
            (used_or_free now.pages now.cells belong at on within);
      }

  there_free : (at : CellAt) → IsFreeAt now.pages (layout_of led) at → is_free now.cells at ≡ true
  there_free at at_free = ⊎_elim
      (λ free. free)
      (λ taken. absurd (free_not_used now.pages now.cells s.sets.allocated.belong at at_free.table at_free.within at_free.free
      (in_use_now (was number d now files files_now indexes below s) (is number d now files files_now indexes below s) (after number d now files files_now indexes below s)
      (are_used number d now files files_now indexes below s) (goes number d now files files_now indexes below s) at (record { on = at_free.table; within = at_free.within; taken = taken }))))
      (cases_Bool (is_free now.cells at))

  cells_now : AreCellsOf now.pages (layout_of led) now.cells
  cells_now = record {
    tables = λ vol member. refl;
    others = others_empty;
    closed = λ vol member. subst (λ (b : Bool). (b ≡ true) ↔ ¬ IsOpen d.frame.anchor vol) (sym (marks number d now files files_now indexes below s vol)) (below.tables.cells.closed vol member);
    free = λ at. (free_there at, there_free at);
  }

  -- ---- the tables of cells

  module _ (vol : ℕ) (member : IsMember d.frame.anchor vol) where
    stood : IsCellTable d.pages vol (first_cells d.frame vol) (table_of d.cells vol)
    stood = below.tables.laid.cells vol member

    none_zero : (p : ℕ) → Contains (table_of d.cells vol) p → ¬ p ≡ 0
    none_zero p (k, within, at) zero_page = stood.some k within (sym (default_is (table_of d.cells vol) k p within) ∙ at ∙ zero_page)

    none_zero_now : (p : ℕ) → Contains (table_of now.cells vol) p → ¬ p ≡ 0
    none_zero_now p on = ⊎_elim
        (λ same. none_zero p (subst (λ (t : List ℕ). Contains t p) same on))
        (λ more. ⊎_elim
        (none_zero p)
        (λ last zero_page. below.chains.well.together.allocated.first vol more.page member.first more.free (last ∙ zero_page))
        (Contains-push_cases (table_of d.cells vol) more.page p (subst (λ (t : List ℕ). Contains t p) more.joins on)))
        (grown number d now files files_now indexes below s vol)

    begins_now : slice_get (table_of now.cells vol) 0 ≡ Some (first_cells d.frame vol)
    begins_now = ⊎_elim
        (λ same. ap (λ (t : List ℕ). slice_get t 0) same ∙ stood.begins)
        (λ more. ap (λ (t : List ℕ). slice_get t 0) more.joins ∙ first_still (table_of d.cells vol) (more.page ∷ []) (first_cells d.frame vol) stood.begins)
        (grown number d now files files_now indexes below s vol)

    page_now : (place : ℕ) → place < length (table_of now.cells vol) → IsSomeAnd (now.pages (record { vol = vol; page = slice_index (table_of now.cells vol) place })) (IsPageAt (table_of now.cells vol) place)
    page_now place within = by_page (now.pages (home_at now.cells vol place)) (s.sets.allocated.belong.run vol place within) (s.sets.allocated.ends vol place)
      where
        by_page : (o : Option (List ℕ)) → IsSomeAnd o (IsPageOf (table_of now.cells vol) place) → (place + 1 ≡ length (table_of now.cells vol) → IsSomeAnd o (λ page. next_of page ≡ 0)) → IsSomeAnd o (IsPageAt (table_of now.cells vol) place)
        by_page None at ends = absurd at
        by_page (Some page) at ends = record {
          good = at.good;
          indexed = at.indexed;
          linked = ⊎_elim
              (λ before. at.linked before ∙ sym (default_is (table_of now.cells vol) (place + 1) 0 before))
              (λ last. ends (omega (arith, last, within)) ∙ sym (past (table_of now.cells vol) (place + 1) 0 last))
              (cases_lt (place + 1) (length (table_of now.cells vol)));
        }

    table_now : IsCellTable now.pages vol (first_cells d.frame vol) (table_of now.cells vol)
    table_now = record {
      begins = begins_now;
      some = λ place within. none_zero_now (slice_index (table_of now.cells vol) place) (index_in (table_of now.cells vol) place within);
      each = page_now;
    }

    -- the first cell of the volume
    volume_cell_now : HasVolumeCell led vol
    volume_cell_now =
        let cell = below.tables.volumes vol member in
        record {
          cell = cell.cell;
          stands = ⊎_elim
              (λ stands. stands)
              (λ inside. absurd (inside.1 cell.says.kind))
              ((goes number d now files files_now indexes below s).others (first_place d.frame vol) cell.cell cell.stands (first_in (table_of d.cells vol) (first_cells d.frame vol) stood.begins));
          says = cell.says;
        }

  -- ---- tag directories

  stay_tags : (n : ℕ) (first : Option Home) → AreTagPlaces d.pages first (d.tags n) → AreTagPlaces now.pages first (d.tags n)
  stay_tags n None are = are
  stay_tags n (Some first) are = record {
    directory = directory_same d.pages now.pages (d.tags n) are.directory (pages_same d.pages now.pages (d.tags n) (tag_page number d now files files_now indexes below s n));
    begins = are.begins;
  }

  tags_now : (n : ℕ) (item : SlotItem) → item_in now n ≡ Some item → AreTagPlaces now.pages (first_tag_of item) (now.tags n)
  tags_now n item there = subst (AreTagPlaces now.pages (first_tag_of item)) (ap (λ (t : ℕ → List TagPlace). t n) (sym s.tags)) (⊎_elim
      (λ same.
      let it : slot.Original (record s.entry { quota = Some s.sets.start }) ≡ item =
      some_same (slot.Original (record s.entry { quota = Some s.sets.start })) item (sym (item_mine number d now files files_now indexes below s) ∙ ap (item_in now) (sym same) ∙ there) in
      let mine = stay_tags number (Some s.entry.first_tag) (below.tables.laid.tags number (slot.Original s.entry) s.original) in
      subst (λ (x : SlotItem). AreTagPlaces now.pages (first_tag_of x) (d.tags n)) it (subst (λ (k : ℕ). AreTagPlaces now.pages (Some s.entry.first_tag) (d.tags k)) (sym same) mine))
      (λ differ. stay_tags n (first_tag_of item) (below.tables.laid.tags n item (sym (item_other number d now files files_now indexes below s n differ) ∙ there)))
      (number_or_not number d now files files_now indexes below s n))

  led_stand : StandTables led
  led_stand = record {
    laid = record {
      version = below.tables.laid.version;
      table = s.says;
      cells = table_now;
      tags = tags_now;
    };
    log = below.tables.log;
    few = below.tables.few;
    may = below.tables.may;
    volumes = volume_cell_now;
    cells = cells_now;
  }

  led_is : led ≡ now
  led_is = λ i. record now { frame = sym s.frame i }

  pub tables_stand : StandTables now
  tables_stand = subst StandTables led_is led_stand
