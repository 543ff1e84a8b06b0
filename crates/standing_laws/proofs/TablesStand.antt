-- The tables of a domain stand on after a call on a tag.
use Rattle.std.proofs.Common.{◌≡◌, ◌∙◌, ◌↔◌, ℕ, zero, suc, ◌+◌, ◌<◌, ◌≤◌, Bool, true, nat_eq, List, [], ◌∷◌, ◌++◌, length, Option, Some, None, IsSomeAnd, Contains, slice_get, slice_index, refl, sym, ap, subst, arith, ⊎_elim, true≢false}
use Rattle.std.proofs.lemmas.Bool.{cases_Bool, cases_lt, eq-eqb, eqb-true}
use Rattle.std.proofs.lemmas.List.Elements.{Contains-push_cases}
use Rattle.std.specs.Prelude.{slice_index_or}
use Rattle.domain_standing.specs.domain_base.declared.place.CellAt.{CellAt}
use Rattle.domain_standing.specs.domain_base.declared.place.Home.{Home}
use Rattle.domain_standing.specs.domain_base.declared.place.Tag.{Tag}
use Rattle.domain_standing.specs.domain_base.declared.version.Version.{Version}
use Rattle.domain_standing.specs.log_ring.Homes.{IsMember}
use Rattle.domain_standing.specs.metadata_cells.CellPage.{next_of}
use Rattle.domain_standing.specs.metadata_cells.Chain.{PlacedCell}
use Rattle.domain_standing.specs.tag_dirs.declared.dir.TagPlace.{TagPlace}
use Rattle.domain_standing.specs.tag_dirs.Directory.{has_home}
use Rattle.domain_standing.specs.free_cells.Belong.{IsPageOf, home_at}
use Rattle.domain_standing.specs.free_cells.Cells.{is_free, table_of}
use Rattle.domain_standing.proofs.OfFreeCells.Belongs.{free_below, used_not_free}
use Rattle.domain_standing.proofs.OfFileChains.Added.{used_of}
use Rattle.domain_standing.specs.fileset_files.Files.{Chains}
use Rattle.domain_standing.proofs.OfFilesetFiles.Tags.{directory_same, pages_same}
use Rattle.domain_standing.specs.fileset_table.Page.{IsTablePage}
use Rattle.domain_standing.specs.fileset_table.declared.slot.SlotItem.{SlotItem}
use Rattle.domain_standing.specs.fileset_table.declared.slot.SlotItem.TheVariants as slot
use Rattle.domain_standing.specs.release_list.Standing.{Files}
use Rattle.domain_standing.proofs.OfReleaseList.Lists.{last_in}
use Rattle.domain_standing.proofs.OfReleaseList.Spread.{none_not, some_same}
use Rattle.domain_standing.specs.release_steps.Calls.{Call, FilesetNow, StandsWell, cut, described, dropped, given, indexed, made, moved, put_in, refused}
use Rattle.domain_standing.proofs.OfReleaseSteps.TagCalls.{StandsTogether, together_call}
use Rattle.domain_standing.proofs.OfDomainLayout.Reached.{member_or_none}
use Rattle.domain_standing.specs.Space.{AreCellsOf, IsFreeAt, IsOpen}
use Rattle.domain_standing.specs.domain_layout.Layout.{AreTagPlaces, IsCellTable, IsPageAt, first_tag_of}
use Rattle.domain_standing.specs.domain_layout.Reached.{first_cells}
use Rattle.domain_standing.specs.Chains.{IndexesAt}
use Rattle.domain_standing.specs.Domain.{DomainNow, layout_of}
use Rattle.domain_standing.specs.Holders.{Holder}
use Rattle.domain_standing.specs.Holders.Holder.{of_table, of_tags}
use Rattle.domain_standing.specs.Tables.{HasVolumeCell, StandTables, first_place}
use Rattle.standing_laws.specs.Leads.{LeadsOn, MayCall, StandsBelow, fileset_now}
use Rattle.standing_laws.proofs.CellsNow.{AreUsed, CellsGoOn, dropped_cells, free_not_used, given_cells, in_use_now, made_cells, refused_cells, set_cells, used_or_free}
use Rattle.standing_laws.proofs.TablesTaken.{go_on, low_table, member_taken, page_stays}

-- ---- lists

pub default_is : (xs : List ℕ) (k d : ℕ) → k < length xs → slice_index_or xs k d ≡ slice_index xs k
default_is [] k d within = absurd (omega (arith, within))
default_is (x ∷ xs) zero d within = refl
default_is (x ∷ xs) (suc k) d within = default_is xs k d (omega (arith, within))

pub past : (xs : List ℕ) (k d : ℕ) → length xs ≤ k → slice_index_or xs k d ≡ d
past [] k d far = refl
past (x ∷ xs) zero d far = absurd (omega (arith, far))
past (x ∷ xs) (suc k) d far = past xs k d (omega (arith, far))

pub index_in : (xs : List ℕ) (k : ℕ) → k < length xs → Contains xs (slice_index xs k)
index_in xs k within = (k, within, default_is xs k (slice_index xs k) within)

first_still : {X : Type 0} (xs ys : List X) (x : X) → slice_get xs 0 ≡ Some x → slice_get (xs ++ ys) 0 ≡ Some x
first_still [] ys x is = absurd (none_not x is)
first_still (y ∷ xs) ys x is = is

pub first_in : (xs : List ℕ) (x : ℕ) → slice_get xs 0 ≡ Some x → Contains xs x
first_in [] x is = absurd (none_not x is)
first_in (y ∷ xs) x is = (0, omega arith, some_same y x is)

first_and : {X : Type 0} (P : X → Type 0) (xs ys : List X) → IsSomeAnd (slice_get xs 0) P → IsSomeAnd (slice_get (xs ++ ys) 0) P
first_and P [] ys is = absurd is
first_and P (x ∷ xs) ys is = is

abbrev pub number_of : Holder → ℕ
number_of Holder.of_volume = 0
number_of Holder.of_log = 0
number_of Holder.of_table = 0
number_of Holder.of_cells = 0
number_of (Holder.of_tags number) = number
number_of (Holder.of_index at place) = 0
number_of (Holder.of_file at page) = 0

-- ---- what a call does to cells

pub record SomeCells (old new : FilesetNow) : Type 0 where
  pub after : List PlacedCell
  pub goes : CellsGoOn old new after

module _ (number : ℕ) (version : Version) (tag : Tag) (old new : FilesetNow) (stood : StandsWell number old) (used : AreUsed old) (so_far : ℕ) where
  pub cells_go_on : (call : Call number version tag old new) → MayCall so_far number version tag old new call → SomeCells old new
  cells_go_on (refused s) may = record { after = []; goes = refused_cells old new s }
  cells_go_on (given s) may = record { after = s.puts.change.change.changes.after; goes = given_cells number version tag old new stood s }
  cells_go_on (moved s) may = absurd may
  cells_go_on (described value s) may = record { after = _; goes = set_cells number version tag old new stood _ s }
  cells_go_on (put_in parent s) may = record { after = _; goes = set_cells number version tag old new stood _ s }
  cells_go_on (indexed index s) may = absurd may
  cells_go_on (cut size lowered s) may = record { after = _; goes = set_cells number version tag old new stood _ s }
  cells_go_on (dropped s) may = record { after = _; goes = dropped_cells number version tag old new stood s }
  cells_go_on (made s) may = record { after = s.creates.first ∷ []; goes = made_cells number version tag old new stood used s }

-- ---- the tables

module _ (number : ℕ) (tag : Tag) (d now : DomainNow) (chains chains_now : Chains) (files files_now : Files) (indexes : IndexesAt) (below : StandsBelow d files indexes) (s : LeadsOn number tag d now chains chains_now files files_now) where
  abbrev pub old : FilesetNow
  old = fileset_now d number chains files

  abbrev pub new : FilesetNow
  new = fileset_now now number chains_now files_now

  -- the domain with its frame and table as they are
  abbrev pub led : DomainNow
  led = record now { frame = d.frame; table = d.table }

  pub together_now : StandsTogether number new
  together_now = together_call number d.frame.version tag old new s.call s.well.together

  pub member_of_table : (vol p : ℕ) → Contains (table_of d.cells vol) p → IsMember d.frame.anchor vol
  member_of_table vol p on = ⊎_elim
      (λ member. member)
      (λ none. let e : length (table_of d.cells vol) ≡ 0 = ap length (below.tables.cells.others vol none) in absurd (omega (arith, e, on.1)))
      (member_or_none d.frame.anchor vol)

  pub used : AreUsed old
  used at is = ⊎_elim
      (λ in_use. in_use)
      (λ free. absurd (true≢false (sym ((below.tables.cells.free at).1 (record { member = member_of_table at.vol at.page is.on; table = is.on; within = is.within; free = free })) ∙ is.taken)))
      (used_or_free d.pages d.cells s.well.together.allocated.belong at is.on is.within)

  pub some_cells : SomeCells old new
  some_cells = cells_go_on number d.frame.version tag old new s.well used d.table.made s.call s.may

  others_empty : (vol : ℕ) → ¬ IsMember d.frame.anchor vol → table_of now.cells vol ≡ []
  others_empty vol none = ⊎_elim
      (λ same. same ∙ below.tables.cells.others vol none)
      (λ more.
      let low = low_table now.cells vol more.page (subst (λ (t : List ℕ). Contains t more.page) (sym more.joins) (last_in (table_of d.cells vol) more.page)) in
      absurd (none (member_taken d files indexes below.owned (record { vol = vol; page = more.page }) low more.free)))
      ((go_on number tag d now chains chains_now files files_now indexes below s).tables vol)

  pub member_now : (vol p : ℕ) → Contains (table_of now.cells vol) p → IsMember d.frame.anchor vol
  member_now vol p on = ⊎_elim
      (λ member. member)
      (λ none. let e : length (table_of now.cells vol) ≡ 0 = ap length (others_empty vol none) in absurd (omega (arith, e, on.1)))
      (member_or_none d.frame.anchor vol)

  -- ---- free cells

  free_there : (at : CellAt) → is_free now.cells at ≡ true → IsFreeAt now.pages (layout_of led) at
  free_there at free =
      let belong = together_now.allocated.belong in
      let on = belong.on_table at free in
      let within = free_below now.cells now.pages belong at free in
      record {
        member = member_now at.vol at.page on;
        table = on;
        within = within;
        free = ⊎_elim
            (λ in_use. absurd (true≢false (sym free ∙ used_not_free now.cells now.pages belong at (used_of now.pages at in_use.0 in_use.1))))
            (λ is. is)
            (used_or_free now.pages now.cells belong at on within);
      }

  there_free : (at : CellAt) → IsFreeAt now.pages (layout_of led) at → is_free now.cells at ≡ true
  there_free at is = ⊎_elim
      (λ free. free)
      (λ taken. absurd (free_not_used now.pages now.cells together_now.allocated.belong at is.table is.within is.free
      (in_use_now old new some_cells.after used some_cells.goes at (record { on = is.table; within = is.within; taken = taken }))))
      (cases_Bool (is_free now.cells at))

  cells_now : AreCellsOf now.pages (layout_of led) now.cells
  cells_now = record {
    tables = λ vol member. refl;
    others = others_empty;
    closed = λ vol member. subst (λ (b : Bool). (b ≡ true) ↔ ¬ IsOpen d.frame.anchor vol) (sym ((go_on number tag d now chains chains_now files files_now indexes below s).marks vol)) (below.tables.cells.closed vol member);
    free = λ at. (free_there at, there_free at);
  }

  -- ---- the tables of cells

  module _ (vol : ℕ) (member : IsMember d.frame.anchor vol) where
    was : IsCellTable d.pages vol (first_cells d.frame vol) (table_of d.cells vol)
    was = below.tables.laid.cells vol member

    none_zero : (p : ℕ) → Contains (table_of d.cells vol) p → ¬ p ≡ 0
    none_zero p (k, within, is) zero_page = was.some k within (sym (default_is (table_of d.cells vol) k p within) ∙ is ∙ zero_page)

    none_zero_now : (p : ℕ) → Contains (table_of now.cells vol) p → ¬ p ≡ 0
    none_zero_now p on = ⊎_elim
        (λ same. none_zero p (subst (λ (t : List ℕ). Contains t p) same on))
        (λ more. ⊎_elim
        (none_zero p)
        (λ is zero_page. s.well.together.allocated.first vol more.page member.first more.free (is ∙ zero_page))
        (Contains-push_cases (table_of d.cells vol) more.page p (subst (λ (t : List ℕ). Contains t p) more.joins on)))
        ((go_on number tag d now chains chains_now files files_now indexes below s).tables vol)

    begins_now : slice_get (table_of now.cells vol) 0 ≡ Some (first_cells d.frame vol)
    begins_now = ⊎_elim
        (λ same. ap (λ (t : List ℕ). slice_get t 0) same ∙ was.begins)
        (λ more. ap (λ (t : List ℕ). slice_get t 0) more.joins ∙ first_still (table_of d.cells vol) (more.page ∷ []) (first_cells d.frame vol) was.begins)
        ((go_on number tag d now chains chains_now files files_now indexes below s).tables vol)

    page_now : (place : ℕ) → place < length (table_of now.cells vol) → IsSomeAnd (now.pages (record { vol = vol; page = slice_index (table_of now.cells vol) place })) (IsPageAt (table_of now.cells vol) place)
    page_now place within = by_page (now.pages (home_at now.cells vol place)) (together_now.allocated.belong.run vol place within) (together_now.allocated.ends vol place)
      where
        by_page : (o : Option (List ℕ)) → IsSomeAnd o (IsPageOf (table_of now.cells vol) place) → (place + 1 ≡ length (table_of now.cells vol) → IsSomeAnd o (λ page. next_of page ≡ 0)) → IsSomeAnd o (IsPageAt (table_of now.cells vol) place)
        by_page None is ends = absurd is
        by_page (Some page) is ends = record {
          good = is.good;
          indexed = is.indexed;
          linked = ⊎_elim
              (λ before. is.linked before ∙ sym (default_is (table_of now.cells vol) (place + 1) 0 before))
              (λ last. ends (omega (arith, last, within)) ∙ sym (past (table_of now.cells vol) (place + 1) 0 last))
              (cases_lt (place + 1) (length (table_of now.cells vol)));
        }

    pub table_now : IsCellTable now.pages vol (first_cells d.frame vol) (table_of now.cells vol)
    table_now = record {
      begins = begins_now;
      some = λ place within. none_zero_now (slice_index (table_of now.cells vol) place) (index_in (table_of now.cells vol) place within);
      each = page_now;
    }

    -- the first cell of the volume
    pub volume_cell_now : HasVolumeCell led vol
    volume_cell_now =
        let cell = below.tables.volumes vol member in
        record {
          cell = cell.cell;
          stands = ⊎_elim
              (λ stands. stands)
              (λ inside. absurd (inside.1 cell.says.kind))
              (some_cells.goes.others (first_place d.frame vol) cell.cell cell.stands (first_in (table_of d.cells vol) (first_cells d.frame vol) was.begins));
          says = cell.says;
        }

  -- ---- tag directories

  own_tags : AreTagPlaces now.pages (first_tag_of (slot.Original s.entry)) (now.tags number)
  own_tags = record {
    directory = together_now.files.directory;
    begins = ⊎_elim
        (λ same. subst (λ (ps : List TagPlace). IsSomeAnd (slice_get ps 0) (λ place. place.home ≡ s.entry.first_tag)) (sym same) begins)
        (λ more. subst (λ (ps : List TagPlace). IsSomeAnd (slice_get ps 0) (λ place. place.home ≡ s.entry.first_tag)) (sym more.joins) (first_and (λ place. place.home ≡ s.entry.first_tag) (d.tags number) (more.place ∷ []) begins))
        (go_on number tag d now chains chains_now files files_now indexes below s).places;
  }
    where
      begins : IsSomeAnd (slice_get (d.tags number) 0) (λ place. place.home ≡ s.entry.first_tag)
      begins = (below.tables.laid.tags number (slot.Original s.entry) s.original).begins

  pub other_tag_page : (other : ℕ) → ¬ other ≡ number → (home : Home) → has_home (d.tags other) home ≡ true → now.pages home ≡ d.pages home
  other_tag_page other differ home has =
      page_stays number tag d now chains chains_now files files_now indexes below s (of_tags other) home has (λ e. cc) (λ e. differ (ap number_of e))

  other_tags : (other : ℕ) → ¬ other ≡ number → (first : Option Home) → AreTagPlaces d.pages first (d.tags other) → AreTagPlaces now.pages first (d.tags other)
  other_tags other differ None are = are
  other_tags other differ (Some first) are = record {
    directory = directory_same d.pages now.pages (d.tags other) are.directory (pages_same d.pages now.pages (d.tags other) (other_tag_page other differ));
    begins = are.begins;
  }

  tags_now : (other : ℕ) (item : SlotItem) → slice_get d.table.slots other ≡ Some item → AreTagPlaces now.pages (first_tag_of item) (now.tags other)
  tags_now other item there = ⊎_elim
      (λ same.
      let is : other ≡ number = eqb-true other number same in
      let it : slot.Original s.entry ≡ item = some_same (slot.Original s.entry) item (sym s.original ∙ sym (ap (slice_get d.table.slots) is) ∙ there) in
      subst (λ (k : ℕ). AreTagPlaces now.pages (first_tag_of item) (now.tags k)) (sym is) (subst (λ (x : SlotItem). AreTagPlaces now.pages (first_tag_of x) (now.tags number)) it own_tags))
      (λ not_same.
      let differ : ¬ other ≡ number = λ e. true≢false (sym (subst (λ (k : ℕ). nat_eq other k ≡ true) e (eq-eqb other other refl)) ∙ not_same) in
      subst (λ (ps : List TagPlace). AreTagPlaces now.pages (first_tag_of item) ps) (sym (s.tags other differ)) (other_tags other differ (first_tag_of item) (below.tables.laid.tags other item there)))
      (cases_Bool (nat_eq other number))

  -- ---- the table of filesets

  table_stays : (o : Option Home) → d.frame.anchor.table ≡ o → IsSomeAnd o (λ home. IsSomeAnd (d.pages home) (λ page. IsTablePage page d.table)) → IsSomeAnd o (λ home. IsSomeAnd (now.pages home) (λ page. IsTablePage page d.table))
  table_stays None at is = absurd is
  table_stays (Some home) at is =
      subst (λ o. IsSomeAnd o (λ page. IsTablePage page d.table)) (sym (page_stays number tag d now chains chains_now files files_now indexes below s of_table home at (λ e. cc) (λ e. cc))) is

  led_stand : StandTables led
  led_stand = record {
    laid = record {
      version = below.tables.laid.version;
      table = table_stays d.frame.anchor.table refl below.tables.laid.table;
      cells = table_now;
      tags = tags_now;
    };
    log = below.tables.log;
    few = below.tables.few;
    may = below.tables.may;
    volumes = volume_cell_now;
    cells = cells_now;
  }

  pub led_is : led ≡ now
  led_is = λ i. record now { frame = sym s.frame i; table = sym s.table i }

  pub tables_stand : StandTables now
  tables_stand = subst StandTables led_is led_stand
