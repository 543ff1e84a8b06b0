-- The last of quota cells that goes, and the slot that names none then.
use Rattle.std.proofs.Common.{◌≡◌, ◌∙◌, false, ℕ, List, [], ◌∷◌, Option, Some, None, IsSome, IsSomeAnd, Contains, refl, sym, ap, subst}
use Rattle.std.specs.Option.{is_some, option_map, unwrap_or}
use Rattle.domain_changes.specs.domain_base.declared.place.CellAt.{CellAt}
use Rattle.domain_changes.specs.domain_base.declared.place.Home.{Home}
use Rattle.domain_changes.specs.page_store.Pages.{Pages, same_home}
use Rattle.domain_changes.specs.metadata_cells.Cell.{Cell}
use Rattle.domain_changes.specs.metadata_cells.CellPage.{IsUsedAt, KeepsHeaders, home_of}
use Rattle.domain_changes.specs.metadata_cells.Chain.{LeavesOthers, PlacedCell, StandsAt, is_at}
use Rattle.domain_changes.specs.free_cells.Belong.{Belong}
use Rattle.domain_changes.specs.free_cells.Cells.{Cells, FreesCell, table_of}
use Rattle.domain_changes.specs.file_chains.Allocated.{AreAllocated}
use Rattle.domain_changes.specs.file_chains.MapChanges.{LeavesOffTables}
use Rattle.domain_changes.proofs.OfFileChains.Added.{off_table, used_of}
use Rattle.domain_changes.proofs.OfFileChains.FewPages.{one_changes}
use Rattle.domain_changes.proofs.OfFileRelease.Freed.{allocated_freed}
use Rattle.domain_changes.specs.fileset_table.Table.{with_slot}
use Rattle.domain_changes.specs.fileset_table.declared.slot.SlotItem.TheVariants as slot
use Rattle.domain_changes.specs.release_list.Standing.{Files, IsQuotas, IsStanding, with_file}
use Rattle.domain_changes.proofs.OfReleaseList.Spread.{none_not}
use Rattle.domain_changes.proofs.OfReleaseList.Standings.{standing}
use Rattle.domain_changes.specs.staged_pages.Store.{pages_of}
use Rattle.domain_changes.specs.domain_memory.Staged.{staged_in}
use Rattle.domain_changes.specs.domain_memory.declared.memory.DomainMemory.{DomainMemory}
use Rattle.domain_changes.specs.domain_layout.Read.{contents_of}
use Rattle.domain_changes.specs.domain_standing.Domain.{item_in}
use Rattle.release_changes.specs.QuotaCells.{BeginsQuotas, LeadsNowhere, LosesLast}
use Rattle.domain_changes.specs.Table.{HasTablePage, PutsSlot}

-- one cell is left
record IsOne (pages : Pages) (at : CellAt) (chain : List PlacedCell) : Type 0 where
  last : PlacedCell
  is : chain ≡ last ∷ []
  begins : last.at ≡ at
  stands : StandsAt pages at last.cell

is_one : (pages : Pages) (at : CellAt) (chain : List PlacedCell) → IsQuotas pages at chain → ((cell : Cell) → StandsAt pages at cell → None ≡ cell.head.next) → IsOne pages at chain
is_one pages at [] quotas leads = absurd quotas
is_one pages at (first ∷ []) quotas leads = record { last = first; is = refl; begins = quotas.0; stands = subst (λ (a : CellAt). StandsAt pages a first.cell) quotas.0 quotas.1.links.stands }
is_one pages at (first ∷ second ∷ rest) quotas leads =
    absurd (none_not second.at (leads first.cell (subst (λ (a : CellAt). StandsAt pages a first.cell) quotas.0 quotas.1.links.stands) ∙ quotas.1.links.follow.0))

some_mapped : {X Y : Type 0} (f : X → Y) (o : Option X) → is_some (option_map f o) ≡ is_some o
some_mapped f None = refl
some_mapped f (Some x) = refl

module _ (old : DomainMemory) (at : CellAt) (files : Files) (has : BeginsQuotas old at files) (leads : LeadsNowhere old at) where
  one : IsOne (pages_of old.pages) at has.chain
  one = is_one (pages_of old.pages) at has.chain has.quotas leads

  on : IsStanding old.cells (pages_of old.pages) at (one.last ∷ [])
  on = standing old.space old.cells (pages_of old.pages) files has.has.well.together at (one.last ∷ []) (has.is ∙ ap Some one.is)

  pub belong_here : Belong old.cells (pages_of old.pages)
  belong_here = has.has.well.together.allocated.belong

  pub used_here : IsUsedAt (pages_of old.pages) at
  used_here = used_of (pages_of old.pages) at one.last.cell one.stands

  pub on_here : Contains (table_of old.cells at.vol) at.page
  on_here = subst (λ (a : CellAt). Contains (table_of old.cells a.vol) a.page) one.begins on.on_tables.0

  -- with the cell free
  module _ (mid : DomainMemory) (same : mid ≡ record old { pages = mid.pages; cells = mid.cells }) (frees : FreesCell at old.cells mid.cells) (others : LeavesOthers (is_at at) (pages_of old.pages) (pages_of mid.pages)) (belong : Belong mid.cells (pages_of mid.pages))
      (headers : KeepsHeaders (pages_of old.pages) (pages_of mid.pages)) (clears_off : (home : Home) → same_home home (home_of at) ≡ false → pages_of mid.pages home ≡ pages_of old.pages home)
    where
      -- the page of the table is there still
      pub table_there : HasTablePage old → HasTablePage mid
      table_there there = subst (λ (o : Option Home). IsSomeAnd o (λ home. IsSome (pages_of mid.pages home))) (sym (ap (λ (m : DomainMemory). m.frame.anchor.table) same)) (by_home old.frame.anchor.table there)
        where
          by_home : (o : Option Home) → IsSomeAnd o (λ home. IsSome (pages_of old.pages home)) → IsSomeAnd o (λ home. IsSome (pages_of mid.pages home))
          by_home None is = is
          by_home (Some home) is = sym (some_mapped _ (pages_of mid.pages home)) ∙ ap is_some (headers home) ∙ some_mapped _ (pages_of old.pages home) ∙ is

      elsewhere : LeavesOffTables mid.cells (pages_of old.pages) (pages_of mid.pages)
      elsewhere home off = clears_off home (off_table old.cells at home on_here (λ is_on. off (subst (λ (t : List ℕ). Contains t home.page) (sym (frees.tables home.vol)) is_on)))

      pub last_lost : (number : ℕ) (first_tag : Option Home) (new : DomainMemory) → PutsSlot number (slot.Removed first_tag None) mid new → item_in (staged_in old) number ≡ Some (slot.Removed first_tag (Some at)) → LosesLast number at files old new
      last_lost number first_tag new puts was cells = (
        with_file at None files,
        record {
          first_tag = first_tag;
          at = at;
          was = was;
          pages = pages_of mid.pages;
          contents = contents_of (pages_of mid.pages);
          frees = record {
            unlisted = cells.unlisted;
            last = one.last;
            is = has.is ∙ ap Some one.is;
            files_are = refl;
            frees = subst (λ (c : Cells). FreesCell at old.cells c) (sym cells_same) frees;
            allocated = subst (λ (c : Cells). AreAllocated old.space c (pages_of mid.pages)) (sym cells_same) (allocated_freed at old.space old.cells mid.cells (pages_of old.pages) (pages_of mid.pages) has.has.well.together.allocated frees belong headers);
            others = others;
            elsewhere = subst (λ (c : Cells). LeavesOffTables c (pages_of old.pages) (pages_of mid.pages)) (sym cells_same) elsewhere;
            few = one_changes (pages_of old.pages) (pages_of mid.pages) (home_of at) clears_off;
            bytes = λ home still. ap (λ o. unwrap_or o []) still;
          };
          table = puts.table ∙ ap (λ (m : DomainMemory). with_slot number (slot.Removed first_tag None) m.table) same;
          says = λ home is. puts.says home (anchor_same ∙ is);
          others = λ home is_not. puts.others home (λ is. is_not (sym anchor_same ∙ is));
          bytes = λ home still. ap (λ o. unwrap_or o []) still;
          same = all_same;
        },
      )
        where
          cells_same : new.cells ≡ mid.cells
          cells_same = ap (λ (m : DomainMemory). m.cells) puts.same

          anchor_same : mid.frame.anchor.table ≡ old.frame.anchor.table
          anchor_same = ap (λ (m : DomainMemory). m.frame.anchor.table) same

          all_same : staged_in new ≡ record (staged_in old) { table = new.table; pages = pages_of new.pages; contents = contents_of (pages_of new.pages); cells = new.cells }
          all_same = ap staged_in (puts.same ∙ (λ i. record (same i) { pages = new.pages; table = new.table; was = new.was; cells = mid.cells }) ∙ (λ i. record old { pages = new.pages; table = new.table; was = new.was; cells = sym cells_same i }))
