-- Indexes that cells name, while pages of indexes are added.
use Rattle.std.proofs.Common.{◌≡◌, ◌∙◌, ℕ, zero, suc, ◌+◌, ◌<◌, List, [], ◌∷◌, length, get_or, ap, Some, IsSome, Contains, slice_get, sym, subst, arith, ⊎_elim}
use Rattle.std.proofs.lemmas.Bool.{cases_lt}
use Rattle.slot_files.specs.domain_base.declared.place.CellAt.{CellAt}
use Rattle.slot_files.specs.domain_base.declared.place.Home.{Home}
use Rattle.slot_files.specs.page_store.Pages.{Pages}
use Rattle.slot_files.specs.domain_layout.DirectoryRules.{HasIndexAt}
use Rattle.slot_files.specs.domain_layout.Reached.{Frame, index_way}
use Rattle.slot_files.specs.domain_layout.Alike.{AgreeOnCells}
use Rattle.slot_files.proofs.OfDomainLayout.CellsAlike.{turned_cells, used_alike}
use Rattle.slot_files.proofs.OfDomainLayout.OnePage.{some_same}
use Rattle.slot_files.specs.page_faults.Indexes.{AreIndexes}
use Rattle.slot_files.specs.page_faults.declared.indexes.IndexAt.{IndexAt}
use Rattle.image_loading.specs.Indexes.{HasIndexes}
use Rattle.image_loading.specs.Loading.{HasCells, HasWay}
use Rattle.image_loading.proofs.Walking.{way_stays}

-- the pages of the indexes of a list that stand in front of one
abbrev pub HasIndexesBelow : ℕ → Pages → Frame → List IndexAt → Type 0
HasIndexesBelow n pages frame indexes = (k : ℕ) (index : IndexAt) → k < n → slice_get indexes k ≡ Some index → HasWay pages frame (index_way index.first)

module _ (pages more : Pages) (frame : Frame) (kept : (home : Home) → IsSome (pages home) → more home ≡ pages home) where
  agree_on_cells : HasCells pages frame → AgreeOnCells pages more frame
  agree_on_cells has vol member passed home reached may = sym (kept home (has vol member passed home reached may))

  -- a cell that names an index named it before
  named_before : HasCells pages frame → (at : CellAt) (first : Home) → HasIndexAt more frame at first → HasIndexAt pages frame at first
  named_before has at first is = record {
    cell = is.cell;
    is = used_alike more pages frame (turned_cells pages more frame (agree_on_cells has)) at is.cell is.is;
    value = is.value;
    there = is.there;
    begins = is.begins;
  }

  -- so where the pages of each in a list are there, those of all are
  pub all_there : HasCells pages frame → (indexes : List IndexAt) → AreIndexes pages frame indexes → ((index : IndexAt) → Contains indexes index → HasWay more frame (index_way index.first)) → HasIndexes more frame
  all_there has indexes are each at first is = each (record { at = at; first = first }) ((are.each (record { at = at; first = first })).1 (named_before has at first is))

  -- one index more
  pub indexes_next : (indexes : List IndexAt) (n : ℕ) (index : IndexAt) → slice_get indexes n ≡ Some index → HasIndexesBelow n pages frame indexes → HasWay more frame (index_way index.first) → HasIndexesBelow (n + 1) more frame indexes
  indexes_next indexes n index there below here k other less is =
      ⊎_elim (λ low. way_stays pages more frame kept (index_way other.first) (below k other low is))
      (λ high.
      let place : n ≡ k = omega (arith, less, high) in
      let same : index ≡ other = some_same index other (sym there ∙ subst (λ j. slice_get indexes j ≡ Some other) (sym place) is) in
      subst (λ (i : IndexAt). HasWay more frame (index_way i.first)) same here) (cases_lt k n)

-- a member of a list stands somewhere in it
pub at_place : (indexes : List IndexAt) (k : ℕ) (index : IndexAt) → k < length indexes → get_or indexes k index ≡ index → slice_get indexes k ≡ Some index
at_place [] k index within is = absurd (omega (arith, within))
at_place (i ∷ is) zero index within same = ap Some same
at_place (i ∷ is) (suc k) index within same = at_place is k index (omega (arith, within)) same
