-- Why no fileset begins.
use Rattle.std.proofs.Common.{◌≡◌, ◌∙◌, ℕ, inr, sym, ap, subst}
use Rattle.domain_memory.specs.domain_base.declared.place.Home.{Home}
use Rattle.domain_memory.specs.page_store.declared.fault.StoreFault.{StoreFault}
use Rattle.domain_memory.specs.page_store.declared.fault.StoreFault.TheVariants.{NoPage, OutOfMemory}
use Rattle.domain_memory.specs.free_cells.Cells.{Cells, can_take}
use Rattle.domain_memory.specs.free_space.Spaces.{CanTake, Spaces, change_volume}
use Rattle.domain_memory.specs.free_space.VolumeSpace.{with_page}
use Rattle.domain_memory.specs.file_chains.Allocated.{FindsNone}
use Rattle.domain_memory.specs.fileset_files.declared.bitfiles.Bitfiles.{Bitfiles}
use Rattle.domain_memory.specs.fileset_table.declared.slot.SlotItem.{SlotItem}
use Rattle.domain_memory.specs.declared.memory.DomainMemory.{DomainMemory}
use Rattle.domain_changes.specs.Beginning.{BeginsNone, BeginsTags}
use Rattle.domain_changes.specs.Table.{PutsSlot}

pub root_none : (number : ℕ) (home : Home) (files : Bitfiles) (item : SlotItem) (old mid new : DomainMemory) (space_now : Spaces) → BeginsTags number home files old mid → PutsSlot number item mid new → (fault : StoreFault) → FindsNone new.space space_now new.cells fault
    → BeginsNone old.space old.cells fault
root_none number home files item old mid new space_now begun puts NoPage none = inr (record {
  home = home;
  free = begun.free;
  no_other = λ vol p can. none.1 vol p (subst (λ (s : Spaces). CanTake s vol p) (sym space_is) can);
  no_cell = λ at. sym (ap (λ (c : Cells). can_take c at) cells_are) ∙ none.0 at;
})
  where
    space_is : new.space ≡ change_volume (with_page home.page) old.space home.vol
    space_is = ap (λ (m : DomainMemory). m.space) puts.same ∙ begun.space

    cells_are : new.cells ≡ old.cells
    cells_are = ap (λ (m : DomainMemory). m.cells) puts.same ∙ ap (λ (m : DomainMemory). m.cells) begun.same
root_none number home files item old mid new space_now begun puts OutOfMemory none = tt
