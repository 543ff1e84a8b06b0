-- Free cells, free space and pages belong together once a cell is freed.
use Rattle.std.proofs.Common.{◌≡◌, ◌∙◌, ℕ, ◌<◌, IsSomeAnd, List, length, slice_index, sym, ap, subst}
use Rattle.fileset_files.specs.domain_base.declared.place.CellAt.{CellAt}
use Rattle.fileset_files.specs.domain_base.declared.place.Home.{Home}
use Rattle.fileset_files.specs.page_store.Pages.{Pages}
use Rattle.fileset_files.specs.metadata_cells.CellPage.{KeepsHeaders, next_of}
use Rattle.fileset_files.specs.free_cells.Cells.{Cells, FreesCell, is_closed, table_of}
use Rattle.fileset_files.specs.free_cells.Belong.{Belong, home_at}
use Rattle.fileset_files.specs.free_space.Spaces.{IsHeld, Spaces}
use Rattle.fileset_files.specs.file_chains.Allocated.{AreAllocated}
use Rattle.fileset_files.proofs.OfFileChains.Still.{next_stays}

abbrev home : ℕ → ℕ → Home
home vol page = record { vol = vol; page = page }

-- over tables and marks that are as they were
pub allocated_over : (space : Spaces) (cells cells_now : Cells) (old new : Pages) → AreAllocated space cells old → ((vol : ℕ) → table_of cells_now vol ≡ table_of cells vol) → ((vol : ℕ) → is_closed cells_now vol ≡ is_closed cells vol) → Belong cells_now new → KeepsHeaders old new
    → AreAllocated space cells_now new
allocated_over space cells cells_now old new allocated tables marks belong headers = record {
  belong = belong;
  held = λ vol place from within. subst (λ (t : List ℕ). IsHeld space vol (slice_index t place)) (sym (tables vol)) (allocated.held vol place from (subst (λ (t : List ℕ). place < length t) (tables vol) within));
  table = λ vol p from can. subst (λ (t : List ℕ). 0 < length t) (sym (tables vol)) (allocated.table vol p from can);
  opened = λ vol p from can. marks vol ∙ allocated.opened vol p from can;
  first = allocated.first;
  ends = λ vol place last.
      let here : home_at cells_now vol place ≡ home_at cells vol place = ap (λ (t : List ℕ). home vol (slice_index t place)) (tables vol) in
      subst (λ (h : Home). IsSomeAnd (new h) (λ page. next_of page ≡ 0)) (sym here)
      (next_stays (old (home_at cells vol place)) (new (home_at cells vol place)) (headers (home_at cells vol place)) (allocated.ends vol place (last ∙ ap length (tables vol))));
}

pub allocated_freed : (at : CellAt) (space : Spaces) (cells cells_now : Cells) (old new : Pages) → AreAllocated space cells old → FreesCell at cells cells_now → Belong cells_now new → KeepsHeaders old new → AreAllocated space cells_now new
allocated_freed at space cells cells_now old new allocated frees belong headers = allocated_over space cells cells_now old new allocated frees.tables frees.marks belong headers
