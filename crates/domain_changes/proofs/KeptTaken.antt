-- What is kept of free space and of free cells if a page is taken and a cell handed out.
use Rattle.std.proofs.Common.{◌≡◌, ◌∙◌, ℕ, Result, Ok, Err, IfErr, OnOk, OnErr, ap, ⊎_elim}
use Rattle.domain_memory.specs.page_store.Pages.{Pages}
use Rattle.domain_memory.specs.page_store.declared.fault.StoreFault.{StoreFault}
use Rattle.domain_memory.specs.page_store.declared.fault.StoreFault.TheVariants.{NoPage, OutOfMemory}
use Rattle.domain_memory.specs.free_cells.Cells.{Cells, is_closed, kept_of}
use Rattle.domain_memory.specs.free_space.Spaces.{Spaces, kept_spaces, volume_of}
use Rattle.domain_memory.proofs.OfFreeSpace.Kept.{kept-with_page}
use Rattle.domain_memory.specs.file_chains.Allocated.{FindsNone}
use Rattle.domain_memory.specs.file_chains.MapChanges.{TakesOne}

-- all that is kept is what it was, and no volume is closed or activated
pub record KeptOver (space space_now : Spaces) (cells cells_now : Cells) : Type 0 where
  pub spaces : kept_spaces space_now ≡ kept_spaces space
  pub tables : (vol : ℕ) → kept_of cells_now vol ≡ kept_of cells vol
  pub marks : (vol : ℕ) → is_closed cells_now vol ≡ is_closed cells vol

pub one_kept : (prefer : ℕ) (space space_now : Spaces) (cells cells_now : Cells) (old : Pages) → TakesOne prefer space space_now cells cells_now old → KeptOver space space_now cells cells_now
one_kept prefer space space_now cells cells_now old t = ⊎_elim
    (λ had. record {
      spaces = ap kept_spaces had.same_space;
      tables = λ vol. t.takes.taken.keeps vol ∙ ap (λ (c : Cells). kept_of c vol) had.same_cells;
      marks = λ vol. t.takes.taken.marks vol ∙ ap (λ (c : Cells). is_closed c vol) had.same_cells;
    })
    (λ none. record {
      spaces = ap kept_spaces none.adds.used ∙ kept-with_page none.home.page space none.home.vol;
      tables = λ vol. t.takes.taken.keeps vol ∙ none.adds.joins.keeps vol;
      marks = λ vol. t.takes.taken.marks vol ∙ none.adds.joins.marks vol;
    })
    t.takes.before

-- the same, but that a miss may be counted
pub record KeptBoth (space space_now : Spaces) (cells cells_now : Cells) : Type 0 where
  pub spaces : (vol : ℕ) → volume_of (kept_spaces space_now) vol ≡ volume_of (kept_spaces space) vol
  pub tables : (vol : ℕ) → kept_of cells_now vol ≡ kept_of cells vol
  pub marks : (vol : ℕ) → is_closed cells_now vol ≡ is_closed cells vol

pub over_both : (space space_now : Spaces) (cells cells_now : Cells) → KeptOver space space_now cells cells_now → KeptBoth space space_now cells cells_now
over_both space space_now cells cells_now k = record { spaces = λ vol. ap (λ (s : Spaces). volume_of s vol) k.spaces; tables = k.tables; marks = k.marks }

pub none_kept : (space space_now : Spaces) (cells cells_now : Cells) (fault : StoreFault) → FindsNone space space_now cells fault → cells_now ≡ cells → KeptBoth space space_now cells cells_now
none_kept space space_now cells cells_now NoPage none same = record {
  spaces = λ vol. ap (λ (s : Spaces). volume_of (kept_spaces s) vol) none.2;
  tables = λ vol. ap (λ (c : Cells). kept_of c vol) same;
  marks = λ vol. ap (λ (c : Cells). is_closed c vol) same;
}
none_kept space space_now cells cells_now OutOfMemory none same = record {
  spaces = λ vol. ap (λ (s : Spaces). volume_of (kept_spaces s) vol) none;
  tables = λ vol. ap (λ (c : Cells). kept_of c vol) same;
  marks = λ vol. ap (λ (c : Cells). is_closed c vol) same;
}

-- whichever end a call has that hands out a cell
pub call_kept : {X : Type 0} (prefer : ℕ) (space space_now : Spaces) (cells cells_now : Cells) (old : Pages) (r : Result X StoreFault) → OnOk r (TakesOne prefer space space_now cells cells_now old) → IfErr r (FindsNone space space_now cells) → OnErr r (cells_now ≡ cells)
    → KeptBoth space space_now cells cells_now
call_kept prefer space space_now cells cells_now old (Ok x) taken none same = over_both space space_now cells cells_now (one_kept prefer space space_now cells cells_now old taken)
call_kept prefer space space_now cells cells_now old (Err fault) taken none same = none_kept space space_now cells cells_now fault none same
