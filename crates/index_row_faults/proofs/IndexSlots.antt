-- Wrong indexes slot by slot.
use Rattle.std.proofs.Common.{◌↔◌, ℕ}
use Rattle.page_faults.specs.domain_base.declared.place.Home.{Home}
use Rattle.page_faults.specs.page_store.Pages.{Pages}
use Rattle.page_faults.specs.fileset_table.Table.{Table}
use Rattle.page_faults.specs.domain_layout.DirectoryRules.{IsWrongIndexOf}
use Rattle.page_faults.specs.domain_layout.Reached.{Frame}
use Rattle.index_row_faults.specs.Wrong.{HasWrongIndex}

pub by_slot : (pages : Pages) (frame : Frame) (table : Table) (home : Home) → IsWrongIndexOf pages frame table home ↔ ((number : ℕ) × HasWrongIndex pages frame table number home)
by_slot pages frame table home = (
  λ w. (w.number, record { tag = w.dir; seen = w.seen; first = w.first; total = w.total; has = w.has; wrong = w.wrong }),
  λ (number, w). record { number = number; dir = w.tag; seen = w.seen; first = w.first; total = w.total; has = w.has; wrong = w.wrong },
)
