-- Pages of files that are there.
use Rattle.std.specs.Prelude.{◌<◌, ℕ, List, IsSome, Contains}
use Rattle.domain_faults.specs.domain_base.declared.place.Home.{Home}
use Rattle.domain_faults.specs.page_store.Pages.{Pages}
use Rattle.domain_faults.specs.domain_layout.Reached.{Frame, IsWithin}
use Rattle.domain_faults.specs.cell_chains.Runs.{IsPageOf, home_in}
use Rattle.domain_faults.specs.cell_chains.declared.run.FileRun.{FileRun}

-- a page is there, if it is one of a member
abbrev pub IsThereWithin : Pages → Frame → Home → Type 0
IsThereWithin pages frame home = IsWithin frame home → IsSome (pages home)

-- so are the first pages of a run, and all of them
abbrev pub HasPagesBelow : ℕ → Pages → Frame → FileRun → Type 0
HasPagesBelow n pages frame run = (page : ℕ) → IsPageOf run page → page < n
    → IsThereWithin pages frame (home_in run page)

-- each page of a run that a cell says is there, if it is one of a member
abbrev pub HasPagesOf : Pages → Frame → FileRun → Type 0
HasPagesOf pages frame run =
    (page : ℕ) → IsPageOf run page → IsThereWithin pages frame (home_in run page)

-- and those of all runs of a list
abbrev pub HasPagesOfAll : Pages → Frame → List FileRun → Type 0
HasPagesOfAll pages frame runs =
    (run : FileRun) → Contains runs run → HasPagesOf pages frame run
