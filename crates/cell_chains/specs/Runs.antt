-- Runs of files' pages on volumes.
use Rattle.std.specs.Prelude.{◌≡◌, ◌==◌, ◌+◌, ◌-◌, ◌<◌, ◌≤◌, ℕ, List, [], ◌∷◌, Contains, if◌then◌else◌}
use Rattle.std.specs.List.{AllByRecursion}
use Rattle.metadata_cells.specs.domain_base.declared.place.CellAt.{CellAt}
use Rattle.metadata_cells.specs.domain_base.declared.place.Home.{Home}
use Rattle.metadata_cells.specs.sorted_sets.declared.span.Span.{Span}
use Rattle.cell_chains.specs.declared.run.FileRun.{FileRun}

-- the pages of its volume that a run has
abbrev pub span_of : FileRun → Span
span_of run = record { from = run.row.first; to = run.row.first + run.row.count }

-- those of the runs that stand on a volume
abbrev pub spans_on : ℕ → List FileRun → List Span
spans_on vol [] = []
spans_on vol (run ∷ runs) =
    if run.row.vol == vol then span_of run ∷ spans_on vol runs else spans_on vol runs

-- a page of the file is one of the run's, and where it stands on the run's volume
abbrev pub IsPageOf : FileRun → ℕ → Type 0
IsPageOf run page = (run.row.page ≤ page) × (page < run.row.page + run.row.count)

-- on which page of its volume a run has a page of its file
abbrev pub page_in : FileRun → ℕ → ℕ
page_in run page = run.row.first + (page - run.row.page)

-- where a run has a page of its file
abbrev pub home_in : FileRun → ℕ → Home
home_in run page = record { vol = run.row.vol; page = page_in run page }

-- a run of a cell has a page, and has it at a home
abbrev pub HasAt : FileRun → CellAt → ℕ → Home → Type 0
HasAt run at page home = (run.at ≡ at) × IsPageOf run page × (home_in run page ≡ home)

-- some of the runs has
abbrev pub HaveAt : List FileRun → CellAt → ℕ → Home → Type 0
HaveAt runs at page home = (run : FileRun) × Contains runs run × HasAt run at page home

-- no two of the runs have one page of one cell
abbrev pub Apart : FileRun → FileRun → Type 0
Apart run other = (page : ℕ) → IsPageOf run page → IsPageOf other page → ¬ run.at ≡ other.at

-- no two of the runs have one page of one cell
abbrev pub AreApart : List FileRun → Type 0
AreApart [] = Unit {0}
AreApart (run ∷ runs) = AllByRecursion (Apart run) runs × AreApart runs

-- where a page of a run stands, the runs have another page, or one of another cell
abbrev pub IsShared : List FileRun → FileRun → ℕ → Type 0
IsShared runs run page = (at : CellAt) × (number : ℕ)
    × HaveAt runs at number (home_in run page) × ¬ ((at ≡ run.at) × (number ≡ page))

-- some page of a run stands at a number that is such
abbrev pub HasPageIn : (ℕ → Type 0) → FileRun → Type 0
HasPageIn Is run = (page : ℕ) × IsPageOf run page × Is (page_in run page)

-- a page of a volume by its number
abbrev pub on : ℕ → ℕ → Home
on vol page = record { vol = vol; page = page }

-- some of the runs has a page of a file at a home
abbrev pub IsSaid : List FileRun → Home → Type 0
IsSaid runs home = (at : CellAt) × (page : ℕ) × HaveAt runs at page home
