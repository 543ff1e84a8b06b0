-- Quota cells of what is being removed from slots of a domain's memory, which go one after the
-- other.
use Rattle.std.specs.Prelude.{◌≡◌, ◌⊎◌, ◌++◌, ◌∷◌, ℕ, [], None, Some}
use Rattle.domain_changes.specs.domain_base.declared.place.CellAt.{CellAt}
use Rattle.domain_changes.specs.metadata_cells.Cell.{Cell}
use Rattle.domain_changes.specs.metadata_cells.Chain.{StandsAt}
use Rattle.domain_changes.specs.staged_pages.Store.{pages_of}
use Rattle.domain_changes.specs.release_list.Standing.{Files}
use Rattle.domain_changes.specs.release_list.Steps.{HasQuotas, now_of}
use Rattle.release_laws.specs.QuotaCells.{EndsQuotaOf, LosesQuotaOf}
use Rattle.domain_changes.specs.domain_memory.Going.{HasQuotaCells}
use Rattle.domain_changes.specs.domain_memory.Staged.{staged_in}
use Rattle.domain_changes.specs.domain_memory.declared.memory.DomainMemory.{DomainMemory}

-- with these files quota cells begin there, which may be let go of: as if they were the last
-- thing on the list
abbrev pub BeginsQuotas : DomainMemory → CellAt → Files → Type 0
BeginsQuotas memory at files = HasQuotas (staged_in memory).list.entries
    (record { at = at; clone = None })
    (now_of (record {
      entries = (staged_in memory).list.entries ++ record { at = at; clone = None } ∷ [];
      tag_pages = (staged_in memory).list.tag_pages;
    }) files memory.space memory.cells (pages_of memory.pages))

-- the first of them leads to this one, or to none
abbrev pub LeadsOn : DomainMemory → CellAt → CellAt → Type 0
LeadsOn memory at next = (cell : Cell) → StandsAt (pages_of memory.pages) at cell
    → Some next ≡ cell.head.next

-- the quota cell leads to none
abbrev pub LeadsNowhere : DomainMemory → CellAt → Type 0
LeadsNowhere memory at = (cell : Cell) → StandsAt (pages_of memory.pages) at cell
    → None ≡ cell.head.next

-- the second goes of the quota cells that a slot names
abbrev pub LosesSecond : ℕ → CellAt → Files → DomainMemory → DomainMemory → Type 0
LosesSecond number at files old new = HasQuotaCells old number at → (files_now : Files)
    × LosesQuotaOf number (staged_in old) (staged_in new) files files_now

-- the last does, and the slot names none then
abbrev pub LosesLast : ℕ → CellAt → Files → DomainMemory → DomainMemory → Type 0
LosesLast number at files old new = HasQuotaCells old number at → (files_now : Files)
    × EndsQuotaOf number (staged_in old) (staged_in new) files files_now

-- one of the quota cells that a slot names goes: the second or, if there is no second, the last
abbrev pub LosesOne : ℕ → DomainMemory → DomainMemory → Type 0
LosesOne number old new = (at : CellAt) × HasQuotaCells old number at × ((files : Files)
    → BeginsQuotas old at files
    → LosesSecond number at files old new ⊎ LosesLast number at files old new)
