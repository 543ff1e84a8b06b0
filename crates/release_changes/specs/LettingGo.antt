-- What on a domain's list may be let go of, and what is left once all was.
use Rattle.std.specs.Prelude.{ℕ}
use Rattle.domain_changes.specs.release_list.Standing.{Files}
use Rattle.domain_changes.specs.release_list.Steps.{IsWell, LetsGo, Now, now_of}
use Rattle.domain_changes.specs.staged_pages.Store.{pages_of}
use Rattle.domain_changes.specs.fileset_model.Filesets.{FilesetMap}
use Rattle.domain_changes.specs.domain_memory.Memory.{StandsFor}
use Rattle.domain_changes.specs.domain_memory.declared.memory.DomainMemory.{DomainMemory}

-- a domain's list, with its files, free space, free cells and pages
abbrev pub list_in : DomainMemory → Files → Now
list_in memory files =
    now_of memory.list.list files memory.space memory.cells (pages_of memory.pages)

-- `count` things of the list were let go of, one after the other, and no others, for any files with
-- which all was well
abbrev pub LetsListGo : ℕ → ℕ → DomainMemory → DomainMemory → Type 0
LetsListGo group count old new = (files : Files) → IsWell (list_in old files)
    → LetsGo group old.frame.version (list_in old files) count new.list.list new.space new.cells
    (pages_of new.pages)

-- the domain stands for some filesets
abbrev pub StandsForAny : DomainMemory → Type 0
StandsForAny memory = (all : FilesetMap) × StandsFor memory all
