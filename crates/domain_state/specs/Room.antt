-- How many pages a domain may hold at the point that its history has reached.
use Rattle.std.specs.Prelude.{ℕ, ◌+◌, ◌*◌, ◌≤◌, List, length}
use Rattle.no_faults.specs.page_store.Pages.{Pages}
use Rattle.no_faults.specs.fileset_values.declared.entry.Entry.{Entry}
use Rattle.no_faults.specs.legal_histories.Room.{room}
use Rattle.no_faults.specs.legal_histories.State.{State}
use Rattle.no_faults.specs.domain_layout.Reached.{Frame}
use Rattle.no_faults.specs.domain_memory.Held.{held_open}
use Rattle.no_faults.specs.domain_memory.Memory.{kept_in}
use Rattle.no_faults.specs.domain_memory.declared.memory.DomainMemory.{DomainMemory}
use Rattle.domain_state.specs.Opening.{IsStartOf}

-- as memory was kept, the pages held are at most those that were old at the opening, plus those
-- that the state that the pages meant then may take, plus 24 for each entry since
abbrev pub IsWithinRoom : Pages → Frame → List ℕ → DomainMemory → List Entry → Type 0
IsWithinRoom pages frame sizes memory entries = (start : State) → IsStartOf pages frame sizes start
    → held_open (kept_in memory).space ≤ start.old_pages + room start + 24 * length entries

-- the change that is laid over memory leaves at most 24 pages more held
abbrev pub HoldsFew : DomainMemory → Type 0
HoldsFew memory = held_open memory.space ≤ held_open (kept_in memory).space + 24
