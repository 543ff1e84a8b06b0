-- No more pages are held than a history has room for, as it goes on.
use Rattle.std.proofs.Common.{◌≡◌, ◌≤◌, ◌++◌, ◌∷◌, [], ℕ, List, length, ap, arith}
use Rattle.no_faults.specs.page_store.Pages.{Pages}
use Rattle.no_faults.specs.fileset_values.declared.entry.Entry.{Entry}
use Rattle.no_faults.proofs.OfReleaseList.Lists.{longer}
use Rattle.no_faults.specs.domain_layout.Reached.{Frame}
use Rattle.no_faults.specs.domain_standing.Domain.{DomainNow}
use Rattle.no_faults.specs.domain_memory.Held.{held_open}
use Rattle.no_faults.specs.domain_memory.Kept.{KeepsKept}
use Rattle.no_faults.specs.domain_memory.Memory.{kept_in}
use Rattle.no_faults.specs.domain_memory.Staged.{IsSettled}
use Rattle.no_faults.specs.domain_memory.declared.memory.DomainMemory.{DomainMemory}
use Rattle.no_faults.proofs.OfDomainMemory.Held.{held_same}
use Rattle.domain_state.specs.Room.{HoldsFew, IsWithinRoom}

module _ (pages : Pages) (frame : Frame) (sizes : List ℕ) (old new : DomainMemory) where
  -- if no page more is held, and there are no fewer entries
  pub within_longer : (entries more : List Entry) → IsWithinRoom pages frame sizes old entries → held_open (kept_in new).space ≤ held_open (kept_in old).space → length entries ≤ length more → IsWithinRoom pages frame sizes new more
  within_longer entries more within less long start is = let was = within start is in omega (arith, was, less, long)

  module _ (entries : List Entry) where
    -- as long as what was kept stays
    pub within_kept : KeepsKept old new → IsWithinRoom pages frame sizes old entries → IsWithinRoom pages frame sizes new entries
    within_kept kept within = within_longer entries entries within (held_same (kept_in new).space (kept_in old).space kept.spaces) (omega arith)

    -- or is what is there again
    pub within_back : kept_in new ≡ kept_in old → IsWithinRoom pages frame sizes old entries → IsWithinRoom pages frame sizes new entries
    within_back back within =
        let same : held_open (kept_in new).space ≡ held_open (kept_in old).space = ap (λ (d : DomainNow). held_open d.space) back in
        within_longer entries entries within (omega (arith, same)) (omega arith)

    -- or no change is laid over it, before or now, and no page more is held
    pub within_settled : IsSettled old → IsSettled new → held_open new.space ≤ held_open old.space → IsWithinRoom pages frame sizes old entries → IsWithinRoom pages frame sizes new entries
    within_settled was now less within =
        let held_was : held_open (kept_in old).space ≡ held_open old.space = ap held_open was.space in
        let held_now : held_open (kept_in new).space ≡ held_open new.space = ap held_open now.space in
        within_longer entries entries within (omega (arith, held_was, held_now, less)) (omega arith)

    -- a change that leaves few more is kept with an entry
    pub within_committed : (e : Entry) → held_open (kept_in new).space ≡ held_open old.space → HoldsFew old → IsWithinRoom pages frame sizes old entries → IsWithinRoom pages frame sizes new (entries ++ e ∷ [])
    within_committed e keeps few within start is =
        let was = within start is in
        omega (arith, was, keeps, few, longer entries e)

-- if no change is laid over it, none leaves more
pub settled_few : (memory : DomainMemory) → IsSettled memory → HoldsFew memory
settled_few memory settled = let same : held_open (kept_in memory).space ≡ held_open memory.space = ap held_open settled.space in omega (arith, same)
