-- No more pages are held where a history begins than its state has room for.
use Rattle.std.proofs.Common.{◌≡◌, ◌+◌, ◌-◌, ℕ, List, [], arith, subst, sym}
use Rattle.std.proofs.Math.Logic.{∥∥₁_map}
use Rattle.no_faults.specs.fileset_model.Filesets.{FilesetMap}
use Rattle.no_faults.specs.legal_histories.Room.{room}
use Rattle.no_faults.specs.page_ways.Frame.{frame_in}
use Rattle.no_faults.specs.staged_pages.Store.{before_of}
use Rattle.no_faults.specs.domain_memory.Held.{held_open}
use Rattle.no_faults.specs.domain_memory.Memory.{StandsFor, kept_in}
use Rattle.no_faults.specs.free_space.Sound.{AreSound}
use Rattle.no_faults.specs.domain_memory.Staged.{IsSettled}
use Rattle.no_faults.specs.domain_memory.declared.memory.DomainMemory.{DomainMemory}
use Rattle.domain_state.specs.Room.{IsWithinRoom}
use Rattle.domain_state.proofs.MemberSums.{one_number}
use Rattle.domain_state.proofs.WithinRoom.{begins_within_room}

pub begun_within : (memory : DomainMemory) (sizes : List ℕ) → ∥ IsSettled memory ∥₁ → AreSound memory.space → (all : FilesetMap) → StandsFor memory all → IsWithinRoom (before_of memory.pages) (frame_in memory.frame) sizes memory []
begun_within memory sizes settled sound all stands start is =
    let held = held_open (kept_in memory).space in
    let most = start.old_pages + room start in
    let none : held - most ≡ 0 = one_number (held - most) 0 (∥∥₁_map settled (λ s. let less = begins_within_room memory sizes all stands (subst AreSound (sym s.space) sound) start is in omega (arith, less))) in
    omega (arith, none)
