-- Where fewer pages are free than are needed, and none waits, the open members have fewer than may be needed.
use Rattle.std.proofs.Common.{◌≡◌, ◌∙◌, ◌+◌, ◌-◌, ◌<◌, ◌≤◌, ℕ, List, [], Option, None, IfSome, get_or, sym, ap, subst, arith, ⊎_elim}
use Rattle.std.proofs.Math.Logic.{∥∥₁_elim}
use Rattle.std.proofs.lemmas.Bool.{cases_lt}
use Rattle.std.specs.List.{sum_by}
use Rattle.no_faults.specs.page_store.Pages.{Pages}
use Rattle.no_faults.specs.free_space.Spaces.{Spaces}
use Rattle.no_faults.specs.fileset_model.Filesets.{FilesetMap}
use Rattle.no_faults.specs.fileset_values.declared.command.Command.{Command}
use Rattle.no_faults.specs.fileset_values.declared.entry.Entry.{Entry}
use Rattle.no_faults.specs.legal_histories.Point.{peak}
use Rattle.no_faults.specs.legal_histories.Room.{open_pages}
use Rattle.no_faults.specs.legal_histories.State.{State}
use Rattle.no_faults.specs.domain_layout.Reached.{Frame}
use Rattle.no_faults.specs.domain_memory.Held.{held_open}
use Rattle.no_faults.specs.domain_memory.Memory.{kept_in}
use Rattle.no_faults.specs.domain_memory.Staged.{IsSettled}
use Rattle.no_faults.specs.domain_memory.declared.memory.DomainMemory.{DomainMemory}
use Rattle.no_faults.specs.domain_memory.Going.{NoneWaits, free_in}
use Rattle.domain_state.specs.History.{GoesOn}
use Rattle.domain_state.specs.Opening.{IsStartOf}
use Rattle.domain_state.proofs.StartRoom.{start_room}
use Rattle.domain_state.specs.Short.{MayLackPages}
use Rattle.domain_state.proofs.OpenPages.{held_or_free, open_is, open_of}

module _ (pages : Pages) (frame : Frame) (sizes : List ℕ) (memory : DomainMemory) (entries : List Entry) (job : Option Command) (settled : IsSettled memory) (none : NoneWaits memory.space) where
  none_at : (k : ℕ) → IfSome (get_or memory.space.volumes k None) (λ v. v.waiting ≡ [])
  none_at k = let place : k + 1 - 1 ≡ k = omega arith in subst (λ n. IfSome (get_or memory.space.volumes n None) (λ v. v.waiting ≡ [])) place (none (k + 1))

  module _ (goes : GoesOn pages frame sizes memory entries job) (start : State) (is : IsStartOf pages frame sizes start) where
    -- what the open members have is held or free
    open_few : open_pages start ≤ held_open memory.space + free_in memory
    open_few =
        let its = subst (λ (f : Frame). IsStartOf pages f sizes start) (sym goes.same) is in
        let all = open_is memory goes.all goes.stands pages sizes start its ∙ ap (λ (s : Spaces). sum_by open_of s.volumes) settled.space in
        let two = held_or_free memory.space.volumes none_at in
        omega (arith, all, two)

  pub lacks : ∥ GoesOn pages frame sizes memory entries job ∥₁ → (all : FilesetMap) (more : ℕ) → free_in memory < more → MayLackPages pages frame sizes entries job all more
  lacks held all more few start is point comes same = ⊎_elim
      (λ less. less)
      (λ (most : peak point + more ≤ open_pages point.state). absurd (∥∥₁_elim held (λ x y. absurd x) (λ goes. too_many goes most)))
      (cases_lt (open_pages point.state) (peak point + more))
    where
      too_many : GoesOn pages frame sizes memory entries job → peak point + more ≤ open_pages point.state → ⊥
      too_many goes most =
          let has = start_room start entries job point all comes same in
          let open_same : open_pages point.state ≡ open_pages start = ap open_pages same in
          let open_least = open_few goes start is in
          let within = goes.within start is in
          let held_same : held_open (kept_in memory).space ≡ held_open memory.space = ap held_open settled.space in
          absurd (omega (arith, most, has.least, has.old, has.many, open_same, open_least, within, held_same, few))
