use Rattle.std.proofs.Common.{◌≡◌, ◌≤◌}
use Rattle.domain_changes.specs.fileset_model.Filesets.{FilesetMap}
use Rattle.domain_changes.specs.domain_memory.Held.{held_open}
use Rattle.domain_changes.specs.domain_memory.Memory.{StandsFor}
use Rattle.domain_changes.specs.domain_memory.Staged.{IsSettled, MayGoBack}
use Rattle.release_changes.proofs.releasing.drain.Given as goal

abbrev pub invariant-loop : goal.invariant-loop
invariant-loop l = record {
  stands : (all : FilesetMap) → StandsFor l.initial.memory all → StandsFor l.memory all;
  held : held_open l.memory.space ≤ held_open l.initial.memory.space;
  settled : IsSettled l.memory;
  back : ∥ MayGoBack l.memory ∥₁;
  frame : l.memory.frame ≡ l.initial.memory.frame;
}
