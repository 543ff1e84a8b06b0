use Rattle.std.proofs.Common.{◌≡◌, ◌≤◌}
use Rattle.domain_changes.specs.fileset_model.Filesets.{FilesetMap}
use Rattle.domain_changes.specs.domain_memory.Held.{held_open}
use Rattle.domain_changes.specs.domain_memory.Kept.{KeepsKept}
use Rattle.domain_changes.specs.domain_memory.Staged.{MayBeKept, MayGoBack}
use Rattle.release_changes.specs.Emptying.{UsesFewer}
use Rattle.release_changes.proofs.emptying.take_tags_out.Given as goal

abbrev pub invariant-loop-count : goal.invariant-loop-count
invariant-loop-count l = record {
  ok : (all : FilesetMap) → MayBeKept l.initial.memory all → MayBeKept l.memory all;
  same : l.count ≡ 0 → l.memory ≡ l.initial.memory;
  fewer : ¬ l.count ≡ 0 → UsesFewer l.fn.number l.initial.memory l.memory;
  held : held_open l.memory.space ≤ held_open l.initial.memory.space;
  kept : KeepsKept l.initial.memory l.memory;
  back : ∥ MayGoBack l.memory ∥₁;
  table : l.memory.table ≡ l.initial.memory.table;
  frame : l.memory.frame ≡ l.initial.memory.frame;
}
