use Rattle.std.proofs.Common.{◌≡◌, ◌≤◌, ◌==◌, count_by, take}
use Rattle.fileset_model.proofs.fileset.count_paths.Given as goal

abbrev pub invariant-loop-used : goal.invariant-loop-used
invariant-loop-used l = record {
  counted : l.count ≡ count_by (λ e. e.1 == l.number) (take l.used-index l.paths);
  few : l.count ≤ l.used-index;
}
