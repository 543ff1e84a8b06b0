use Rattle.std.proofs.Common.{◌≡◌, ◌≤◌, ◌+◌, ◌-◌, vec_len}
use Rattle.std.specs.Io.KnownBytes.{Consumes}
use Rattle.run_parts.proofs.transfer.read_all.Given as goal

-- what was taken from the source is held
abbrev pub invariant-loop-bytes : goal.invariant-loop-bytes
invariant-loop-bytes g l = record {
  short : vec_len l.bytes ≤ l.limit + 1;
  taken : Consumes (g.S.Source.left l.initial.source) (g.S.Source.left l.source) l.bytes.items;
  count : g.S.Source.faults l.initial.source ≤ g.S.Source.faults l.source;
  room : vec_len l.piece ≡ 65536;
}

abbrev pub decreases-loop-bytes : goal.decreases-loop-bytes
decreases-loop-bytes g l = l.limit + 1 - vec_len l.bytes
