use Rattle.std.proofs.Common.{◌≡◌, ◌≤◌, filter, length, not, take}
use Rattle.plain_program.proofs.members.open_count.Given as goal

abbrev pub invariant-loop-line : goal.invariant-loop-line
invariant-loop-line l = record {
  counted : l.count ≡ length (filter (λ line. not line.closed) (take l.line-index l.members));
  few : l.count ≤ l.line-index;
}
