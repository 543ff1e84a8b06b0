use Rattle.std.proofs.Common.{◌-◌, ◌^◌}
use Rattle.directory_faults.specs.Walk.{IsListed}
use Rattle.directory_faults.proofs.Walked.{IsOnTheWay}
use Rattle.directory_faults.proofs.walk.go_on.Given as goal

abbrev pub invariant-loop-place : goal.invariant-loop-place
invariant-loop-place l = IsListed l.initial.walk → IsOnTheWay l.children l.initial.walk l.walk l.place

abbrev pub decreases-loop-place : goal.decreases-loop-place
decreases-loop-place l = 2 ^ 64 - l.place
