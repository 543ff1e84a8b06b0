use Rattle.std.specs.List.{AllWithin}
use Rattle.log_ring.specs.Homes.{IsLoggable}
use Rattle.log_recovery.proofs.scan.are_loggable.Given as goal

abbrev pub invariant-loop-home : goal.invariant-loop-home
invariant-loop-home l = AllWithin (IsLoggable l.anchor) l.homes 0 l.home-index
