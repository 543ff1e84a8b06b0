use Rattle.std.proofs.Common.{All, take}
use Rattle.log_recovery.specs.log_ring.Homes.{IsLoggable}
use Rattle.log_tables.proofs.stores.may_be_logged.Given as goal

abbrev pub invariant-loop-home : goal.invariant-loop-home
invariant-loop-home l = All (IsLoggable l.anchor) (take l.home-index l.homes)
