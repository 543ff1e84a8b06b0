use Rattle.std.proofs.Common.{All, IsSome, take}
use Rattle.log_recovery.specs.domain_base.declared.place.Home.{Home}
use Rattle.log_tables.proofs.stores.has_all.Given as goal

abbrev pub invariant-loop-home : goal.invariant-loop-home
invariant-loop-home g l = All (λ (home : Home). IsSome (g.M.MetaPages.pages l.store home)) (take l.home-index l.homes)
