use Rattle.std.proofs.Common.{◌≡◌, take}
use Rattle.attached_domain.specs.Counted.{pages_there}
use Rattle.attached_domain.proofs.charges.count_pages.Given as goal

abbrev pub invariant-loop-home : goal.invariant-loop-home
invariant-loop-home l = l.count ≡ pages_there (take l.home-index l.homes)
