use Rattle.slot_files.proofs.SecondPages.{IsOneBefore}
use Rattle.slot_files.proofs.sizes.has_two.Given as goal

abbrev pub invariant-loop-home : goal.invariant-loop-home
invariant-loop-home l = IsOneBefore l.homes l.home-index l.has_one
