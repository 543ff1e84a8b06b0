use Rattle.std.proofs.Common.{◌≡◌, ◌-◌, ◌++◌, take, drop}
use Rattle.directory_pages.proofs.Written.{moved}
use Rattle.directory_pages.proofs.gap.close_gap.Given as goal

abbrev pub invariant-loop-at : goal.invariant-loop-at
invariant-loop-at l = l.page ≡ take l.gap l.initial.page ++ take (l.at - l.gap) (moved l.gap l.len l.end l.initial.page) ++ drop l.at l.initial.page
