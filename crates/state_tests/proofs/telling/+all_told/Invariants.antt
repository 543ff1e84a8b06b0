use Rattle.std.proofs.Common.{length}
use Rattle.state_tests.proofs.telling.+all_told.Given as goal

abbrev pub decreases-all_told : goal.decreases-all_told
decreases-all_told g l = length l.lines.now
