use Rattle.std.proofs.Common.{length}
use Rattle.fileset_table.proofs.rules.+have_one_clone.Given as goal

abbrev pub decreases-have_one_clone : goal.decreases-have_one_clone
decreases-have_one_clone l = length l.slots.now
