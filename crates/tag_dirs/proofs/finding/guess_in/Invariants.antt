use Rattle.std.proofs.Common.{◌≡◌, length}
use Rattle.tag_dirs.proofs.finding.guess_in.Given as goal

abbrev pub invariant-loop-number : goal.invariant-loop-number
invariant-loop-number g l = length l.guesses ≡ length l.places
