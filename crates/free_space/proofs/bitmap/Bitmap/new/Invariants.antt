use Rattle.std.proofs.Common.{◌≡◌, length}
use Rattle.free_space.proofs.Blank.{IsBlank}
use Rattle.free_space.proofs.bitmap.Bitmap.new.Given as goal

abbrev pub invariant-loop-k : goal.invariant-loop-k
invariant-loop-k l = IsBlank l.bytes.items l.pages × (length l.bytes.items ≡ l.k)
