use Rattle.std.proofs.Common.{◌≡◌, None, map, take}
use Rattle.quota_book.specs.QuotaCells.{first_where, is_said}
use Rattle.release_steps.specs.QuotaChain.{says_of}
use Rattle.release_steps.proofs.touching.first_saying.Given as goal

abbrev pub invariant-loop-place : goal.invariant-loop-place
invariant-loop-place l = first_where (is_said l.who) (take l.place (map says_of l.cells)) ≡ None
