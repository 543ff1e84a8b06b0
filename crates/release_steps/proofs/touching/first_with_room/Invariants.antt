use Rattle.std.proofs.Common.{◌≡◌, None, map, take}
use Rattle.quota_book.specs.QuotaCells.{first_where, has_room}
use Rattle.release_steps.specs.QuotaChain.{says_of}
use Rattle.release_steps.proofs.touching.first_with_room.Given as goal

abbrev pub invariant-loop-place : goal.invariant-loop-place
invariant-loop-place l = first_where (has_room) (take l.place (map says_of l.cells)) ≡ None
