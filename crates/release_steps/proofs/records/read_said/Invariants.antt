use Rattle.std.proofs.Common.{◌≡◌, take}
use Rattle.quota_book.specs.QuotaCells.{said_by}
use Rattle.release_steps.proofs.records.read_said.Given as goal

abbrev pub invariant-loop-value : goal.invariant-loop-value
invariant-loop-value l = l.said.items ≡ said_by (take l.value-index l.records)
