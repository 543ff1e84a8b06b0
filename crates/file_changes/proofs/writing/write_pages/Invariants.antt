use Rattle.std.proofs.Common.{◌-◌}
use Rattle.std.specs.List.{range_with_len}
use Rattle.file_changes.proofs.Steps.{WritesSoFar}
use Rattle.file_changes.proofs.writing.write_pages.Given as goal

abbrev pub invariant-loop-page : goal.invariant-loop-page
invariant-loop-page l = WritesSoFar l.fn.memory l.number l.tag l.offset l.bytes (range_with_len l.first (l.page - l.first)) l.memory
