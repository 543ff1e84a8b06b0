use Rattle.std.proofs.Common.{◌≡◌, take, true}
use Rattle.std.specs.List.{AllByRecursion}
use Rattle.directory_pages.specs.Entries.{is_below}
use Rattle.directory_pages.proofs.index_page.count_below.Given as goal

abbrev pub invariant-loop-place : goal.invariant-loop-place
invariant-loop-place l = AllByRecursion (λ entry. is_below entry l.key ≡ true) (take l.place l.entries)
