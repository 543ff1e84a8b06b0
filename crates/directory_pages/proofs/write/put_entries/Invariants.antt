use Rattle.std.proofs.Common.{◌≡◌, ◌+◌, ◌*◌, ◌++◌, take, drop}
use Rattle.std.specs.List.{AllByRecursion}
use Rattle.directory_pages.specs.Index.{Fits, spelling}
use Rattle.directory_pages.proofs.write.put_entries.Given as goal

abbrev pub invariant-loop-place : goal.invariant-loop-place
invariant-loop-place l = record {
  written : l.page ≡ take 16 l.initial.page ++ spelling (take l.place l.entries) ++ drop (16 + 8 * l.place) l.initial.page;
  fit : AllByRecursion Fits (take l.place l.entries);
}
