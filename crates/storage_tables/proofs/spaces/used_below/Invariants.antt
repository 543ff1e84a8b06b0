use Rattle.std.proofs.Common.{◌≡◌}
use Rattle.storage_tables.proofs.spaces.used_below.Given as goal

abbrev pub invariant-loop-page : goal.invariant-loop-page
invariant-loop-page l = l.map.pages ≡ l.pages
