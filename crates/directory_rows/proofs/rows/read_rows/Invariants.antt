use Rattle.std.proofs.Common.{◌≡◌, take}
use Rattle.directory_rows.specs.Stored.{rows_of_homes}
use Rattle.directory_rows.proofs.rows.read_rows.Given as goal

abbrev pub invariant-loop-home : goal.invariant-loop-home
invariant-loop-home g l = l.rows.items ≡ rows_of_homes (g.M.MetaPages.pages l.pages) (take l.home-index l.homes)
