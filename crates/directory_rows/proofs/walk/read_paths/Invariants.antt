use Rattle.directory_pages.specs.domain_base.declared.place.Kind.TheVariants.{Directory}
use Rattle.directory_rows.specs.Ways.{rows_by}
use Rattle.directory_rows.proofs.AllLed.{IsListed}
use Rattle.directory_rows.proofs.walk.read_paths.Given as goal

abbrev pub invariant-loop-at : goal.invariant-loop-at
invariant-loop-at l = IsListed (rows_by l.directories) (l.fn.root, Directory) l.at l.found.items
