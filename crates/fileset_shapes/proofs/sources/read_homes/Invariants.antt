use Rattle.filesets_reading.specs.extent_maps.Runs.{place_of}
use Rattle.filesets_reading.specs.file_release.Reading.{read_home}
use Rattle.filesets_reading.proofs.Originals.{ListsUpTo}
use Rattle.fileset_shapes.proofs.ReadHomes.{placed_at}
use Rattle.fileset_shapes.proofs.sources.read_homes.Given as goal

abbrev pub invariant-loop-page : goal.invariant-loop-page
invariant-loop-page l = ListsUpTo (λ page. placed_at (read_home l.frozen (place_of l.own) (place_of l.source) page)) l.homes.items l.page
