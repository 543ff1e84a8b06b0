use Rattle.index_row_faults.specs.file_release.Reading.{read_home}
use Rattle.slot_files.specs.Said.{place_in}
use Rattle.slot_files.proofs.Listed.{UpTo}
use Rattle.slot_files.proofs.SaidPlaces.{IsHomeAt}
use Rattle.slot_files.proofs.homes.homes_read.Given as goal

abbrev pub invariant-loop-page : goal.invariant-loop-page
invariant-loop-page l = UpTo (IsHomeAt (read_home l.frozen (place_in l.own) (place_in l.source))) l.homes.items l.page
