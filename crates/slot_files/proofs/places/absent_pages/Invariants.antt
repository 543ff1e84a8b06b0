use Rattle.std.proofs.Common.{◌≡◌}
use Rattle.std.specs.Option.{option_map_or}
use Rattle.index_row_faults.specs.extent_maps.declared.run.PagePlace.TheVariants.{Absent}
use Rattle.slot_files.specs.Said.{place_there}
use Rattle.slot_files.proofs.Listed.{UpTo}
use Rattle.slot_files.proofs.places.absent_pages.Given as goal

abbrev pub invariant-loop : goal.invariant-loop
invariant-loop l = UpTo (λ p o. option_map_or place_there o Absent ≡ Absent) l.places.items l.counter
