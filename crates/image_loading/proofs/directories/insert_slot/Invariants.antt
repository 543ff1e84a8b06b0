use Rattle.std.proofs.Common.{◌≡◌, ℕ, Some}
use Rattle.slot_files.specs.domain_base.declared.place.Home.{Home}
use Rattle.slot_files.specs.filesets_reading.Seen.{home_in}
use Rattle.slot_files.specs.sorted_sets.Members.{IsIn}
use Rattle.slot_files.specs.directory_faults.declared.there.FileThere.{FileThere}
use Rattle.image_loading.specs.Loaded.{Grows}
use Rattle.image_loading.proofs.Listed.{HoldBelow}
use Rattle.image_loading.proofs.directories.insert_slot.Given as goal

abbrev pub invariant-loop-file : goal.invariant-loop-file
invariant-loop-file g l = record {
  grows : Grows l.fn.found l.found;
  below : HoldBelow l.file-index l.file-items (λ (file : FileThere). (page : ℕ) (home : Home) → home_in file.seen.homes.items page ≡ Some home → IsIn l.found home);
}
