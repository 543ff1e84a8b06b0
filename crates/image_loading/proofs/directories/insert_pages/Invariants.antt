use Rattle.std.proofs.Common.{◌≡◌, Option, Some}
use Rattle.slot_files.specs.domain_base.declared.place.Home.{Home}
use Rattle.slot_files.specs.sorted_sets.Members.{IsIn}
use Rattle.image_loading.specs.Loaded.{Grows}
use Rattle.image_loading.proofs.Listed.{HoldBelow}
use Rattle.image_loading.proofs.directories.insert_pages.Given as goal

abbrev pub invariant-loop-place : goal.invariant-loop-place
invariant-loop-place l = record {
  grows : Grows l.fn.found l.found;
  below : HoldBelow l.place-index l.place-items (λ (place : Option Home). (home : Home) → place ≡ Some home → IsIn l.found home);
}
