use Rattle.std.proofs.Common.{◌≡◌}
use Rattle.release_steps.specs.release_list.Listing.{Listing}
use Rattle.release_steps.specs.Calls.{FilesetNow, StandsWell}
use Rattle.file_world.specs.Worlds.{IsWorld}
use Rattle.release_tables.specs.Called.{HasCalled, parts_of}
use Rattle.release_tables.proofs.making.give_pages.Given as goal

abbrev pub invariant-loop-page : goal.invariant-loop-page
invariant-loop-page l = IsWorld l.world × (l.world.files.fileset ≡ l.fn.world.files.fileset)
    × ((first : FilesetNow) (list : Listing) → StandsWell l.fn.world.files.fileset first → HasCalled l.fn.world.files.fileset l.version l.tag first (parts_of l.fn.world list) → HasCalled l.world.files.fileset l.version l.tag first (parts_of l.world list))
