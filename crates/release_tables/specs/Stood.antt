-- A fileset whose files belong together with a list, and with all else.
use Rattle.std.specs.Prelude.{ℕ}
use Rattle.release_steps.specs.fileset_files.Files.{Chains}
use Rattle.release_steps.specs.release_list.Listing.{Listing}
use Rattle.release_steps.specs.release_list.Standing.{Files}
use Rattle.release_steps.specs.Calls.{StandsWell}
use Rattle.file_world.specs.declared.world.World.{World}
use Rattle.release_tables.specs.Called.{HasNoClone, Parts, fileset_in, parts_of}

-- all belongs together for some files, none of which reads through another
abbrev pub IsStood : ℕ → Parts → Type 0
IsStood fileset now = (files : Files) × (chains : Chains) × HasNoClone files
    × StandsWell fileset (fileset_in now files chains)

-- the same of a world
abbrev pub HasStood : World → Listing → Type 0
HasStood world list = IsStood world.files.fileset (parts_of world list)
