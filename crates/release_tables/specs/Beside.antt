-- Two filesets of one domain.
use Rattle.std.specs.Prelude.{◌≡◌, ℕ}
use Rattle.release_steps.specs.fileset_files.declared.bitfiles.Bitfiles.{Bitfiles}
use Rattle.release_steps.specs.fileset_files.Files.{Chains}
use Rattle.release_steps.specs.release_list.Listing.{Listing}
use Rattle.release_steps.specs.release_list.Standing.{Files}
use Rattle.release_steps.specs.Beside.{StandsBeside}
use Rattle.release_steps.specs.Calls.{StandsWell}
use Rattle.file_world.specs.declared.world.World.{World}
use Rattle.release_tables.specs.Called.{fileset_in, parts_of}

-- a world's fileset belongs together with the domain's files and the list, and another one beside
-- it
pub record AreBeside (world : World) (other : Bitfiles) (list : Listing) (files : Files)
    (chains others : Chains) : Type 0 where
  pub stands : StandsWell world.files.fileset (fileset_in (parts_of world list) files chains)
  pub beside : StandsBeside other.fileset other.tags others
      (fileset_in (parts_of world list) files chains)
  pub differ : ¬ other.fileset ≡ world.files.fileset

abbrev pub HasBeside : World → Bitfiles → Listing → Type 0
HasBeside world other list = (files : Files) × (chains : Chains) × (others : Chains)
    × AreBeside world other list files chains others
