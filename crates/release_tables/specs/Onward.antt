-- A fileset whose files belong together with a list, and with where its steps go on.
use Rattle.std.specs.Prelude.{ℕ, Option}
use Rattle.release_steps.specs.fileset_files.Files.{Chains}
use Rattle.release_steps.specs.release_list.declared.cursor.Cursor.{Cursor}
use Rattle.release_steps.specs.release_list.Cursors.{Deferral}
use Rattle.release_steps.specs.release_list.Standing.{Files}
use Rattle.release_steps.specs.release_list.Steps.{now_of}
use Rattle.release_steps.specs.Ahead.{GoesOnIn}
use Rattle.release_steps.specs.Calls.{StandsWell}
use Rattle.file_world.specs.declared.world.World.{World}
use Rattle.release_tables.specs.Called.{HasNoClone, Parts, fileset_in, parts_of}

-- all belongs together for some files, none of which reads through another, and steps go on in one
-- of them
abbrev pub IsGoingOn : ℕ → Parts → Option Cursor → Type 0
IsGoingOn fileset now cursor = (files : Files) × (chains : Chains) × HasNoClone files
    × StandsWell fileset (fileset_in now files chains)
    × GoesOnIn (now_of now.list files now.space now.cells now.pages) cursor

-- the same of a world
abbrev pub GoesOnFrom : World → Deferral → Type 0
GoesOnFrom world deferral =
    IsGoingOn world.files.fileset (parts_of world deferral.list) deferral.cursor
