-- What belongs together in a world of the tests, and its files as one map.
use Rattle.std.specs.Prelude.{Option, None}
use Rattle.index_pages.specs.domain_base.declared.place.Kind.TheVariants.{Directory}
use Rattle.index_pages.specs.domain_base.declared.place.Tag.{Tag}
use Rattle.index_pages.specs.page_store.Homes.{pages_of}
use Rattle.index_pages.specs.fileset_files.declared.indexing.IndexPlace.{IndexPlace}
use Rattle.index_pages.specs.fileset_files.declared.new_cells.NewFile.{NewFile}
use Rattle.index_pages.specs.fileset_files.Creation.{new_file}
use Rattle.index_pages.specs.fileset_files.State.{States, with_changed, with_state}
use Rattle.index_pages.specs.fileset_files.Together.{HasTogether}
use Rattle.index_pages.specs.fileset_files.States.{HaveStates, indexed, new_state}
use Rattle.file_world.specs.declared.world.World.{World}

abbrev pub IsWorld : World → Type 0
IsWorld world = HasTogether world.files.fileset world.files.tags world.space world.cells
    (pages_of world.pages.entries.items)

-- what each tag names
abbrev pub AreStates : World → States → Type 0
AreStates world states = HaveStates world.files.fileset world.files.tags world.space world.cells
    (pages_of world.pages.entries.items) states

abbrev pub new_directory : NewFile
new_directory = new_file Directory 11 12 7

-- a new directory with this index, and no other file
abbrev pub HasIndexAlone : World → Tag → Option IndexPlace → Type 0
HasIndexAlone world tag index = AreStates world
    (with_changed tag (indexed index) (with_state tag (new_state new_directory tag) (λ t. None)))
