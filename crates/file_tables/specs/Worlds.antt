-- What set the files of a world of the tests are.
use Rattle.std.specs.Prelude.{◌≡◌, ℕ, List, None, IsSome}
use Rattle.release_steps.specs.domain_base.declared.place.Kind.{Kind}
use Rattle.release_steps.specs.domain_base.declared.place.Kind.TheVariants.{Directory}
use Rattle.release_steps.specs.domain_base.declared.place.Tag.{Tag}
use Rattle.release_steps.specs.page_store.Homes.{pages_of}
use Rattle.release_steps.specs.page_store.Bitfiles.{Bitfiles, IsDirectory, count_index, count_pages, new_file, put_page, with_change, with_file}
use Rattle.stored_set.specs.Sets.{StandsAsSet}
use Rattle.file_world.specs.declared.world.World.{World}

abbrev pub IsSet : World → Bitfiles → Type 0
IsSet world set = StandsAsSet world.files.fileset world.files.tags world.space world.cells
    (pages_of world.pages.entries.items) set

-- one new file or directory, and no other
abbrev pub only_new : Kind → Tag → Bitfiles
only_new kind tag = with_file tag (new_file kind 11 12) (λ t. None)

-- one new directory with a page
abbrev pub with_first_page : Tag → List ℕ → Bitfiles
with_first_page tag bytes = with_change tag (put_page 0 bytes) (only_new Directory tag)

-- some set, and one that has a file at a tag
abbrev pub IsSomeSet : World → Type 0
IsSomeSet world = (set : Bitfiles) × IsSet world set

abbrev pub HasTag : World → Tag → Type 0
HasTag world tag = (set : Bitfiles) × IsSet world set × IsSome (set tag)

-- some set that has a directory at a tag, with `count` pages of an index
abbrev pub HasIndex : World → Tag → ℕ → Type 0
HasIndex world tag count = (set : Bitfiles) × IsSet world set × IsDirectory set tag
    × (count_index set tag ≡ count)

-- some set that has a directory at a tag, with so many pages
abbrev pub HasPages : World → Tag → ℕ → Type 0
HasPages world tag count = (set : Bitfiles) × IsSet world set × IsDirectory set tag
    × (count_pages set tag ≡ count)
