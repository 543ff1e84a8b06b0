-- Directories without a gap, which say how long they are and how many entries their indexes have.
use Rattle.std.specs.Prelude.{◌≡◌, ◌+◌, ◌*◌, ◌^◌, ◌<◌, ◌≤◌, ℕ, nat_le, List, [], ◌∷◌, length, slice_get, Option, Some, None, IfSome, IsSomeAnd, if◌then◌else◌}
use Rattle.std.specs.Option.{option_map_or}
use Rattle.index_pages.specs.domain_base.Limits.{file_pages, page_bytes}
use Rattle.index_pages.specs.domain_base.declared.place.Kind.TheVariants.{Directory, File}
use Rattle.index_pages.specs.domain_base.declared.place.Tag.{Tag}
use Rattle.index_pages.specs.page_store.Bitfiles.{Bitfile, Bitfiles}
use Rattle.index_pages.specs.cell_records.Fields.{number_at}
use Rattle.index_pages.specs.extent_maps.declared.run.PagePlace.TheVariants.{Absent}
use Rattle.index_pages.specs.fileset_files.State.{FileState, States}

-- how many entries an index page says that it has: none where it says more than one can have
abbrev pub entries_on : List ℕ → ℕ
entries_on page = if nat_le (number_at 4 4 page) 1022 then number_at 4 4 page else 0

-- how many the page with a number says; none if there is no such page
abbrev pub entries_at : ℕ → List (List ℕ) → ℕ
entries_at number pages = option_map_or entries_on (slice_get pages number) 0

-- how many all say together
abbrev pub total_on : List (List ℕ) → ℕ
total_on [] = 0
total_on (page ∷ pages) = entries_on page + total_on pages

-- a directory that a set shows: it has as many pages as a file can have at most, is as long as they
-- are, keeps each, and has none after its last one; and if it has an index, it says how many
-- entries that has
pub record IsWholeDirectory (file : Bitfile) (state : FileState) : Type 0 where
  pub fits : length file.pages ≤ file_pages
  pub size : state.attributes.size ≡ page_bytes * length file.pages
  pub keeps : state.keep ≡ file_pages
  pub none : (page : ℕ) → length file.pages ≤ page → state.places page ≡ Absent
  pub index_fits : length file.index < 2 ^ 32
  pub entries : IfSome state.index (λ index. index.entries ≡ total_on file.index)

-- what stands at a tag, if a directory is shown there
abbrev pub IsWholeAt : Option FileState → Option Bitfile → Type 0
IsWholeAt state None = Unit {0}
IsWholeAt state (Some file) = file.kind ≡ Directory → IsSomeAnd state (IsWholeDirectory file)

-- each directory that is shown is whole
abbrev pub AreWholeDirectories : States → Bitfiles → Type 0
AreWholeDirectories states files = (tag : Tag) → IsWholeAt (states tag) (files tag)

-- a file that is shown has no index: only a directory may
abbrev pub HaveNoIndex : Bitfiles → Type 0
HaveNoIndex files = (tag : Tag) → IfSome (files tag)
    (λ file. file.kind ≡ File → length file.index ≡ 0)
