-- Where the pages of an index stand.
use Rattle.std.specs.Prelude.{◌≡◌, ◌≤◌, ℕ, List, [], ◌∷◌, map, length, Option, Some, None, IsSomeAnd, unwrap_or}
use Rattle.std.specs.Option.{option_and_then}
use Rattle.file_release.specs.domain_base.declared.place.Home.{Home}
use Rattle.file_release.specs.page_store.Bitfiles.{shown_index}
use Rattle.file_release.specs.page_store.Pages.{Pages}
use Rattle.file_release.specs.cell_records.Fields.{number_at}
use Rattle.file_release.specs.tag_dirs.TagPage.{next_of}

-- a page with all its bytes, whose next one is on a volume that there may be
pub record IsIndexPage (page : List ℕ) : Type 0 where
  pub whole : length page ≡ 8192
  pub next : number_at 4 8 page ≤ 8

abbrev pub HasIndexPageAt : Pages → Home → Type 0
HasIndexPageAt pages home = IsSomeAnd (pages home) IsIndexPage

-- the home that the page at a home names as the next
abbrev pub next_at : Pages → Home → Option Home
next_at pages home = option_and_then next_of (pages home)

-- from a first home on these are the homes of an index's pages, each page naming the next, and the
-- last none
abbrev pub AreIndexHomes : Pages → Option Home → List Home → Type 0
AreIndexHomes pages None [] = Unit {0}
AreIndexHomes pages (Some first) (home ∷ more) = (first ≡ home) × HasIndexPageAt pages home
    × AreIndexHomes pages (next_at pages home) more
AreIndexHomes pages None (home ∷ more) = ⊥
AreIndexHomes pages (Some first) [] = ⊥

abbrev pub HasIndexHomes : Pages → Option Home → Type 0
HasIndexHomes pages first = (homes : List Home) × AreIndexHomes pages first homes

-- the pages at homes, as a set shows them
abbrev pub shown_at : Pages → List Home → List (List ℕ)
shown_at pages homes = map (λ home. shown_index (unwrap_or (pages home) [])) homes
