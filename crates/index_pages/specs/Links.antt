-- Which page an index page names as the next.
use Rattle.std.specs.Prelude.{◌≡◌, ℕ, false, List, Option, Some, IfSome, IsSomeAnd, length}
use Rattle.std.specs.Option.{option_map_or}
use Rattle.file_release.specs.domain_base.Page.{overwritten}
use Rattle.file_release.specs.domain_base.declared.place.Home.{Home}
use Rattle.file_release.specs.page_store.Bitfiles.{shown_index}
use Rattle.file_release.specs.page_store.Pages.{Pages, same_home}
use Rattle.file_release.specs.tag_dirs.TagPage.{next_of}
use Rattle.index_pages.specs.Homes.{IsIndexPage, next_at}

-- the same page, but that it names this one as the next
pub record LinksPage (next : Option Home) (old new : List ℕ) : Type 0 where
  pub next_is : next_of new ≡ next
  pub shown : shown_index new ≡ shown_index old
  pub good : IsIndexPage new

-- the bytes in a page that name the next one
abbrev pub SpellsNext : Option Home → List ℕ → Type 0
SpellsNext next bytes =
    (page : List ℕ) → length page ≡ 8192 → LinksPage next page (overwritten page 8 bytes)

-- the page at a home, if one is given, names another one as the next, and no other page changes
pub record LeadsOn (before : Option Home) (next : Home) (old new : Pages) : Type 0 where
  pub links : IfSome before (λ home. IsSomeAnd (old home)
      (λ was. IsSomeAnd (new home) (LinksPage (Some next) was)))
  pub others : (home : Home) → ¬ before ≡ Some home → new home ≡ old home

-- the home of the page after one, or of the first page
abbrev pub next_behind : Pages → Option Home → Option Home → Option Home
next_behind pages first before = option_map_or (next_at pages) before first

-- a page stands after another one, or before all, and names the one that stood there as the next
pub record LinksIn (first before : Option Home) (onto : Home) (page : List ℕ) (old new : Pages)
    : Type 0 where
  pub is : IsSomeAnd (new onto) (LinksPage (next_behind old first before) page)
  pub links : IfSome before (λ home. IsSomeAnd (old home)
      (λ was. IsSomeAnd (new home) (LinksPage (Some onto) was)))
  pub others : (home : Home) → same_home home onto ≡ false → ¬ before ≡ Some home
      → new home ≡ old home
