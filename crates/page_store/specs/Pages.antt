-- Pages by their homes. What is said of pages in memory and of an image is said of a function from
-- home to page.
use Rattle.std.specs.Prelude.{◌≡◌, ◌==◌, ◌&&◌, ℕ, Bool, List, Option, Some, None, IfSome, length, if◌then◌else◌}
use Rattle.sorted_sets.specs.domain_base.Limits.{page_bytes}
use Rattle.sorted_sets.specs.domain_base.declared.place.Home.{Home}

-- what stands at each home, if anything does
abbrev pub Pages : Type 0
Pages = Home → Option (List ℕ)

-- two homes are one
abbrev pub same_home : Home → Home → Bool
same_home a b = (a.vol == b.vol) && (a.page == b.page)

-- nothing stands anywhere
abbrev pub no_pages : Pages
no_pages home = None

-- the pages with this page at the home
abbrev pub with_page : Home → List ℕ → Pages → Pages
with_page home page pages = λ h. if same_home h home then Some page else pages h

-- the pages with no page at the home
abbrev pub without_page : Home → Pages → Pages
without_page home pages = λ h. if same_home h home then None else pages h

-- each page has all its bytes
abbrev pub AreWhole : Pages → Type 0
AreWhole pages = (home : Home) → IfSome (pages home) (λ page. length page ≡ page_bytes)
