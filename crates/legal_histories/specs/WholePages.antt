-- Whole pages.
use Rattle.std.specs.Prelude.{◌≡◌, ℕ, List, length, Some}
use Rattle.std.specs.FinMap.{get}
use Rattle.fileset_model.specs.domain_base.Limits.{page_bytes}
use Rattle.fileset_model.specs.Pages.{Pages}

-- each page that is there has a page's bytes
abbrev pub AreWhole : Pages → Type 0
AreWhole pages = (q : ℕ) (page : List ℕ) → get pages q ≡ Some page → length page ≡ page_bytes
