-- Where pages of tag directories on a list lead.
use Rattle.std.specs.Prelude.{◌≡◌, ◌⊎◌, ◌+◌, ◌++◌, ℕ, List, [], None, IfSome, map, slice_get}
use Rattle.release_list.specs.domain_base.declared.place.Home.{Home}
use Rattle.release_list.specs.page_store.Pages.{Pages}
use Rattle.release_list.specs.tag_dirs.TagPage.{next_of}
use Rattle.release_list.specs.tag_dirs.declared.dir.TagPlace.{TagPlace}
use Rattle.release_list.specs.tag_dirs.Directory.{IsDirectory}
use Rattle.release_list.specs.Steps.{Now}

-- a page at a place of a list leads to the page at the next place, or to none
abbrev pub LeadsBehind : List Home → ℕ → List ℕ → Type 0
LeadsBehind homes k page = (next_of page ≡ None) ⊎ (next_of page ≡ slice_get homes (k + 1))

-- each of the pages at these homes does
abbrev pub LeadOn : Pages → List Home → Type 0
LeadOn pages homes =
    (k : ℕ) → IfSome (slice_get homes k) (λ home. IfSome (pages home) (LeadsBehind homes k))

-- where the pages of a tag directory stand, in their chain's order
abbrev pub homes_of : List TagPlace → List Home
homes_of places = map (λ (place : TagPlace). place.home) places

-- the first pages of a tag directory are left, at least one if there is any, and just these are on
-- the list
pub record IsLeft (places : List TagPlace) (now : Now) : Type 0 where
  pub left : List TagPlace
  pub gone : List TagPlace
  pub is : places ≡ left ++ gone
  pub listed : homes_of left ≡ now.list.tag_pages
  pub directory : (left ≡ []) ⊎ IsDirectory now.pages left
