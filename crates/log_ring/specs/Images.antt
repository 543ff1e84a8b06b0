-- Images of pages, as a change and a group of the log have them, and what they make of pages over
-- which they are laid in their order.
use Rattle.std.specs.Prelude.{◌≡◌, ◌<◌, ◌≤◌, ℕ, false, List, [], ◌∷◌, Option, Some, None, length, map, slice_index_or, if◌then◌else◌}
use Rattle.std.specs.List.{list_any}
use Rattle.std.specs.Option.{option_or}
use Rattle.disk_label.specs.domain_base.Limits.{transaction_pages}
use Rattle.disk_label.specs.domain_base.declared.place.Home.{Home}
use Rattle.page_store.specs.Pages.{Pages, same_home}
use Rattle.log_ring.specs.declared.image.PageImage.{PageImage}

-- no two of these homes are the same
abbrev pub AreDistinct : List Home → Type 0
AreDistinct [] = Unit {0}
AreDistinct (home ∷ homes) = (list_any (same_home home) homes ≡ false) × AreDistinct homes

-- the homes of images, in their order
abbrev pub homes_of : List PageImage → List Home
homes_of images = map (λ (image : PageImage). image.home) images

-- no two of these images have the same home
abbrev pub AreDistinctHomes : List PageImage → Type 0
AreDistinctHomes images = AreDistinct (homes_of images)

-- the page that the last image of a home has, and none if no image has that home
abbrev pub image_at : Home → List PageImage → Option (List ℕ)
image_at home [] = None
image_at home (image ∷ images) =
    option_or (image_at home images) (if same_home home image.home then Some image.page else None)

-- pages with images laid over them: at each home the page of its last image, and if no image has
-- that home the page that was there
abbrev pub overlaid : List PageImage → Pages → Pages
overlaid images pages = λ home. option_or (image_at home images) (pages home)

-- the same images, with this page in place of the one of its home, or after all
abbrev pub with_image : Home → List ℕ → List PageImage → List PageImage
with_image home page [] = record { home = home; page = page } ∷ []
with_image home page (image ∷ images) =
    if same_home home image.home then record { home = home; page = page } ∷ images
    else image ∷ with_image home page images

-- a change joins what is pending, one image of it after the other
abbrev pub joined : List PageImage → List PageImage → List PageImage
joined [] pending = pending
joined (image ∷ change) pending = joined change (with_image image.home image.page pending)

-- the last image of the home is at this place
pub record IsPlaceOf (images : List PageImage) (home : Home) (place : ℕ) : Type 0 where
  pub within : place < length images
  pub is : (default : PageImage) → (slice_index_or images place default).home ≡ home
  pub last : (later : ℕ) (default : PageImage) → place < later → later < length images
      → same_home home (slice_index_or images later default).home ≡ false

-- what a change may be: no more homes than one transaction changes, no two the same
pub record IsChange (images : List PageImage) : Type 0 where
  pub distinct : AreDistinctHomes images
  pub most : length images ≤ transaction_pages
