-- Images of homes with the pages of a store.
use Rattle.std.proofs.Common.{◌≡◌, ℕ, ◌+◌, ◌<◌, false, cond, List, [], ◌∷◌, Option, None, Some, IsSome, length, get_or, take, refl, sym, ◌∙◌, ap, subst, arith}
use Rattle.std.proofs.lemmas.Bool.{both_ways}
use Rattle.std.proofs.lemmas.List.{get_or-map, length-map}
use Rattle.std.proofs.lemmas.List.Elements.{All-cons, All-get_or, All-head, All-nil, All-tail}
use Rattle.std.specs.List.{All, list_any}
use Rattle.std.specs.Option.{unwrap_or}
use Rattle.log_ring.specs.domain_base.declared.place.Home.{Home}
use Rattle.log_ring.specs.page_store.Pages.{Pages, same_home}
use Rattle.log_ring.specs.disk_label.declared.anchor.Anchor.{Anchor}
use Rattle.log_ring.specs.Images.{AreDistinct, homes_of, joined, with_image}
use Rattle.log_ring.specs.declared.image.PageImage.{PageImage}
use Rattle.log_ring.specs.Homes.{AreLoggable, IsLoggable}
use Rattle.meta_log.specs.Log.{image_in, images_at}
use Rattle.meta_log.proofs.Joining.{counted_more, joined_more}

pub length-images_at : (pages : Pages) (homes : List Home) → length (images_at pages homes) ≡ length homes
length-images_at pages homes = length-map homes (image_in pages)

pub homes_of-images_at : (pages : Pages) (homes : List Home) → homes_of (images_at pages homes) ≡ homes
homes_of-images_at pages [] = refl
homes_of-images_at pages (home ∷ homes) = ap (λ (l : List Home). home ∷ l) (homes_of-images_at pages homes)

-- the image at a place is that of the home there
pub image_there : (pages : Pages) (homes : List Home) (i : ℕ) (home : Home) (d : PageImage) → i < length homes → home ≡ get_or homes i home → image_in pages home ≡ get_or (images_at pages homes) i d
image_there pages homes i home d lt is = ap (image_in pages) is ∙ sym (get_or-map (image_in pages) homes i home d lt)

-- and it has the page of the store
pub page_there : (pages : Pages) (home : Home) (page : List ℕ) → pages home ≡ Some page → unwrap_or (pages home) [] ≡ page
page_there pages home page at = ap (λ (o : Option (List ℕ)). unwrap_or o []) at

-- where homes may be logged, so may their images
pub loggable_at : (anchor : Anchor) (pages : Pages) (homes : List Home) → All (IsLoggable anchor) homes → AreLoggable anchor (images_at pages homes)
loggable_at anchor pages [] all = All-nil (λ (i : PageImage). IsLoggable anchor i.home)
loggable_at anchor pages (home ∷ homes) all =
    All-cons (λ (i : PageImage). IsLoggable anchor i.home) (image_in pages home) (images_at pages homes) (All-head (IsLoggable anchor) home homes all)
    (loggable_at anchor pages homes (All-tail (IsLoggable anchor) home homes all))

-- one image more
pub one_more : (pages : Pages) (homes : List Home) (pending : List PageImage) (i : ℕ) (home : Home) → i < length homes → home ≡ get_or homes i home → joined (take (i + 1) (images_at pages homes)) pending ≡ with_image home (unwrap_or (pages home) []) (joined (take i (images_at pages homes)) pending)
one_more pages homes pending i home lt is =
    let image = image_in pages home in
    let size = length-images_at pages homes in
    joined_more (images_at pages homes) pending i image (omega (arith, lt, size)) (image_there pages homes i home image lt is)

-- and it is counted where what is pending has not its home
pub counted_at : (pages : Pages) (homes : List Home) (pending : List PageImage) (i : ℕ) (home : Home) → i < length homes → home ≡ get_or homes i home → AreDistinct homes
    → length (joined (take (i + 1) (images_at pages homes)) pending) ≡ cond (list_any (same_home home) (homes_of pending)) (length (joined (take i (images_at pages homes)) pending)) (length (joined (take i (images_at pages homes)) pending) + 1)
counted_at pages homes pending i home lt is distinct =
    let image = image_in pages home in
    let size = length-images_at pages homes in
    counted_more (images_at pages homes) pending i image (omega (arith, lt, size)) (image_there pages homes i home image lt is) (subst AreDistinct (sym (homes_of-images_at pages homes)) distinct)

-- each home has a page
pub has_page : (pages : Pages) (homes : List Home) (i : ℕ) (home : Home) → i < length homes → home ≡ get_or homes i home → All (λ (h : Home). IsSome (pages h)) homes → pages home ≡ None → ⊥
has_page pages homes i home lt is all none =
    let some : IsSome (pages home) = subst (λ (h : Home). IsSome (pages h)) (sym is) (All-get_or (λ (h : Home). IsSome (pages h)) homes i home lt all) in
    both_ways false refl (subst (λ (o : Option (List ℕ)). IsSome o) none some)
