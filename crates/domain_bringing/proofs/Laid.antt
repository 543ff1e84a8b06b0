-- Images that are laid over pages one after the other.
use Rattle.std.proofs.Common.{◌≡◌, ◌∙◌, ℕ, ◌+◌, ◌<◌, ◌++◌, Bool, true, false, cond, List, [], ◌∷◌, length, take, get_or, Option, Some, None, IsSome, refl, sym, ap, subst}
use Rattle.std.proofs.Math.Seq.{take-length}
use Rattle.std.proofs.lemmas.List.{take_more}
use Rattle.std.specs.Option.{option_or}
use Rattle.domain_faults.specs.domain_base.declared.place.Home.{Home}
use Rattle.domain_faults.specs.page_store.Pages.{Pages, no_pages, same_home, with_page}
use Rattle.domain_faults.specs.log_ring.Images.{image_at, overlaid}
use Rattle.domain_faults.specs.log_ring.declared.image.PageImage.{PageImage}
use Rattle.domain_faults.proofs.OfLogRing.Overlays.{image_at-append}
use Rattle.domain_faults.specs.volume_disk.Disk.{Disk}
use Rattle.image_loading.specs.Loading.{Brings}
use Rattle.domain_bringing.specs.Brought.{images_alone}

-- the page of an image, if it has the home, over that of those in front of it, over the one below
abbrev over : List ℕ → Option (List ℕ) → Option (List ℕ) → Bool → Option (List ℕ)
over page before below b = option_or (option_or (cond b (Some page) None) before) below

-- one image more
pub laid_more : (images : List PageImage) (k : ℕ) (image : PageImage) (first old new : Pages) → k < length images → image ≡ get_or images k image → ((home : Home) → old home ≡ overlaid (take k images) first home)
    → new ≡ with_page image.home image.page old → (home : Home) → new home ≡ overlaid (take (k + 1) images) first home
laid_more images k image first old new within item before put home =
    ap (λ (p : Pages). p home) put ∙ by_test (same_home home image.home) refl ∙ sym (ap (λ (l : List PageImage). overlaid l first home) longer)
  where
    longer : take (k + 1) images ≡ take k images ++ image ∷ []
    longer = take_more images k image within ∙ ap (λ (i : PageImage). take k images ++ i ∷ []) (sym item)

    both : overlaid (take k images ++ image ∷ []) first home ≡ over image.page (image_at home (take k images)) (first home) (same_home home image.home)
    both = ap (λ (o : Option (List ℕ)). option_or o (first home)) (image_at-append home (take k images) (image ∷ []))

    by_test : (b : Bool) → same_home home image.home ≡ b → cond (same_home home image.home) (Some image.page) (old home) ≡ overlaid (take k images ++ image ∷ []) first home
    by_test true is = ap (λ b. cond b (Some image.page) (old home)) is ∙ sym (both ∙ ap (over image.page (image_at home (take k images)) (first home)) is)
    by_test false is = ap (λ b. cond b (Some image.page) (old home)) is ∙ before home ∙ sym (both ∙ ap (over image.page (image_at home (take k images)) (first home)) is)

-- all of them
pub laid_all : (images lent : List PageImage) (k : ℕ) (first new : Pages) → lent ≡ images → k ≡ length lent → ((home : Home) → new home ≡ overlaid (take k lent) first home) → (home : Home) → new home ≡ overlaid images first home
laid_all images lent k first new same end laid home =
    laid home ∙ ap (λ (l : List PageImage). overlaid l first home) (ap (λ n. take n lent) end ∙ take-length lent ∙ same)

-- over no pages
none_beside : (o : Option (List ℕ)) → option_or o None ≡ o
none_beside None = refl
none_beside (Some page) = refl

-- pages that are brought behind images which were laid over no pages
pub brings_behind : (old new : Disk) (images : List PageImage) (first before after : Pages) → first ≡ no_pages → ((home : Home) → before home ≡ overlaid images first home) → Brings old new before after → Brings old new (images_alone images) after
brings_behind old new images first before after none laid brings = record {
  reads = brings.reads;
  kept = λ home some. brings.kept home (subst_some home some) ∙ same home;
  added = λ told home absent. brings.added told home (same home ∙ absent);
}
  where
    same : (home : Home) → before home ≡ image_at home images
    same home = laid home ∙ ap (λ (p : Pages). overlaid images p home) none ∙ none_beside (image_at home images)

    subst_some : (home : Home) → IsSome (image_at home images) → IsSome (before home)
    subst_some home some = subst IsSome (sym (same home)) some
