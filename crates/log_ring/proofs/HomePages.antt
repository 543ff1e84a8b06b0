-- Pages at homes, and what writing the last image of each leaves.
use Rattle.std.proofs.Common.{◌≡◌, ◌⊎◌, ℕ, zero, suc, ◌+◌, ◌*◌, ◌<◌, Bool, true, false, cond, List, [], ◌∷◌, length, get_or, drop, Option, Some, None, is_some, IfSome, IsSome, refl, sym, ◌∙◌, ap, subst, inl, inr, add-one, arith}
use Rattle.std.proofs.Math.Seq.{drop-cons}
use Rattle.std.proofs.lemmas.Bool.{both_ways, cases_Bool}
use Rattle.std.proofs.lemmas.List.Elements.{All-head, All-tail}
use Rattle.std.proofs.lemmas.Grind.{same_number_lists}
use Rattle.std.specs.List.{All}
use Rattle.std.specs.Option.{option_or}
use Rattle.disk_label.specs.domain_base.declared.place.Home.{Home}
use Rattle.page_store.specs.Pages.{same_home}
use Rattle.disk_label.specs.volume_disk.Image.{HasBytes, Image, SameIn, SameOutside, bytes_at, page_at}
use Rattle.disk_label.proofs.OfVolumeDisk.Bytes.{bytes_from-same, get_or-bytes_from, length-bytes_from}
use Rattle.log_ring.specs.Images.{image_at}
use Rattle.log_ring.specs.declared.image.PageImage.{PageImage}
use Rattle.log_ring.proofs.SameHomes.{homes_same, same_itself}
use Rattle.log_ring.specs.LogLaws.{AreHome}
use Rattle.log_ring.specs.Settling.{HasHome, IsOnPage}

-- pages that have a byte in common are one
pub one_page : (a b : Home) (v k : ℕ) → IsOnPage a v k → IsOnPage b v k → a ≡ b
one_page a b v k here there =
    let low = here.1 in
    let high = here.2 in
    let low' = there.1 in
    let high' = there.2 in
    let vol : a.vol ≡ b.vol = sym here.0 ∙ there.0 in
    let page : a.page ≡ b.page = omega arith in
    λ i. record { vol = vol i; page = page i }

-- images that agree on a page have the same page there
pub page-same : (home : Home) (old new : Image) → SameIn (IsOnPage home) old new → page_at new home.vol home.page ≡ page_at old home.vol home.page
page-same home old new same = bytes_from-same (new home.vol) (old home.vol) (8192 * home.page) 8192 (λ k le lt. same home.vol k (refl, le, lt))

-- bytes that stand at a place are what is there
pub bytes_there : (vol at n : ℕ) (bytes : List ℕ) (image : Image) → length bytes ≡ n → HasBytes vol at bytes image → bytes_at image vol at n ≡ bytes
bytes_there vol at n bytes image size has =
    same_number_lists (bytes_at image vol at n) bytes (length-bytes_from (image vol) at n ∙ sym size)
    (λ k lt. let le = length-bytes_from (image vol) at n in get_or-bytes_from (image vol) at n k 0 (omega (arith, lt, le)) ∙ has k (omega (arith, lt, le, size)))

-- Homes of images.

-- what holds of the home of each image holds of each home that an image has
pub each_home : (P : Home → Type 0) (images : List PageImage) (home : Home) → All (λ (image : PageImage). P image.home) images → HasHome images home → P home
each_home P [] home all has = cc
each_home P (image ∷ images) home all has =
    go (cases_Bool (same_home home image.home)) (cases_Bool (is_some (image_at home images)))
    (λ later. each_home P images home (All-tail (λ (image : PageImage). P image.home) image images all) later)
  where
    no_more : (o : Option (List ℕ)) → is_some o ≡ false → is_some (option_or o None) ≡ false
    no_more None is = refl
    no_more (Some page) is = is

    go : (same_home home image.home ≡ true) ⊎ (same_home home image.home ≡ false) → (is_some (image_at home images) ≡ true) ⊎ (is_some (image_at home images) ≡ false) → (HasHome images home → P home) → P home
    go (inl same) rest behind = subst P (sym (homes_same home image.home same)) (All-head (λ (image : PageImage). P image.home) image images all)
    go (inr other) (inl later) behind = behind later
    go (inr other) (inr never) behind =
        let none : is_some (image_at home (image ∷ images)) ≡ false = rw other (no_more (image_at home images) never) in
        absurd (both_ways (is_some (image_at home (image ∷ images))) none has)

-- the home of the first image is one
pub has_first : (image : PageImage) (images : List PageImage) → HasHome (image ∷ images) image.home
has_first image images = go (same_home image.home image.home) (image_at image.home images) (same_itself image.home)
  where
    go : (b : Bool) (o : Option (List ℕ)) → b ≡ true → IsSome (option_or o (cond b (Some image.page) None))
    go true None is = refl
    go true (Some page) is = refl
    go false o is = absurd (both_ways false refl is)

-- and what the rest have, all have
pub has_more : (image : PageImage) (images : List PageImage) (home : Home) → HasHome images home → HasHome (image ∷ images) home
has_more image images home has = go (image_at home images) (cond (same_home home image.home) (Some image.page) None) has
  where
    go : (o p : Option (List ℕ)) → IsSome o → IsSome (option_or o p)
    go None p is = cc
    go (Some page) p is = refl

pub has_at : (images : List PageImage) (at : ℕ) (d : PageImage) → at < length images → HasHome images (get_or images at d).home
has_at [] at d lt = absurd (omega arith)
has_at (image ∷ images) zero d lt = has_first image images
has_at (image ∷ images) (suc at) d lt = has_more image images (get_or images at d).home (has_at images at d (omega arith))

-- Writing the last image of each home, one image after the other from the last on.

-- where a later image has the home, nothing is to be done
pub home-shadowed : (image : PageImage) (images : List PageImage) (held : Image) → HasHome images image.home → AreHome images held → AreHome (image ∷ images) held
home-shadowed image images held later are home = go (image_at home images) refl (are home) (cases_Bool (same_home home image.home))
  where
    Fits : Option (List ℕ) → Type 0
    Fits o = IfSome o (λ page. page_at held home.vol home.page ≡ page)

    keep : (o : Option (List ℕ)) → Fits o → Fits (option_or o None)
    keep None fits = fits
    keep (Some page) fits = fits

    first : (o p : Option (List ℕ)) → IsSome o → Fits o → Fits (option_or o p)
    first None p some fits = cc
    first (Some page) p some fits = fits

    go : (o : Option (List ℕ)) → image_at home images ≡ o → Fits o → (same_home home image.home ≡ true) ⊎ (same_home home image.home ≡ false) → Fits (option_or o (cond (same_home home image.home) (Some image.page) None))
    go o is fits (inl same) =
        first o (cond (same_home home image.home) (Some image.page) None) (subst (λ (o : Option (List ℕ)). IsSome o) is (subst (λ (h : Home). HasHome images h) (sym (homes_same home image.home same)) later)) fits
    go o is fits (inr other) = rw other (keep o fits)

-- else it is written, and the pages at the other homes stay
pub home-written : (image : PageImage) (images : List PageImage) (old new : Image) → image_at image.home images ≡ None → SameOutside (IsOnPage image.home) old new → page_at new image.home.vol image.home.page ≡ image.page
    → AreHome images old → AreHome (image ∷ images) new
home-written image images old new never outside is_there are home = go (image_at home images) refl (are home) (cases_Bool (same_home home image.home))
  where
    Fits : Image → Option (List ℕ) → Type 0
    Fits held o = IfSome o (λ page. page_at held home.vol home.page ≡ page)

    written : home ≡ image.home → page_at new home.vol home.page ≡ image.page
    written is = subst (λ (h : Home). page_at new h.vol h.page ≡ image.page) (sym is) is_there

    there : home ≡ image.home → (o : Option (List ℕ)) → image_at home images ≡ o → Fits new (option_or o (Some image.page))
    there is None none = written is
    there is (Some page) some = cc

    kept : same_home home image.home ≡ false → page_at new home.vol home.page ≡ page_at old home.vol home.page
    kept other =
        page-same home old new (λ v k here. outside v k (λ there. both_ways (same_home home image.home) other (subst (λ (h : Home). same_home home h ≡ true) (one_page home image.home v k here there) (same_itself home))))

    keep : same_home home image.home ≡ false → (o : Option (List ℕ)) → Fits old o → Fits new (option_or o None)
    keep other None fits = fits
    keep other (Some page) fits = kept other ∙ fits

    go : (o : Option (List ℕ)) → image_at home images ≡ o → Fits old o → (same_home home image.home ≡ true) ⊎ (same_home home image.home ≡ false) → Fits new (option_or o (cond (same_home home image.home) (Some image.page) None))
    go o is fits (inl same) = rw same (there (homes_same home image.home same) o is)
    go o is fits (inr other) = rw other (keep other o fits)

-- images from the one at an index on
pub drop_is : (images : List PageImage) (at : ℕ) (image : PageImage) → at < length images → image ≡ get_or images at image → drop at images ≡ image ∷ drop (at + 1) images
drop_is images at image lt is =
    let rest : drop at images ≡ get_or images at image ∷ drop (at + 1) images = rw add-one (drop-cons images at image lt) in
    rest ∙ ap (λ (x : PageImage). x ∷ drop (at + 1) images) (sym is)

-- no image has a home where no page is found
pub none_found : (o : Option (List ℕ)) → is_some o ≡ false → o ≡ None
none_found None is = refl
none_found (Some page) is = cc
