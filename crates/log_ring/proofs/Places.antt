-- The place of an image in a list, and what is put there.
use Rattle.std.proofs.Common.{◌≡◌, ◌⊎◌, ℕ, zero, suc, ◌+◌, ◌<◌, ◌≤◌, ◌++◌, ◌||◌, Bool, true, false, cond, List, [], ◌∷◌, length, get_or, set, Some, None, IsSome, refl, sym, ◌∙◌, ap, subst, inl, inr, arith}
use Rattle.std.proofs.lemmas.Bool.{both_ways, false_from_ne_true, or_left, or_parts, or_right}
use Rattle.std.specs.List.{list_any}
use Rattle.disk_label.specs.domain_base.Limits.{transaction_pages}
use Rattle.disk_label.specs.domain_base.declared.place.Home.{Home}
use Rattle.page_store.specs.Pages.{same_home}
use Rattle.log_ring.specs.Images.{AreDistinctHomes, IsChange, IsPlaceOf, homes_of, image_at, with_image}
use Rattle.log_ring.specs.declared.image.PageImage.{PageImage}
use Rattle.log_ring.proofs.Overlays.{AreDistinctHomes-with_image, image_at-none, length-with_image}
use Rattle.log_ring.proofs.SameHomes.{homes_same, same_from_is}

abbrev has : Home → List PageImage → Bool
has home images = list_any (same_home home) (homes_of images)

-- no image has the home where each has another
pub has-none : (home : Home) (images : List PageImage) → ((k : ℕ) (d : PageImage) → k < length images → same_home home (get_or images k d).home ≡ false) → has home images ≡ false
has-none home [] other = refl
has-none home (image ∷ images) other = λ i. other 0 image (omega arith) i || has-none home images (λ k d lt. other (suc k) d (omega arith)) i

behind : (home : Home) (image : PageImage) (images : List PageImage) (place : ℕ) → IsPlaceOf (image ∷ images) home (suc place) → IsPlaceOf images home place
behind home image images place at = record {
  within = omega (arith, at.within);
  is = at.is;
  last = λ later d after lt. at.last (suc later) d (omega (arith, after)) (omega (arith, lt));
}

-- one of them has it where it stands at a place
pub has-place : (home : Home) (images : List PageImage) (place : ℕ) → IsPlaceOf images home place → has home images ≡ true
has-place home [] place at = absurd (omega (arith, at.within))
has-place home (image ∷ images) zero at = or_left (same_home home image.home) (has home images) (same_from_is home image.home (sym (at.is image)))
has-place home (image ∷ images) (suc place) at = or_right (same_home home image.home) (has home images) (has-place home images place (behind home image images place at))

-- if they are distinct, no image before the place has the home
other-front : (home : Home) (image : PageImage) (images : List PageImage) (place : ℕ) → AreDistinctHomes (image ∷ images) → IsPlaceOf images home place → same_home home image.home ≡ false
other-front home image images place distinct at =
    false_from_ne_true (same_home home image.home)
    (λ same. both_ways (has image.home images) distinct.0 (ap (λ (h : Home). has h images) (sym (homes_same home image.home same)) ∙ has-place home images place at))

pub with_image-place : (home : Home) (page : List ℕ) (images : List PageImage) (place : ℕ) → AreDistinctHomes images → IsPlaceOf images home place → with_image home page images ≡ set images place (record { home = home; page = page })
with_image-place home page [] place distinct at = absurd (omega (arith, at.within))
with_image-place home page (image ∷ images) zero distinct at = let same = same_from_is home image.home (sym (at.is image)) in rw same refl
with_image-place home page (image ∷ images) (suc place) distinct at =
    let there = behind home image images place at in
    let other = other-front home image images place distinct there in
    rw other (ap (λ (l : List PageImage). image ∷ l) (with_image-place home page images place distinct.1 there))

pub with_image-new : (home : Home) (page : List ℕ) (images : List PageImage) → has home images ≡ false → with_image home page images ≡ images ++ record { home = home; page = page } ∷ []
with_image-new home page [] none = refl
with_image-new home page (image ∷ images) none =
    let parts = or_parts (same_home home image.home) (has home images) none in
    let other = parts.0 in
    rw other (ap (λ (l : List PageImage). image ∷ l) (with_image-new home page images parts.1))

pub image_at-place : (home : Home) (images : List PageImage) (place : ℕ) (d : PageImage) → IsPlaceOf images home place → image_at home images ≡ Some (get_or images place d).page
image_at-place home [] place d at = absurd (omega (arith, at.within))
image_at-place home (image ∷ images) zero d at =
    let same = same_from_is home image.home (sym (at.is image)) in
    let none : image_at home images ≡ None = image_at-none home images (has-none home images (λ k e lt. at.last (suc k) e (omega arith) (omega arith))) in
    rw (same, none) refl
image_at-place home (image ∷ images) (suc place) d at = let rest = image_at-place home images place d (behind home image images place at) in rw rest refl

-- A change stays one.
pub IsChange-with_image : (home : Home) (page : List ℕ) (images : List PageImage) → IsChange images → (has home images ≡ false → length images < transaction_pages) → IsChange (with_image home page images)
IsChange-with_image home page images change room = record {
  distinct = AreDistinctHomes-with_image home page images change.distinct;
  most = go (has home images) refl (length-with_image home page images);
}
  where
    go : (b : Bool) → has home images ≡ b → length (with_image home page images) ≡ cond b (length images) (length images + 1) → length (with_image home page images) ≤ transaction_pages
    go true is size = omega (arith, size, change.most)
    go false is size = let few = room is in omega (arith, size, few)

-- What the calls on a change leave.

module _ (home : Home) (page : List ℕ) (now items seen : List PageImage) (same : seen ≡ items) (is_now : items ≡ now) (change : IsChange items) where
  abbrev new_image : PageImage
  new_image = record { home = home; page = page }

  pub put_there : (place : ℕ) → IsPlaceOf seen home place → IsChange (set items place new_image) × (set items place new_image ≡ with_image home page now)
  put_there place at =
      let at_place : IsPlaceOf items home place = subst (λ (l : List PageImage). IsPlaceOf l home place) same at in
      let is : with_image home page items ≡ set items place new_image = with_image-place home page items place change.distinct at_place in (
        subst IsChange is (IsChange-with_image home page items change (λ none. absurd (both_ways (has home items) none (has-place home items place at_place)))),
        sym is ∙ ap (with_image home page) is_now,
      )

  pub few : has home seen ≡ false → IsSome (image_at home now) ⊎ (length now < transaction_pages) → length items < transaction_pages
  few none (inr less) = omega (arith, less, ap length is_now)
  few none (inl there) = let no_page : image_at home now ≡ None = ap (image_at home) (sym is_now ∙ sym same) ∙ image_at-none home seen none in absurd (cc)

  pub put_new : (new : List PageImage) → has home seen ≡ false → IsSome (image_at home now) ⊎ (length now < transaction_pages) → new ≡ items ++ new_image ∷ [] → IsChange new × (new ≡ with_image home page now)
  put_new new none room is =
      let none_there : has home items ≡ false = ap (has home) (sym same) ∙ none in
      let put : with_image home page items ≡ new = with_image-new home page items none_there ∙ sym is in (
        subst IsChange put (IsChange-with_image home page items change (λ _. few none room)),
        sym put ∙ ap (with_image home page) is_now,
      )
