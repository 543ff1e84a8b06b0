-- Images that are laid over pages, or joined to others.
use Rattle.std.proofs.Common.{◌≡◌, ℕ, ◌+◌, ◌-◌, ◌≤◌, ◌++◌, ◌||◌, Bool, true, false, cond, List, [], ◌∷◌, length, Option, Some, None, is_some, refl, sym, ◌∙◌, ap, subst, arith, length-append}
use Rattle.std.proofs.lemmas.Bool.{both_ways}
use Rattle.std.specs.List.{list_any}
use Rattle.std.specs.Option.{option_or}
use Rattle.disk_label.specs.domain_base.declared.place.Home.{Home}
use Rattle.page_store.specs.Pages.{Pages, same_home, with_page}
use Rattle.log_ring.specs.Images.{AreDistinctHomes, homes_of, image_at, joined, overlaid, with_image}
use Rattle.log_ring.specs.Laws.{JoinsAt, JoinsWell, OverlayInTurn}
use Rattle.log_ring.specs.declared.image.PageImage.{PageImage}
use Rattle.log_ring.proofs.SameHomes.{homes_same, other_swapped}

option_or_none : {X : Type 0} (o : Option X) → option_or o None ≡ o
option_or_none None = refl
option_or_none (Some x) = refl

option_or_assoc : {X : Type 0} (a b c : Option X) → option_or (option_or a b) c ≡ option_or a (option_or b c)
option_or_assoc None b c = refl
option_or_assoc (Some x) b c = refl

abbrev has : Home → List PageImage → Bool
has home images = list_any (same_home home) (homes_of images)

abbrev own : Home → PageImage → Option (List ℕ)
own home image = cond (same_home home image.home) (Some image.page) None

-- images one after the other: the later ones come first
pub image_at-append : (home : Home) (first second : List PageImage) → image_at home (first ++ second) ≡ option_or (image_at home second) (image_at home first)
image_at-append home [] second = sym (option_or_none (image_at home second))
image_at-append home (image ∷ first) second =
    ap (λ (o : Option (List ℕ)). option_or o (own home image)) (image_at-append home first second)
    ∙ option_or_assoc (image_at home second) (image_at home first) (own home image)

pub overlaid-append : (first second : List PageImage) (pages : Pages) → OverlayInTurn first second pages
overlaid-append first second pages =
    λ i home.
    (ap (λ (o : Option (List ℕ)). option_or o (pages home)) (image_at-append home first second)
    ∙ option_or_assoc (image_at home second) (image_at home first) (pages home)) i

-- an image has a home where a page is found for it
pub is_some-image_at : (home : Home) (images : List PageImage) → is_some (image_at home images) ≡ has home images
is_some-image_at home [] = refl
is_some-image_at home (image ∷ images) = go (same_home home image.home) (image_at home images) (is_some-image_at home images)
  where
    go : (b : Bool) (o : Option (List ℕ)) → is_some o ≡ has home images → is_some (option_or o (cond b (Some image.page) None)) ≡ (b || has home images)
    go true None is = refl
    go true (Some page) is = refl
    go false None is = is
    go false (Some page) is = is

pub image_at-none : (home : Home) (images : List PageImage) → has home images ≡ false → image_at home images ≡ None
image_at-none home images none = go (image_at home images) (is_some-image_at home images ∙ none)
  where
    go : (o : Option (List ℕ)) → is_some o ≡ false → o ≡ None
    go None is = refl
    go (Some page) is = absurd (both_ways true is refl)

-- One image put among others.
module _ (home : Home) (page : List ℕ) where
  pub has-with_image : (h : Home) (images : List PageImage) → has h (with_image home page images) ≡ (has h images || same_home h home)
  has-with_image h [] = or_swapped (same_home h home) false
    where
      or_swapped : (a b : Bool) → (a || b) ≡ (b || a)
      or_swapped true true = refl
      or_swapped true false = refl
      or_swapped false true = refl
      or_swapped false false = refl
  has-with_image h (image ∷ images) = go (has-with_image h images) (same_home home image.home) refl
    where
      same_again : (a b : Bool) → (a || b) ≡ ((a || b) || a)
      same_again true b = refl
      same_again false true = refl
      same_again false false = refl

      or_assoc : (a b c : Bool) → (a || (b || c)) ≡ ((a || b) || c)
      or_assoc true b c = refl
      or_assoc false b c = refl

      go : has h (with_image home page images) ≡ (has h images || same_home h home) → (b : Bool) → same_home home image.home ≡ b → has h (cond b (record { home = home; page = page } ∷ images) (image ∷ with_image home page images)) ≡ (has h (image ∷ images) || same_home h home)
      go rest true is =
          subst (λ (x : Home). (same_home h home || has h images) ≡ ((same_home h x || has h images) || same_home h home)) (homes_same home image.home is)
          (same_again (same_home h home) (has h images))
      go rest false is =
          ap (λ (b : Bool). same_home h image.home || b) rest
          ∙ or_assoc (same_home h image.home) (has h images) (same_home h home)

  pub image_at-with_image : (h : Home) (images : List PageImage) → AreDistinctHomes images → image_at h (with_image home page images) ≡ cond (same_home h home) (Some page) (image_at h images)
  image_at-with_image h [] distinct = refl
  image_at-with_image h (image ∷ images) distinct = go (image_at-with_image h images distinct.1) (same_home home image.home) refl
    where
      here : (b : Bool) → same_home h home ≡ b → home ≡ image.home → option_or (image_at h images) (cond b (Some page) None) ≡ cond b (Some page) (option_or (image_at h images) (cond b (Some image.page) None))
      here true same is =
          let none : image_at h images ≡ None = image_at-none h images (ap (λ (x : Home). has x images) (homes_same h home same ∙ is) ∙ distinct.0) in
          ap (λ (o : Option (List ℕ)). option_or o (Some page)) none
      here false same is = refl

      there : (b : Bool) → option_or (cond b (Some page) (image_at h images)) (own h image) ≡ cond b (Some page) (option_or (image_at h images) (own h image))
      there true = refl
      there false = refl

      go : image_at h (with_image home page images) ≡ cond (same_home h home) (Some page) (image_at h images) → (b : Bool) → same_home home image.home ≡ b
          → image_at h (cond b (record { home = home; page = page } ∷ images) (image ∷ with_image home page images)) ≡ cond (same_home h home) (Some page) (option_or (image_at h images) (own h image))
      go rest true is =
          subst (λ (x : Home). option_or (image_at h images) (cond (same_home h home) (Some page) None) ≡ cond (same_home h home) (Some page) (option_or (image_at h images) (cond (same_home h x) (Some image.page) None)))
          (homes_same home image.home is) (here (same_home h home) refl (homes_same home image.home is))
      go rest false is =
          ap (λ (o : Option (List ℕ)). option_or o (own h image)) rest ∙ there (same_home h home)

  pub AreDistinctHomes-with_image : (images : List PageImage) → AreDistinctHomes images → AreDistinctHomes (with_image home page images)
  AreDistinctHomes-with_image [] distinct = (refl, tt)
  AreDistinctHomes-with_image (image ∷ images) distinct = go (AreDistinctHomes-with_image images distinct.1) (same_home home image.home) refl
    where
      go : AreDistinctHomes (with_image home page images) → (b : Bool) → same_home home image.home ≡ b → AreDistinctHomes (cond b (record { home = home; page = page } ∷ images) (image ∷ with_image home page images))
      go rest true is = (ap (λ (x : Home). has x images) (homes_same home image.home is) ∙ distinct.0, distinct.1)
      go rest false is = (
        has-with_image image.home images ∙ (λ i. distinct.0 i || other_swapped home image.home is i),
        rest,
      )

  pub length-with_image : (images : List PageImage) → length (with_image home page images) ≡ cond (has home images) (length images) (length images + 1)
  length-with_image [] = omega arith
  length-with_image (image ∷ images) = go (same_home home image.home) (has home images) (length-with_image images)
    where
      go : (b c : Bool) → length (with_image home page images) ≡ cond c (length images) (length images + 1)
          → length (cond b (record { home = home; page = page } ∷ images) (image ∷ with_image home page images)) ≡ cond (b || c) (length (image ∷ images)) (length (image ∷ images) + 1)
      go true c is = refl
      go false true is = omega (arith, is)
      go false false is = omega (arith, is)

  pub longer-with_image : (images : List PageImage) → (length images ≤ length (with_image home page images)) × (length (with_image home page images) ≤ length images + 1)
  longer-with_image images = go (has home images) (length-with_image images)
    where
      go : (b : Bool) → length (with_image home page images) ≡ cond b (length images) (length images + 1) → (length images ≤ length (with_image home page images)) × (length (with_image home page images) ≤ length images + 1)
      go true is = (omega (arith, is), omega (arith, is))
      go false is = (omega (arith, is), omega (arith, is))

-- A change joined to what is pending.

pub AreDistinctHomes-joined : (change pending : List PageImage) → AreDistinctHomes pending → AreDistinctHomes (joined change pending)
AreDistinctHomes-joined [] pending distinct = distinct
AreDistinctHomes-joined (image ∷ change) pending distinct =
    AreDistinctHomes-joined change (with_image image.home image.page pending) (AreDistinctHomes-with_image image.home image.page pending distinct)

pub image_at-joined : (change pending : List PageImage) (home : Home) → JoinsAt change pending home
image_at-joined [] pending home distinct = refl
image_at-joined (image ∷ change) pending home distinct =
    image_at-joined change (with_image image.home image.page pending) home (AreDistinctHomes-with_image image.home image.page pending distinct)
    ∙ ap (λ (o : Option (List ℕ)). option_or (image_at home change) o) (image_at-with_image image.home image.page home pending distinct ∙ as_option (same_home home image.home) (image_at home pending))
    ∙ sym (option_or_assoc (image_at home change) (own home image) (image_at home pending))
  where
    as_option : (b : Bool) (o : Option (List ℕ)) → cond b (Some image.page) o ≡ option_or (cond b (Some image.page) None) o
    as_option true o = refl
    as_option false o = refl

pub JoinsWell-joined : (change pending : List PageImage) → JoinsWell change pending
JoinsWell-joined [] pending = record { distinct = λ distinct. distinct; longer = omega arith; most = omega arith }
JoinsWell-joined (image ∷ change) pending =
    let rest = JoinsWell-joined change (with_image image.home image.page pending) in
    let one = longer-with_image image.home image.page pending in
    record {
      distinct = AreDistinctHomes-joined (image ∷ change) pending;
      longer = omega (arith, rest.longer, one.0);
      most = omega (arith, rest.most, one.1);
    }

-- one image more laid over pages
pub overlaid_more : (images : List PageImage) (image : PageImage) (old now new : Pages) → now ≡ overlaid images old → new ≡ with_page image.home image.page now → new ≡ overlaid (images ++ image ∷ []) old
overlaid_more images image old now new was put =
    put ∙ (λ i. with_page image.home image.page (was i)) ∙ (λ i home. one (same_home home image.home) (overlaid images old home) i) ∙ sym (overlaid-append images (image ∷ []) old)
  where
    one : (b : Bool) (o : Option (List ℕ)) → cond b (Some image.page) o ≡ option_or (cond b (Some image.page) None) o
    one true o = refl
    one false o = refl

-- and what room there is for more pages
pub room_more : (images : List PageImage) (image : PageImage) (there : Bool) (first now new : ℕ) → first ≤ now + length images → new ≡ cond there now (now - 1) → first ≤ new + length (images ++ image ∷ [])
room_more images image true first now new le is = omega (arith, le, is, length-append images (image ∷ []))
room_more images image false first now new le is = omega (arith, le, is, length-append images (image ∷ []))
