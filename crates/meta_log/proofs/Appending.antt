-- A change appended to a log.
use Rattle.std.proofs.Common.{◌≡◌, ℕ, ◌+◌, ◌^◌, ◌<◌, Bool, true, false, cond, List, [], ◌∷◌, length, ap, arith, inl, inr}
use Rattle.std.proofs.lemmas.List.Elements.{All-cons, All-head, All-nil, All-tail}
use Rattle.std.specs.List.{All}
use Rattle.log_ring.specs.domain_base.declared.place.Home.{Home}
use Rattle.log_ring.specs.page_store.Pages.{same_home}
use Rattle.log_ring.specs.Images.{joined, with_image}
use Rattle.log_ring.specs.declared.image.PageImage.{PageImage}
use Rattle.log_ring.proofs.Overlays.{AreDistinctHomes-joined, JoinsWell-joined}
use Rattle.log_ring.specs.Groups.{Group, span}
use Rattle.log_ring.specs.Homes.{AreLoggable, IsLoggable}
use Rattle.meta_log.specs.Log.{HasPlaceFor, IsFullFor, IsLog, Log, appended, groups_of, next_number}
use Rattle.meta_log.proofs.Pending.{one_group}

-- what holds of the homes of all images holds of them with one put among them
All-with_image : (P : Home → Type 0) (home : Home) (page : List ℕ) (images : List PageImage) → P home → All (λ (i : PageImage). P i.home) images → All (λ (i : PageImage). P i.home) (with_image home page images)
All-with_image P home page [] here all = All-cons (λ (i : PageImage). P i.home) (record { home = home; page = page }) [] here (All-nil (λ (i : PageImage). P i.home))
All-with_image P home page (image ∷ images) here all =
    go (same_home home image.home) (All-with_image P home page images here (All-tail (λ (i : PageImage). P i.home) image images all))
  where
    go : (b : Bool) → All (λ (i : PageImage). P i.home) (with_image home page images) → All (λ (i : PageImage). P i.home) (cond b (record { home = home; page = page } ∷ images) (image ∷ with_image home page images))
    go true rest = All-cons (λ (i : PageImage). P i.home) (record { home = home; page = page }) images here (All-tail (λ (i : PageImage). P i.home) image images all)
    go false rest = All-cons (λ (i : PageImage). P i.home) image (with_image home page images) (All-head (λ (i : PageImage). P i.home) image images all) rest

All-joined : (P : Home → Type 0) (change pending : List PageImage) → All (λ (i : PageImage). P i.home) change → All (λ (i : PageImage). P i.home) pending → All (λ (i : PageImage). P i.home) (joined change pending)
All-joined P [] pending first second = second
All-joined P (image ∷ change) pending first second =
    All-joined P change (with_image image.home image.page pending) (All-tail (λ (i : PageImage). P i.home) image change first)
    (All-with_image P image.home image.page pending (All-head (λ (i : PageImage). P i.home) image change first) second)

-- a change is joined to nothing as it is, so that some of it is pending
joined_some : (change pending : List PageImage) → 0 < length change → 0 < length (joined change pending)
joined_some [] pending some = absurd (omega arith)
joined_some (image ∷ change) pending some =
    let longer = (JoinsWell-joined change (with_image image.home image.page pending)).longer in
    let one = put_some pending in
    omega (arith, longer, one)
  where
    put_some : (images : List PageImage) → 0 < length (with_image image.home image.page images)
    put_some [] = omega arith
    put_some (first ∷ images) = go (same_home image.home first.home)
      where
        go : (b : Bool) → 0 < length (cond b (record { home = image.home; page = image.page } ∷ images) (first ∷ with_image image.home image.page images))
        go true = omega arith
        go false = omega arith

pub appended_is : (log : Log) (change : List PageImage) → IsLog log → 0 < length change → AreLoggable log.anchor change → next_number log + 1 < 2 ^ 63 → HasPlaceFor log (length (joined change log.pending)) → IsLog (appended log change)
appended_is log change is some loggable number has =
    let pending = joined change log.pending in
    let one : groups_of (next_number log) pending ≡ record { number = next_number log; images = pending } ∷ [] = one_group (next_number log) pending (joined_some change log.pending some) in
    let count = ap (λ (l : List Group). length l) one in
    let spans = ap span one in
    record {
      slot = is.slot;
      start = is.start;
      behind = is.behind;
      fits = let ring = has.ring in omega (arith, spans, ring);
      number = omega (arith, count, number);
      most = has.group;
      distinct = AreDistinctHomes-joined change log.pending is.distinct;
      pending = All-joined (IsLoggable log.anchor) change log.pending loggable is.pending;
      logged = is.logged;
    }

-- what has a place leaves no log full
pub not_full : (log : Log) (n : ℕ) → HasPlaceFor log n → ¬ IsFullFor log n
not_full log n place (inl many) = let few = place.group in omega arith
not_full log n place (inr long) = let few = place.ring in omega arith
