-- Which volumes are synced that have the home of an image.
use Rattle.std.proofs.Common.{◌≡◌, ◌==◌, ℕ, ◌+◌, Bool, true, false, List, get_or, ◌∙◌, ap, subst, inl, inr, arith}
use Rattle.std.proofs.lemmas.Bool.{both_ways, cases_eq, eq-eqb, eqb-true}
use Rattle.std.proofs.lemmas.List.Folds.{Any-from_list_any, list_any-from_Any}
use Rattle.std.proofs.lemmas.List.{get_or_default}
use Rattle.std.specs.List.{list_any}
use Rattle.disk_label.specs.domain_base.declared.place.Home.{Home}
use Rattle.disk_label.specs.volume_disk.Disk.{Disk, HasVolume, Moment, Syncs}
use Rattle.log_ring.specs.declared.image.PageImage.{PageImage}
use Rattle.log_ring.specs.Homes.{HaveHomes, IsHomeOf}
use Rattle.log_ring.specs.Settling.{AreSyncedBelow, HasHome}
use Rattle.log_ring.proofs.HomePages.{each_home, has_at}

abbrev on : ℕ → PageImage → Bool
on vol image = image.home.vol == vol

-- a volume with the home of an image is one of the rack
pub volume_there : (disk : Disk) (images : List PageImage) (vol : ℕ) → HaveHomes disk.sizes images → list_any (on vol) images ≡ true → HasVolume disk vol
volume_there disk images vol homes some =
    let any = Any-from_list_any (on vol) images some in
    let is : IsHomeOf disk.sizes (get_or images any.0 any.1).home = homes any.0 any.1 any.2 in
    let here : (get_or images any.0 any.1).home.vol ≡ vol = (λ i. (any.3 i).home.vol) ∙ eqb-true any.1.home.vol vol any.4 in
    subst (λ (v : ℕ). HasVolume disk v) here (is.first_volume, is.last_volume)

-- where no image has its home on a volume, no home of theirs is there
pub elsewhere : (images : List PageImage) (vol : ℕ) (home : Home) → list_any (on vol) images ≡ false → HasHome images home → home.vol ≡ vol → ⊥
elsewhere images vol home none =
    each_home (λ h. h.vol ≡ vol → ⊥) images home
    (λ k d lt is. both_ways (list_any (on vol) images) none (list_any-from_Any (on vol) images (k, get_or images k d, lt, get_or_default images k (get_or images k d) d lt, eq-eqb (get_or images k d).home.vol vol is)))

-- and where one has, that home is one of theirs
pub home_on : (images : List PageImage) (vol : ℕ) → list_any (on vol) images ≡ true → (home : Home) × HasHome images home × (home.vol ≡ vol)
home_on images vol some =
    let any = Any-from_list_any (on vol) images some in
    ((get_or images any.0 any.1).home, has_at images any.0 any.1 any.2, (λ i. (any.3 i).home.vol) ∙ eqb-true any.1.home.vol vol any.4)

-- one volume more is synced
pub one_more_synced : (images : List PageImage) (vol : ℕ) (old new : Moment) → Syncs vol old new → AreSyncedBelow vol images old → AreSyncedBelow (vol + 1) images new
one_more_synced images vol old new syncs so_far home has below k = elim (cases_eq home.vol vol) [
  | inl is ↦ ap (λ (v : ℕ). new.unsynced v k) is ∙ syncs.here k
  | inr other ↦ syncs.elsewhere home.vol k other ∙ so_far home has (omega arith) k
]

-- or none has to be
pub none_to_sync : (images : List PageImage) (vol : ℕ) (moment : Moment) → list_any (on vol) images ≡ false → AreSyncedBelow vol images moment → AreSyncedBelow (vol + 1) images moment
none_to_sync images vol moment none so_far home has below k =
    let other : home.vol ≡ vol → ⊥ = elsewhere images vol home none has in
    so_far home has (omega arith) k
