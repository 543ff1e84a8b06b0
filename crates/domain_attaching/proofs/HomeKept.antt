-- Pages that are brought home.
use Rattle.std.proofs.Common.{◌≤◌, ◌≡◌, ◌∙◌, ◌⊎◌, ℕ, ◌+◌, ◌<◌, List, Option, Some, None, IfSome, Result, Ok, Err, sym, ap, subst, arith, ⊎_elim}
use Rattle.std.proofs.lemmas.Bool.{cases_lt}
use Rattle.attached_domain.specs.domain_base.declared.place.Home.{Home}
use Rattle.attached_domain.specs.page_store.Pages.{Pages}
use Rattle.attached_domain.specs.volume_disk.Disk.{Disk, raised_at}
use Rattle.attached_domain.specs.volume_disk.Image.{Image, NoPlace, Places, page_at}
use Rattle.attached_domain.specs.volume_disk.Run.{NamesWriteFault, Touches}
use Rattle.attached_domain.proofs.OfVolumeDisk.Laws.{touches-wider}
use Rattle.attached_domain.specs.disk_label.Fault.{HasPassed}
use Rattle.attached_domain.specs.disk_label.declared.anchor.Anchor.{Anchor}
use Rattle.attached_domain.specs.log_ring.Homes.{HasMembers, IsHomeOf, IsLoggable, member_of}
use Rattle.attached_domain.proofs.OfLogRing.HomePages.{page-same}
use Rattle.domain_attaching.specs.Closing.{AreTheseHome, IsHome, IsOnThese, StayHome}

-- what touches nothing touches some places at most
pub none_wider : (old new : Disk) (places : Places) → Touches old new NoPlace → Touches old new places
none_wider old new places touches = touches-wider old new NoPlace places (λ v k no. absurd no) touches

-- a page that may be written is one of the rack
pub home_there : (sizes : List ℕ) (anchor : Anchor) (home : Home) → HasMembers sizes anchor → IsLoggable anchor home → IsHomeOf sizes home
home_there sizes anchor home members is =
    let m = members home.vol is.first_volume is.last_volume is.member.0 is.member.1 in
    let within = is.within in
    let pages = m.1 in
    let most = m.2 in
    record {
      first_volume = is.first_volume;
      last_volume = m.0;
      few_volumes = is.last_volume;
      behind = is.behind;
      within = omega (arith, within, pages);
      limit = omega (arith, within, most);
    }

-- more of them are written at most
pub these_wider : (old new : Disk) (These Those : Home → Type 0) → ((home : Home) → These home → Those home) → Touches old new (IsOnThese These) → Touches old new (IsOnThese Those)
these_wider old new These Those each touches = touches-wider old new (IsOnThese These) (IsOnThese Those) (λ v k on. (on.0, each on.0 on.1, on.2)) touches

module _ (pages : Pages) (anchor : Anchor) where
  -- the page of a home that is none of those is of no matter
  pub none_home : (image : Image) (home : Home) → (IsLoggable anchor home → ⊥) → IsHome pages anchor image home
  none_home image home not is = absurd (not is)

  pub absent_home : (image : Image) (home : Home) → pages home ≡ None → IsHome pages anchor image home
  absent_home image home none is = subst (λ (o : Option (List ℕ)). IfSome o (λ page. page_at image home.vol home.page ≡ page)) (sym none) tt

  pub same_page : (old new : Image) (home : Home) → page_at new home.vol home.page ≡ page_at old home.vol home.page → IsHome pages anchor old home → IsHome pages anchor new home
  same_page old new home same was is = by_page (pages home) (was is)
    where
      by_page : (o : Option (List ℕ)) → IfSome o (λ page. page_at old home.vol home.page ≡ page) → IfSome o (λ page. page_at new home.vol home.page ≡ page)
      by_page None here = tt
      by_page (Some page) here = same ∙ here

  -- nothing is touched
  pub stay_untouched : (old new : Disk) → Touches old new NoPlace → StayHome pages anchor old new
  stay_untouched old new touches told home = same_page old.now.contents new.now.contents home (page-same home old.now.contents new.now.contents (λ v k on. touches.contents told v k (λ no. no)))

  -- of a volume
  module _ (These : Home → Type 0) where
    -- those are all of it
    pub all_home_on : (image : Image) (vol n : ℕ) → (member_of anchor vol).pages ≤ n → AreTheseHome (λ home. (home.vol ≡ vol) × (home.page < n) × These home) pages anchor image → AreTheseHome (λ home. (home.vol ≡ vol) × These home) pages anchor image
    all_home_on image vol n most are home is loggable =
        let within = loggable.within in
        let count : (member_of anchor home.vol).pages ≡ (member_of anchor vol).pages = ap (λ v. (member_of anchor v).pages) is.0 in
        are home (is.0, omega (arith, within, count, most), is.1) loggable

    -- and of volumes
    pub one_volume_more : (image : Image) (vol : ℕ) → AreTheseHome (λ home. (home.vol < vol) × These home) pages anchor image → AreTheseHome (λ home. (home.vol ≡ vol) × These home) pages anchor image → AreTheseHome (λ home. (home.vol < vol + 1) × These home) pages anchor image
    one_volume_more image vol are next home is =
        let below = is.0 in
        ⊎_elim (λ less. are home (less, is.1)) (λ last. let at : home.vol ≡ vol = omega (arith, last, below) in next home (at, is.1)) (cases_lt home.vol vol)

    pub all_home : (image : Image) → AreTheseHome (λ home. (home.vol < 9) × These home) pages anchor image → AreTheseHome These pages anchor image
    all_home image are home is loggable = let last = loggable.last_volume in are home (omega (arith, last), is) loggable

-- ---- calls one after the other

pub members_still : (old new : Disk) (anchor : Anchor) (places : Places) → Touches old new places → HasMembers old.sizes anchor → HasMembers new.sizes anchor
members_still old new anchor places touches members = subst (λ (l : List ℕ). HasMembers l anchor) (sym touches.sizes) members

pub stay_then : (pages : Pages) (anchor : Anchor) (old mid new : Disk) (places : Places) → Touches old mid places → StayHome pages anchor old mid → StayHome pages anchor mid new → StayHome pages anchor old new
stay_then pages anchor old mid new places touches one other told home was = other (touches.told ∙ told) home (one told home was)

-- ---- causes

pub passed_then : (old mid new : Disk) → HasPassed old mid → HasPassed mid new → HasPassed old new
passed_then old mid new one other = (other.0 ∙ one.0, other.1 ∙ one.1)

-- if none had failed before, a fault is that of all of it
pub fault_then : {T : Type 0} (old mid new : Disk) (r : Result T ℕ) → mid.write_faults ≡ old.write_faults → NamesWriteFault mid new r → NamesWriteFault old new r
fault_then old mid new (Ok x) passed is = is ∙ passed
fault_then old mid new (Err vol) passed is = is ∙ ap (λ (c : ℕ → ℕ). raised_at c vol) passed
