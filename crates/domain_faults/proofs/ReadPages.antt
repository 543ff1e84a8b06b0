-- Pages of members that were read.
use Rattle.std.proofs.Common.{◌≡◌, ◌∙◌, ◌⊎◌, inl, inr, ℕ, ◌+◌, ◌*◌, ◌<◌, ◌≤◌, Bool, true, false, cond, ◌&&◌, ◌++◌, List, Option, Some, IsSome, length, take, drop, refl, sym, ap, subst, arith, ⊎_elim}
use Rattle.std.proofs.lemmas.Bool.{cases_lt}
use Rattle.std.proofs.lemmas.List.{take_at}
use Rattle.slot_files.specs.domain_base.declared.place.Home.{Home}
use Rattle.slot_files.specs.page_store.Pages.{Pages, same_home}
use Rattle.slot_files.specs.volume_disk.Disk.{Disk, Moment, Tells, volume_pages}
use Rattle.slot_files.specs.volume_disk.Image.{Image, bytes_at, bytes_from, page_at}
use Rattle.slot_files.specs.volume_disk.Run.{OnlyReads}
use Rattle.slot_files.proofs.OfVolumeDisk.Bytes.{length-bytes_from}
use Rattle.slot_files.specs.log_ring.Images.{overlaid}
use Rattle.slot_files.specs.log_ring.declared.image.PageImage.{PageImage}
use Rattle.slot_files.specs.disk_label.declared.anchor.Anchor.{Anchor}
use Rattle.slot_files.specs.log_ring.Groups.{pages_in}
use Rattle.slot_files.specs.log_ring.Homes.{HasMembers, IsMember, member_of}
use Rattle.slot_files.proofs.OfLogRecovery.Reading.{told_on}
use Rattle.slot_files.proofs.OfMetadataCells.Changed.{homes_same, same_itself}
use Rattle.slot_files.proofs.OfDomainLayout.Reached.{member_or_none}
use Rattle.domain_faults.specs.Pages.{IsOnRack, IsReadAt, PutsPage, is_redone}

-- the bytes that were read are the page
pub page_read : (image : Image) (vol number len n : ℕ) (out items got page : List ℕ) → page ≡ got → got ≡ take len (out ++ drop (length out) items) → out ≡ bytes_at image vol (512 * (16 * number)) n → n ≡ 8192 → len ≡ 8192 → page ≡ page_at image vol number
page_read image vol number len n out items got page is_got is_out read whole whole_vec =
    let at : 512 * (16 * number) ≡ 8192 * number = omega arith in
    let size : length out ≡ len = ap (length {A = ℕ}) read ∙ length-bytes_from (image vol) (512 * (16 * number)) n ∙ whole ∙ sym whole_vec in
    is_got ∙ is_out ∙ take_at out (drop (length out) items) len size ∙ read ∙ (λ i. bytes_from (image vol) (at i) (whole i))

-- ---- one page more

module _ (disk : Disk) (images : List PageImage) (home : Home) (old new : Pages) (puts : PutsPage disk images home old new) where
  here : new home ≡ Some puts.page
  here = ap (λ (pages : Pages). pages home) puts.put ∙ ap (λ b. cond b (Some puts.page) (old home)) (same_itself home)

  pub read_here : IsReadAt disk images new home
  read_here = record { there = subst IsSome (sym here) refl; is = λ told. here ∙ sym (puts.is told) }

  pub read_still : (other : Home) → IsReadAt disk images old other → IsReadAt disk images new other
  read_still other was = by_test (same_home other home) refl
    where
      by_test : (b : Bool) → same_home other home ≡ b → IsReadAt disk images new other
      by_test true same = subst (IsReadAt disk images new) (sym (homes_same other home same)) read_here
      by_test false apart =
          let still : new other ≡ old other = ap (λ (pages : Pages). pages other) puts.put ∙ ap (λ b. cond b (Some puts.page) (old other)) apart in
          record { there = subst IsSome (sym still) was.there; is = λ told. still ∙ was.is told }

-- what was read of a rack on which only reads were made before was there at first

module _ (old mid : Disk) (reads : OnlyReads old mid) (images : List PageImage) where
  pub puts_before : (home : Home) (before after : Pages) → PutsPage mid images home before after → PutsPage old images home before after
  puts_before home before after puts = record {
    page = puts.page;
    put = puts.put;
    is = λ told. subst (λ (m : Moment). is_redone images m.contents home puts.page) (reads.now told) (puts.is (told_on old mid reads told));
  }

  pub read_before : (pages : Pages) (home : Home) → IsReadAt mid images pages home → IsReadAt old images pages home
  read_before pages home is = record {
    there = is.there;
    is = λ told. subst (λ (m : Moment). pages home ≡ overlaid images (pages_in m.contents) home) (reads.now told) (is.is (told_on old mid reads told));
  }

  pub read_now : (pages : Pages) (home : Home) → IsReadAt old images pages home → IsReadAt mid images pages home
  read_now pages home is = record {
    there = is.there;
    is = λ told.
        let before : Tells old = sym reads.touches.told ∙ told in
        subst (λ (m : Moment). pages home ≡ overlaid images (pages_in m.contents) home) (sym (reads.now before)) (is.is before);
  }

-- so many pages of a volume, and one more
pub read_more : (disk : Disk) (images : List PageImage) (vol page : ℕ) (old new : Pages) → PutsPage disk images (record { vol = vol; page = page }) old new
    → ((home : Home) → home.vol ≡ vol → home.page < page → IsReadAt disk images old home) → (home : Home) → home.vol ≡ vol → home.page < page + 1 → IsReadAt disk images new home
read_more disk images vol page old new puts before home same less =
    ⊎_elim (λ low. read_still disk images (record { vol = vol; page = page }) old new puts home (before home same low))
    (λ high.
    let last : home.page ≡ page = omega (arith, less, high) in
    subst (IsReadAt disk images new) (sym (λ i. record { vol = same i; page = last i })) (read_here disk images (record { vol = vol; page = page }) old new puts))
    (cases_lt home.page page)

-- ---- pages of members

pub on_rack : (sizes : List ℕ) (anchor : Anchor) (vol count : ℕ) → HasMembers sizes anchor → (IsMember anchor vol → count ≡ (member_of anchor vol).pages) → (¬ IsMember anchor vol → count ≡ 0)
    → (home : Home) → home.vol ≡ vol → home.page < count → IsOnRack sizes home
on_rack sizes anchor vol count members is none home same less =
    ⊎_elim (λ member.
    let of = members vol member.first member.last member.there member.whole in
    let size = is member in
    subst (λ v. IsOnRack sizes (record { vol = v; page = home.page })) (sym same)
    (record { first = member.first; last = of.0; within = omega (arith, less, size, of.1); limit = omega (arith, less, size, of.2) }))
    (λ other. absurd (let zero_there = none other in omega (arith, less, zero_there))) (member_or_none anchor vol)

pub members_more : (disk : Disk) (images : List PageImage) (anchor : Anchor) (number vol count : ℕ) (old new : Pages) → vol ≡ number → (IsMember anchor vol → count ≡ (member_of anchor vol).pages)
    → ((home : Home) → home.vol ≡ vol → home.page < count → IsReadAt disk images new home) → ((home : Home) → IsReadAt disk images old home → IsReadAt disk images new home)
    → ((home : Home) → IsMember anchor home.vol → home.vol < number → home.page < (member_of anchor home.vol).pages → IsReadAt disk images old home)
    → (home : Home) → IsMember anchor home.vol → home.vol < number + 1 → home.page < (member_of anchor home.vol).pages → IsReadAt disk images new home
members_more disk images anchor number vol count old new is_number size pages kept before home member less within =
    ⊎_elim (λ low. kept home (before home member low within))
    (λ high.
    let same : home.vol ≡ vol = omega (arith, less, high, is_number) in
    let all : count ≡ (member_of anchor home.vol).pages = size (subst (IsMember anchor) same member) ∙ ap (λ v. (member_of anchor v).pages) (sym same) in
    pages home same (omega (arith, within, all))) (cases_lt home.vol number)
