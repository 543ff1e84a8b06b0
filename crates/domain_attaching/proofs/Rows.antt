-- Pages in memory that stand in a row on a volume.
use Rattle.std.proofs.Common.{◌≡◌, ◌∙◌, ◌⊎◌, ⊎_elim, inl, inr, ℕ, ◌+◌, ◌-◌, ◌*◌, ◌/◌, ◌<◌, ◌≤◌, Bool, List, Option, Some, None, IfSome, IsSome, length, drop, max, take, slice_range, refl, sym, ap, subst, arith}
use borrow.Rule.Slice.PartMut.{put_mid}
use Rattle.std.proofs.lemmas.Bool.{cases_lt}
use Rattle.std.proofs.lemmas.List.{drop-take}
use Rattle.std.proofs.lemmas.Slice.{between-put_mid, drop-put_mid, take-put_mid_below}
use Rattle.attached_domain.specs.domain_base.declared.place.Home.{Home}
use Rattle.attached_domain.specs.page_store.Pages.{Pages}
use Rattle.attached_domain.specs.volume_disk.Disk.{Disk, Tells}
use Rattle.attached_domain.specs.volume_disk.Image.{HasBytes, Image, IsIn, SameOutside, page_at}
use Rattle.attached_domain.specs.volume_disk.Run.{Touches}
use Rattle.attached_domain.proofs.OfVolumeDisk.Laws.{touches-wider}
use Rattle.attached_domain.specs.disk_label.declared.anchor.Anchor.{Anchor}
use Rattle.attached_domain.specs.log_ring.Homes.{HasMembers, IsLoggable}
use Rattle.attached_domain.proofs.OfLogRing.HomePages.{page-same}
use Rattle.domain_bringing.proofs.InARow.{page_outside}
use Rattle.domain_bringing.proofs.OfImageLoading.PagesRead.{page_in_is}
use Rattle.domain_attaching.specs.Closing.{AreBetween, AreOnRack, AreTheseHome, IsChosen, IsHome, IsOnRow, IsOnThese, IsToBring, StandsHome, StayHome, page_in}
use Rattle.domain_attaching.specs.declared.tables.TablePages.{TablePages}
use Rattle.domain_attaching.proofs.HomeKept.{absent_home, same_page}

-- ---- a page that is laid over one that was read

module _ (found bytes : List ℕ) (k n : ℕ) (size : n ≡ 8192) (fits : 8192 * k + 8192 ≤ length found) (whole : length bytes ≡ 8192) where
  pub laid_here : page_in (put_mid (k * 8192) n found bytes) k ≡ bytes
  laid_here =
      let at : 8192 * k ≡ k * 8192 = omega arith in
      ap (λ (a : ℕ). slice_range (put_mid (k * 8192) n found bytes) a (a + 8192)) at
      ∙ between-put_mid (k * 8192) n found bytes (k * 8192 + 8192) (omega (arith, fits)) (omega (arith, whole))

  pub laid_behind : (j : ℕ) → k < j → page_in (put_mid (k * 8192) n found bytes) j ≡ page_in found j
  laid_behind j behind =
      ap (λ (l : List ℕ). take (8192 * j + 8192 - 8192 * j) l)
      (drop-put_mid (k * 8192) n found bytes (8192 * j) (omega (arith, behind, size)) (omega (arith, fits)) (omega (arith, whole, size)))

  pub laid_front : (j : ℕ) → j < k → page_in (put_mid (k * 8192) n found bytes) j ≡ page_in found j
  laid_front j front =
      let m : ℕ = 8192 * j + 8192 - 8192 * j in
      sym (drop-take (8192 * j) m (put_mid (k * 8192) n found bytes))
      ∙ ap (λ (l : List ℕ). drop (8192 * j) l) (take-put_mid_below (k * 8192) n found bytes (8192 * j + m) (omega (arith, front)) (omega (arith, fits)))
      ∙ drop-take (8192 * j) m found

-- ---- what stands at a home

-- what memory has, as bytes that stand there
pub stands_as : (pages : Pages) (image : Image) (home : Home) (page : List ℕ) → pages home ≡ Some page → page_at image home.vol home.page ≡ page → StandsHome pages image home
stands_as pages image home page at stands = subst (λ (o : Option (List ℕ)). IfSome o (λ p. page_at image home.vol home.page ≡ p)) (sym at) stands

-- and so it does on another image with the same page
pub stands_on : (pages : Pages) (old new : Image) (home : Home) → page_at new home.vol home.page ≡ page_at old home.vol home.page → StandsHome pages old home → StandsHome pages new home
stands_on pages old new home same was = by_page (pages home) was
  where
    by_page : (o : Option (List ℕ)) → IfSome o (λ page. page_at old home.vol home.page ≡ page) → IfSome o (λ page. page_at new home.vol home.page ≡ page)
    by_page None here = tt
    by_page (Some page) here = same ∙ here

-- ---- one step: pages from one on that differ are written, up to one that is the same

module _ (pages : Pages) (vol first count at end : ℕ) (found laid : List ℕ) (old new : Image) where
  -- the pages before stay, those that were written and the one after them stand there
  pub home_more : at ≤ end → length laid ≡ 8192 * count → end ≤ count
      → ((k : ℕ) → at ≤ k → k ≤ end → k < count → pages (record { vol = vol; page = first + k }) ≡ Some (page_in laid k))
      → ((k : ℕ) → end ≤ k → page_in laid k ≡ page_in found k)
      → ((k : ℕ) → k < at → k < count → StandsHome pages old (record { vol = vol; page = first + k }))
      → ((k : ℕ) → at ≤ k → k < count → page_in found k ≡ page_at old vol (first + k))
      → ((k : ℕ) → k < count → (k < at ⊎ end ≤ k) → page_at new vol (first + k) ≡ page_at old vol (first + k))
      → ((k : ℕ) → at ≤ k → k < end → page_in laid k ≡ page_at new vol (first + k))
      → (k : ℕ) → k < end + 1 → k < count → StandsHome pages new (record { vol = vol; page = first + k })
  home_more low size most is_laid rest before read outside written k less inside =
      ⊎_elim
      (λ front. stands_on pages old new (record { vol = vol; page = first + k }) (outside k inside (inl front)) (before k front inside))
      (λ behind. ⊎_elim
      (λ among. stands_as pages new (record { vol = vol; page = first + k }) (page_in laid k) (is_laid k behind (omega (arith, among)) inside) (sym (written k behind among)))
      (λ last. stands_as pages new (record { vol = vol; page = first + k }) (page_in laid k) (is_laid k behind (omega (arith, less)) inside)
      (outside k inside (inr last) ∙ sym (read k behind inside) ∙ sym (rest k last)))
      (cases_lt k end))
      (cases_lt k at)

  -- and those after are still as they were read
  pub read_more : ((k : ℕ) → end ≤ k → page_in laid k ≡ page_in found k)
      → ((k : ℕ) → at ≤ k → k < count → page_in found k ≡ page_at old vol (first + k))
      → at ≤ end
      → ((k : ℕ) → k < count → (k < at ⊎ end ≤ k) → page_at new vol (first + k) ≡ page_at old vol (first + k))
      → (k : ℕ) → end + 1 ≤ k → k < count → page_in laid k ≡ page_at new vol (first + k)
  read_more rest read low outside k behind inside =
      let late : end ≤ k = omega (arith, behind) in
      rest k late ∙ read k (omega (arith, behind, low)) inside ∙ sym (outside k inside (inr late))

-- pages of a row that a write has passed over
pub passed_over : (old new : Image) (vol first at end n : ℕ) → SameOutside (IsIn vol (512 * (16 * (first + at))) n) old new → n ≡ 8192 * end - 8192 * at → at ≤ end → (k : ℕ) → (k < at ⊎ end ≤ k) → page_at new vol (first + k) ≡ page_at old vol (first + k)
passed_over old new vol first at end n same size low k apart =
    page_outside old new vol (512 * (16 * (first + at))) n (first + k) same (⊎_elim (λ front. inl (omega (arith, front))) (λ behind. inr (omega (arith, behind, size, low))) apart)

-- they are of the row
pub part_of_row : (vol first count at end n : ℕ) → n ≡ 8192 * end - 8192 * at → at ≤ end → end ≤ count → (v k : ℕ) → IsIn vol (512 * (16 * (first + at))) n v k → IsOnRow vol first count v k
part_of_row vol first count at end n size low most v k on =
    let from = on.1 in
    let to = on.2 in
    (on.0, omega (arith, from), omega (arith, to, size, low, most))

-- all of a row
pub all_of_row : (pages : Pages) (image : Image) (vol first count at : ℕ) → count ≤ at → ((k : ℕ) → k < at → k < count → StandsHome pages image (record { vol = vol; page = first + k })) → AreBetween vol first (first + count) (StandsHome pages image)
all_of_row pages image vol first count at most home page low high =
    let back : first + (page - first) ≡ page = omega (arith, low) in
    subst (λ p. StandsHome pages image (record { vol = vol; page = p })) back (home (page - first) (omega (arith, low, high, most)) (omega (arith, low, high)))

-- ---- all of a row, written by one call

-- it is the row's bytes that are written
pub whole_row : (vol first count n : ℕ) → n ≡ 8192 * count → (v k : ℕ) → IsIn vol (512 * (16 * first)) n v k → IsOnRow vol first count v k
whole_row vol first count n size v k on =
    let from = on.1 in
    let to = on.2 in
    (on.0, omega (arith, from), omega (arith, to, size))

-- then each page stands there that was laid
pub row_written : (pages : Pages) (image : Image) (vol first count : ℕ) (laid : List ℕ) → length laid ≡ 8192 * count → ((k : ℕ) → k < count → pages (record { vol = vol; page = first + k }) ≡ Some (page_in laid k)) → HasBytes vol (512 * (16 * first)) laid image
    → AreBetween vol first (first + count) (StandsHome pages image)
row_written pages image vol first count laid size is_laid has =
    all_of_row pages image vol first count count (omega arith)
    (λ k less inside.
    stands_as pages image (record { vol = vol; page = first + k }) (page_in laid k) (is_laid k less)
    (sym (page_in_is image vol (first + k) (8192 * k) (8192 * k + 8192) laid refl (omega (arith, size, less))
    (λ j lt. sym (has (8192 * k + j) (omega (arith, size, less, lt))) ∙ ap (image vol) (omega arith)))))

-- ---- rows

-- a page is one of a row, or not
one_of_row : (vol first count : ℕ) (home : Home) → (((home.vol ≡ vol) × ((first ≤ home.page) × (home.page < first + count))) ⊎ ¬ ((home.vol ≡ vol) × ((first ≤ home.page) × (home.page < first + count))))
one_of_row vol first count home =
    ⊎_elim (λ below. inr (λ is. let same = is.0 in absurd (omega (arith, below, same))))
    (λ not_below. ⊎_elim (λ above. inr (λ is. let same = is.0 in absurd (omega (arith, above, same))))
    (λ not_above. ⊎_elim (λ front. inr (λ is. let low = is.1.0 in absurd (omega (arith, front, low))))
    (λ not_front. ⊎_elim (λ inside. inl (omega (arith, not_below, not_above), (not_front, inside)))
    (λ behind. inr (λ is. let high = is.1.1 in absurd (omega (arith, behind, high))))
    (cases_lt home.page (first + count)))
    (cases_lt home.page first))
    (cases_lt vol home.vol))
    (cases_lt home.vol vol)

-- what touches a row of pages that are home then leaves each other page where it is
pub stay_row : (pages : Pages) (anchor : Anchor) (old new : Disk) (vol first count : ℕ) → Touches old new (IsOnRow vol first count) → (Tells old → AreBetween vol first (first + count) (StandsHome pages new.now.contents)) → StayHome pages anchor old new
stay_row pages anchor old new vol first count touches there told home was loggable = by_place (one_of_row vol first count home)
  where
    by_place : (((home.vol ≡ vol) × ((first ≤ home.page) × (home.page < first + count))) ⊎ ¬ ((home.vol ≡ vol) × ((first ≤ home.page) × (home.page < first + count)))) → StandsHome pages new.now.contents home
    by_place (inl is) =
        let same : record { vol = vol; page = home.page } ≡ home = λ i. record { vol = sym is.0 i; page = home.page } in
        subst (StandsHome pages new.now.contents) same (there told home.page is.1.0 is.1.1)
    by_place (inr apart) =
        same_page pages anchor old.now.contents new.now.contents home
        (page-same home old.now.contents new.now.contents (λ v k on. touches.contents told v k (λ row.
        let low = on.1 in
        let high = on.2 in
        let from = row.1 in
        let to = row.2 in
        apart (sym on.0 ∙ row.0, (omega (arith, high, from), omega (arith, low, to))))))
        was loggable

-- the bytes of a row are those of its pages
pub row_on_these : (old new : Disk) (These : Home → Type 0) (vol first count : ℕ) → AreBetween vol first (first + count) These → Touches old new (IsOnRow vol first count) → Touches old new (IsOnThese These)
row_on_these old new These vol first count are touches =
    touches-wider old new (IsOnRow vol first count) (IsOnThese These)
    (λ v k on.
    let from = on.1 in
    let to = on.2 in
    (record { vol = vol; page = k / 8192 }, are (k / 8192) (omega (arith, from)) (omega (arith, to)), (on.0, omega arith, omega arith)))
    touches

-- ---- pages of a volume, row by row

-- after a row the next one begins, and after no row the next page
pub next_page : (first end : ℕ) → first ≤ end → (max end (first + 1) ≤ end) ⊎ ((end ≡ first) × (max end (first + 1) ≡ first + 1))
next_page first end low =
    ⊎_elim (λ some. inl (omega (arith, some))) (λ none. inr (omega (arith, none, low), omega (arith, none))) (cases_lt first end)

-- a row by its end, and by its count
pub by_end : (vol first end : ℕ) (P : Home → Type 0) → first ≤ end → AreBetween vol first (first + (end - first)) P → AreBetween vol first end P
by_end vol first end P low are page from to = are page from (omega (arith, low, to))

pub by_count : (vol first end : ℕ) (P : Home → Type 0) → first ≤ end → AreBetween vol first end P → AreBetween vol first (first + (end - first)) P
by_count vol first end P low are page from to = are page from (omega (arith, low, to))

module _ (pages : Pages) (anchor : Anchor) (tables : TablePages) (of_tables : Bool) (vol : ℕ) where
  -- the pages of a row are home, or the one at which there is none is none of those to be brought
  pub homes_more : (old new : Disk) (first end next : ℕ) → first ≤ end → next ≤ end ⊎ ((end ≡ first) × (next ≡ first + 1))
      → (end ≡ first → ¬ IsToBring pages anchor tables of_tables (record { vol = vol; page = first }))
      → StayHome pages anchor old new → Tells old
      → AreTheseHome (λ home. (home.vol ≡ vol) × (home.page < first) × IsChosen anchor tables of_tables home) pages anchor old.now.contents
      → AreBetween vol first end (StandsHome pages new.now.contents)
      → AreTheseHome (λ home. (home.vol ≡ vol) × (home.page < next) × IsChosen anchor tables of_tables home) pages anchor new.now.contents
  homes_more old new first end next low which none stays told before there home is =
      let below = is.1 in
      ⊎_elim (λ front. stays told home (before home (is.0, front, is.2)))
      (λ behind. ⊎_elim
      (λ row loggable. subst (StandsHome pages new.now.contents) (at home.page) (there home.page behind (omega (arith, below, row))))
      (λ one.
      let next_is = one.1 in
      let here : home.page ≡ first = omega (arith, behind, below, next_is) in
      by_page (none one.0) here (pages home) refl)
      which)
      (cases_lt home.page first)
    where
      at : (page : ℕ) → record { vol = vol; page = home.page } ≡ home
      at page = λ i. record { vol = sym is.0 i; page = home.page }

      by_page : ¬ IsToBring pages anchor tables of_tables (record { vol = vol; page = first }) → home.page ≡ first → (o : Option (List ℕ)) → pages home ≡ o → IsHome pages anchor new.now.contents home
      by_page not here None absent = absent_home pages anchor new.now.contents home absent
      by_page not here (Some page) found =
          let same : home ≡ record { vol = vol; page = first } = λ i. record { vol = is.0 i; page = here i } in
          absurd (not (subst (IsToBring pages anchor tables of_tables) same (is.2, subst IsSome (sym found) refl)))

-- rows of pages that may be written are the rack's
pub row_on_rack : (sizes : List ℕ) (anchor : Anchor) (vol first end : ℕ) → HasMembers sizes anchor → first < end → AreBetween vol first end (IsLoggable anchor) → AreOnRack sizes vol first (end - first)
row_on_rack sizes anchor vol first end members some are =
    let is = are first (omega (arith, some)) some in
    let last = are (end - 1) (omega (arith, some)) (omega (arith, some)) in
    let m = members vol is.first_volume is.last_volume is.member.0 is.member.1 in
    let within = last.within in
    let pages = m.1 in
    let most = m.2 in
    record { low = is.first_volume; high = m.0; within = omega (arith, some, within, pages); limit = omega (arith, some, within, most) }
