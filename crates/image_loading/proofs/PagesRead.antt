-- Pages of a rack that stand in a row, read by one call.
use Rattle.std.proofs.Common.{◌≡◌, ◌∙◌, ◌⊎◌, ⊎_elim, inl, inr, true, false, cond, Some, None, ◌∷◌, ℕ, zero, suc, ◌+◌, ◌-◌, ◌*◌, ◌^◌, ◌<◌, ◌≤◌, List, IsSome, length, get_or, slice_range, refl, sym, ap, subst, arith}
use Rattle.std.proofs.lemmas.Bool.{cases_Bool, cases_lt}
use Rattle.slot_files.specs.domain_base.declared.place.Home.{Home}
use Rattle.slot_files.specs.page_store.Pages.{Pages, same_home, with_page}
use Rattle.slot_files.proofs.OfMetadataCells.Changed.{homes_same}
use Rattle.image_loading.proofs.Brought.{none_there, on_rack}
use Rattle.slot_files.specs.volume_disk.Image.{Image, bytes_at, bytes_from, page_at}
use Rattle.slot_files.proofs.OfVolumeDisk.Bytes.{bytes_from-list, get_or-bytes_from, length-bytes_from}
use Rattle.slot_files.specs.volume_disk.Disk.{AreBlocks, Disk, volume_pages}
use Rattle.slot_files.specs.domain_base.Limits.{max_volume_pages_4}
use Rattle.slot_files.specs.log_ring.Homes.{HasMembers}
use Rattle.slot_files.specs.domain_layout.Reached.{Frame, IsWithin}
use Rattle.image_loading.specs.Rows.{AreThereFrom, ComesAlong, IsRow}

-- volumes that agree, one from a place on and the other from another
shifted : (one other : ℕ → ℕ) (at to n : ℕ) → ((k : ℕ) → k < n → one (at + k) ≡ other (to + k)) → bytes_from one at n ≡ bytes_from other to n
unfolding bytes_from
shifted one other at to zero same = refl
shifted one other at to (suc n) same =
    let here : one at ≡ other to = ap one (omega arith) ∙ same 0 (omega arith) ∙ ap other (omega arith) in
    let rest = shifted one other (at + 1) (to + 1) n (λ k lt. ap one (omega arith) ∙ same (k + 1) (omega arith) ∙ ap other (omega arith)) in
    λ i. here i ∷ rest i

-- a page of bytes as one of a volume
pub page_in_is : (image : Image) (vol page from to : ℕ) (found : List ℕ) → to ≡ from + 8192 → to ≤ length found → ((j : ℕ) → j < 8192 → get_or found (from + j) 0 ≡ image vol (8192 * page + j)) → slice_range found from to ≡ page_at image vol page
page_in_is image vol page from to found is fits same =
    let n : to - from ≡ 8192 = omega (arith, is) in
    bytes_from-list found from (to - from) (omega (arith, fits, is))
    ∙ shifted (λ j. get_or found j 0) (image vol) from (8192 * page) (to - from) (λ j lt. same j (omega (arith, lt, n)))
    ∙ ap (bytes_from (image vol) (8192 * page)) n

-- a page of what was read of several
pub read_in : (image : Image) (vol first count k from to : ℕ) (found : List ℕ) → found ≡ bytes_at image vol (512 * (16 * first)) (8192 * count) → k < count → from ≡ 8192 * k → to ≡ from + 8192 → slice_range found from to ≡ page_at image vol (first + k)
read_in image vol first count k from to found read less start is =
    let size : length found ≡ 8192 * count = ap (length {A = ℕ}) read ∙ length-bytes_from (image vol) (512 * (16 * first)) (8192 * count) in
    page_in_is image vol (first + k) from to found is (omega (arith, size, less, start, is))
    (λ j lt.
    ap (λ (l : List ℕ). get_or l (from + j) 0) read
    ∙ get_or-bytes_from (image vol) (512 * (16 * first)) (8192 * count) (from + j) 0 (omega (arith, lt, less, start))
    ∙ ap (image vol) (omega (arith, start)))

-- one page more in the row
pub one_there : (vol first number : ℕ) (old new : Pages) → ((home : Home) → IsSome (old home) → new home ≡ old home) → AreThereFrom vol first number old → IsSome (new (record { vol = vol; page = first + number })) → AreThereFrom vol first (number + 1) new
one_there vol first number old new kept there here k less =
    ⊎_elim (λ low. let some = there k low in subst IsSome (sym (kept (record { vol = vol; page = first + k }) some)) some)
    (λ high. let same : number ≡ k = omega (arith, less, high) in subst (λ j. IsSome (new (record { vol = vol; page = first + j }))) same here)
    (cases_lt k number)

-- a page that was put where none was leaves all others
pub kept_beside : (old new : Pages) (home other : Home) (page : List ℕ) → new ≡ with_page home page old → old home ≡ None → IsSome (old other) → new other ≡ old other
kept_beside old new home other page put none some = by_same (cases_Bool (same_home other home))
  where
    by_same : (same_home other home ≡ true) ⊎ (same_home other home ≡ false) → new other ≡ old other
    by_same (inl same) = absurd (none_there (old other) (ap old (homes_same other home same) ∙ none) some)
    by_same (inr apart) = ap (λ (p : Pages). p other) put ∙ ap (λ b. cond b (Some page) (old other)) apart

-- ---- the pages that come along with one

-- the last page of a row is a member's, as the first one is
last_within : (pages : Pages) (frame : Frame) (home : Home) (count : ℕ) → IsWithin frame home → IsRow pages frame home (suc count) → IsWithin frame (record { vol = home.vol; page = home.page + count })
last_within pages frame home zero within row = subst (λ p. IsWithin frame (record { vol = home.vol; page = p })) (omega arith) within
last_within pages frame home (suc n) within row = (row.behind (suc n) (omega arith) (omega arith)).may.0

-- so they are blocks of its volume, and their numbers are low
pub row_limit : (sizes : List ℕ) (pages : Pages) (frame : Frame) (home : Home) (count : ℕ) → HasMembers sizes frame.anchor → IsWithin frame home → IsRow pages frame home count → (home.page + count ≤ max_volume_pages_4) × (home.page + count ≤ volume_pages sizes home.vol)
row_limit sizes pages frame home zero members within row = absurd (let some = row.some in omega (arith, some))
row_limit sizes pages frame home (suc n) members within row =
    let last = on_rack sizes frame (record { vol = home.vol; page = home.page + n }) members (last_within pages frame home n within row) in
    (let low = last.limit in omega (arith, low), let low = last.within in omega (arith, low))

pub row_blocks : (disk : Disk) (pages : Pages) (frame : Frame) (home : Home) (count : ℕ) → HasMembers disk.sizes frame.anchor → IsWithin frame home → IsRow pages frame home count → AreBlocks disk home.vol (16 * home.page) (8192 * count)
row_blocks disk pages frame home count members within row =
    let on = on_rack disk.sizes frame home members within in
    let limit = row_limit disk.sizes pages frame home count members within row in
    record {
      in_rack = (on.first, on.last);
      whole = omega arith;
      some = let some = row.some in omega (arith, some);
      within = let most = limit.1 in omega (arith, most);
    }

pub row_low : (sizes : List ℕ) (pages : Pages) (frame : Frame) (home : Home) (count : ℕ) → HasMembers sizes frame.anchor → IsWithin frame home → IsRow pages frame home count → home.page + count < 2 ^ 28
row_low sizes pages frame home count members within row = let low = (row_limit sizes pages frame home count members within row).0 in omega (arith, low)

-- and the first one is there with all of them
pub first_there : (home : Home) (count : ℕ) (pages : Pages) → 1 ≤ count → AreThereFrom home.vol home.page count pages → IsSome (pages home)
first_there home count pages some there = subst (λ p. IsSome (pages (record { vol = home.vol; page = p }))) (omega arith) (there 0 (omega (arith, some)))

-- ---- how many come along

-- so far each page behind the first one comes along
abbrev pub ComeSoFar : ℕ → Pages → Frame → Home → Type 0
ComeSoFar count pages frame home = (number : ℕ) → 1 ≤ number → number < count → ComesAlong pages frame (record { vol = home.vol; page = home.page + number })

-- none is behind the first one yet
pub none_so_far : (pages : Pages) (frame : Frame) (home : Home) → ComeSoFar 1 pages frame home
none_so_far pages frame home number first less = absurd (omega (arith, first, less))

-- one more does
pub one_so_far : (count : ℕ) (pages : Pages) (frame : Frame) (home : Home) → ComeSoFar count pages frame home → ComesAlong pages frame (record { vol = home.vol; page = home.page + count }) → ComeSoFar (count + 1) pages frame home
one_so_far count pages frame home before here number first less =
    ⊎_elim (λ low. before number first low)
    (λ high. let same : count ≡ number = omega (arith, less, high) in subst (λ k. ComesAlong pages frame (record { vol = home.vol; page = home.page + k })) same here)
    (cases_lt number count)
