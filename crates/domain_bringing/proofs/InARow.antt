-- Pages that stand in a row, written by one call.
use Rattle.std.proofs.Common.{◌≡◌, ◌∙◌, ◌⊎◌, ⊎_elim, ℕ, ◌+◌, ◌-◌, ◌*◌, ◌<◌, ◌≤◌, List, length, drop, get_or, slice_range, sym, ap, arith}
use Rattle.std.proofs.lemmas.List.{get_or-drop, get_or-take, length-drop, length-take-le}
use Rattle.domain_faults.specs.page_store.Pages.{Pages}
use Rattle.domain_faults.specs.volume_disk.Image.{HasBytes, Image, IsIn, SameOutside, page_at}
use Rattle.domain_faults.proofs.OfVolumeDisk.Bytes.{bytes_from-same}
use Rattle.image_loading.proofs.PagesRead.{page_in_is}

-- a page of bytes that were written, of several
pub written_in : (image : Image) (vol first at end k from to lo hi : ℕ) (found bytes : List ℕ) → bytes ≡ slice_range found lo hi → lo ≡ at * 8192 → hi ≡ end * 8192 → hi ≤ length found → HasBytes vol (512 * (16 * (first + at))) bytes image → at ≤ k → k < end → from ≡ 8192 * k → to ≡ from + 8192
    → slice_range found from to ≡ page_at image vol (first + k)
written_in image vol first at end k from to lo hi found bytes is is_lo is_hi fits has low high start stop =
    page_in_is image vol (first + k) from to found stop (omega (arith, fits, is_hi, high, start, stop))
    (λ j lt.
    let d : ℕ = from + j - lo in
    let back : lo + d ≡ from + j = omega (arith, low, start, is_lo) in
    let within : d < hi - lo = omega (arith, low, high, start, is_lo, is_hi, lt) in
    let size : length bytes ≡ hi - lo = ap (length {A = ℕ}) is ∙ length-take-le (hi - lo) (drop lo found) (let dropped = length-drop lo found in omega (arith, within, fits, dropped)) in
    let at_d : image vol (512 * (16 * (first + at)) + d) ≡ get_or bytes d 0 = has d (omega (arith, within, size)) in
    ap (λ p. get_or found p 0) (sym back)
    ∙ sym (get_or-drop lo found d 0)
    ∙ sym (get_or-take (hi - lo) (drop lo found) d 0 within)
    ∙ ap (λ (l : List ℕ). get_or l d 0) (sym is)
    ∙ sym at_d
    ∙ ap (image vol) (omega (arith, low, start, is_lo)))

-- a page in front of what was written, or behind
pub page_outside : (old new : Image) (vol at n page : ℕ) → SameOutside (IsIn vol at n) old new → (8192 * page + 8192 ≤ at ⊎ at + n ≤ 8192 * page) → page_at new vol page ≡ page_at old vol page
page_outside old new vol at n page same apart =
    bytes_from-same (new vol) (old vol) (8192 * page) 8192
    (λ k le lt. same vol k (λ here.
    let low = here.1 in
    let high = here.2 in
    ⊎_elim (λ before. absurd (omega (arith, before, low, lt))) (λ behind. absurd (omega (arith, behind, high, le))) apart))
