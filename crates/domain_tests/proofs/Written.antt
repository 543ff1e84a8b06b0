-- Volumes that are written down page by page: which bytes stand where.
use Rattle.std.proofs.Common.{◌≡◌, ◌∙◌, ℕ, zero, suc, ◌+◌, ◌*◌, ◌/◌, ◌%◌, ◌<◌, ◌≤◌, List, ◌∷◌, ◌++◌, length, drop, take, slice_index, refl, sym, ap, arith, length-append}
use Rattle.std.proofs.lemmas.List.{length-replicate, take_all}
use Rattle.std.proofs.Math.Seq.{drop-cons}
use Rattle.domain_making.specs.domain_base.Gate.{opened}
use Rattle.domain_making.specs.domain_base.Page.{length-zero_bytes, zero_bytes}
use Rattle.domain_making.specs.domain_base.declared.version.Version.{Version}
use Rattle.domain_making.specs.volume_disk.Image.{bytes_at, bytes_from, page_at}
use Rattle.domain_tests.specs.Written.{anchor_front, anchors_page, image_with, label_front, label_page}

-- bytes of a volume from a place of a page on
pub part_of_page : (volume : ℕ → ℕ) (page : List ℕ) (begin a n : ℕ) → ((k : ℕ) → k < length page → volume (begin + k) ≡ slice_index page k) → a + n ≤ length page
    → bytes_from volume (begin + a) n ≡ take n (drop a page)
unfolding bytes_from
part_of_page volume page begin a zero there within = refl
part_of_page volume page begin a (suc n) there within =
    let next : begin + a + 1 ≡ begin + suc a = omega arith in
    let rest = part_of_page volume page begin (suc a) n there (omega (arith, within)) in
    let first = there a (omega (arith, within)) in
    let tail : bytes_from volume (begin + a + 1) n ≡ take n (drop (suc a) page) = ap (λ at. bytes_from volume at n) next ∙ rest in
    (λ i. first i ∷ tail i) ∙ ap (take (suc n)) (sym (drop-cons page a 0 (omega (arith, within))))

module _ (pages : ℕ → List ℕ) where
  byte_at : (number k : ℕ) → k < 8192 → image_with pages 1 (8192 * number + k) ≡ slice_index (pages number) k
  byte_at number k within =
      let page : (8192 * number + k) / 8192 ≡ number = omega (arith, within) in
      let place : (8192 * number + k) % 8192 ≡ k = omega (arith, within) in
      (λ i. slice_index (pages (page i)) (place i))

  pub part_is : (number a n : ℕ) → length (pages number) ≡ 8192 → a + n ≤ 8192
      → bytes_at (image_with pages) 1 (8192 * number + a) n ≡ take n (drop a (pages number))
  part_is number a n long within =
      part_of_page (image_with pages 1) (pages number) (8192 * number) a n (λ k less. byte_at number k (omega (arith, less, long))) (omega (arith, within, long))

  pub page_is : (number : ℕ) → length (pages number) ≡ 8192 → page_at (image_with pages) 1 number ≡ pages number
  page_is number long =
      let e : 8192 * number ≡ 8192 * number + 0 = omega arith in
      ap (λ at. bytes_at (image_with pages) 1 at 8192) e ∙ part_is number 0 8192 long (omega arith) ∙ take_all 8192 (pages number) (omega (arith, long))

module _ (version : Version) where
  pub length-label : length (label_page version) ≡ 8192
  length-label = length-append (label_front version) (zero_bytes 8168) ∙ ap (λ n. 24 + n) (length-zero_bytes 8168)

  pub length-anchors : length (anchors_page version) ≡ 8192
  unfolding opened
  length-anchors =
      length-append opened (anchor_front version ++ zero_bytes 7568)
      ∙ (λ i. length-replicate {A = ℕ} 512 0xa5 i + length-append (anchor_front version) (zero_bytes 7568) i)
      ∙ ap (λ n. 512 + (112 + n)) (length-zero_bytes 7568)
