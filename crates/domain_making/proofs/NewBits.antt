-- The bitmap of a new domain.
use Rattle.std.proofs.Common.{◌≡◌, ◌∙◌, ◌↔◌, ◌⊎◌, ◌||◌, inl, inr, ℕ, ◌+◌, ◌*◌, ◌/◌, ◌%◌, ◌<◌, ◌≤◌, ◌==◌, true, List, length, slice_index, nat_eq, nat_le, nat_lt, refl, sym, ap, arith}
use Rattle.std.proofs.lemmas.Bool.Decides.{nat_tests}
use Rattle.std.proofs.lemmas.Bool.{le-ltb}
use Rattle.std.specs.FinSet.{FinSet, contains, contains-empty, empty, insert}
use Rattle.std.specs.Int.{bit_at}
use Rattle.std.specs.Ordering.{nat_cmp}
use Rattle.domain_layout.specs.domain_base.Version.{bitmap_pages, most_pages}
use Rattle.domain_layout.specs.domain_base.declared.version.Version.{Version}
use Rattle.domain_layout.specs.domain_base.declared.version.Version.TheVariants.{Three, Four}
use Rattle.domain_layout.specs.free_space.Bits.{ShowsMap, is_set}
use Rattle.domain_layout.specs.free_space.VolumePages.{VolumePages}
use Rattle.domain_layout.proofs.OfFreeSpace.Used.{contains-inserted}
use Rattle.domain_making.specs.Pages.{IsUsedTo}

-- ---- the pages that are used

one_more : (n p : ℕ) → (nat_eq p n || nat_lt p n) ≡ nat_lt p (n + 1)
one_more n p = grind (arith, nat_tests)

-- of the pages below n all are used, and one more then
pub used_more : (used : FinSet nat_cmp) (n : ℕ) → ((p : ℕ) → contains used p ≡ nat_lt p n) → (p : ℕ) → contains (insert used n) p ≡ nat_lt p (n + 1)
used_more used n so_far p = contains-inserted used n p ∙ ap (λ b. nat_eq p n || b) (so_far p) ∙ one_more n p

pub used_none : (p : ℕ) → contains (empty {R = nat_cmp}) p ≡ nat_lt p 0
used_none p = contains-empty nat_cmp p ∙ sym (le-ltb p 0 (omega arith))

pub up_to : (last p : ℕ) → nat_lt p (last + 1) ≡ nat_le p last
up_to last p = grind (arith, nat_tests)

-- ---- how many pages the bitmap has

pub bitmap_count : (version : Version) (pages : ℕ) → 1 ≤ pages → pages ≤ most_pages version → bitmap_pages Four pages ≡ bitmap_pages version pages
bitmap_count Three pages some most = omega (arith, some, most)
bitmap_count Four pages some most = refl

pub bits_length : (version : Version) (pages last : ℕ) (map : VolumePages) (bits : List ℕ) → IsUsedTo pages last map → ShowsMap map bits → 1 ≤ pages → pages ≤ most_pages version → length bits ≡ 8192 * bitmap_pages version pages
bits_length version pages last map bits used shows some most =
    shows.len ∙ ap (λ m. 8192 * bitmap_pages Four m) used.count ∙ ap (λ n. 8192 * n) (bitmap_count version pages some most)

-- ---- its bits, page by page

either_is : (pages last p : ℕ) → (nat_le pages p || nat_le p last) ≡ true → (p ≤ last) ⊎ (pages ≤ p)
either_is pages last p is = grind (arith, nat_tests)

is_either : (pages last p : ℕ) → (p ≤ last) ⊎ (pages ≤ p) → (nat_le pages p || nat_le p last) ≡ true
is_either pages last p (inl low) = grind (arith, nat_tests)
is_either pages last p (inr high) = grind (arith, nat_tests)

module _ (bits page : List ℕ) (number : ℕ) (part : (k : ℕ) → k < 8192 → slice_index page k ≡ slice_index bits (8192 * number + k)) where
  same_bit : (bit : ℕ) → bit < 65536 → is_set page bit ≡ is_set bits (65536 * number + bit)
  unfolding is_set
  same_bit bit within =
      let at : 8192 * number + bit / 8 ≡ (65536 * number + bit) / 8 = omega arith in
      let byte : slice_index page (bit / 8) ≡ slice_index bits ((65536 * number + bit) / 8) = part (bit / 8) (omega (arith, within)) ∙ ap (slice_index bits) at in
      let place : bit % 8 ≡ (65536 * number + bit) % 8 = omega arith in
      λ i. bit_at (byte i) (place i) == 1

  module _ (pages last : ℕ) (map : VolumePages) (used : IsUsedTo pages last map) (shows : ShowsMap map bits) (inside : 65536 * number + 65536 ≤ 8 * length bits) where
    said : (bit : ℕ) → bit < 65536 → is_set page bit ≡ (nat_le pages (65536 * number + bit) || nat_le (65536 * number + bit) last)
    said bit within =
        same_bit bit within ∙ shows.bits (65536 * number + bit) (omega (arith, within, inside))
        ∙ (λ i. nat_le (used.count i) (65536 * number + bit) || used.used (65536 * number + bit) i)

    pub bits_are : (bit : ℕ) → bit < 65536 → (is_set page bit ≡ true) ↔ ((65536 * number + bit ≤ last) ⊎ (pages ≤ 65536 * number + bit))
    bits_are bit within = (
      λ set. either_is pages last (65536 * number + bit) (sym (said bit within) ∙ set),
      λ either. said bit within ∙ is_either pages last (65536 * number + bit) either,
    )
