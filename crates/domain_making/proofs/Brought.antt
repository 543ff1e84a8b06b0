-- The pages of a new domain that were put to a store.
use Rattle.std.proofs.Common.{◌≡◌, ◌∙◌, ℕ, ◌+◌, ◌*◌, ◌<◌, ◌≤◌, cond, nat_eq, true, List, length, Some, IsSomeAnd, slice_index, sym, ap, subst, arith, ⊎_elim}
use Rattle.std.proofs.lemmas.Bool.{and_right, cases_lt, ne_eqb}
use Rattle.domain_layout.specs.domain_base.Version.{bitmap_pages, most_pages}
use Rattle.domain_layout.specs.domain_base.declared.version.Version.{Version}
use Rattle.domain_layout.specs.page_store.Pages.{Pages, with_page}
use Rattle.domain_layout.proofs.OfMetadataCells.Changed.{same_itself}
use Rattle.domain_layout.specs.free_space.Bits.{ShowsMap}
use Rattle.domain_layout.specs.free_space.VolumePages.{VolumePages}
use Rattle.domain_layout.specs.disk_label.FirstPages.{first_pages}
use Rattle.domain_layout.specs.Reached.{Frame}
use Rattle.domain_layout.specs.NewDomain.{IsNew, IsNewBitmap, IsNewCells, IsNewTablePage, on_first}
use Rattle.domain_making.specs.Making.{new_frame}
use Rattle.domain_making.specs.Pages.{AreNew, HasNewBitmaps, IsUsedTo}
use Rattle.domain_making.specs.declared.pages.NewPages.{NewPages}
use Rattle.domain_making.proofs.Empty.{new_anchor_is}
use Rattle.domain_making.proofs.NewBits.{bits_are, bits_length}

-- ---- one page more

pub there_now : (pages : Pages) (page : ℕ) (bytes : List ℕ) → with_page (on_first page) bytes pages (on_first page) ≡ Some bytes
there_now pages page bytes = ap (λ b. cond b (Some bytes) (pages (on_first page))) (same_itself (on_first page))

pub there_still : (pages : Pages) (page other : ℕ) (bytes : List ℕ) → ¬ other ≡ page → with_page (on_first page) bytes pages (on_first other) ≡ pages (on_first other)
there_still pages page other bytes apart = ap (λ b. cond b (Some bytes) (pages (on_first other))) (and_right true (nat_eq other page) (ne_eqb other page apart))

-- ---- the bitmap

pub new_bitmap_page : (version : Version) (pages number : ℕ) (map : VolumePages) (bits page : List ℕ) → 1 ≤ pages → pages ≤ most_pages version → IsUsedTo pages (first_pages version pages).table map
    → ShowsMap map bits → number < bitmap_pages version pages → ((k : ℕ) → k < 8192 → slice_index page k ≡ slice_index bits (8192 * number + k)) → IsNewBitmap (new_frame version pages) number page
new_bitmap_page version pages number map bits page some most used shows within part =
    let size = bits_length version pages (first_pages version pages).table map bits used shows some most in
    record { bits = bits_are bits page number part pages (first_pages version pages).table map used shows (omega (arith, size, within)) }

pub bits_within : (version : Version) (pages number : ℕ) (map : VolumePages) (bits : List ℕ) → 1 ≤ pages → pages ≤ most_pages version → IsUsedTo pages (first_pages version pages).table map
    → ShowsMap map bits → number < bitmap_pages version pages → 8192 * (number + 1) ≤ length bits
bits_within version pages number map bits some most used shows within =
    let size = bits_length version pages (first_pages version pages).table map bits used shows some most in omega (arith, size, within)

pub bitmaps_next : (frame : Frame) (pages : Pages) (count : ℕ) (bytes : List ℕ) → HasNewBitmaps pages frame count → IsNewBitmap frame count bytes → HasNewBitmaps (with_page (on_first (2 + count)) bytes pages) frame (count + 1)
bitmaps_next frame pages count bytes have is number within =
    ⊎_elim (λ less. subst (λ o. IsSomeAnd o (IsNewBitmap frame number)) (sym (there_still pages (2 + count) (2 + number) bytes (λ same. omega (arith, same, less)))) (have number less))
    (λ end. last (omega (arith, end, within)))
    (cases_lt number count)
  where
    last : number ≡ count → IsSomeAnd (with_page (on_first (2 + count)) bytes pages (on_first (2 + number))) (IsNewBitmap frame number)
    last same =
        subst (λ n. IsSomeAnd (with_page (on_first (2 + count)) bytes pages (on_first (2 + n))) (IsNewBitmap frame n)) (sym same)
        (subst (λ o. IsSomeAnd o (IsNewBitmap frame count)) (sym (there_now pages (2 + count) bytes)) is)

-- ---- all of them

pub all_new : (version : Version) (pages : ℕ) → (first_pages version pages).table < pages → pages ≤ most_pages version → (new : NewPages) → AreNew version pages new
    → (bitmaps : Pages) → HasNewBitmaps bitmaps (new_frame version pages) (bitmap_pages version pages)
    → IsNew (with_page (on_first (first_pages version pages).table) new.table (with_page (on_first (first_pages version pages).cells) new.cells bitmaps)) (new_frame version pages)
all_new version pages room most new are bitmaps have =
    let cells = (first_pages version pages).cells in
    let table = (first_pages version pages).table in
    let some = with_page (on_first cells) new.cells bitmaps in
    record {
      anchor = new_anchor_is version pages room most;
      cells = subst (λ o. IsSomeAnd o (IsNewCells (new_frame version pages))) (sym (there_still some table cells new.table (λ same. omega (arith, same)) ∙ there_now bitmaps cells new.cells)) are.cells;
      bitmap = λ number within.
          subst (λ o. IsSomeAnd o (IsNewBitmap (new_frame version pages) number))
          (sym (there_still some table (2 + number) new.table (λ same. omega (arith, same, within)) ∙ there_still bitmaps cells (2 + number) new.cells (λ same. omega (arith, same, within))))
          (have number within);
      table = subst (λ o. IsSomeAnd o IsNewTablePage) (sym (there_now some table new.table)) are.table;
    }
