-- The pages of the empty domain have a page's bytes.
use Rattle.std.proofs.Common.{◌≡◌, ◌∙◌, ℕ, ◌+◌, ◌∷◌, ◌++◌, length, ap, arith, length-append}
use Rattle.domain_making.specs.domain_base.Page.{length-zero_bytes, zero_bytes}
use Rattle.domain_tests.specs.EmptyDomain.{cells_front, cells_page, table_front, table_page}
use Rattle.domain_tests.specs.Written.{bitmap_with, full_bytes}
use Rattle.domain_tests.proofs.Bitmap.{length-full}

pub length-cells : length cells_page ≡ 8192
length-cells = length-append cells_front (zero_bytes 8140) ∙ ap (λ n. 52 + n) (length-zero_bytes 8140)

pub length-table : length table_page ≡ 8192
length-table = length-append table_front (zero_bytes 8176) ∙ ap (λ n. 16 + n) (length-zero_bytes 8176)

pub length-bitmap : (part : ℕ) → length (bitmap_with part) ≡ 8192
length-bitmap part =
    length-append (full_bytes 16) (part ∷ (zero_bytes 47 ++ full_bytes 8128))
    ∙ omega (arith, length-full 16, length-append (zero_bytes 47) (full_bytes 8128), length-zero_bytes 47, length-full 8128)
