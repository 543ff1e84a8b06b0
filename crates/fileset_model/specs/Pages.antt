-- The bytes of a file, by its pages.
use Rattle.std.specs.Prelude.{ℕ, suc, ◌+◌, ◌-◌, ◌*◌, ◌/◌, ◌%◌, ◌==◌, nat_lt, min, not, count_by, List, [], ◌∷◌, length, map, take, drop, slice_index, unwrap_or, if◌then◌else◌}
use Rattle.std.specs.Option.{option_map_or}
use Rattle.std.specs.List.{range_with_len}
use Rattle.std.specs.Ordering.{nat_cmp}
use Rattle.std.specs.FinMap.{FinMap, contains_key, get, insert, retain_keys}
use Rattle.fileset_values.specs.domain_base.Page.{zero_bytes, overwritten}
use Rattle.fileset_values.specs.domain_base.declared.limits.TheConstants.{PAGE_BYTES}

-- the pages that are there, by their numbers
abbrev pub Pages : Type 0
Pages = FinMap nat_cmp (List ℕ)

-- what is read at an offset: a byte of the page there, or 0 if there is no page
abbrev pub byte_at : Pages → ℕ → ℕ
byte_at pages x =
    option_map_or (λ page. slice_index page (x % PAGE_BYTES)) (get pages (x / PAGE_BYTES)) 0

-- what a read of `count` bytes at an offset gives of a file of that size
abbrev pub bytes_between : Pages → ℕ → ℕ → ℕ → List ℕ
bytes_between pages size offset count =
    map (byte_at pages) (range_with_len offset (min count (size - offset)))

-- the numbers of the pages in which `len` bytes from the offset on lie
abbrev pub pages_of : ℕ → ℕ → List ℕ
pages_of offset len =
    let first = offset / PAGE_BYTES in
    let last = (offset + len - 1) / PAGE_BYTES in
    if len == 0 then [] else range_with_len first (suc last - first)

-- how many of the pages in which `len` bytes from the offset on lie are absent
abbrev pub absent_pages : Pages → ℕ → ℕ → ℕ
absent_pages pages offset len = count_by (λ q. not (contains_key pages q)) (pages_of offset len)

-- page q after a write of the bytes at the offset: those of them that lie in it are laid over it,
-- or over zeros if it was absent
abbrev pub page_after : Pages → ℕ → List ℕ → ℕ → List ℕ
page_after pages offset bytes q =
    let at = offset - q * PAGE_BYTES in
    overwritten (unwrap_or (get pages q) (zero_bytes PAGE_BYTES)) at
    (take (PAGE_BYTES - at) (drop (q * PAGE_BYTES - offset) bytes))

-- the map with each of these pages in place of what it had at their numbers
abbrev pub with_pages : List (ℕ × List ℕ) → Pages → Pages
with_pages [] pages = pages
with_pages (e ∷ es) pages = with_pages es (insert pages e.0 e.1)

-- the pages after a write of the bytes at the offset
abbrev pub written : Pages → ℕ → List ℕ → Pages
written pages offset bytes =
    with_pages
    (map (λ q. (q, page_after pages offset bytes q)) (pages_of offset (length bytes))) pages

-- what is left of the pages of a file that is cut: none that begins after its end, and nothing but
-- zeros after its end in the last one
abbrev pub truncated : Pages → ℕ → Pages
truncated pages size =
    let kept = retain_keys pages (λ q. nat_lt (q * PAGE_BYTES) size) in
    let last = size / PAGE_BYTES in
    let at = size % PAGE_BYTES in
    option_map_or
    (λ page. insert kept last (overwritten page at (zero_bytes (PAGE_BYTES - at))))
    (get kept last) kept
