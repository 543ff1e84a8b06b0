-- Pages put among those of a directory.
use Rattle.std.specs.Prelude.{◌<◌, ◌≤◌, ℕ, List, length}
use Rattle.sorted_sets.specs.domain_base.Limits.{file_pages}
use Rattle.page_store.specs.Bitfiles.{Bitfile, insert_index, put_index, put_page}
use Rattle.page_store.specs.declared.paged_file.PageChange.{PageChange}
use Rattle.page_store.specs.declared.paged_file.PageChange.TheVariants.{PutPage, PutIndexPage, InsertIndexPage}

-- a file with the page put at that number
abbrev pub changed : PageChange → ℕ → List ℕ → Bitfile → Bitfile
changed PutPage = put_page
changed PutIndexPage = put_index
changed InsertIndexPage = insert_index

-- a page of the file has that number, or the next one would
abbrev pub HasPlaceFor : PageChange → ℕ → Bitfile → Type 0
HasPlaceFor PutPage page file = (page ≤ length file.pages) × (page < file_pages)
HasPlaceFor PutIndexPage page file = page ≤ length file.index
HasPlaceFor InsertIndexPage page file = page ≤ length file.index
