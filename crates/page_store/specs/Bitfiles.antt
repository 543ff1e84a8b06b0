-- Files and directories by their tags, as the layers above storage see them.
use Rattle.std.specs.Prelude.{◌≡◌, ◌==◌, ◌&&◌, ◌+◌, ◌^◌, ◌<◌, ◌≤◌, ◌++◌, ℕ, Bool, List, [], ◌∷◌, Option, Some, None, IfSome, IsSomeAnd, All, length, take, drop, insert, slice_get, if◌then◌else◌}
use Rattle.std.specs.Option.{option_and_then, option_map, option_map_or}
use Rattle.sorted_sets.specs.domain_base.Counts.{HasRisen}
use Rattle.sorted_sets.specs.domain_base.Limits.{page_bytes, file_pages, max_links}
use Rattle.sorted_sets.specs.domain_base.Page.{overwritten, zero_bytes}
use Rattle.sorted_sets.specs.domain_base.declared.place.Kind.{Kind}
use Rattle.sorted_sets.specs.domain_base.declared.place.Kind.TheVariants.{File, Directory}
use Rattle.sorted_sets.specs.domain_base.declared.place.Tag.{Tag}
use Rattle.page_store.specs.declared.fault.StoreFault.{StoreFault}
use Rattle.page_store.specs.declared.fault.StoreFault.TheVariants.{NoPage, OutOfMemory}

-- a file or a directory: whose it is, how many rows name it, and a directory's pages and those of
-- its index, in order
pub record Bitfile : Type 0 where
  pub kind : Kind
  pub uid : ℕ
  pub gid : ℕ
  pub links : ℕ
  pub pages : List (List ℕ)
  pub index : List (List ℕ)

-- what each tag names, if it names anything
abbrev pub Bitfiles : Type 0
Bitfiles = Tag → Option Bitfile

-- two tags are one
abbrev pub same_tag : Tag → Tag → Bool
same_tag a b = (a.slot == b.slot) && (a.seq == b.seq)

-- the files with this file at the tag
abbrev pub with_file : Tag → Bitfile → Bitfiles → Bitfiles
with_file tag file files = λ t. if same_tag t tag then Some file else files t

-- the files with no file at the tag
abbrev pub without_file : Tag → Bitfiles → Bitfiles
without_file tag files = λ t. if same_tag t tag then None else files t

-- the files with the tag's file changed; if it names none, as they were
abbrev pub with_change : Tag → (Bitfile → Bitfile) → Bitfiles → Bitfiles
with_change tag change files =
    option_map_or (λ file. with_file tag (change file) files) (files tag) files

-- what a new tag names
abbrev pub new_file : Kind → ℕ → ℕ → Bitfile
new_file kind uid gid =
    record { kind = kind; uid = uid; gid = gid; links = 1; pages = []; index = [] }

-- the pages with this one at a number: in place of the one there, or after the last
abbrev pub with_entry : ℕ → List ℕ → List (List ℕ) → List (List ℕ)
with_entry at page pages = take at pages ++ page ∷ drop (at + 1) pages

-- a file after a change of its directory pages, of its index pages or of its number of links
abbrev pub put_page : ℕ → List ℕ → Bitfile → Bitfile
put_page at page file = record file { pages = with_entry at page file.pages }

-- a file with an index page in place of one, or after the last
abbrev pub put_index : ℕ → List ℕ → Bitfile → Bitfile
put_index at page file = record file { index = with_entry at page file.index }

-- a file with an index page put between others
abbrev pub insert_index : ℕ → List ℕ → Bitfile → Bitfile
insert_index at page file = record file { index = insert file.index at page }

-- a file with another number of links
abbrev pub linked : ℕ → Bitfile → Bitfile
linked links file = record file { links = links }

-- what a tag names: nothing has no kind, no link and no page
abbrev pub kind_at : Bitfiles → Tag → Option Kind
kind_at files tag = option_map (λ (file : Bitfile). file.kind) (files tag)

-- how many links the file of a tag has, 0 if the tag names nothing
abbrev pub links_at : Bitfiles → Tag → ℕ
links_at files tag = option_map_or (λ (file : Bitfile). file.links) (files tag) 0

-- how many pages it has as a directory
abbrev pub count_pages : Bitfiles → Tag → ℕ
count_pages files tag = option_map_or (λ (file : Bitfile). length file.pages) (files tag) 0

-- how many pages its index has
abbrev pub count_index : Bitfiles → Tag → ℕ
count_index files tag = option_map_or (λ (file : Bitfile). length file.index) (files tag) 0

-- its page with a number
abbrev pub page_at : Bitfiles → Tag → ℕ → Option (List ℕ)
page_at files tag page =
    option_and_then (λ (file : Bitfile). slice_get file.pages page) (files tag)

-- the page of its index with a number
abbrev pub index_at : Bitfiles → Tag → ℕ → Option (List ℕ)
index_at files tag page =
    option_and_then (λ (file : Bitfile). slice_get file.index page) (files tag)

-- an index page as a set shows it: without the home of the next one
abbrev pub shown_index : List ℕ → List ℕ
shown_index page = overwritten page 8 (zero_bytes 8)

-- a tag names a directory
abbrev pub IsDirectory : Bitfiles → Tag → Type 0
IsDirectory files tag = IsSomeAnd (files tag) (λ file. file.kind ≡ Directory)

-- each page has all its bytes
abbrev pub AreWholePages : List (List ℕ) → Type 0
AreWholePages pages = All (λ page. length page ≡ page_bytes) pages

-- a file or a directory within its limits; only a directory has pages
pub record IsBitfile (file : Bitfile) : Type 0 where
  pub pages : AreWholePages file.pages
  pub index : AreWholePages file.index
  pub named : 1 ≤ file.links
  pub links : file.links ≤ max_links
  pub fits : length file.pages ≤ file_pages
  pub index_fits : length file.index < 2 ^ 32
  pub no_pages : file.kind ≡ File → length file.pages ≡ 0
  pub no_index : file.kind ≡ File → length file.index ≡ 0

-- all files are within their limits
abbrev pub AreBitfiles : Bitfiles → Type 0
AreBitfiles files = (tag : Tag) → IfSome (files tag) IsBitfile

-- what a count of misses tells of a fault: it rose if no page was free
abbrev pub IsCounted : ℕ → ℕ → StoreFault → Type 0
IsCounted old new NoPage = HasRisen old new
IsCounted old new OutOfMemory = Unit {0}
