-- Tag pages: 16 bytes, and 1,022 entries of 8 bytes.
use Rattle.std.specs.Prelude.{◌≡◌, ◌==◌, ◌&&◌, ◌+◌, ◌*◌, ◌<◌, ◌≤◌, ℕ, Bool, not, List, Option, Some, None, IfSome, is_some, length, nat_lt, if◌then◌else◌}
use Rattle.metadata_cells.specs.domain_base.Page.{overwritten}
use Rattle.metadata_cells.specs.domain_base.declared.place.CellAt.{CellAt}
use Rattle.metadata_cells.specs.domain_base.declared.place.Home.{Home}
use Rattle.metadata_cells.specs.cell_records.Fields.{number_at}
use Rattle.metadata_cells.specs.Cell.{IsAddress}
use Rattle.tag_dirs.specs.declared.page.TagEntry.{TagEntry}

-- the cell of an entry, if it is used: if it has a volume
abbrev pub cell_in : List ℕ → ℕ → Option CellAt
cell_in page e =
    if number_at 1 (18 + 8 * e) page == 0 then None
    else Some (record {
      vol = number_at 1 (18 + 8 * e) page;
      page = number_at 4 (20 + 8 * e) page;
      cell = number_at 1 (19 + 8 * e) page;
    })

-- an entry: its last sequence, and the cell
abbrev pub entry_of : List ℕ → ℕ → TagEntry
entry_of page e = record { seq = number_at 2 (16 + 8 * e) page; at = cell_in page e }

-- the page's index in its directory
abbrev pub index_of : List ℕ → ℕ
index_of page = number_at 4 4 page

-- the home of the page that is next in the directory; volume 0 is none
abbrev pub next_of : List ℕ → Option Home
next_of page =
    if number_at 4 8 page == 0 then None
    else Some (record { vol = number_at 4 8 page; page = number_at 4 12 page })

-- the slot of a page's entry
abbrev pub slot_of : List ℕ → ℕ → ℕ
slot_of page e = 1022 * index_of page + e

-- what may stand in a slot's entry: a used one has a cell below 28, and a sequence of at least 1,
-- and slot 0 is never used
abbrev pub IsAllowed : ℕ → TagEntry → Type 0
IsAllowed slot entry = IfSome entry.at (λ at. (at.cell < 28) × (1 ≤ entry.seq) × (¬ slot ≡ 0))

-- the bytes of an entry spell it: an address if it is used, else zeros
abbrev pub IsSpelled : List ℕ → ℕ → Type 0
IsSpelled page e =
    IsAddress (number_at 1 (18 + 8 * e) page) (number_at 1 (19 + 8 * e) page)
    (number_at 4 (20 + 8 * e) page) (cell_in page e)

-- a well-formed page: `TAGP`, an index, a next page on a volume that there may be, and entries
pub record IsTagPage (page : List ℕ) : Type 0 where
  pub whole : length page ≡ 8192
  pub magic : number_at 4 0 page ≡ 0x50474154
  pub index : index_of page < 4202512
  pub next : number_at 4 8 page ≤ 8
  pub spelled : (e : ℕ) → e < 1022 → IsSpelled page e
  pub entries : (e : ℕ) → e < 1022 → IsAllowed (slot_of page e) (entry_of page e)

-- an entry that may be taken: it is free, and its sequence can rise
abbrev pub is_takeable : TagEntry → Bool
is_takeable entry = nat_lt entry.seq 65535 && not (is_some entry.at)

-- a well-formed page with this index
pub record HasIndex (index : ℕ) (page : List ℕ) : Type 0 where
  pub good : IsTagPage page
  pub indexed : index_of page ≡ index

-- one entry of a page was changed: every other entry stays, and so do the index and next page
pub record ChangesEntry (place : ℕ) (entry : TagEntry) (old new : List ℕ) : Type 0 where
  pub there : entry_of new place ≡ entry
  pub others : (e : ℕ) → ¬ e ≡ place → entry_of new e ≡ entry_of old e
  pub index : index_of new ≡ index_of old
  pub next : next_of new ≡ next_of old
  pub good : IsTagPage new

-- a page that leads to another next page, and is else as it was
pub record LinksPage (home : Home) (old new : List ℕ) : Type 0 where
  pub next : next_of new ≡ Some home
  pub index : index_of new ≡ index_of old
  pub entries : (e : ℕ) → entry_of new e ≡ entry_of old e
  pub good : IsTagPage new

-- a page that leads to no next one, and is else as it was
pub record EndsPage (old new : List ℕ) : Type 0 where
  pub next : next_of new ≡ None
  pub index : index_of new ≡ index_of old
  pub entries : (e : ℕ) → entry_of new e ≡ entry_of old e
  pub good : IsTagPage old → IsTagPage new

-- a page of all its bytes that leads to this next one
pub record IsInFront (next : Home) (page : List ℕ) : Type 0 where
  pub whole : length page ≡ 8192
  pub leads : next_of page ≡ Some next

-- a well-formed page with this index, no next page, and no entry that was ever used
pub record IsNewPage (index : ℕ) (page : List ℕ) : Type 0 where
  pub good : IsTagPage page
  pub indexed : index_of page ≡ index
  pub last : next_of page ≡ None
  pub fresh : (e : ℕ) → e < 1022 → entry_of page e ≡ record { seq = 0; at = None }

-- eight bytes which, written in place of an entry, make it this one
abbrev pub SpellsEntry : TagEntry → List ℕ → Type 0
SpellsEntry entry bytes =
    (page : List ℕ) (place : ℕ) → place < 1022 → IsTagPage page
    → IsAllowed (slot_of page place) entry
    → ChangesEntry place entry page (overwritten page (16 + 8 * place) bytes)

-- eight bytes which, written in place of the next page's home, make it this one
abbrev pub SpellsNext : Home → List ℕ → Type 0
SpellsNext home bytes =
    (page : List ℕ) → IsTagPage page → LinksPage home page (overwritten page 8 bytes)
