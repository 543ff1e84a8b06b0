-- The one spelling of each record, and which records the format allows.
use Rattle.std.specs.Prelude.{◌≡◌, ℕ, ◌+◌, ◌*◌, ◌<◌, ◌≤◌, ◌^◌, ◌⊎◌, List, [], ◌∷◌, ◌++◌, length, drop, sum}
use Rattle.std.specs.List.{flat_map, AllByRecursion}
use Rattle.byteorder.specs.Endian.{little_bytes}
use Rattle.cell_records.specs.declared.record.Record.{Record}
use Rattle.cell_records.specs.declared.record.Record.TheVariants.{Attributes, CloneFile, Extents, ShortExtents, Holes, Pending, UserQuota, GroupQuota, DirIndex, Parent, Stripe, Volume, DenseExtents, ShortDense}
use Rattle.cell_records.specs.declared.record.ExtentField.{ExtentField}
use Rattle.cell_records.specs.declared.record.HoleField.{HoleField}
use Rattle.cell_records.specs.declared.record.Leftover.{Leftover}
use Rattle.cell_records.specs.declared.record.Leftover.TheVariants.{Trim, Remove}
use Rattle.cell_records.specs.Layouts.{widths, size_of, with_head, repeated}
use Rattle.domain_base.specs.declared.version.Version.{Version}
use Rattle.domain_base.specs.declared.version.Version.TheVariants.{Three, Four}

-- the number of a record's kind on disk
abbrev pub kind_of : Record → ℕ
kind_of (Attributes kind uid gid flags size keep links birth unsynced) = 1
kind_of (CloneFile vol cell page frozen) = 2
kind_of (Extents rows) = 3
kind_of (ShortExtents rows) = 4
kind_of (Holes rows) = 5
kind_of (Pending what) = 6
kind_of (UserQuota id files blocks) = 7
kind_of (GroupQuota id files blocks) = 8
kind_of (DirIndex vol page entries) = 9
kind_of (Parent slot seq) = 10
kind_of (Stripe width mark vols) = 11
kind_of (Volume vol pages bitmap_pages) = 12
kind_of (DenseExtents rows) = 13
kind_of (ShortDense rows) = 14

-- the kinds up to this one are records in a version: dense extents are none in version 3
abbrev pub last_kind : Version → ℕ
last_kind Three = 12
last_kind Four = 14

abbrev pub extent_numbers : ExtentField → List ℕ
extent_numbers e = e.page ∷ e.count ∷ e.vol ∷ e.first ∷ []

abbrev pub dense_numbers : ExtentField → List ℕ
dense_numbers e = e.page ∷ e.count ∷ e.vol ∷ 0 ∷ 0 ∷ e.first ∷ []

abbrev pub hole_numbers : HoleField → List ℕ
hole_numbers h = h.page ∷ h.count ∷ []

-- the number that stands for what is left
abbrev pub leftover_number : Leftover → ℕ
leftover_number Trim = 1
leftover_number Remove = 2

-- the numbers in a record's fields after its head, with the zeros that the format wants
abbrev pub fields : Record → List ℕ
fields (Attributes kind uid gid flags size keep links birth unsynced) = kind ∷ uid ∷ gid ∷ flags
    ∷ size ∷ keep ∷ links ∷ birth ∷ unsynced ∷ []
fields (CloneFile vol cell page frozen) = 0 ∷ vol ∷ cell ∷ page ∷ frozen ∷ 0 ∷ []
fields (Extents rows) = flat_map extent_numbers rows
fields (ShortExtents rows) = flat_map extent_numbers rows
fields (Holes rows) = flat_map hole_numbers rows
fields (Pending what) = leftover_number what ∷ 0 ∷ []
fields (UserQuota id files blocks) = id ∷ 0 ∷ files ∷ blocks ∷ []
fields (GroupQuota id files blocks) = id ∷ 0 ∷ files ∷ blocks ∷ []
fields (DirIndex vol page entries) = vol ∷ page ∷ entries ∷ 0 ∷ []
fields (Parent slot seq) = slot ∷ seq ∷ 0 ∷ []
fields (Stripe width mark vols) = width ∷ mark ∷ 0 ∷ vols
fields (Volume vol pages bitmap_pages) = vol ∷ pages ∷ bitmap_pages ∷ []
fields (DenseExtents rows) = flat_map dense_numbers rows
fields (ShortDense rows) = flat_map dense_numbers rows

-- the numbers in all fields: the head's are the kind, a zero and the length, the head's four bytes
-- counted
abbrev pub numbers : Record → List ℕ
numbers r = kind_of r ∷ 0 ∷ size_of (kind_of r) ∷ fields r

-- numbers one after the other, each in its width of bytes, the lowest byte first
unfoldable pub spelled : List ℕ → List ℕ → List ℕ
spelled [] ns = []
spelled (w ∷ ws) [] = []
spelled (w ∷ ws) (n ∷ ns) = little_bytes w n ++ spelled ws ns

-- the one spelling of a record
unfoldable pub spelling : Record → List ℕ
spelling r = spelled (widths (kind_of r)) (numbers r)

-- an extent whose numbers fit the fields of a dense one
pub record IsShort (e : ExtentField) : Type 0 where
  pub page : e.page < 2 ^ 16
  pub count : e.count < 2 ^ 16
  pub volume : e.vol < 2 ^ 8

-- a call that wrote these numbers in these widths to the front of the bytes, and answered how many
-- bytes they took
pub record PutsNumbers (ws ns : List ℕ) (old new : List ℕ) (taken : ℕ) : Type 0 where
  pub size : taken ≡ sum ws
  pub written : new ≡ spelled ws ns ++ drop (sum ws) old

-- a call that wrote all numbers of a record so
abbrev pub Puts : Record → List ℕ → List ℕ → ℕ → Type 0
Puts r = PutsNumbers (widths (kind_of r)) (numbers r)

-- a call that wrote the numbers of a record of rows so, each row in these widths
abbrev pub PutsRows : {X : Type 0} → List ℕ → (X → List ℕ) → ℕ → List X → List ℕ → List ℕ → ℕ
    → Type 0
PutsRows ws row kind rows =
    PutsNumbers (with_head (repeated (length rows) ws))
    (kind ∷ 0 ∷ (4 + sum ws * length rows) ∷ flat_map row rows)

-- Consecutive file pages that begin at file page `from` or later, and end at or before the last
-- one.
pub record IsRun (from page count : ℕ) : Type 0 where
  pub begins : from ≤ page
  pub some : 1 ≤ count
  pub ends : page + count ≤ 65536

-- an extent of such pages, on a volume of any number that the field holds
pub record IsExtent (from : ℕ) (e : ExtentField) : Type 0 where
  pub run : IsRun from e.page e.count
  pub volume : e.vol < 2 ^ 32
  pub first : e.first < 2 ^ 32

pub record NoExtent (e : ExtentField) : Type 0 where
  pub page : e.page ≡ 0
  pub count : e.count ≡ 0
  pub volume : e.vol ≡ 0
  pub first : e.first ≡ 0

pub record NoHole (h : HoleField) : Type 0 where
  pub page : h.page ≡ 0
  pub count : h.count ≡ 0

-- Extents of file pages from `from` on. Each comes after the end of the one before it, and zeros
-- follow the last.
abbrev pub AreExtents : ℕ → List ExtentField → Type 0
AreExtents from [] = Unit {0}
AreExtents from (e ∷ es) = (IsExtent from e × AreExtents (e.page + e.count) es)
    ⊎ AllByRecursion NoExtent (e ∷ es)

-- extents of file pages from 0 on, each with a number of pages of two bytes and a volume of one
abbrev pub AreDense : List ExtentField → Type 0
AreDense es = AreExtents 0 es
    × AllByRecursion (λ e. (e.count < 2 ^ 16) × (e.vol < 2 ^ 8)) es

-- holes likewise
abbrev pub AreHoles : ℕ → List HoleField → Type 0
AreHoles from [] = Unit {0}
AreHoles from (h ∷ hs) = (IsRun from h.page h.count × AreHoles (h.page + h.count) hs)
    ⊎ AllByRecursion NoHole (h ∷ hs)

-- A cell's address is a volume from 1 to 8, one of the cells 0 to 27 and a page. All zeros stand
-- for no cell.
abbrev pub IsCell : ℕ → ℕ → ℕ → Type 0
IsCell vol cell page = ((vol ≡ 0) × (cell ≡ 0) × (page ≡ 0))
    ⊎ (((1 ≤ vol) × (vol ≤ 8)) × (cell ≤ 27) × (page < 2 ^ 32))

-- The records that the format allows. If it says nothing about a field, the field has any number
-- that its width holds.
unfoldable pub Allowed : Record → Type 0
Allowed (Attributes kind uid gid flags size keep links birth unsynced) =
    ((1 ≤ kind) × (kind ≤ 2)) × (uid < 2 ^ 32) × (gid < 2 ^ 32) × (flags ≤ 1) × (size < 2 ^ 64)
    × (keep < 2 ^ 32)
    × ((1 ≤ links) × (links ≤ 1000)) × (birth < 2 ^ 64) × (unsynced < 2 ^ 64)
Allowed (CloneFile vol cell page frozen) = IsCell vol cell page × (frozen < 2 ^ 32)
Allowed (Extents rows) = (length rows ≡ 16) × AreExtents 0 rows
Allowed (ShortExtents rows) = (length rows ≡ 4) × AreExtents 0 rows
Allowed (Holes rows) = (length rows ≡ 16) × AreHoles 0 rows
Allowed (Pending what) = Unit {0}
Allowed (UserQuota id files blocks) = (id < 2 ^ 32) × (files < 2 ^ 64) × (blocks < 2 ^ 64)
Allowed (GroupQuota id files blocks) = (id < 2 ^ 32) × (files < 2 ^ 64) × (blocks < 2 ^ 64)
Allowed (DirIndex vol page entries) = ((1 ≤ vol) × (vol ≤ 8)) × (page < 2 ^ 32) × (entries < 2 ^ 32)
Allowed (Parent slot seq) = (slot < 2 ^ 32) × (seq < 2 ^ 16)
Allowed (Stripe width mark vols) = (width < 2 ^ 8) × (mark < 2 ^ 8) × (length vols ≡ 8)
    × AllByRecursion (λ v. v < 2 ^ 8) vols
Allowed (Volume vol pages bitmap_pages) = (vol < 2 ^ 32) × (pages < 2 ^ 32)
    × (bitmap_pages < 2 ^ 32)
Allowed (DenseExtents rows) = (length rows ≡ 22) × AreDense rows
Allowed (ShortDense rows) = (length rows ≡ 4) × AreDense rows

-- the bytes begin with the spelling of a record of the version
pub record Begins (version : Version) (bytes : List ℕ) (r : Record) : Type 0 where
  pub allowed : Allowed r
  pub known : kind_of r ≤ last_kind version
  pub rest : List ℕ
  pub parts : bytes ≡ spelling r ++ rest
