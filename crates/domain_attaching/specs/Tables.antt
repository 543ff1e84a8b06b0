-- Which pages of a domain are those of tables.
use Rattle.std.specs.Prelude.{◌≡◌, ◌⊎◌, ◌↔◌, ◌-◌, ◌<◌, ◌≤◌, ℕ, true, false, Bool, List, Some, IsSomeAnd, Contains, length, map, slice_get, slice_index_or}
use Rattle.std.specs.Option.{option_map_or}
use Rattle.attached_domain.specs.domain_base.Limits.{max_volumes}
use Rattle.attached_domain.specs.domain_base.declared.place.Home.{Home}
use Rattle.attached_domain.specs.disk_label.declared.anchor.Anchor.{Anchor}
use Rattle.attached_domain.specs.log_ring.Homes.{member_of}
use Rattle.attached_domain.specs.domain_layout.Layout.{Layout}
use Rattle.domain_attaching.specs.declared.tables.TablePages.{TablePages}

-- a page of the tag directory of what is in a slot
abbrev pub HasTagPage : Layout → ℕ → Home → Type 0
HasTagPage layout number home = Contains (map (λ place. place.home) (layout.tags number)) home

-- a page of a table of cells or of a tag directory, or that of the fileset table
abbrev pub IsTableHome : Layout → Home → Type 0
IsTableHome layout home = Contains (layout.cells home.vol) home.page
    ⊎ ((number : ℕ) × HasTagPage layout number home)
    ⊎ (layout.anchor.table ≡ Some home)

-- ** Marks, one a page of a volume

-- the pages that were marked are marked, and those with P
pub record Marks (P : ℕ → Type 0) (old new : List Bool) : Type 0 where
  pub count : length new ≡ length old
  pub each : (page : ℕ) → page < length old → (slice_index_or new page false ≡ true)
      ↔ ((slice_index_or old page false ≡ true) ⊎ P page)

-- those of tables are marked
abbrev pub AreTablesOn : Layout → ℕ → List Bool → Type 0
AreTablesOn layout vol marks = (page : ℕ) → page < length marks
    → (slice_index_or marks page false ≡ true)
    ↔ IsTableHome layout (record { vol = vol; page = page })

-- whether the page at a home is marked
abbrev pub is_table : TablePages → Home → Bool
is_table tables home = option_map_or (λ marks. slice_index_or marks.items home.page false)
    (slice_get tables.volumes.items (home.vol - 1)) false

-- there is a mark for each page of a volume, as an anchor has it; and so of all volumes
abbrev pub HasMarksOn : Anchor → TablePages → ℕ → Type 0
HasMarksOn anchor tables vol = IsSomeAnd (slice_get tables.volumes.items (vol - 1))
    (λ marks. length marks.items ≡ (member_of anchor vol).pages)

-- there is a mark for each page of all volumes of an anchor
abbrev pub HasMarksFor : Anchor → TablePages → Type 0
HasMarksFor anchor tables =
    (vol : ℕ) → 1 ≤ vol → vol ≤ max_volumes → HasMarksOn anchor tables vol

-- of a volume's pages, those of tables are marked; and so of the pages of members
abbrev pub HasTablesOn : Layout → TablePages → ℕ → Type 0
HasTablesOn layout tables vol = IsSomeAnd (slice_get tables.volumes.items (vol - 1))
    (λ marks. AreTablesOn layout vol marks.items)

-- of all volumes exactly the pages of tables are marked
abbrev pub AreTables : Layout → TablePages → Type 0
AreTables layout tables = (home : Home) → 1 ≤ home.vol → home.vol ≤ max_volumes
    → home.page < (member_of layout.anchor home.vol).pages
    → (is_table tables home ≡ true) ↔ IsTableHome layout home
