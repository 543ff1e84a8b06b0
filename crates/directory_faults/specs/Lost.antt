-- Rows that lead to what a clone has lost.
use Rattle.std.specs.Prelude.{◌≡◌, ◌⊎◌, ◌<◌, ℕ}
use Rattle.std.specs.BTreeMap.{BTreeMap}
use Rattle.std.specs.BTreeSet.{BTreeSet}
use Rattle.fileset_shapes.specs.domain_base.Limits.{max_links}
use Rattle.fileset_shapes.specs.domain_base.declared.place.Home.{Home}
use Rattle.fileset_shapes.specs.domain_base.declared.place.Kind.{Kind}
use Rattle.fileset_shapes.specs.domain_base.declared.place.Kind.TheVariants.{Directory, File}
use Rattle.fileset_shapes.specs.domain_base.declared.place.Tag.{Tag}
use Rattle.fileset_shapes.specs.page_store.Pages.{Pages}
use Rattle.fileset_shapes.specs.directory_pages.declared.row.Row.{Row}
use Rattle.fileset_shapes.specs.fileset_table.Table.{Table}
use Rattle.fileset_shapes.specs.domain_layout.DirectoryRules.{IsHere, IsOneOfMany, IsRow, IsSecond, RowPlace}
use Rattle.fileset_shapes.specs.domain_layout.Reached.{Frame}
use Rattle.directory_faults.specs.Counts.{count_in}
use Rattle.directory_faults.specs.Wrong.{HasKind, other_of}
use Rattle.directory_faults.specs.declared.rows.RowThere.{RowThere}

-- a set of tags with kinds has the tag with neither
abbrev pub IsLost : BTreeSet (Tag × Kind) → Tag → Type 0
IsLost kinds tag = ¬ HasKind kinds tag File × ¬ HasKind kinds tag Directory

-- rows of the other kind lead where a row does, or another of a directory, or more than may
abbrev pub AreTooMany : BTreeMap (Tag × Kind) ℕ → RowThere → Type 0
AreTooMany counts r = (0 < count_in counts r.row.tag (other_of r.row.kind))
    ⊎ ((r.row.kind ≡ Directory) × (1 < count_in counts r.row.tag r.row.kind))
    ⊎ (max_links < count_in counts r.row.tag r.row.kind)

-- a row on a page leads to nothing, as more rows do than may
abbrev pub LeadsLostTwice : BTreeSet (Tag × Kind) → BTreeMap (Tag × Kind) ℕ → RowThere → Home
    → Type 0
LeadsLostTwice kinds counts r home =
    IsLost kinds r.row.tag × AreTooMany counts r × (home ≡ r.at.home)

-- a row of the fileset in a slot leads to what is not there, as more rows do than may
pub record HasLostTwice (pages : Pages) (frame : Frame) (table : Table) (number : ℕ) (home : Home)
    : Type 0 where
  pub at : RowPlace
  pub row : Row
  pub is : IsRow pages frame table number at row home
  pub lost : ¬ IsHere pages table number row.tag
  pub wrong : IsSecond pages frame table number at row ⊎ IsOneOfMany pages frame table number row
