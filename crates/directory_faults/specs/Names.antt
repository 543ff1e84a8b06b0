-- Rows with the name of an earlier one.
use Rattle.std.specs.Prelude.{◌≡◌, ◌<◌, ℕ, List, Some, IsTrue, slice_get}
use Rattle.std.specs.BTreeSet.{BTreeSet, contains_by}
use Rattle.std.specs.Cmp.Lexicographic.{slice_cmp}
use Rattle.std.specs.Ordering.{nat_cmp, ordering_then}
use Rattle.std.specs.declared.cmp.Ordering.{Ordering}
use denote.Ref.{Bor}
use Rattle.fileset_shapes.specs.domain_base.contracts.place.TagOrd.TheImpl as tags
use Rattle.fileset_shapes.specs.domain_base.declared.place.Home.{Home}
use Rattle.fileset_shapes.specs.domain_base.declared.place.Tag.{Tag}
use Rattle.fileset_shapes.specs.page_store.Pages.{Pages}
use Rattle.fileset_shapes.specs.directory_pages.declared.row.Row.{Row}
use Rattle.fileset_shapes.specs.fileset_table.Table.{Table}
use Rattle.fileset_shapes.specs.domain_layout.DirectoryRules.{IsEarlier, IsRow, RowPlace}
use Rattle.fileset_shapes.specs.domain_layout.Reached.{Frame}
use Rattle.directory_faults.specs.declared.rows.RowThere.{RowThere}

-- two rows stand in one directory and have one name
abbrev pub IsNamedAlike : RowThere → RowThere → Type 0
IsNamedAlike one other = (one.at.dir ≡ other.at.dir) × (one.row.name ≡ other.row.name)

-- one of the rows before a place and a row are so
abbrev pub IsNamedBefore : List RowThere → ℕ → RowThere → Type 0
IsNamedBefore rows number r = (k : ℕ) × (one : RowThere) × (k < number)
    × (slice_get rows k ≡ Some one) × IsNamedAlike one r

-- the directory and name of a row against those that were noted, in order
abbrev pub name_order : RowThere → Tag × Bor (List ℕ) → Ordering
name_order r noted = ordering_then ((tags.ghosts).cmp r.at.dir noted.0)
    (slice_cmp nat_cmp r.row.name noted.1.now)

-- a row's name was noted by its directory
abbrev pub IsNoted : BTreeSet (Tag × Bor (List ℕ)) → RowThere → Type 0
IsNoted names r = IsTrue (contains_by (name_order r) names)

-- a row of the fileset in a slot has the name of an earlier one of its directory
pub record HasNameTwice (pages : Pages) (frame : Frame) (table : Table) (number : ℕ) (home : Home)
    : Type 0 where
  pub early : RowPlace
  pub late : RowPlace
  pub one : Row
  pub other : Row
  pub first_home : Home
  pub is_early : IsRow pages frame table number early one first_home
  pub is_late : IsRow pages frame table number late other home
  pub same : early.dir ≡ late.dir
  pub order : IsEarlier early late
  pub names : one.name ≡ other.name
