-- Rows that lead wrong.
use Rattle.std.specs.Prelude.{◌≡◌, ◌⊎◌, ℕ, Bool, false, List, IsTrue, Contains, slice_get}
use Rattle.std.specs.BTreeSet.{BTreeSet, contains}
use Rattle.std.specs.Ordering.{ordering_then}
use Rattle.std.specs.declared.cmp.Ordering.{Ordering}
use Rattle.fileset_shapes.specs.domain_base.contracts.place.KindOrd.TheImpl as kind_ord
use Rattle.fileset_shapes.specs.domain_base.contracts.place.TagOrd.TheImpl as tag_ord
use Rattle.fileset_shapes.specs.domain_base.declared.place.Home.{Home}
use Rattle.fileset_shapes.specs.domain_base.declared.place.Kind.{Kind}
use Rattle.fileset_shapes.specs.domain_base.declared.place.Kind.TheVariants.{Directory, File}
use Rattle.fileset_shapes.specs.domain_base.declared.place.Tag.{Tag}
use Rattle.fileset_shapes.specs.page_store.Pages.{Pages}
use Rattle.fileset_shapes.specs.directory_pages.declared.row.Row.{Row}
use Rattle.fileset_shapes.specs.fileset_table.Table.{Table}
use Rattle.fileset_shapes.specs.name_space.Names.{root_tag}
use Rattle.fileset_shapes.specs.domain_layout.CellRules.{of_clone}
use Rattle.fileset_shapes.specs.domain_layout.DirectoryRules.{HasOfKind, IsRow, RowPlace}
use Rattle.fileset_shapes.specs.domain_layout.Reached.{Frame}
use Rattle.directory_faults.specs.declared.rows.RowThere.{RowThere}
use Rattle.directory_faults.specs.declared.there.FileThere.{FileThere}

-- the other kind
abbrev pub other_of : Kind → Kind
other_of File = Directory
other_of Directory = File

-- a file or directory has this tag and kind
abbrev pub IsOfKind : FileThere → Tag → Kind → Type 0
IsOfKind file tag of = (file.tag ≡ tag) × (file.seen.is.kind ≡ of)

-- one of some has
abbrev pub IsAmong : List FileThere → Tag → Kind → Type 0
IsAmong files tag of = (file : FileThere) × Contains files file × IsOfKind file tag of

-- tags with their kinds, in order
abbrev pub kind_order : Tag × Kind → Tag × Kind → Ordering
kind_order one other = ordering_then ((tag_ord.ghosts).cmp one.0 other.0)
    ((kind_ord.ghosts).cmp one.1 other.1)

-- a set has a tag with its kind
abbrev pub HasKind : BTreeSet (Tag × Kind) → Tag → Kind → Type 0
HasKind kinds tag of = IsTrue (contains kind_order kinds (tag, of))

-- a row leads to the root, to none of its kind in an original, or to one of the other kind
abbrev pub LeadsWrong : BTreeSet (Tag × Kind) → Bool → RowThere → Type 0
LeadsWrong kinds is_clone r = (r.row.tag ≡ root_tag)
    ⊎ ((is_clone ≡ false) × ¬ HasKind kinds r.row.tag r.row.kind)
    ⊎ HasKind kinds r.row.tag (other_of r.row.kind)

-- a row of the fileset in a slot leads to the root; to no file of its kind in an original; or to
-- one of another kind
pub record HasWrongRow (pages : Pages) (frame : Frame) (table : Table) (number : ℕ) (home : Home)
    : Type 0 where
  pub at : RowPlace
  pub row : Row
  pub is : IsRow pages frame table number at row home
  pub wrong : (row.tag ≡ root_tag)
      ⊎ ((of_clone (slice_get table.slots number) ≡ false)
      × ¬ HasOfKind pages table number row.tag row.kind)
      ⊎ ((of : Kind) × HasOfKind pages table number row.tag of × ¬ of ≡ row.kind)
