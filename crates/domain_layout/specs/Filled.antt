-- Filesets whose shape is filled with bytes.
use Rattle.std.specs.Prelude.{◌≡◌, ℕ, List, Option, Some, None, IsSomeAnd}
use Rattle.std.specs.Option.{option_map}
use Rattle.std.specs.FinMap.{get}
use Rattle.file_release.specs.domain_base.declared.place.Home.{Home}
use Rattle.file_release.specs.domain_base.declared.place.Kind.{Kind}
use Rattle.file_release.specs.domain_base.declared.place.Kind.TheVariants as kind
use Rattle.file_release.specs.domain_base.declared.place.Tag.{Tag}
use Rattle.name_space.specs.legal_histories.Valid.{IsValidSlot}
use Rattle.name_space.specs.fileset_model.Filesets.{FilesetMap}
use Rattle.name_space.specs.fileset_model.LooksLike.{IsShown}
use Rattle.name_space.specs.fileset_values.Orders.{Name, Path}
use Rattle.name_space.specs.fileset_model.Usage.{limits_of}
use Rattle.name_space.specs.fileset_values.declared.command.Owner.{Owner}
use Rattle.name_space.specs.fileset_model.declared.fileset.FilesetSlot.{FilesetSlot}
use Rattle.name_space.specs.fileset_model.declared.fileset.Role.{Role}
use Rattle.name_space.specs.fileset_model.declared.fileset.Role.TheVariants.{CloneOf, Original}
use Rattle.name_space.specs.fileset_model.declared.node.Node.{Node}
use Rattle.name_space.specs.fileset_model.declared.node.Node.TheVariants.{Directory, File}
use Rattle.name_space.specs.Names.{Names, led_to, number_of}
use Rattle.domain_layout.specs.Seen.{SeenFile}
use Rattle.domain_layout.specs.Shape.{FilesetShape, Shapes}

-- the bytes at each home
abbrev pub Contents : Type 0
Contents = Home → List ℕ

-- a file whose pages are what stands at their homes, or a directory
abbrev pub IsFilled : Contents → SeenFile → Node → Type 0
IsFilled contents seen (File uid gid size logged pages) = (seen.is.kind ≡ kind.File)
    × (seen.is.uid ≡ uid) × (seen.is.gid ≡ gid) × (seen.is.size ≡ size)
    × (seen.is.is_logged ≡ logged)
    × ((page : ℕ) → get pages page ≡ option_map contents (seen.homes page))
IsFilled contents seen (Directory uid gid) =
    (seen.is.kind ≡ kind.Directory) × (seen.is.uid ≡ uid) × (seen.is.gid ≡ gid)

-- an original, or a clone of the original with that name
abbrev pub IsRole : Option Name → Role → Type 0
IsRole None role = role ≡ Original
IsRole (Some name) Original = ⊥
IsRole (Some name) (CloneOf original out) = original ≡ name

-- the fileset of a shape: its paths are the rows, each file that a path shows is filled, and owners
-- have their limits
pub record Fills (contents : Contents) (shape : FilesetShape) (slot : FilesetSlot) : Type 0 where
  pub role : IsRole shape.original slot.role
  pub valid : IsValidSlot slot
  pub names : Names shape.shown slot
  pub files : (path : Path) (tag : Tag) (of : Kind) (seen : SeenFile) → IsShown slot path
      → led_to shape.shown path ≡ Some (tag, of) → shape.files tag ≡ Some seen
      → IsSomeAnd (get slot.tree.nodes (number_of tag)) (IsFilled contents seen)
  pub limits : (who : Owner) → limits_of slot.tree who ≡ shape.limits who

abbrev pub FillsThere : Contents → Option FilesetShape → Option FilesetSlot → Type 0
FillsThere contents None slot = slot ≡ None
FillsThere contents (Some shape) slot = IsSomeAnd slot (Fills contents shape)

-- the filesets of shapes
abbrev pub AreFilled : Contents → Shapes → FilesetMap → Type 0
AreFilled contents shapes all = (name : Name) → FillsThere contents (shapes name) (get all name)
