-- Contents that agree where files have pages.
use Rattle.std.specs.Prelude.{◌≡◌, ℕ, Some}
use Rattle.file_release.specs.domain_base.declared.place.Home.{Home}
use Rattle.file_release.specs.domain_base.declared.place.Tag.{Tag}
use Rattle.name_space.specs.fileset_values.Orders.{Name}
use Rattle.domain_layout.specs.Filled.{Contents}
use Rattle.domain_layout.specs.Seen.{SeenFile}
use Rattle.domain_layout.specs.Shape.{FilesetShape, Shapes}

-- the same bytes stand at each home of the file
abbrev pub AgreeOnFile : Contents → Contents → SeenFile → Type 0
AgreeOnFile one other seen =
    (page : ℕ) (home : Home) → seen.homes page ≡ Some home → one home ≡ other home

-- and so for all files of a fileset, and of all filesets
abbrev pub AgreeOnShape : Contents → Contents → FilesetShape → Type 0
AgreeOnShape one other shape =
    (tag : Tag) (seen : SeenFile) → shape.files tag ≡ Some seen → AgreeOnFile one other seen

-- contents that have the same bytes at each home of the files of shapes
abbrev pub AgreeOn : Contents → Contents → Shapes → Type 0
AgreeOn one other shapes =
    (name : Name) (shape : FilesetShape) → shapes name ≡ Some shape → AgreeOnShape one other shape
