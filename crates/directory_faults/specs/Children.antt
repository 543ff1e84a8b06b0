-- The directories to which the rows of each directory lead.
use Rattle.std.specs.Prelude.{◌≡◌, ◌↔◌, List, [], Vec, Contains, unwrap_or, vec_items}
use Rattle.std.specs.BTreeMap.{BTreeMap, get}
use Rattle.std.specs.Option.{option_map}
use Rattle.fileset_shapes.specs.domain_base.contracts.place.TagOrd.TheImpl as tag_ord
use Rattle.fileset_shapes.specs.domain_base.declared.place.Kind.TheVariants.{Directory}
use Rattle.fileset_shapes.specs.domain_base.declared.place.Tag.{Tag}
use Rattle.directory_faults.specs.declared.rows.RowThere.{RowThere}

-- what a map has for a directory
abbrev pub children_in : {Z : Type 0} → BTreeMap Tag (Vec Tag Z) → Tag → List Tag
children_in children dir =
    unwrap_or (option_map vec_items (get ((tag_ord.ghosts).cmp) children dir)) []

-- a directory has a row of another directory, by the map of children
abbrev pub HasChild : {Z : Type 0} → BTreeMap Tag (Vec Tag Z) → Tag → Tag → Type 0
HasChild children dir tag = Contains (children_in children dir) tag

-- a row of a directory leads to a tag as to a directory
abbrev pub LeadsOn : RowThere → Tag → Tag → Type 0
LeadsOn r dir tag = (r.at.dir ≡ dir) × (r.row.kind ≡ Directory) × (r.row.tag ≡ tag)

-- a map has for each directory the tags to which one of some rows does so
abbrev pub AreChildren : {Z : Type 0} → List RowThere → BTreeMap Tag (Vec Tag Z) → Type 0
AreChildren rows children = (dir tag : Tag) → HasChild children dir tag
    ↔ ((r : RowThere) × Contains rows r × LeadsOn r dir tag)
