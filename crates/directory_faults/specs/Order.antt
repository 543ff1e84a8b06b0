-- An order of directories in which rows lead from earlier ones to later ones.
use Rattle.std.specs.Prelude.{◌≡◌, ◌<◌, ℕ, List, Option, Some, Contains}
use Rattle.std.specs.BTreeMap.{BTreeMap, get}
use Rattle.fileset_shapes.specs.domain_base.contracts.place.TagOrd.TheImpl as tag_ord
use Rattle.fileset_shapes.specs.domain_base.declared.place.Kind.TheVariants.{Directory}
use Rattle.fileset_shapes.specs.domain_base.declared.place.Tag.{Tag}
use Rattle.directory_faults.specs.declared.rows.RowThere.{RowThere}

-- the place of a tag
abbrev pub place_in : BTreeMap Tag ℕ → Tag → Option ℕ
place_in places tag = get ((tag_ord.ghosts).cmp) places tag

-- a row of a directory with a place leads to one with a later place, if it leads to one
abbrev pub LeadsUp : BTreeMap Tag ℕ → RowThere → Type 0
LeadsUp places r = r.row.kind ≡ Directory → (place : ℕ) → place_in places r.at.dir ≡ Some place
    → (later : ℕ) × (place_in places r.row.tag ≡ Some later) × (place < later)

-- all rows do
abbrev pub IsOrderOf : List RowThere → BTreeMap Tag ℕ → Type 0
IsOrderOf rows places = (r : RowThere) → Contains rows r → LeadsUp places r
