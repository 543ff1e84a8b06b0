-- How many rows lead to tags.
use Rattle.std.specs.Prelude.{◌≡◌, ℕ, Bool, List, count_by, unwrap_or}
use Rattle.std.specs.BTreeMap.{BTreeMap, get, is_at}
use Rattle.fileset_shapes.specs.domain_base.declared.place.Kind.{Kind}
use Rattle.fileset_shapes.specs.domain_base.declared.place.Tag.{Tag}
use Rattle.directory_faults.specs.Wrong.{kind_order}
use Rattle.directory_faults.specs.declared.rows.RowThere.{RowThere}

-- a row leads to the tag as to one of the kind
abbrev pub leads_so : Tag → Kind → RowThere → Bool
leads_so tag of r = is_at (kind_order (r.row.tag, r.row.kind)) (tag, of)

-- how many of some rows do
abbrev pub count_to : List RowThere → Tag → Kind → ℕ
count_to rows tag of = count_by (leads_so tag of) rows

-- how many a map says
abbrev pub count_in : BTreeMap (Tag × Kind) ℕ → Tag → Kind → ℕ
count_in counts tag of = unwrap_or (get kind_order counts (tag, of)) 0

-- the map says of each tag and kind how many do
abbrev pub AreCounts : List RowThere → BTreeMap (Tag × Kind) ℕ → Type 0
AreCounts rows counts = (tag : Tag) (of : Kind) → count_in counts tag of ≡ count_to rows tag of
