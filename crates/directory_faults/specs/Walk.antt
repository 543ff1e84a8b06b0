-- The directories to which rows lead, one after the other.
use Rattle.std.specs.Prelude.{◌≡◌, ◌⊎◌, ◌↔◌, ℕ, Some, Vec, Contains, slice_get}
use Rattle.std.specs.BTreeMap.{BTreeMap}
use Rattle.fileset_shapes.specs.domain_base.declared.place.Tag.{Tag}
use Rattle.directory_faults.specs.Parents.{HasTag}
use Rattle.directory_faults.specs.Children.{HasChild}
use Rattle.directory_faults.specs.declared.walk.Walk.{Walk}

-- a relation leads from a directory to a tag, in one step or more
pub data Leads (Child : Tag → Tag → Type 0) (dir : Tag) : Tag → Type 0 where
  one : (tag : Tag) → Child dir tag → Leads Child dir tag
  more : (middle tag : Tag) → Leads Child dir middle → Child middle tag → Leads Child dir tag

-- rows of directories do so
abbrev pub IsBelow : {Z : Type 0} → BTreeMap Tag (Vec Tag Z) → Tag → Tag → Type 0
IsBelow children dir tag = Leads (HasChild children) dir tag

-- a walk's list has the tags of its set
abbrev pub IsListed : Walk → Type 0
IsListed walk = (tag : Tag) → Contains walk.tags.items tag ↔ HasTag walk.seen tag

-- tags of a kind are come to; those of before keep their places
pub record Notes (P : Tag → Type 0) (old new : Walk) : Type 0 where
  pub keeps : (k : ℕ) (tag : Tag) → slice_get old.tags.items k ≡ Some tag
      → slice_get new.tags.items k ≡ Some tag
  pub has : (tag : Tag) → HasTag new.seen tag ↔ (HasTag old.seen tag ⊎ P tag)
  pub listed : IsListed old → IsListed new

-- a tag is one of a walk's, or below one
abbrev pub IsAtOrBelow : {Z : Type 0} → BTreeMap Tag (Vec Tag Z) → Walk → Tag → Type 0
IsAtOrBelow children walk tag = HasTag walk.seen tag
    ⊎ ((start : Tag) × HasTag walk.seen start × IsBelow children start tag)

-- all that is at or below the tags of a walk is come to
abbrev pub GoesOn : {Z : Type 0} → BTreeMap Tag (Vec Tag Z) → Walk → Walk → Type 0
GoesOn children old new = IsListed old → IsListed new
    × ((tag : Tag) → HasTag new.seen tag ↔ IsAtOrBelow children old tag)
