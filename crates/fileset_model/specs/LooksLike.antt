-- What a clone shows: filesets that no reply tells apart.
use Rattle.std.specs.Prelude.{◌≡◌, ℕ, ◌<◌, false, length, take, Option, Some, None, IsSomeAnd}
use Rattle.std.specs.Option.{option_map}
use Rattle.std.specs.FinMap as map
use Rattle.fileset_model.specs.Apply.{original_of}
use Rattle.fileset_values.specs.Orders.{Name, Path}
use Rattle.fileset_model.specs.Paths.{paths_to, is_directory, is_out_of_sync_at, is_out_of_sync, node_at}
use Rattle.fileset_model.specs.Filesets.{FilesetMap}
use Rattle.fileset_model.specs.declared.fileset.FilesetSlot.{FilesetSlot}
use Rattle.fileset_model.specs.declared.fileset.Role.TheVariants.{Original}

-- no directory on the way to a path is out of sync
abbrev pub IsShown : FilesetSlot → Path → Type 0
IsShown slot path =
    (count : ℕ) → count < length path → is_out_of_sync_at slot (take count path) ≡ false

-- a path that is shown leads to this number, which is not out of sync
pub record Shows (slot : FilesetSlot) (path : Path) (number : ℕ) : Type 0 where
  pub shown : IsShown slot path
  pub leads : map.get slot.tree.paths path ≡ Some number
  pub in_sync : is_out_of_sync slot.role number ≡ false

-- an original is the same; a clone is one of the same original and shows the same paths, each with
-- the same kind of node and in sync where the other's is, and of what is in sync the same node under
-- as many paths. Whether what no path shows is out of sync is not looked at.
pub record LooksLikeSlot (slot other : FilesetSlot) : Type 0 where
  pub of : original_of other.role ≡ original_of slot.role
  pub original : slot.role ≡ Original → other ≡ slot
  pub limits : other.tree.limits ≡ slot.tree.limits
  pub paths : (path : Path) → IsShown slot path
      → map.get other.tree.paths path ≡ map.get slot.tree.paths path
  pub out : (path : Path) → IsShown slot path
      → is_out_of_sync_at other path ≡ is_out_of_sync_at slot path
  pub kinds : (path : Path) → IsShown slot path
      → option_map is_directory (node_at other.tree path)
      ≡ option_map is_directory (node_at slot.tree path)
  pub nodes : (path : Path) (number : ℕ) → Shows slot path number
      → map.get other.tree.nodes number ≡ map.get slot.tree.nodes number
  pub links : (path : Path) (number : ℕ) → Shows slot path number
      → paths_to other.tree number ≡ paths_to slot.tree number

abbrev pub LooksLikeThere : Option FilesetSlot → Option FilesetSlot → Type 0
LooksLikeThere None found = found ≡ None
LooksLikeThere (Some slot) found = IsSomeAnd found (LooksLikeSlot slot)

-- filesets that differ in nothing but in nodes of clones that are out of sync and in what lies
-- below directories that are
abbrev pub LooksLike : FilesetMap → FilesetMap → Type 0
LooksLike all other = (name : Name) → LooksLikeThere (map.get all name) (map.get other name)
