-- Clones that lose frozen content: which of their numbers may be marked out of sync.
use Rattle.std.specs.Prelude.{◌≡◌, ℕ, ◌++◌, false, [], ◌∷◌, IsTrue, MatchOption, Option, Some, None}
use Rattle.std.specs.FinMap as map
use Rattle.fileset_model.specs.fileset_values.Orders.{Name, Path}
use Rattle.fileset_model.specs.Fileset.{Fileset}
use Rattle.fileset_model.specs.Filesets.{FilesetMap}
use Rattle.fileset_model.specs.declared.fileset.FilesetSlot.{FilesetSlot}
use Rattle.fileset_model.specs.declared.fileset.Role.{Role}
use Rattle.fileset_model.specs.declared.fileset.Role.TheVariants.{Original, CloneOf}

-- a fileset that is now this one has the same files, and if it is a clone, its marks and more.
-- `Allowed` takes the original's name, the clone and the number of each new mark.
abbrev pub RoleGains : (Name → FilesetSlot → ℕ → Type 0) → FilesetSlot → Role → Role → Type 0
RoleGains Allowed slot Original role = role ≡ Original
RoleGains Allowed slot (CloneOf original out) Original = ⊥
RoleGains Allowed slot (CloneOf original out) (CloneOf original' out') =
    (original ≡ original')
    × ((number : ℕ) → IsTrue (map.contains_key out number) → IsTrue (map.contains_key out' number))
    × ((number : ℕ) → IsTrue (map.contains_key out' number) → map.contains_key out number ≡ false
    → IsTrue (map.contains_key slot.tree.nodes number) × Allowed original slot number)

abbrev pub SlotGains : (Name → FilesetSlot → ℕ → Type 0)
    → Option FilesetSlot → Option FilesetSlot → Type 0
SlotGains Allowed None found = found ≡ None
SlotGains Allowed (Some slot) None = ⊥
SlotGains Allowed (Some slot) (Some slot') =
    (slot'.tree ≡ slot.tree) × RoleGains Allowed slot slot.role slot'.role

-- in the filesets nothing differs but that clones may have more of their numbers out of sync
abbrev pub GainsMarks : (Name → FilesetSlot → ℕ → Type 0) → FilesetMap → FilesetMap → Type 0
GainsMarks Allowed old new = (name : Name) → SlotGains Allowed (map.get old name) (map.get new name)

-- a fileset has a number under this path
abbrev pub IsAt : Fileset → ℕ → Path → Type 0
IsAt tree number path = map.get tree.paths path ≡ Some number

-- two filesets have the same rows in the directory at this path: the same numbers under the same
-- names
abbrev pub SameRows : Fileset → Fileset → Path → Type 0
SameRows tree other path =
    (name : Name) → map.get tree.paths (path ++ name ∷ []) ≡ map.get other.paths (path ++ name ∷ [])

-- a fileset has what another has under a number: the same node under the same paths, with the same
-- rows
pub record HasTheSame (tree other : Fileset) (number : ℕ) : Type 0 where
  pub node : map.get tree.nodes number ≡ map.get other.nodes number
  pub kept : (path : Path) → IsAt other number path
      → IsAt tree number path × SameRows tree other path
  pub no_more : (path : Path) → IsAt tree number path → IsAt other number path

-- under this number the original and its clone do not have the same file or directory any more
abbrev pub Differs : FilesetMap → Name → FilesetSlot → ℕ → Type 0
Differs all original clone number =
    MatchOption (map.get all original)
    (Unit {0})
    (λ slot. ¬ (HasTheSame slot.tree clone.tree number))
