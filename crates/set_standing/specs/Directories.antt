-- In which directories those of a fileset stand, over a change of names.
use Rattle.std.specs.Prelude.{◌≡◌, ◌⊎◌, ◌<◌, ◌^◌, ◌++◌, ◌∷◌, ℕ, true, [], Option, Some, None, IfSome, IsSomeAnd}
use Rattle.std.specs.Option.{option_map}
use Rattle.std.specs.FinMap.{get}
use Rattle.standing_laws.specs.domain_base.declared.place.Kind.{Kind}
use Rattle.standing_laws.specs.domain_base.declared.place.Kind.TheVariants as kind
use Rattle.standing_laws.specs.fileset_model.Fileset.{Fileset}
use Rattle.standing_laws.specs.fileset_values.Orders.{Name, Path}
use Rattle.standing_laws.specs.fileset_model.Paths.{is_directory}
use Rattle.standing_laws.specs.name_space.Names.{number_of}
use Rattle.set_standing.specs.Follow.{Said}

-- a path leads to a directory, and with a name more to what stands in it
pub record StandsIn (tree : Fileset) (number dir : ℕ) : Type 0 where
  pub path : Path
  pub name : Name
  pub outer : get tree.paths path ≡ Some dir
  pub inner : get tree.paths (path ++ name ∷ []) ≡ Some number

-- a number is that of a directory
abbrev pub IsDirectoryOf : Fileset → ℕ → Type 0
IsDirectoryOf tree number = IsSomeAnd (get tree.nodes number) (λ node. is_directory node ≡ true)

-- nothing is said of a number
abbrev pub IsOfNone : Option (ℕ × ℕ) → ℕ → Type 0
IsOfNone said number = (other : ℕ) → ¬ said ≡ Some (number, other)

-- each directory stands in the one in which it stood, but for one of which it is said in which one
-- it stands, and which is not the root
pub record DirectoriesFollow (said : Option (ℕ × ℕ)) (tree now : Fileset) : Type 0 where
  pub each : (number dir : ℕ) → StandsIn now number dir → IsDirectoryOf now number
      → (said ≡ Some (number, dir))
      ⊎ (StandsIn tree number dir × IsOfNone said number)
  pub root : (number : ℕ) → get now.paths [] ≡ Some number → IsOfNone said number

-- what is said of a directory that comes to stand in another one; of a file nothing is
abbrev pub said_of : {A : Type 0} → Kind → A → A → Option (A × A)
said_of kind.File it dir = None
said_of kind.Directory it dir = Some (it, dir)

-- the numbers of the tags of which it is said
abbrev pub numbers_of : Said → Option (ℕ × ℕ)
numbers_of said = option_map (λ s. (number_of s.0, number_of s.1)) said

-- these are tags that there may be
abbrev pub AreTags : Said → Type 0
AreTags said = IfSome said (λ s. (s.0.seq < 2 ^ 16) × (s.1.seq < 2 ^ 16))
