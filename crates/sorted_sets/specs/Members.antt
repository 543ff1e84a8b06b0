-- The homes of a set.
use Rattle.std.specs.Prelude.{◌≡◌, ℕ, List, Some}
use Rattle.domain_base.specs.declared.place.Home.{Home}
use Rattle.sorted_sets.specs.Homes.{number_of}
use Rattle.sorted_sets.specs.Rising.{value_at}
use Rattle.sorted_sets.specs.declared.home_set.HomeSet.{HomeSet}

-- its homes with their numbers, in the order of these
abbrev pub entries : HomeSet → List (ℕ × Home)
entries set = set.homes.items

-- a home is in it
abbrev pub IsIn : HomeSet → Home → Type 0
IsIn set home = value_at (entries set) (number_of home) ≡ Some home
