-- What stands at homes, each under its number.
use Rattle.std.specs.Prelude.{◌+◌, ◌*◌, ◌^◌, ℕ, List, Option, None, nat_lt, if◌then◌else◌}
use Rattle.domain_base.specs.declared.place.Home.{Home}
use Rattle.sorted_sets.specs.Rising.{value_at}

-- a number for each home, in the order of homes
abbrev pub number_of : Home → ℕ
number_of home = home.vol * 2 ^ 32 + home.page

-- what stands at a home
abbrev pub found_at : {V : Type 0} → List (ℕ × V) → Home → Option V
found_at entries home =
    if nat_lt home.page (2 ^ 32) then value_at entries (number_of home) else None
