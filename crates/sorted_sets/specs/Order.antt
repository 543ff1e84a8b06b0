-- Homes under their numbers.
use Rattle.std.specs.Prelude.{◌≡◌, ◌^◌, ◌<◌, ℕ, List, Some}
use Rattle.domain_base.specs.declared.place.Home.{Home}
use Rattle.sorted_sets.specs.Homes.{number_of}
use Rattle.sorted_sets.specs.Rising.{value_at}

-- each home stands under its number, and its page is a number of four bytes
abbrev pub AreNumbered : List (ℕ × Home) → Type 0
AreNumbered homes =
    (key : ℕ) (home : Home) → value_at homes key ≡ Some home
    → (key ≡ number_of home) × (home.page < 2 ^ 32)
