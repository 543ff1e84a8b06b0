-- What stands at the homes of a file's pages.
use Rattle.std.specs.Prelude.{◌≡◌, ℕ, List, [], Option, Some, IsSome, slice_get, unwrap_or}
use Rattle.std.specs.Option.{option_and_then, option_map}
use Rattle.filesets_reading.specs.domain_base.declared.place.Home.{Home}
use Rattle.filesets_reading.specs.page_store.Pages.{Pages}

-- the bytes at a home
abbrev pub bytes_at : Pages → Home → List ℕ
bytes_at pages home = unwrap_or (pages home) []

-- the bytes of a page of a file, if a list has a home for it
abbrev pub stored_at : Pages → List (Option Home) → ℕ → Option (List ℕ)
stored_at pages homes page =
    option_map (bytes_at pages) (option_and_then (λ home. home) (slice_get homes page))

-- a page stands at each home of a list
abbrev pub AreStored : Pages → List (Option Home) → Type 0
AreStored pages homes = (number : ℕ) (home : Home) → slice_get homes number ≡ Some (Some home)
    → IsSome (pages home)
