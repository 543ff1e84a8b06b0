-- Pages in memory, each under the number of its home.
use Rattle.std.specs.Prelude.{◌≡◌, ◌^◌, ℕ, true, false, List, Option, Some, None, IfSome, length, nat_lt, refl, if◌then◌else◌}
use Rattle.std.specs.Option.{ForSome}
use Rattle.sorted_sets.specs.domain_base.Limits.{page_bytes}
use Rattle.page_store.specs.Pages.{Pages, AreWhole}
use Rattle.sorted_sets.specs.Homes.{found_at, number_of}
use Rattle.sorted_sets.specs.Rising.{value_at}

-- what stands at each home
abbrev pub pages_of : List (ℕ × List ℕ) → Pages
pages_of = found_at

-- each page has all its bytes
abbrev pub AreWholeValues : List (ℕ × List ℕ) → Type 0
AreWholeValues entries =
    (key : ℕ) → ForSome (value_at entries key) (λ page. length page ≡ page_bytes)

if_some : (found : Option (List ℕ)) → ForSome found (λ page. length page ≡ page_bytes)
    → IfSome found (λ page. length page ≡ page_bytes)
if_some None whole = tt
if_some (Some page) whole = whole page refl

pub are_whole : (entries : List (ℕ × List ℕ)) → AreWholeValues entries → AreWhole (pages_of entries)
are_whole entries whole home =
    elim (nat_lt home.page (2 ^ 32)) as
    (λ b. IfSome (if b then value_at entries (number_of home) else None)
    (λ page. length page ≡ page_bytes)) [
      | true ↦ if_some _ (whole (number_of home))
      | false ↦ tt
    ]
