-- The pages of a directory as a list, by the homes that were read of them.
use Rattle.std.proofs.Common.{◌≡◌, ◌∙◌, ℕ, zero, suc, ◌<◌, true, false, List, [], ◌∷◌, Option, Some, None, IsSome, slice_get, refl, sym, ap, arith}
use Rattle.std.specs.List.{cons_option}
use Rattle.std.specs.Option.{option_and_then}
use Rattle.filesets_reading.specs.domain_base.declared.place.Home.{Home}
use Rattle.filesets_reading.specs.page_store.Pages.{Pages}
use Rattle.fileset_shapes.specs.Stored.{AreStored}
use Rattle.filesets_reading.specs.Seen.{home_in}
use Rattle.fileset_shapes.specs.Found.{pages_at}

no_bool : false ≡ true → ⊥
no_bool is = cc

-- before each page that has a home all have one
abbrev pub HasNoGap : List (Option Home) → Type 0
HasNoGap homes = (page earlier : ℕ) → earlier < page → IsSome (home_in homes page) → IsSome (home_in homes earlier)

-- no home, no page
none_at : (pages : Pages) (homes : List (Option Home)) → ((page : ℕ) → home_in homes page ≡ None) → pages_at pages homes ≡ []
none_at pages [] none = refl
none_at pages (None ∷ rest) none = none_at pages rest (λ page. none (suc page))
none_at pages (Some home ∷ rest) none = absurd (let e : None ≡ Some home = sym (none 0) in absurd (cc))

-- the pages in their order
pub pages_in_order : (pages : Pages) (homes : List (Option Home)) → HasNoGap homes → AreStored pages homes → (page : ℕ) → slice_get (pages_at pages homes) page ≡ option_and_then pages (home_in homes page)
pages_in_order pages [] whole stored page = refl
pages_in_order pages (None ∷ rest) whole stored page = ap (λ (list : List (List ℕ)). slice_get list page) (none_at pages rest later) ∙ sym (ap (option_and_then pages) (all page))
  where
    none_by : (o : Option Home) → (IsSome o → ⊥) → o ≡ None
    none_by None never = refl
    none_by (Some home) never = absurd (never refl)

    later : (page : ℕ) → home_in rest page ≡ None
    later page = none_by (home_in rest page) (λ some. no_bool (whole (suc page) 0 (omega arith) some))

    all : (page : ℕ) → home_in (None ∷ rest) page ≡ None
    all zero = refl
    all (suc page) = later page
pages_in_order pages (Some home ∷ rest) whole stored page =
    by_page
    (pages_in_order pages rest (λ page earlier less some. whole (suc page) (suc earlier) (omega (arith, less)) some) (λ number h at. stored (suc number) h at))
    (pages home) refl (stored 0 home refl)
  where
    by_number : ((page : ℕ) → slice_get (pages_at pages rest) page ≡ option_and_then pages (home_in rest page)) → (bytes : List ℕ) → pages home ≡ Some bytes → (page : ℕ) → slice_get (bytes ∷ pages_at pages rest) page ≡ option_and_then pages (home_in (Some home ∷ rest) page)
    by_number later bytes there zero = sym there
    by_number later bytes there (suc page) = later page

    by_page : ((page : ℕ) → slice_get (pages_at pages rest) page ≡ option_and_then pages (home_in rest page)) → (o : Option (List ℕ)) → pages home ≡ o → IsSome o → slice_get (pages_at pages (Some home ∷ rest)) page ≡ option_and_then pages (home_in (Some home ∷ rest) page)
    by_page later None gone some = absurd (no_bool some)
    by_page later (Some bytes) there some = ap (λ o. slice_get (cons_option o (pages_at pages rest)) page) there ∙ by_number later bytes there page
