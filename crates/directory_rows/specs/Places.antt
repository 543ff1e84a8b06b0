-- Where a row stands in a directory.
use Rattle.std.specs.Prelude.{◌≡◌, ◌<◌, ℕ, Option, Some, None, List}
use Rattle.directory_pages.specs.domain_base.declared.place.Kind.{Kind}
use Rattle.directory_pages.specs.domain_base.declared.place.Tag.{Tag}
use Rattle.directory_pages.specs.Rows.{found}
use Rattle.directory_rows.specs.declared.look.Place.{Place}
use Rattle.directory_rows.specs.Directory.{rows_at}

-- the tag and kind of the first row with a name on the page of that number, if one has it
abbrev pub found_at : List ℕ → ℕ → List (List ℕ) → Option (Tag × Kind)
found_at name number pages = found name (rows_at number pages)

-- no page before that number has a row of the name
abbrev pub NoneBelow : List ℕ → List (List ℕ) → ℕ → Type 0
NoneBelow name pages number =
    (before : ℕ) → before < number → found_at name before pages ≡ None

-- the place of the first row with a name is on the page of that number, or it has none
abbrev pub IsSearchedAt : List ℕ → ℕ → List (List ℕ) → Option Place → Type 0
IsSearchedAt name number pages None = found_at name number pages ≡ None
IsSearchedAt name number pages (Some place) =
    (place.page ≡ number) × (found_at name number pages ≡ Some (place.tag, place.kind))

-- the first page that has a row of the name, and the tag and kind of that row
pub record IsPlaceOf (name : List ℕ) (pages : List (List ℕ)) (place : Place) : Type 0 where
  pub before : NoneBelow name pages place.page
  pub here : found_at name place.page pages ≡ Some (place.tag, place.kind)

-- the first page that has a row of the name, and the tag and kind of that row, or none if no page
-- has such a row
abbrev pub IsSearched : List ℕ → List (List ℕ) → Option Place → Type 0
IsSearched name pages None = (number : ℕ) → found_at name number pages ≡ None
IsSearched name pages (Some place) = IsPlaceOf name pages place
