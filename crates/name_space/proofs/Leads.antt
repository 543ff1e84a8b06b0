-- Where paths lead by rows.
use Rattle.std.proofs.Common.{◌≡◌, ◌∙◌, ℕ, ◌+◌, ◌<◌, [], ◌∷◌, ◌++◌, Option, Some, None, length, take, get_or, refl, ap}
use Rattle.std.proofs.lemmas.List.{take_more}
use Rattle.std.specs.Option.{option_and_then}
use Rattle.plain_program.specs.domain_base.declared.place.Kind.{Kind}
use Rattle.plain_program.specs.domain_base.declared.place.Kind.TheVariants.{Directory}
use Rattle.plain_program.specs.domain_base.declared.place.Tag.{Tag}
use Rattle.directory_rows.specs.page_store.Bitfiles.{Bitfiles}
use Rattle.directory_rows.specs.directory_pages.Rows.{found}
use Rattle.directory_rows.specs.Directory.{rows_in}
use Rattle.plain_program.specs.fileset_values.Orders.{Name, Path}
use Rattle.name_space.specs.Names.{led_from, led_to, root_tag}

-- a path and more names lead from where the path leads
pub led-append : (files : Bitfiles) (from : Tag × Kind) (path more : Path)
    → led_from files from (path ++ more) ≡ option_and_then (λ led. led_from files led more) (led_from files from path)
led-append files from [] more = refl
led-append files from (name ∷ path) more = by_row (found name (rows_in files from.0)) (λ row. led-append files row path more)
  where
    by_row : (o : Option (Tag × Kind)) → ((row : Tag × Kind) → led_from files row (path ++ more) ≡ option_and_then (λ led. led_from files led more) (led_from files row path))
        → option_and_then (λ row. led_from files row (path ++ more)) o ≡ option_and_then (λ led. led_from files led more) (option_and_then (λ row. led_from files row path) o)
    by_row None hypothesis = refl
    by_row (Some row) hypothesis = hypothesis row

-- one more name leads to the row of that name
pub led-name : (files : Bitfiles) (path : Path) (name : Name)
    → led_to files (path ++ name ∷ []) ≡ option_and_then (λ led. found name (rows_in files led.0)) (led_to files path)
led-name files path name =
    led-append files (root_tag, Directory) path (name ∷ [])
    ∙ each (led_to files path)
  where
    one : (o : Option (Tag × Kind)) → option_and_then (λ row. Some row) o ≡ o
    one None = refl
    one (Some row) = refl

    each : (o : Option (Tag × Kind)) → option_and_then (λ led. led_from files led (name ∷ [])) o ≡ option_and_then (λ led. found name (rows_in files led.0)) o
    each None = refl
    each (Some led) = one (found name (rows_in files led.0))

-- the same of the names of one path
pub led-more : (files : Bitfiles) (path : Path) (count : ℕ) (default : Name) → count < length path
    → led_to files (take (count + 1) path) ≡ option_and_then (λ led. found (get_or path count default) (rows_in files led.0)) (led_to files (take count path))
led-more files path count default within =
    ap (led_to files) (take_more path count default within) ∙ led-name files (take count path) (get_or path count default)
