-- Rows that are those of a set of files lead where its names lead.
use Rattle.std.proofs.Common.{◌≡◌, ◌∙◌, [], ◌∷◌, Option, Some, None, refl, ap}
use Rattle.std.specs.Option.{option_and_then}
use Rattle.filesets_reading.specs.domain_base.declared.place.Kind.{Kind}
use Rattle.filesets_reading.specs.domain_base.declared.place.Tag.{Tag}
use Rattle.filesets_reading.specs.page_store.Bitfiles.{Bitfiles}
use Rattle.filesets_reading.specs.directory_pages.Rows.{found}
use Rattle.filesets_reading.specs.directory_rows.Directory.{rows_in}
use Rattle.filesets_reading.specs.fileset_values.Orders.{Path}
use Rattle.filesets_reading.specs.name_space.Names.{led_from}
use Rattle.filesets_reading.specs.directory_rows.Ways.{RowsBy, led_by}

pub led_same : (files : Bitfiles) (rows : RowsBy) → ((tag : Tag) → rows tag ≡ rows_in files tag) → (from : Tag × Kind) (path : Path) → led_by rows from path ≡ led_from files from path
led_same files rows same from [] = refl
led_same files rows same from (name ∷ path) =
    ap (λ rs. option_and_then (λ row. led_by rows row path) (found name rs)) (same from.0)
    ∙ by_row (found name (rows_in files from.0)) (λ row. led_same files rows same row path)
  where
    by_row : (o : Option (Tag × Kind)) → ((row : Tag × Kind) → led_by rows row path ≡ led_from files row path) → option_and_then (λ row. led_by rows row path) o ≡ option_and_then (λ row. led_from files row path) o
    by_row None more = refl
    by_row (Some row) more = more row
