-- What the first cell of a file says of its stripe.
use Rattle.std.specs.Prelude.{List, Option, Some, None}
use Rattle.std.specs.Option.{option_and_then}
use Rattle.file_chains.specs.cell_records.declared.record.Record.{Record}
use Rattle.file_chains.specs.cell_records.declared.record.Record.TheVariants as written
use Rattle.file_chains.specs.metadata_cells.Cell.{Cell}
use Rattle.file_chains.specs.metadata_cells.Chain.{PlacedCell}
use Rattle.file_chains.specs.Changes.{with_record}
use Rattle.fileset_files.specs.declared.striping.Stripe.{Stripe}
use Rattle.fileset_files.specs.Files.{first_record}

-- the stripe by a record, if it is one of a stripe
abbrev pub stripe_in : Record → Option Stripe
stripe_in (written.Stripe width mark vols) =
    Some (record { width = width; mark = mark; vols = vols })
stripe_in _ = None

-- the stripe that the cells of a file say, if they say one
abbrev pub stripe_of : List PlacedCell → Option Stripe
stripe_of cells = option_and_then stripe_in (first_record 11 cells)

-- the record that says this stripe
abbrev pub stripe_record : Stripe → Record
stripe_record stripe = written.Stripe stripe.width stripe.mark stripe.vols

-- a first cell that says this of a file's stripe
abbrev pub says_stripe : Stripe → Cell → Cell
says_stripe stripe cell = with_record 11 (Some (stripe_record stripe)) cell
