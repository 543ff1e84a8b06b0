use Rattle.filesets_reading.specs.Good.{frame_at}
use Rattle.filesets_reading.proofs.Layouts.{few_slots, tables_of}
use Rattle.filesets_reading.proofs.tables.read_tables.Goals as goal

pub returns : goal.returns
returns g c =
    let pages = g.M.MetaPages.pages c.args.pages.now in
    let frame = frame_at c.args.anchor.now c.args.version in
    tables_of pages frame c.requires.named.0 (record { filesets = c.in_ok-filesets.filesets; tags = c.in_ok-tags.tags }) c.in_ok-filesets.ensures
    (few_slots pages frame c.in_ok-filesets.filesets c.in_ok-filesets.ensures) c.in_ok-look_at_cells.ensures c.in_ok-tags.ensures
