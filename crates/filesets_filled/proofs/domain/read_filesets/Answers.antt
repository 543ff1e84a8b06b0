use Rattle.fileset_shapes.proofs.OfDirectoryRows.Parts.{if_ok_weaker}
use Rattle.fileset_shapes.proofs.OfDomainLayout.NoTables.{none_of_extents}
use Rattle.fileset_shapes.specs.filesets_reading.Good.{frame_at}
use Rattle.fileset_shapes.specs.Shapes.{IsDomain}
use Rattle.filesets_filled.specs.Slots.{IsLaidOut}
use Rattle.filesets_filled.proofs.FilledSlots.{reads_from}
use Rattle.filesets_filled.proofs.domain.read_filesets.Goals as goal

pub read_domain-requires-clause-no_fault : goal.read_domain-requires-clause-no_fault
read_domain-requires-clause-no_fault g c = none_of_extents (g.M.MetaPages.pages c.args.pages.now) (frame_at c.args.anchor.now c.args.version) c.requires.no_fault

pub returns-clause-filesets : goal.returns-clause-filesets
returns-clause-filesets g c = λ home named.
    let pages = g.M.MetaPages.pages c.args.pages.now in
    let frame = frame_at c.args.anchor.now c.args.version in
    let domain : IsDomain pages frame c.in_ok-tables.tables = record { tables_are = c.in_ok-tables.ensures.tables; no_fault = c.requires.no_fault; all = c.requires.all } in
    if_ok_weaker c.read_tables_filesets.result (reads_from pages frame c.in_ok-tables.tables domain home named) c.read_tables_filesets.ensures

pub returns-clause-layout : goal.returns-clause-layout
returns-clause-layout g c =
    let pages = g.M.MetaPages.pages c.args.pages.now in
    let frame = frame_at c.args.anchor.now c.args.version in
    let are = c.in_ok-tables.ensures.tables in
    let laid : IsLaidOut pages frame = record { layout = are.layout; is = are.is; laid = are.laid } in
    if_ok_weaker c.read_tables_filesets.result (λ all filled. laid) c.read_tables_filesets.ensures
