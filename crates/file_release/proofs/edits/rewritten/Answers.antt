use Rattle.std.proofs.Common.{◌∙◌, Some, ap}
use Rattle.fileset_files.specs.cell_records.Records.{kind_of}
use Rattle.fileset_files.specs.metadata_cells.Cell.{Cell}
use Rattle.fileset_files.specs.file_chains.Changes.{with_kind}
use Rattle.file_release.proofs.Used.{some_used, used_stands}
use Rattle.file_release.proofs.edits.rewritten.Goals as goal

pub unwrap-used-requires : goal.unwrap-used-requires
unwrap-used-requires g c = some_used (g.M.MetaPages.pages c.args.pages.now) c.args.at.now c.in_ok-read_used.field-0 c.in_ok-read_used.ensures.none c.requires.0 c.requires.1

pub returns-clause-cell : goal.returns-clause-cell
returns-clause-cell g c = λ cell stands.
    let used = used_stands (g.M.MetaPages.pages c.args.pages.now) c.args.at.now c.in_ok-read_used.field-0 c.unwrap-used.result c.unwrap-used.ensures c.in_ok-read_used.ensures.some cell stands in
    let kind = kind_of c.args.after.now in
    let records = c.in_ok-records.ensures ∙ ap (with_kind kind (Some c.args.after.now)) (c.as_slice.ensures ∙ ap (λ (x : Cell). x.records) used) in
    (λ i. record { head = (used i).head; records = records i })
