use Rattle.std.proofs.Common.{◌∙◌, drop, rules}
use Rattle.cell_records.specs.Fields.{Fit}
use Rattle.metadata_cells.proofs.Written.{head_is, behind_head, head_widths, head_numbers}
use Rattle.metadata_cells.proofs.writing.put_head.Goals as goal

pub returns-clause-head : goal.returns-clause-head
returns-clause-head c =
    let fit : Fit head_widths (head_numbers c.from.result c.from-2.result c.from-3.result c.from-4.result c.from-5.result c.from-6.result c.from-7.result c.args.size) = search rules in
    head_is c.from.result c.from-2.result c.from-3.result c.from-4.result c.from-5.result c.from-6.result c.from-7.result c.args.size (drop 20 c.args.out.now) c.put.new.out c.put.ensures.written fit
    c.address_of-vol.result.0 c.address_of-vol.result.1 c.address_of-vol.result.2 c.fileset_number.result c.args.head.now
    c.from.ensures c.from-2.ensures c.from-3.ensures c.from-4.ensures c.from-5.ensures c.from-6.ensures (c.from-7.ensures ∙ c.kind_number.ensures.value)
    c.address_of-vol.ensures c.fileset_number.ensures c.requires.fits

pub returns-clause-others : goal.returns-clause-others
returns-clause-others c =
    let fit : Fit head_widths (head_numbers c.from.result c.from-2.result c.from-3.result c.from-4.result c.from-5.result c.from-6.result c.from-7.result c.args.size) = search rules in
    behind_head c.from.result c.from-2.result c.from-3.result c.from-4.result c.from-5.result c.from-6.result c.from-7.result c.args.size (drop 20 c.args.out.now) c.put.new.out c.put.ensures.written fit
