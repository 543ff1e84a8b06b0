use Rattle.std.proofs.Common.{◌∙◌, Some, sym, ap}
use mathlib.Core.Bool.{false≢true}
use Rattle.index_row_faults.specs.cell_records.declared.record.Record.{Record}
use Rattle.slot_files.proofs.Indexed.{links_index}
use Rattle.slot_files.proofs.indexes.index_said.Goals as goal

pub returns-in_err-new-in-DirIndex : goal.returns-in_err-new-in-DirIndex
returns-in_err-new-in-DirIndex g c cells links =
    let volume = links_index (g.M.MetaPages.pages c.args.pages.now) c.args.at.now c.in-DirIndex.vol c.in-DirIndex.page c.in-DirIndex.entries c.requires
    (λ some its. sym (ap (λ (r : Record). Some r) c.in-DirIndex.is) ∙ c.in_ok-vol.ensures some its) in
    absurd (false≢true (c.in_err-new-in-DirIndex.ensures.range.1 volume))
