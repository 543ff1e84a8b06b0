use Rattle.std.proofs.Common.{◌∙◌, Some, sym, ap}
use mathlib.Core.Bool.{false≢true}
use Rattle.tag_faults.specs.cell_records.declared.record.Record.{Record}
use Rattle.page_faults.proofs.HomesFound.{on_volume}
use Rattle.page_faults.proofs.homes.first_of_index.Goals as goal

pub returns-in_err-new-in-DirIndex : goal.returns-in_err-new-in-DirIndex
returns-in_err-new-in-DirIndex g c cell stands =
    let volume = on_volume (g.M.MetaPages.pages c.args.pages.now) c.args.at.now cell stands c.in-DirIndex.vol c.in-DirIndex.page c.in-DirIndex.entries
    (sym (c.in_ok-vol.ensures cell stands) ∙ ap (λ (r : Record). Some r) c.in-DirIndex.is) in
    absurd (false≢true (c.in_err-new-in-DirIndex.ensures.range.1 volume))
