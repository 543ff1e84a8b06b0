use Rattle.std.proofs.Common.{◌∙◌, [], ◌∷◌, drop, rules}
use Rattle.metadata_cells.specs.cell_records.Fields.{Fit}
use Rattle.tag_dirs.proofs.WrittenEntry.{address_same, at, entry_widths}
use Rattle.tag_dirs.proofs.page.spell.Goals as goal

pub returns-clause-seq : goal.returns-clause-seq
returns-clause-seq c =
    let fit : Fit entry_widths (c.from.result ∷ c.from-2.result ∷ c.from-3.result ∷ c.from-4.result ∷ []) = search rules in
    at c.from.result c.from-2.result c.from-3.result c.from-4.result (drop 8 c.args.out.now) c.put.new.out c.put.ensures.written fit 0 ∙ c.from.ensures

pub returns-clause-at : goal.returns-clause-at
returns-clause-at c =
    let fit : Fit entry_widths (c.from.result ∷ c.from-2.result ∷ c.from-3.result ∷ c.from-4.result ∷ []) = search rules in
    let read = at c.from.result c.from-2.result c.from-3.result c.from-4.result (drop 8 c.args.out.now) c.put.new.out c.put.ensures.written fit in
    address_same c.address_of-vol.result.0 _ c.address_of-vol.result.1 _ c.address_of-vol.result.2 _ c.args.entry.now.at (read 1 ∙ c.from-2.ensures) (read 2 ∙ c.from-3.ensures) (read 3 ∙ c.from-4.ensures) c.address_of-vol.ensures
