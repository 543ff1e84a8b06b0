use Rattle.std.proofs.Common.{◌∙◌, sym}
use Rattle.fileset_shapes.proofs.IndexPages.{first_index, found_first}
use Rattle.fileset_shapes.proofs.indexes.index_at.Goals as goal

pub index_in-requires : goal.index_in-requires
index_in-requires g c =
    let pages = g.M.MetaPages.pages c.args.pages.now in
    first_index pages c.args.at.now c.in_ok-find_record.field-0 c.requires
    (λ cells is. sym c.in_ok-find_record.was ∙ found_first pages c.args.at.now c.find_record.result c.find_record.ensures cells is)
