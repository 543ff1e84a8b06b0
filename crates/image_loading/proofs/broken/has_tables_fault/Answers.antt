use Rattle.slot_files.specs.page_ways.Frame.{frame_in}
use Rattle.image_loading.proofs.NoneBroken.{some_told, tags_told}
use Rattle.image_loading.proofs.broken.has_tables_fault.Goals as goal

pub returns-then-not-is_empty : goal.returns-then-not-is_empty
returns-then-not-is_empty g c =
    some_told (g.M.MetaPages.pages c.args.pages.now) (frame_in c.args.frame.now) c.args.table.now c.in_ok-cells.cells c.requires c.in_ok-cells.ensures c.is_empty.result c.is_empty.ensures c.if-not-is_empty.true

pub returns : goal.returns
returns g c =
    tags_told (g.M.MetaPages.pages c.args.pages.now) (frame_in c.args.frame.now) c.args.table.now c.in_ok-cells.cells c.requires c.in_ok-cells.ensures c.in_ok-tags.tags c.in_ok-tags.ensures (c.is_empty.ensures.0 c.if-not-is_empty.false) c.is_empty-is_clean.result c.is_empty-is_clean.ensures
