use Rattle.std.proofs.lemmas.Result.{on_ok_weaker}
use Rattle.slot_files.specs.page_ways.Frame.{frame_in}
use Rattle.image_loading.proofs.PagesRead.{first_there, row_blocks, row_low}
use Rattle.image_loading.proofs.reading.bring.Goals as goal

pub read_part-requires-clause-fits : goal.read_part-requires-clause-fits
read_part-requires-clause-fits g c =
    row_low (g.R.Rack.disk c.args.rack.now).sizes (g.M.MetaPages.pages c.args.pages.now) (frame_in c.args.frame.now) c.args.home.now c.count_in_row-count.result c.requires.members c.requires.within c.count_in_row-count.ensures

pub read_part-requires-clause-on : goal.read_part-requires-clause-on
read_part-requires-clause-on g c =
    row_blocks (g.R.Rack.disk c.args.rack.now) (g.M.MetaPages.pages c.args.pages.now) (frame_in c.args.frame.now) c.args.home.now c.count_in_row-count.result c.requires.members c.requires.within c.count_in_row-count.ensures

pub returns-clause-there : goal.returns-clause-there
returns-clause-there g c =
    on_ok_weaker c.read_part.result
    (λ there. first_there c.args.home.now c.count_in_row-count.result (g.M.MetaPages.pages c.read_part.new.pages) c.count_in_row-count.ensures.some there)
    c.read_part.ensures.there
