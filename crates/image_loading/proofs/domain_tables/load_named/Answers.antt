use Rattle.slot_files.specs.domain_layout.Reached.{cells_way}
use Rattle.slot_files.specs.page_ways.Frame.{frame_in}
use Rattle.image_loading.proofs.Brought.{brings_then, members_stay}
use Rattle.image_loading.proofs.Walking.{page_stays, way_stays}
use Rattle.image_loading.proofs.domain_tables.load_named.Goals as goal

pub load_cells-requires : goal.load_cells-requires
load_cells-requires g c = members_stay (g.R.Rack.disk c.args.rack.now) (g.R.Rack.disk c.load_bitmaps.new.rack) c.args.frame.now.anchor c.load_bitmaps.ensures.brings.reads c.requires

pub returns-in_err-load_cells-clause-brings : goal.returns-in_err-load_cells-clause-brings
returns-in_err-load_cells-clause-brings g c =
    let disk = g.R.Rack.disk in
    let pages = g.M.MetaPages.pages in
    brings_then (disk c.args.rack.now) (disk c.load_bitmaps.new.rack) (disk c.load_cells.new.rack) (pages c.args.pages.now) (pages c.load_bitmaps.new.pages) (pages c.load_cells.new.pages)
    c.load_bitmaps.ensures.brings c.load_cells.ensures.brings

pub returns-in_err-load_its_tags-clause-brings : goal.returns-in_err-load_its_tags-clause-brings
returns-in_err-load_its_tags-clause-brings g c =
    let disk = g.R.Rack.disk in
    let pages = g.M.MetaPages.pages in
    brings_then (disk c.args.rack.now) (disk c.load_cells.new.rack) (disk c.load_its_tags.new.rack) (pages c.args.pages.now) (pages c.load_cells.new.pages) (pages c.load_its_tags.new.pages)
    (brings_then (disk c.args.rack.now) (disk c.load_bitmaps.new.rack) (disk c.load_cells.new.rack) (pages c.args.pages.now) (pages c.load_bitmaps.new.pages) (pages c.load_cells.new.pages)
    c.load_bitmaps.ensures.brings c.load_cells.ensures.brings) c.load_its_tags.ensures.brings

pub returns-clause-brings : goal.returns-clause-brings
returns-clause-brings g c =
    let disk = g.R.Rack.disk in
    let pages = g.M.MetaPages.pages in
    brings_then (disk c.args.rack.now) (disk c.load_cells.new.rack) (disk c.load_its_tags.new.rack) (pages c.args.pages.now) (pages c.load_cells.new.pages) (pages c.load_its_tags.new.pages)
    (brings_then (disk c.args.rack.now) (disk c.load_bitmaps.new.rack) (disk c.load_cells.new.rack) (pages c.args.pages.now) (pages c.load_bitmaps.new.pages) (pages c.load_cells.new.pages)
    c.load_bitmaps.ensures.brings c.load_cells.ensures.brings) c.load_its_tags.ensures.brings

pub returns-clause-whole : goal.returns-clause-whole
returns-clause-whole g c =
    let disk = g.R.Rack.disk in
    let pages = g.M.MetaPages.pages in
    let frame = frame_in c.args.frame.now in
    let more =
    brings_then (disk c.load_bitmaps.new.rack) (disk c.load_cells.new.rack) (disk c.load_its_tags.new.rack) (pages c.load_bitmaps.new.pages) (pages c.load_cells.new.pages) (pages c.load_its_tags.new.pages)
    c.load_cells.ensures.brings c.load_its_tags.ensures.brings in
    record {
      bitmaps = λ vol page first last within.
          page_stays (pages c.load_bitmaps.new.pages) (pages c.load_its_tags.new.pages) frame more.kept (record { vol = vol; page = page }) (c.in_ok-load_bitmaps.ensures.whole vol page first last within);
      cells = λ vol member.
          way_stays (pages c.load_cells.new.pages) (pages c.load_its_tags.new.pages) frame c.load_its_tags.ensures.brings.kept (cells_way frame vol) (c.in_ok-load_cells.ensures.whole vol member);
      tags = c.in_ok-load_its_tags.ensures.tags;
    }
