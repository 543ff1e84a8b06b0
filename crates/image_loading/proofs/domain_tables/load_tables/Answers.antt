use Rattle.slot_files.specs.page_ways.Frame.{frame_in}
use Rattle.image_loading.proofs.Brought.{brings_then, members_stay}
use Rattle.image_loading.proofs.TablesThere.{has_tables, read_stays}
use Rattle.image_loading.proofs.domain_tables.load_tables.Goals as goal

pub load_behind-requires : goal.load_behind-requires
load_behind-requires g c = members_stay (g.R.Rack.disk c.args.rack.now) (g.R.Rack.disk c.load_table.new.rack) c.args.frame.now.anchor c.load_table.ensures.brings.reads c.requires

pub returns-in_err-load_behind-clause-brings : goal.returns-in_err-load_behind-clause-brings
returns-in_err-load_behind-clause-brings g c =
    let disk = g.R.Rack.disk in
    let pages = g.M.MetaPages.pages in
    brings_then (disk c.args.rack.now) (disk c.load_table.new.rack) (disk c.load_behind.new.rack) (pages c.args.pages.now) (pages c.load_table.new.pages) (pages c.load_behind.new.pages)
    c.load_table.ensures.brings c.load_behind.ensures.brings

pub returns-clause-brings : goal.returns-clause-brings
returns-clause-brings g c =
    let disk = g.R.Rack.disk in
    let pages = g.M.MetaPages.pages in
    brings_then (disk c.args.rack.now) (disk c.load_table.new.rack) (disk c.load_behind.new.rack) (pages c.args.pages.now) (pages c.load_table.new.pages) (pages c.load_behind.new.pages)
    c.load_table.ensures.brings c.load_behind.ensures.brings

pub returns-clause-read : goal.returns-clause-read
returns-clause-read g c =
    let pages = g.M.MetaPages.pages in
    read_stays (pages c.load_table.new.pages) (pages c.load_behind.new.pages) (frame_in c.args.frame.now) c.load_behind.ensures.brings.kept c.in_ok-read.read c.load_behind.ensures.wrong c.in_ok-read.ensures

pub returns-clause-whole : goal.returns-clause-whole
returns-clause-whole g c =
    let pages = g.M.MetaPages.pages in
    let frame = frame_in c.args.frame.now in
    has_tables (pages c.load_table.new.pages) (pages c.load_behind.new.pages) frame c.load_behind.ensures.brings.kept c.in_ok-read.read c.in_ok-load_table.ensures.whole
    (read_stays (pages c.load_table.new.pages) (pages c.load_behind.new.pages) frame c.load_behind.ensures.brings.kept c.in_ok-read.read c.load_behind.ensures.wrong c.in_ok-read.ensures) c.in_ok-load_behind.ensures.whole
