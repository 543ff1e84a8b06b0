use Rattle.std.proofs.lemmas.Result.{on_ok_weaker}
use Rattle.slot_files.specs.page_ways.Frame.{frame_in}
use Rattle.image_loading.proofs.Brought.{brings_then, fault_then, members_stay}
use Rattle.image_loading.proofs.AllThere.{cells_stay, directory_held, indexes_stay, laid_out}
use Rattle.image_loading.proofs.all.load_files.Goals as goal

pub load_homes-requires : goal.load_homes-requires
load_homes-requires g c = members_stay (g.R.Rack.disk c.args.rack.now) (g.R.Rack.disk c.load_indexes.new.rack) c.args.frame.now.anchor c.load_indexes.ensures.brings.reads c.requires.members

pub returns-clause-brings : goal.returns-clause-brings
returns-clause-brings g c =
    let disk = g.R.Rack.disk in
    let pages = g.M.MetaPages.pages in
    brings_then (disk c.args.rack.now) (disk c.load_indexes.new.rack) (disk c.load_homes.new.rack) (pages c.args.pages.now) (pages c.load_indexes.new.pages) (pages c.load_homes.new.pages) c.load_indexes.ensures.brings c.load_homes.ensures.brings

pub returns-clause-files : goal.returns-clause-files
returns-clause-files g c =
    let old = g.M.MetaPages.pages c.args.pages.now in
    let mid = g.M.MetaPages.pages c.load_indexes.new.pages in
    let new = g.M.MetaPages.pages c.load_homes.new.pages in
    let frame = frame_in c.args.frame.now in
    let tables = c.in_ok-tables.tables in
    let are = c.in_ok-tables.ensures in
    on_ok_weaker c.load_homes.result
    (λ there. record {
      laid_out = laid_out old frame tables are;
      indexes = indexes_stay mid new frame c.load_homes.ensures.brings.kept (cells_stay old mid frame c.load_indexes.ensures.brings.kept c.requires.cells) c.in_ok-load_indexes.ensures.whole;
      directories = λ home d. there home (directory_held old frame tables c.in_ok-homes.homes are c.in_ok-homes.ensures home d) d.within;
    })
    c.load_homes.ensures.whole

pub returns-clause-fault : goal.returns-clause-fault
returns-clause-fault g c =
    let disk = g.R.Rack.disk in
    fault_then (disk c.args.rack.now) (disk c.load_indexes.new.rack) (disk c.load_homes.new.rack) c.load_homes.result c.in_ok-load_indexes.ensures.fault c.load_homes.ensures.fault
