use Rattle.std.proofs.lemmas.Result.{on_ok_weaker}
use Rattle.slot_files.specs.page_ways.Frame.{frame_in}
use Rattle.image_loading.proofs.Brought.{brings_then, fault_then, members_stay}
use Rattle.image_loading.proofs.Image.{brought_agree}
use Rattle.image_loading.proofs.AllThere.{all_there}
use Rattle.image_loading.proofs.all.load.Goals as goal

pub load_behind-requires-clause-members : goal.load_behind-requires-clause-members
load_behind-requires-clause-members g c = members_stay (g.R.Rack.disk c.args.rack.now) (g.R.Rack.disk c.load_tables.new.rack) c.args.frame.now.anchor c.load_tables.ensures.brings.reads c.requires.members

pub returns-clause-brings : goal.returns-clause-brings
returns-clause-brings g c =
    let disk = g.R.Rack.disk in
    let pages = g.M.MetaPages.pages in
    brings_then (disk c.args.rack.now) (disk c.load_tables.new.rack) (disk c.load_behind.new.rack) (pages c.args.pages.now) (pages c.load_tables.new.pages) (pages c.load_behind.new.pages) c.load_tables.ensures.brings c.load_behind.ensures.brings

pub returns-clause-whole : goal.returns-clause-whole
returns-clause-whole g c = λ inside.
    let pages = g.M.MetaPages.pages in
    on_ok_weaker c.load_behind.result
    (λ files. all_there (pages c.load_tables.new.pages) (pages c.load_behind.new.pages) (frame_in c.args.frame.now) c.load_behind.ensures.brings.kept c.in_ok-read.ensures.whole inside files)
    c.load_behind.ensures.files

pub returns-clause-agree : goal.returns-clause-agree
returns-clause-agree g c = λ groups inside told images.
    let disk = g.R.Rack.disk in
    let pages = g.M.MetaPages.pages in
    let brings =
    brings_then (disk c.args.rack.now) (disk c.load_tables.new.rack) (disk c.load_behind.new.rack) (pages c.args.pages.now) (pages c.load_tables.new.pages) (pages c.load_behind.new.pages) c.load_tables.ensures.brings c.load_behind.ensures.brings in
    on_ok_weaker c.load_behind.result
    (λ files. brought_agree (disk c.args.rack.now) (disk c.load_behind.new.rack) (pages c.args.pages.now) (pages c.load_behind.new.pages) groups (frame_in c.args.frame.now) told images brings
    (all_there (pages c.load_tables.new.pages) (pages c.load_behind.new.pages) (frame_in c.args.frame.now) c.load_behind.ensures.brings.kept c.in_ok-read.ensures.whole inside files))
    c.load_behind.ensures.files

pub returns-clause-fault : goal.returns-clause-fault
returns-clause-fault g c =
    let disk = g.R.Rack.disk in
    fault_then (disk c.args.rack.now) (disk c.load_tables.new.rack) (disk c.load_behind.new.rack) c.load_behind.result c.in_ok-read.ensures.fault c.load_behind.ensures.fault
