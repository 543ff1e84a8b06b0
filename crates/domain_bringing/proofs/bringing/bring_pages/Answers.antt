use Rattle.domain_faults.proofs.OfVolumeDisk.Laws.{only_reads-then}
use Rattle.image_loading.proofs.Brought.{brings_then, members_stay}
use Rattle.domain_bringing.specs.Brought.{images_alone}
use Rattle.domain_bringing.proofs.bringing.bring_pages.Goals as goal

pub load_files-requires-clause-members : goal.load_files-requires-clause-members
load_files-requires-clause-members g c = members_stay (g.R.Rack.disk c.args.rack.now) (g.R.Rack.disk c.bring_good_tables.new.rack) c.args.frame.now.anchor c.bring_good_tables.ensures.reads c.requires.members

pub returns-in_err-load_files-clause-reads : goal.returns-in_err-load_files-clause-reads
returns-in_err-load_files-clause-reads g c = only_reads-then (g.R.Rack.disk c.args.rack.now) (g.R.Rack.disk c.bring_good_tables.new.rack) (g.R.Rack.disk c.load_files.new.rack) c.bring_good_tables.ensures.reads c.load_files.ensures.brings.reads

pub returns-clause-reads : goal.returns-clause-reads
returns-clause-reads g c = only_reads-then (g.R.Rack.disk c.args.rack.now) (g.R.Rack.disk c.bring_good_tables.new.rack) (g.R.Rack.disk c.load_files.new.rack) c.bring_good_tables.ensures.reads c.load_files.ensures.brings.reads

pub returns-clause-brings : goal.returns-clause-brings
returns-clause-brings g c =
    let disk = g.R.Rack.disk in
    let pages = g.M.MetaPages.pages in
    brings_then (disk c.args.rack.now) (disk c.bring_good_tables.new.rack) (disk c.load_files.new.rack) (images_alone c.args.redone.now.images) (pages c.bring_good_tables.new.pages) (pages c.load_files.new.pages) c.in-Ok.ensures.brings c.load_files.ensures.brings
