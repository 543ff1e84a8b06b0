use Rattle.tag_faults.specs.page_ways.Frame.{frame_in}
use Rattle.page_faults.proofs.FilesFound.{file_pages}
use Rattle.page_faults.proofs.OneMaps.{have_one_map}
use Rattle.page_faults.proofs.owners.read_owners.Goals as goal

pub returns-clause-files : goal.returns-clause-files
returns-clause-files g c good =
    let pages = g.M.MetaPages.pages c.args.pages.now in
    let frame = frame_in c.args.frame.now in
    let links = c.in_ok-links.links in
    file_pages pages frame links c.in_ok-links.ensures c.in_ok-runs.runs.items (c.in_ok-runs.ensures.said (have_one_map pages frame c.args.table.now links c.in_ok-links.ensures good))

pub returns-clause-apart : goal.returns-clause-apart
returns-clause-apart g c good =
    c.in_ok-runs.ensures.apart (have_one_map (g.M.MetaPages.pages c.args.pages.now) (frame_in c.args.frame.now) c.args.table.now c.in_ok-links.links c.in_ok-links.ensures good)
