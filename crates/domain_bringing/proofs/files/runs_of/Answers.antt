use Rattle.domain_faults.specs.page_ways.Frame.{frame_in}
use Rattle.domain_faults.proofs.OfPageFaults.FilesFound.{file_pages}
use Rattle.domain_faults.proofs.OfPageFaults.OneMaps.{have_one_map}
use Rattle.domain_bringing.proofs.Held.{good_cells}
use Rattle.domain_bringing.proofs.files.runs_of.Goals as goal

pub returns-clause-runs : goal.returns-clause-runs
returns-clause-runs g c =
    let pages = g.M.MetaPages.pages c.args.pages.now in
    let frame = frame_in c.args.frame.now in
    let links = c.in_ok-links.links in
    let are = c.in_ok-_tables.ensures in
    file_pages pages frame links c.in_ok-links.ensures c.in_ok-runs.runs.items
    (c.in_ok-runs.ensures.said (have_one_map pages frame are.layout.table links c.in_ok-links.ensures (good_cells pages frame are.layout are.is are.laid c.requires.no_fault)))
