use Rattle.std.proofs.Common.{subst, sym}
use Rattle.std.proofs.lemmas.Result.{on_ok_weaker}
use Rattle.domain_faults.specs.page_ways.Frame.{frame_in}
use Rattle.domain_faults.proofs.OfDomainLayout.NoTables.{none_of_tables}
use Rattle.domain_faults.specs.page_faults.Files.{AreFilePages}
use Rattle.domain_bringing.proofs.Held.{held}
use Rattle.domain_bringing.proofs.files.load_files.Goals as goal

pub runs_of-requires-clause-no_fault : goal.runs_of-requires-clause-no_fault
runs_of-requires-clause-no_fault g c = none_of_tables (g.M.MetaPages.pages c.args.pages.now) (frame_in c.args.frame.now) c.requires.no_fault

pub returns-clause-whole : goal.returns-clause-whole
returns-clause-whole g c =
    let pages = g.M.MetaPages.pages in
    on_ok_weaker c.load_runs.result
    (λ there. held (pages c.args.pages.now) (pages c.load_runs.new.pages) (frame_in c.args.frame.now) c.deref.result.now c.in_ok-runs.ensures.laid c.requires.no_fault c.requires.looked c.load_runs.ensures.brings.kept
    (subst (AreFilePages (pages c.args.pages.now) (frame_in c.args.frame.now)) (sym c.deref.ensures.value) c.in_ok-runs.ensures.runs) there)
    c.load_runs.ensures.there
