use Rattle.domain_layout.proofs.OfMetadataCells.Linked.{linked}
use Rattle.filesets_reading.proofs.chains.look_at_chain.Goals as goal

pub returns-in-Ok : goal.returns-in-Ok
returns-in-Ok g c =
    let read = c.in-Ok.ensures.whole in
    (read.0, linked (g.M.MetaPages.pages c.args.pages.now) c.args.at read.0 read.1)
