use Rattle.filesets_reading.specs.metadata_cells.Reading.{ReadsChain}
use Rattle.filesets_reading.specs.domain_layout.Shape.{AreQuotas}
use Rattle.fileset_shapes.proofs.Answered.{if_ok}
use Rattle.fileset_shapes.proofs.Quotas.{quotas_read, quotas_unbroken}
use Rattle.fileset_shapes.proofs.limits.read_quotas.Goals as goal

pub read_whole-requires : goal.read_whole-requires
read_whole-requires g c = quotas_unbroken (g.M.MetaPages.pages c.args.pages.now) c.args.entry.now c.requires c.in-Some.at c.in-Some.is

pub returns-in-Some : goal.returns-in-Some
returns-in-Some g c =
    let pages = g.M.MetaPages.pages c.args.pages.now in
    if_ok c.read_whole.result (ReadsChain pages c.in-Some.at) (AreQuotas pages c.args.entry.now.quota) (λ records read. quotas_read pages c.args.entry.now.quota c.in-Some.at records c.in-Some.is read) c.read_whole.ensures
