use Rattle.std.proofs.Common.{◌∙◌, sym}
use Rattle.fileset_shapes.proofs.ReadHomes.{first_volume}
use Rattle.fileset_shapes.proofs.sources.source_at.Goals as goal

pub source_in-requires : goal.source_in-requires
source_in-requires g c =
    first_volume (g.M.MetaPages.pages c.args.pages.now) c.args.at.now 2 c.in_ok-first_record.field-0 c.requires (λ cells is. sym c.in_ok-first_record.was ∙ c.first_record.ensures cells is)
