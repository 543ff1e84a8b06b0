use Rattle.std.proofs.Common.{◌∙◌, sym}
use Rattle.slot_files.proofs.SaidPlaces.{links_volume}
use Rattle.slot_files.proofs.records.source_at.Goals as goal

pub source_in-requires : goal.source_in-requires
source_in-requires g c =
    links_volume (g.M.MetaPages.pages c.args.pages.now) c.args.at.now 2 c.in_ok-first_record.field-0 c.requires (λ cells is. sym c.in_ok-first_record.was ∙ c.first_record.ensures cells is)
