use Rattle.file_chains.proofs.Replaced.{without_fits}
use Rattle.file_chains.proofs.changing.clear_record.Goals as goal

pub change_record-requires-clause-room : goal.change_record-requires-clause-room
change_record-requires-clause-room g c = without_fits (g.M.MetaPages.pages c.args.pages.now) c.args.at c.args.kind c.requires
