use Rattle.set_standing.proofs.Seen.{live_seen}
use Rattle.set_standing.proofs.changes.live_files_are_seen.Goals as goal

pub returns : goal.returns
returns c = live_seen
