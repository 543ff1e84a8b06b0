use Rattle.set_standing.proofs.Changed.{described_as, flagged, relinked}
use Rattle.set_standing.proofs.changes.a_file_is_described.Goals as goal

pub returns-clause-all : goal.returns-clause-all
returns-clause-all c = described_as

pub returns-clause-flag : goal.returns-clause-flag
returns-clause-flag c = flagged

pub returns-clause-links : goal.returns-clause-links
returns-clause-links c = relinked
