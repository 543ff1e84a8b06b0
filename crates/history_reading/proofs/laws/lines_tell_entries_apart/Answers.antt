use Rattle.history_reading.proofs.LineLemmas.{one_entry}
use Rattle.history_reading.proofs.laws.lines_tell_entries_apart.Goals as goal

pub returns : goal.returns
returns c = one_entry
