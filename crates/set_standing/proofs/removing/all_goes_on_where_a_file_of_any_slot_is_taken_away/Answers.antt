use Rattle.set_standing.proofs.Removed.{is_gone_at}
use Rattle.set_standing.proofs.removing.all_goes_on_where_a_file_of_any_slot_is_taken_away.Goals as goal

pub returns : goal.returns
returns c = is_gone_at
