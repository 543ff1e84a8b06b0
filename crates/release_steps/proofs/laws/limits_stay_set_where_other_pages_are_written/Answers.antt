use Rattle.release_steps.proofs.PagesWritten.{still_set}
use Rattle.release_steps.proofs.laws.limits_stay_set_where_other_pages_are_written.Goals as goal

pub returns : goal.returns
returns c = still_set
