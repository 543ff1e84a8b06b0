use Rattle.standing_laws.proofs.SlotsKept.{slots_kept}
use Rattle.standing_laws.proofs.others.all_slots_stand_on_where_bits_change.Goals as goal

pub returns : goal.returns
returns c = slots_kept
