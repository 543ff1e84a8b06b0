use Rattle.meta_log.proofs.Numbering.{forces_numbers, keeps_numbers, leaves_numbers, moves_numbers}
use Rattle.meta_log.proofs.laws.number_laws.Goals as goal

pub returns : goal.returns
returns c = record { keeps = keeps_numbers; forced = forces_numbers; moved = moves_numbers; left = leaves_numbers }
