use Rattle.extent_records.proofs.PartingLemmas.{parts_keep}
use Rattle.extent_records.proofs.laws.parts_of_a_record_keep_the_map.Goals as goal

pub returns : goal.returns
returns c = parts_keep
