use Rattle.standing_laws.proofs.OtherSlots.{bytes_same}
use Rattle.standing_laws.proofs.slots.other_slots_keep_their_bytes.Goals as goal

pub returns : goal.returns
returns c = λ number tag d now chains chains_now files files_now indexes below leads same other entry shape fileset differ there stood.
    bytes_same number tag d now chains chains_now files files_now indexes below leads other entry shape fileset differ there stood same
