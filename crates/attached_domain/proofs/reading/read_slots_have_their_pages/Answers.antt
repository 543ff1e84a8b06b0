use Rattle.attached_domain.proofs.SlotsRead.{numbered, settled, their_pages}
use Rattle.attached_domain.proofs.reading.read_slots_have_their_pages.Goals as goal

pub returns-clause-pages : goal.returns-clause-pages
returns-clause-pages c pages layout slots laid good are none number = their_pages pages slots number layout laid good are none

pub returns-clause-settled : goal.returns-clause-settled
returns-clause-settled c pages table slots are number = settled pages slots number table are

pub returns-clause-numbered : goal.returns-clause-numbered
returns-clause-numbered c pages table slots are number = numbered pages slots number table are
