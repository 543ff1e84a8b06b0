use Rattle.attached_domain.proofs.ReadMemory.{goes_back, settled, stands_for}
use Rattle.attached_domain.proofs.reading.read_memory_stands_for.Goals as goal

pub returns-clause-stands : goal.returns-clause-stands
returns-clause-stands c m layout shapes all is may are filled books = stands_for m layout is may shapes all are filled books

pub returns-clause-settled : goal.returns-clause-settled
returns-clause-settled c m layout is may = settled m layout is may

pub returns-clause-back : goal.returns-clause-back
returns-clause-back c m layout is may = goes_back m layout is may
