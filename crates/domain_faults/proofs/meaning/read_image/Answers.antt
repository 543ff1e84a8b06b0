use Rattle.slot_files.proofs.OfVolumeDisk.Laws.{only_reads-then}
use Rattle.domain_faults.proofs.Meanings.{told_meaning}
use Rattle.domain_faults.proofs.meaning.read_image.Goals as goal

pub returns-in-Ok-clause-reads : goal.returns-in-Ok-clause-reads
returns-in-Ok-clause-reads g c = only_reads-then (g.R.Rack.disk c.args.rack.now) (g.R.Rack.disk c.recover.new.rack) (g.R.Rack.disk c.meaning_of_domain.new.rack) c.recover.ensures.reads c.meaning_of_domain.ensures.reads

pub returns-in-Err-clause-meaning : goal.returns-in-Err-clause-meaning
returns-in-Err-clause-meaning g c = told_meaning (g.R.Rack.disk c.args.rack.now) (g.R.Rack.disk c.recover.new.rack) c.in-Err.fault c.meaning_of_fault.result c.meaning_of_fault.ensures c.in-Err.ensures.wrong
