use Rattle.extent_records.proofs.PutLemmas.{on_both, puts_run}
use Rattle.extent_records.proofs.reading.put_run.Goals as goal

pub returns : goal.returns
returns c =
    on_both c.put_run.result (λ put. puts_run c.args.run.now c.args.map.now c.put_run.new.self put c.requires) c.put_run.ensures.free c.put_run.ensures.places
