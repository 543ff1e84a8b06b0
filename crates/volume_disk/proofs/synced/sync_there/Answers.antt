use Rattle.std.proofs.Common.{arith}
use Rattle.std.proofs.lemmas.Result.{on_ok_weaker}
use Rattle.volume_disk.proofs.Settling.{none_there, one_more_settled}
use Rattle.volume_disk.proofs.synced.sync_there.Goals as goal

pub returns-then-number-volumes-clause-settled : goal.returns-then-number-volumes-clause-settled
returns-then-number-volumes-clause-settled g c =
    on_ok_weaker c.sync_volume.result (λ syncs told. one_more_settled c.args.vol (g.R.Rack.disk c.args.rack.now).now (g.R.Rack.disk c.sync_volume.new.rack).now (syncs told)) c.sync_volume.ensures.synced

pub returns-else-number-volumes-clause-settled : goal.returns-else-number-volumes-clause-settled
returns-else-number-volumes-clause-settled g c = λ told.
    none_there (g.R.Rack.disk c.args.rack.now) (g.met.R.Rack.pends_within c.args.rack.now told) c.args.vol
    (λ there. let high = there.1 in omega (arith, c.number.ensures.value, c.volumes.ensures, c.if-number-volumes.false))
