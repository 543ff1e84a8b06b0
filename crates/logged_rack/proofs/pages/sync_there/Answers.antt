use Rattle.std.proofs.Common.{arith}
use Rattle.std.proofs.lemmas.Result.{on_ok_weaker}
use Rattle.logged_rack.proofs.Marked.{none_there}
use Rattle.logged_rack.proofs.pages.sync_there.Goals as goal

pub returns-then-number-volumes-clause-synced : goal.returns-then-number-volumes-clause-synced
returns-then-number-volumes-clause-synced g c = on_ok_weaker c.sync_volume.result (λ syncs told. (syncs told).here) c.sync_volume.ensures.synced

pub returns-else-number-volumes-clause-synced : goal.returns-else-number-volumes-clause-synced
returns-else-number-volumes-clause-synced g c = λ told.
    none_there (g.R.Rack.disk c.args.rack.now) c.args.vol (g.met.R.Rack.pends_within c.args.rack.now told)
    (λ there. let high = there.1 in omega (arith, c.number.ensures.value, c.volumes.ensures, c.if-number-volumes.false))
