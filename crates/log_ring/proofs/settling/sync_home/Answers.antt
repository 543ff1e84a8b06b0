use Rattle.std.proofs.Common.{sym, ◌∙◌}
use Rattle.std.proofs.lemmas.Result.{on_ok_weaker}
use Rattle.log_ring.proofs.Syncing.{none_to_sync, one_more_synced, volume_there}
use Rattle.log_ring.proofs.settling.sync_home.Goals as goal

pub sync_volume-requires : goal.sync_volume-requires
sync_volume-requires g c = volume_there (g.R.Rack.disk c.args.rack.now) c.args.images.now c.args.vol c.requires (sym c.has_home_on.ensures ∙ c.if-has_home_on.true)

pub returns-then-has_home_on-clause-synced : goal.returns-then-has_home_on-clause-synced
returns-then-has_home_on-clause-synced g c =
    on_ok_weaker c.sync_volume.result (λ syncs told. one_more_synced c.args.images.now c.args.vol (g.R.Rack.disk c.args.rack.now).now (g.R.Rack.disk c.sync_volume.new.rack).now (syncs told)) c.sync_volume.ensures.synced

pub returns-else-has_home_on-clause-synced : goal.returns-else-has_home_on-clause-synced
returns-else-has_home_on-clause-synced g c = λ told. none_to_sync c.args.images.now c.args.vol (g.R.Rack.disk c.args.rack.now).now (sym c.has_home_on.ensures ∙ c.if-has_home_on.false)
