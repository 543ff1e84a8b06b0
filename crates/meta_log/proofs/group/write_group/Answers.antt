use Rattle.std.proofs.lemmas.Result.{on_ok_weaker}
use Rattle.meta_log.specs.Log.{group_of}
use Rattle.meta_log.proofs.Forcing.{body_written, group_done, group_synced, group_written}
use Rattle.meta_log.proofs.group.write_group.Goals as goal

pub returns-in_err-write_body-clause-writes : goal.returns-in_err-write_body-clause-writes
returns-in_err-write_body-clause-writes g c =
    body_written c.args.anchor.now c.requires.ring.behind (group_of c.args.number c.args.images.now) c.args.place (g.R.Rack.disk c.args.rack.now) (g.R.Rack.disk c.write_body.new.rack) c.write_body.ensures.writes

pub returns-clause-writes : goal.returns-clause-writes
returns-clause-writes g c =
    group_written c.args.anchor.now c.requires.ring.behind (group_of c.args.number c.args.images.now) c.args.place (g.R.Rack.disk c.args.rack.now) (g.R.Rack.disk c.write_body.new.rack) c.write_body.ensures.writes
    c.write_header_of.new.page c.write_header_of.ensures.header c.in_ok-write_body.ensures.ready (g.R.Rack.disk c.open_group.new.rack) c.open_group.ensures.writes

pub returns-clause-done : goal.returns-clause-done
returns-clause-done g c =
    on_ok_weaker c.open_group.result (λ opens.
    group_done c.args.anchor.now c.requires.ring.behind (group_of c.args.number c.args.images.now) c.args.place (g.R.Rack.disk c.args.rack.now) (g.R.Rack.disk c.write_body.new.rack) c.write_body.ensures.writes
    c.write_header_of.new.page c.write_header_of.ensures.header c.in_ok-write_body.ensures.ready (g.R.Rack.disk c.open_group.new.rack) c.open_group.ensures.writes opens) c.open_group.ensures.settled

pub returns-clause-synced : goal.returns-clause-synced
returns-clause-synced g c =
    on_ok_weaker c.open_group.result (λ opens.
    group_synced c.args.anchor.now c.requires.ring.behind (group_of c.args.number c.args.images.now) c.args.place (g.R.Rack.disk c.args.rack.now) (g.R.Rack.disk c.write_body.new.rack) c.write_body.ensures.writes
    c.write_header_of.new.page c.write_header_of.ensures.header c.in_ok-write_body.ensures.ready (g.R.Rack.disk c.open_group.new.rack) c.open_group.ensures.writes opens) c.open_group.ensures.settled
