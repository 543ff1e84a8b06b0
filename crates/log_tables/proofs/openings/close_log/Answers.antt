use Rattle.std.proofs.Common.{◌∙◌, ap, arith}
use Rattle.log_recovery.specs.disk_label.declared.anchor.Anchor.{Anchor}
use Rattle.file_pages.specs.meta_log.Checkpoint.{next_anchor}
use Rattle.file_pages.specs.meta_log.Log.{new_log}
use Rattle.log_tables.proofs.AtRest.{closed, closed_home, closing, nothing_closed}
use Rattle.log_tables.proofs.openings.close_log.Goals as goal

pub returns-then-anchor-clause-any_moment : goal.returns-then-anchor-clause-any_moment
returns-then-anchor-clause-any_moment g c = nothing_closed (g.R.Rack.disk c.args.rack.now) c.args.log.now c.room-room.ensures.sound c.requires

pub returns-in-Ok-clause-rests : goal.returns-in-Ok-clause-rests
returns-in-Ok-clause-rests g c _ =
    closed (g.R.Rack.disk c.args.rack.now) (g.R.Rack.disk c.checkpoint.new.rack) c.args.log.now c.checkpoint.new.self c.anchor.result.now c.room-room.ensures.sound c.requires c.anchor.ensures
    (omega (arith, c.if-anchor.false)) c.checkpoint.ensures.checkpoints c.in-Ok.ensures.done c.in-Ok.ensures.ok

pub returns-in-Ok-clause-home : goal.returns-in-Ok-clause-home
returns-in-Ok-clause-home g c _ =
    closed_home (g.R.Rack.disk c.args.rack.now) (g.R.Rack.disk c.checkpoint.new.rack) c.args.log.now c.checkpoint.new.self c.anchor.result.now c.room-room.ensures.sound c.requires c.anchor.ensures
    (omega (arith, c.if-anchor.false)) c.checkpoint.ensures.checkpoints c.in-Ok.ensures.done

pub returns-in-Ok-clause-any_moment : goal.returns-in-Ok-clause-any_moment
returns-in-Ok-clause-any_moment g c =
    closing (g.R.Rack.disk c.args.rack.now) (g.R.Rack.disk c.checkpoint.new.rack) c.args.log.now c.checkpoint.new.self c.anchor.result.now c.room-room.ensures.sound c.requires c.anchor.ensures
    (omega (arith, c.if-anchor.false)) c.checkpoint.ensures.checkpoints

pub returns-in-Err-clause-any_moment : goal.returns-in-Err-clause-any_moment
returns-in-Err-clause-any_moment g c =
    closing (g.R.Rack.disk c.args.rack.now) (g.R.Rack.disk c.checkpoint.new.rack) c.args.log.now c.checkpoint.new.self c.anchor.result.now c.room-room.ensures.sound c.requires c.anchor.ensures
    (omega (arith, c.if-anchor.false)) c.checkpoint.ensures.checkpoints

pub returns-in-Ok-clause-behind : goal.returns-in-Ok-clause-behind
returns-in-Ok-clause-behind g c _ = c.in-Ok.ensures.ok ∙ ap (λ (a : Anchor). new_log (next_anchor c.args.log.now a)) c.anchor.ensures
