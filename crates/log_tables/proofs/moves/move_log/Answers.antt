use Rattle.std.proofs.Common.{◌*◌, arith, subst, sym}
use Rattle.file_pages.specs.meta_log.Log.{Log}
use Rattle.log_tables.specs.Opened.{IsAtRest}
use Rattle.log_tables.proofs.Moving.{counts-4, read-1, read-2, read-3, read-4, read-5, rests_there, touches-1, touches-2, touches-3, touches-4, touches-5}
use Rattle.log_tables.proofs.moves.move_log.Goals as goal

pub returns-in-Err-clause-touches : goal.returns-in-Err-clause-touches
returns-in-Err-clause-touches g c =
    touches-1 (g.R.Rack.disk c.args.rack.now) c.args.log.now c.args.given.now c.requires.rests c.requires.may.other c.requires.may.ring (g.R.Rack.disk c.sync_volumes.new.rack) c.sync_volumes.ensures.writes

pub returns-in-Err-clause-any_moment : goal.returns-in-Err-clause-any_moment
returns-in-Err-clause-any_moment g c =
    read-1 (g.R.Rack.disk c.args.rack.now) c.args.log.now c.args.given.now c.requires.rests c.requires.may.other c.requires.may.ring (g.R.Rack.disk c.sync_volumes.new.rack) c.sync_volumes.ensures.writes

pub returns-in-Err-ready_slot-clause-touches : goal.returns-in-Err-ready_slot-clause-touches
returns-in-Err-ready_slot-clause-touches g c =
    touches-2 (g.R.Rack.disk c.args.rack.now) c.args.log.now c.args.given.now c.requires.rests c.requires.may.other c.requires.may.ring (g.R.Rack.disk c.sync_volumes.new.rack) c.sync_volumes.ensures.writes
    c.in-Some.vol c.in-Some.ensures.value c.in-Ok.ensures.settled (g.R.Rack.disk c.ready_slot.new.rack) c.ready_slot.ensures.readies

pub returns-in-Err-ready_slot-clause-any_moment : goal.returns-in-Err-ready_slot-clause-any_moment
returns-in-Err-ready_slot-clause-any_moment g c =
    read-2 (g.R.Rack.disk c.args.rack.now) c.args.log.now c.args.given.now c.requires.rests c.requires.may.other c.requires.may.ring (g.R.Rack.disk c.sync_volumes.new.rack) c.sync_volumes.ensures.writes
    c.in-Some.vol c.in-Some.ensures.value c.in-Ok.ensures.settled (g.R.Rack.disk c.ready_slot.new.rack) c.ready_slot.ensures.readies

pub returns-in-Err-ready_slot-2-clause-touches : goal.returns-in-Err-ready_slot-2-clause-touches
returns-in-Err-ready_slot-2-clause-touches g c =
    touches-3 (g.R.Rack.disk c.args.rack.now) c.args.log.now c.args.given.now c.requires.rests c.requires.may.other c.requires.may.ring (g.R.Rack.disk c.sync_volumes.new.rack) c.sync_volumes.ensures.writes
    c.in-Some.vol c.in-Some.ensures.value c.in-Ok.ensures.settled (g.R.Rack.disk c.ready_slot.new.rack) c.ready_slot.ensures.readies c.in-Ok-ready_slot.ensures.ready c.in-Ok-ready_slot.ensures.synced (g.R.Rack.disk c.ready_slot-2.new.rack) c.ready_slot-2.ensures.readies

pub returns-in-Err-ready_slot-2-clause-any_moment : goal.returns-in-Err-ready_slot-2-clause-any_moment
returns-in-Err-ready_slot-2-clause-any_moment g c =
    read-3 (g.R.Rack.disk c.args.rack.now) c.args.log.now c.args.given.now c.requires.rests c.requires.may.other c.requires.may.ring (g.R.Rack.disk c.sync_volumes.new.rack) c.sync_volumes.ensures.writes
    c.in-Some.vol c.in-Some.ensures.value c.in-Ok.ensures.settled (g.R.Rack.disk c.ready_slot.new.rack) c.ready_slot.ensures.readies c.in-Ok-ready_slot.ensures.ready c.in-Ok-ready_slot.ensures.synced (g.R.Rack.disk c.ready_slot-2.new.rack) c.ready_slot-2.ensures.readies

pub returns-in-Err-close_gate-clause-touches : goal.returns-in-Err-close_gate-clause-touches
returns-in-Err-close_gate-clause-touches g c =
    touches-4 (g.R.Rack.disk c.args.rack.now) c.args.log.now c.args.given.now c.requires.rests c.requires.may.other c.requires.may.ring (g.R.Rack.disk c.sync_volumes.new.rack) c.sync_volumes.ensures.writes
    c.in-Some.vol c.in-Some.ensures.value c.in-Ok.ensures.settled (g.R.Rack.disk c.ready_slot.new.rack) c.ready_slot.ensures.readies c.in-Ok-ready_slot.ensures.ready c.in-Ok-ready_slot.ensures.synced (g.R.Rack.disk c.ready_slot-2.new.rack) c.ready_slot-2.ensures.readies
    c.in-Ok-ready_slot-2.ensures.ready (512 * (16 * c.args.given.now.log_page)) (omega arith) (g.R.Rack.disk c.close_gate.new.rack) c.close_gate.ensures.writes

pub returns-in-Err-close_gate-clause-any_moment : goal.returns-in-Err-close_gate-clause-any_moment
returns-in-Err-close_gate-clause-any_moment g c =
    read-4 (g.R.Rack.disk c.args.rack.now) c.args.log.now c.args.given.now c.requires.rests c.requires.may.other c.requires.may.ring (g.R.Rack.disk c.sync_volumes.new.rack) c.sync_volumes.ensures.writes
    c.in-Some.vol c.in-Some.ensures.value c.in-Ok.ensures.settled (g.R.Rack.disk c.ready_slot.new.rack) c.ready_slot.ensures.readies c.in-Ok-ready_slot.ensures.ready c.in-Ok-ready_slot.ensures.synced (g.R.Rack.disk c.ready_slot-2.new.rack) c.ready_slot-2.ensures.readies
    c.in-Ok-ready_slot-2.ensures.ready (512 * (16 * c.args.given.now.log_page)) (omega arith) (g.R.Rack.disk c.close_gate.new.rack) c.close_gate.ensures.writes

pub returns-in-Ok-checkpoint-clause-touches : goal.returns-in-Ok-checkpoint-clause-touches
returns-in-Ok-checkpoint-clause-touches g c =
    touches-5 (g.R.Rack.disk c.args.rack.now) c.args.log.now c.args.given.now c.requires.rests c.requires.may.other c.requires.may.ring (g.R.Rack.disk c.sync_volumes.new.rack) c.sync_volumes.ensures.writes
    c.in-Some.vol c.in-Some.ensures.value c.in-Ok.ensures.settled (g.R.Rack.disk c.ready_slot.new.rack) c.ready_slot.ensures.readies c.in-Ok-ready_slot.ensures.ready c.in-Ok-ready_slot.ensures.synced (g.R.Rack.disk c.ready_slot-2.new.rack) c.ready_slot-2.ensures.readies
    c.in-Ok-ready_slot-2.ensures.ready (512 * (16 * c.args.given.now.log_page)) (omega arith) (g.R.Rack.disk c.close_gate.new.rack) c.close_gate.ensures.writes c.room-room.ensures.sound c.requires.home c.requires.may.whole c.requires.may.pages c.requires.may.members c.requires.may.number c.in-Ok-close_gate.ensures.settled (g.R.Rack.disk c.checkpoint.new.rack) c.checkpoint.ensures.checkpoints

pub returns-in-Ok-checkpoint-clause-any_moment : goal.returns-in-Ok-checkpoint-clause-any_moment
returns-in-Ok-checkpoint-clause-any_moment g c =
    read-5 (g.R.Rack.disk c.args.rack.now) c.args.log.now c.args.given.now c.requires.rests c.requires.may.other c.requires.may.ring (g.R.Rack.disk c.sync_volumes.new.rack) c.sync_volumes.ensures.writes
    c.in-Some.vol c.in-Some.ensures.value c.in-Ok.ensures.settled (g.R.Rack.disk c.ready_slot.new.rack) c.ready_slot.ensures.readies c.in-Ok-ready_slot.ensures.ready c.in-Ok-ready_slot.ensures.synced (g.R.Rack.disk c.ready_slot-2.new.rack) c.ready_slot-2.ensures.readies
    c.in-Ok-ready_slot-2.ensures.ready (512 * (16 * c.args.given.now.log_page)) (omega arith) (g.R.Rack.disk c.close_gate.new.rack) c.close_gate.ensures.writes c.room-room.ensures.sound c.requires.home c.requires.may.whole c.requires.may.pages c.requires.may.members c.requires.may.number c.in-Ok-close_gate.ensures.settled (g.R.Rack.disk c.checkpoint.new.rack) c.checkpoint.ensures.checkpoints

pub returns-in-Err-checkpoint-clause-touches : goal.returns-in-Err-checkpoint-clause-touches
returns-in-Err-checkpoint-clause-touches g c =
    touches-5 (g.R.Rack.disk c.args.rack.now) c.args.log.now c.args.given.now c.requires.rests c.requires.may.other c.requires.may.ring (g.R.Rack.disk c.sync_volumes.new.rack) c.sync_volumes.ensures.writes
    c.in-Some.vol c.in-Some.ensures.value c.in-Ok.ensures.settled (g.R.Rack.disk c.ready_slot.new.rack) c.ready_slot.ensures.readies c.in-Ok-ready_slot.ensures.ready c.in-Ok-ready_slot.ensures.synced (g.R.Rack.disk c.ready_slot-2.new.rack) c.ready_slot-2.ensures.readies
    c.in-Ok-ready_slot-2.ensures.ready (512 * (16 * c.args.given.now.log_page)) (omega arith) (g.R.Rack.disk c.close_gate.new.rack) c.close_gate.ensures.writes c.room-room.ensures.sound c.requires.home c.requires.may.whole c.requires.may.pages c.requires.may.members c.requires.may.number c.in-Ok-close_gate.ensures.settled (g.R.Rack.disk c.checkpoint.new.rack) c.checkpoint.ensures.checkpoints

pub returns-in-Err-checkpoint-clause-any_moment : goal.returns-in-Err-checkpoint-clause-any_moment
returns-in-Err-checkpoint-clause-any_moment g c =
    read-5 (g.R.Rack.disk c.args.rack.now) c.args.log.now c.args.given.now c.requires.rests c.requires.may.other c.requires.may.ring (g.R.Rack.disk c.sync_volumes.new.rack) c.sync_volumes.ensures.writes
    c.in-Some.vol c.in-Some.ensures.value c.in-Ok.ensures.settled (g.R.Rack.disk c.ready_slot.new.rack) c.ready_slot.ensures.readies c.in-Ok-ready_slot.ensures.ready c.in-Ok-ready_slot.ensures.synced (g.R.Rack.disk c.ready_slot-2.new.rack) c.ready_slot-2.ensures.readies
    c.in-Ok-ready_slot-2.ensures.ready (512 * (16 * c.args.given.now.log_page)) (omega arith) (g.R.Rack.disk c.close_gate.new.rack) c.close_gate.ensures.writes c.room-room.ensures.sound c.requires.home c.requires.may.whole c.requires.may.pages c.requires.may.members c.requires.may.number c.in-Ok-close_gate.ensures.settled (g.R.Rack.disk c.checkpoint.new.rack) c.checkpoint.ensures.checkpoints

pub checkpoint-requires-clause-is : goal.checkpoint-requires-clause-is
checkpoint-requires-clause-is g c =
    counts-4 (g.R.Rack.disk c.args.rack.now) c.args.log.now c.args.given.now c.requires.rests c.requires.may.other c.requires.may.ring (g.R.Rack.disk c.sync_volumes.new.rack) c.sync_volumes.ensures.writes
    c.in-Some.vol c.in-Some.ensures.value c.in-Ok.ensures.settled (g.R.Rack.disk c.ready_slot.new.rack) c.ready_slot.ensures.readies c.in-Ok-ready_slot.ensures.ready c.in-Ok-ready_slot.ensures.synced (g.R.Rack.disk c.ready_slot-2.new.rack) c.ready_slot-2.ensures.readies
    c.in-Ok-ready_slot-2.ensures.ready (512 * (16 * c.args.given.now.log_page)) (omega arith) (g.R.Rack.disk c.close_gate.new.rack) c.close_gate.ensures.writes (g.met.R.Rack.holds_bytes c.close_gate.new.rack)

pub returns-in-Ok-checkpoint-clause-rests : goal.returns-in-Ok-checkpoint-clause-rests
returns-in-Ok-checkpoint-clause-rests g c =
    λ good. subst (λ (l : Log). IsAtRest (g.R.Rack.disk c.checkpoint.new.rack) l) (sym c.in-Ok-checkpoint.ensures.ok) (rests_there (g.R.Rack.disk c.args.rack.now) c.args.log.now c.args.given.now c.requires.rests c.requires.may.other c.requires.may.ring (g.R.Rack.disk c.sync_volumes.new.rack) c.sync_volumes.ensures.writes
    c.in-Some.vol c.in-Some.ensures.value c.in-Ok.ensures.settled (g.R.Rack.disk c.ready_slot.new.rack) c.ready_slot.ensures.readies c.in-Ok-ready_slot.ensures.ready c.in-Ok-ready_slot.ensures.synced (g.R.Rack.disk c.ready_slot-2.new.rack) c.ready_slot-2.ensures.readies
    c.in-Ok-ready_slot-2.ensures.ready (512 * (16 * c.args.given.now.log_page)) (omega arith) (g.R.Rack.disk c.close_gate.new.rack) c.close_gate.ensures.writes c.room-room.ensures.sound c.requires.home c.requires.may.whole c.requires.may.pages c.requires.may.members c.requires.may.number c.in-Ok-close_gate.ensures.settled (g.R.Rack.disk c.checkpoint.new.rack) c.checkpoint.ensures.checkpoints c.in-Ok-checkpoint.ensures.done good)
