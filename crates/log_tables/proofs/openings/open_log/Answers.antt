use Rattle.std.proofs.Common.{◌∙◌, ap}
use Rattle.log_recovery.specs.disk_label.declared.anchor.Anchor.{Anchor}
use Rattle.file_pages.specs.meta_log.Log.{new_log}
use Rattle.log_tables.proofs.AtRest.{opened, read_still, readied_still, settled_home, settled_still, still_counts}
use Rattle.log_tables.proofs.openings.open_log.Goals as goal

pub settle-requires-clause-counts : goal.settle-requires-clause-counts
settle-requires-clause-counts g c =
    let slot_is = ap (λ (a : Anchor). a.slot) c.settled_anchor-next.ensures in
    still_counts (g.R.Rack.disk c.args.rack.now) (g.R.Rack.disk c.recover.new.rack) c.in-Ok.redone c.in-Ok.ensures.sound c.in-Ok.ensures.reads c.requires c.in-Ok.ensures.recovered (g.R.Rack.disk c.ready_slot.new.rack) c.in-Some.vol c.settled_anchor-next.result.slot
    c.in-Some.ensures.value slot_is c.ready_slot.ensures.readies c.in-Ok-ready_slot.ensures.ready c.in-Ok-ready_slot.ensures.synced (g.met.R.Rack.holds_bytes c.ready_slot.new.rack)

pub returns-in-Err-clause-any_moment : goal.returns-in-Err-clause-any_moment
returns-in-Err-clause-any_moment g c = read_still (g.R.Rack.disk c.args.rack.now) (g.R.Rack.disk c.recover.new.rack) c.requires c.recover.ensures.reads

pub returns-then-not-has_numbers_left-clause-any_moment : goal.returns-then-not-has_numbers_left-clause-any_moment
returns-then-not-has_numbers_left-clause-any_moment g c = read_still (g.R.Rack.disk c.args.rack.now) (g.R.Rack.disk c.recover.new.rack) c.requires c.recover.ensures.reads

pub returns-in-Err-ready_slot-clause-any_moment : goal.returns-in-Err-ready_slot-clause-any_moment
returns-in-Err-ready_slot-clause-any_moment g c =
    let slot_is = ap (λ (a : Anchor). a.slot) c.settled_anchor-next.ensures in
    readied_still (g.R.Rack.disk c.args.rack.now) (g.R.Rack.disk c.recover.new.rack) c.in-Ok.redone c.in-Ok.ensures.sound c.in-Ok.ensures.reads c.requires c.in-Ok.ensures.recovered (g.R.Rack.disk c.ready_slot.new.rack) c.in-Some.vol c.settled_anchor-next.result.slot
    c.in-Some.ensures.value slot_is c.ready_slot.ensures.readies

pub returns-in-Err-settle-clause-any_moment : goal.returns-in-Err-settle-clause-any_moment
returns-in-Err-settle-clause-any_moment g c =
    let slot_is = ap (λ (a : Anchor). a.slot) c.settled_anchor-next.ensures in
    settled_still (g.R.Rack.disk c.args.rack.now) (g.R.Rack.disk c.recover.new.rack) c.in-Ok.redone c.in-Ok.ensures.sound c.in-Ok.ensures.reads c.requires c.in-Ok.ensures.recovered (g.R.Rack.disk c.ready_slot.new.rack) c.in-Some.vol c.settled_anchor-next.result.slot
    c.in-Some.ensures.value slot_is c.ready_slot.ensures.readies c.in-Ok-ready_slot.ensures.ready c.in-Ok-ready_slot.ensures.synced (g.R.Rack.disk c.settle.new.rack) c.settle.ensures.brings c.settle.ensures.readable

pub returns-clause-any_moment : goal.returns-clause-any_moment
returns-clause-any_moment g c =
    let slot_is = ap (λ (a : Anchor). a.slot) c.settled_anchor-next.ensures in
    settled_still (g.R.Rack.disk c.args.rack.now) (g.R.Rack.disk c.recover.new.rack) c.in-Ok.redone c.in-Ok.ensures.sound c.in-Ok.ensures.reads c.requires c.in-Ok.ensures.recovered (g.R.Rack.disk c.ready_slot.new.rack) c.in-Some.vol c.settled_anchor-next.result.slot
    c.in-Some.ensures.value slot_is c.ready_slot.ensures.readies c.in-Ok-ready_slot.ensures.ready c.in-Ok-ready_slot.ensures.synced (g.R.Rack.disk c.settle.new.rack) c.settle.ensures.brings c.settle.ensures.readable

pub returns-in-Ok-new-clause-any_moment : goal.returns-in-Ok-new-clause-any_moment
returns-in-Ok-new-clause-any_moment g c =
    let slot_is = ap (λ (a : Anchor). a.slot) c.settled_anchor-next.ensures in
    settled_still (g.R.Rack.disk c.args.rack.now) (g.R.Rack.disk c.recover.new.rack) c.in-Ok.redone c.in-Ok.ensures.sound c.in-Ok.ensures.reads c.requires c.in-Ok.ensures.recovered (g.R.Rack.disk c.ready_slot.new.rack) c.in-Some.vol c.settled_anchor-next.result.slot
    c.in-Some.ensures.value slot_is c.ready_slot.ensures.readies c.in-Ok-ready_slot.ensures.ready c.in-Ok-ready_slot.ensures.synced (g.R.Rack.disk c.settle.new.rack) c.settle.ensures.brings c.settle.ensures.readable

pub returns-in-Ok-new-clause-home : goal.returns-in-Ok-new-clause-home
returns-in-Ok-new-clause-home g c =
    let slot_is = ap (λ (a : Anchor). a.slot) c.settled_anchor-next.ensures in
    settled_home (g.R.Rack.disk c.args.rack.now) (g.R.Rack.disk c.recover.new.rack) c.in-Ok.redone c.in-Ok.ensures.sound c.in-Ok.ensures.reads c.requires c.in-Ok.ensures.recovered (g.R.Rack.disk c.ready_slot.new.rack) c.in-Some.vol c.settled_anchor-next.result.slot
    c.in-Some.ensures.value slot_is c.ready_slot.ensures.readies c.in-Ok-ready_slot.ensures.ready c.in-Ok-ready_slot.ensures.synced (g.R.Rack.disk c.settle.new.rack) c.settle.ensures.brings c.settle.ensures.readable c.in-Ok-settle.ensures.done

pub returns-in-Ok-new-clause-rests : goal.returns-in-Ok-new-clause-rests
returns-in-Ok-new-clause-rests g c =
    let slot_is = ap (λ (a : Anchor). a.slot) c.settled_anchor-next.ensures in
    opened (g.R.Rack.disk c.args.rack.now) (g.R.Rack.disk c.recover.new.rack) c.in-Ok.redone c.in-Ok.ensures.sound c.in-Ok.ensures.reads c.requires c.in-Ok.ensures.recovered (g.R.Rack.disk c.ready_slot.new.rack) c.in-Some.vol c.settled_anchor-next.result.slot
    c.in-Some.ensures.value slot_is c.ready_slot.ensures.readies c.in-Ok-ready_slot.ensures.ready c.in-Ok-ready_slot.ensures.synced (g.R.Rack.disk c.settle.new.rack) c.in-Ok-new.log c.settled_anchor-next.result (c.has_numbers_left.ensures.0 c.if-not-has_numbers_left.false) c.settle.ensures.brings c.in-Ok-settle.ensures.done c.settle.ensures.readable c.settled_anchor-next.ensures c.in-Ok-new.ensures

pub returns-in-Ok-new-clause-settled : goal.returns-in-Ok-new-clause-settled
returns-in-Ok-new-clause-settled g c told =
    let was = c.in-Ok.ensures.recovered told in
    (was.0, c.in-Ok.redone, was.1, c.in-Ok-new.ensures ∙ ap new_log c.settled_anchor-next.ensures)
