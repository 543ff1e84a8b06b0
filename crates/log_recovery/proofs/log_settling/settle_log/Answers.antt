use Rattle.std.proofs.Common.{◌∙◌, ap}
use Rattle.log_ring.proofs.OfVolumeDisk.Laws.{only_reads-none, touches-none}
use Rattle.log_ring.specs.disk_label.Slot.{IsBody}
use Rattle.log_ring.specs.disk_label.declared.anchor.Anchor.{Anchor}
use Rattle.log_ring.specs.Settling.{IsAtHomesOrSlot}
use Rattle.log_recovery.specs.Settled.{settled_anchor}
use Rattle.log_recovery.specs.Settling.{Anywhere}
use Rattle.log_recovery.proofs.Settled.{all_synced, anywhere, anywhere_then, next_slot_ready, no_group, read_still, readied_still, settled_home, settled_still, still_counts}
use Rattle.log_recovery.proofs.log_settling.settle_log.Goals as goal

pub returns-then-not-has_numbers_left-clause-any_moment : goal.returns-then-not-has_numbers_left-clause-any_moment
returns-then-not-has_numbers_left-clause-any_moment g c = let disk = g.R.Rack.disk c.args.rack.now in read_still disk disk c.requires.pending (only_reads-none disk)

pub settle-requires-clause-counts : goal.settle-requires-clause-counts
settle-requires-clause-counts g c =
    let disk = g.R.Rack.disk c.args.rack.now in
    let ready = g.R.Rack.disk c.ready_slot.new.rack in
    let slot_is = ap (λ (a : Anchor). a.slot) c.settled_anchor-next.ensures in
    still_counts disk disk c.args.redone.now c.requires.sound (only_reads-none disk) c.requires.pending c.requires.recovered ready c.in-Some.vol c.settled_anchor-next.result.slot c.in-Some.ensures.value slot_is c.ready_slot.ensures.readies c.in-Ok.ensures.ready c.in-Ok.ensures.synced (g.met.R.Rack.holds_bytes c.ready_slot.new.rack)

pub returns-in-Err-clause-any_moment : goal.returns-in-Err-clause-any_moment
returns-in-Err-clause-any_moment g c =
    let disk = g.R.Rack.disk c.args.rack.now in
    let ready = g.R.Rack.disk c.ready_slot.new.rack in
    let slot_is = ap (λ (a : Anchor). a.slot) c.settled_anchor-next.ensures in
    readied_still disk disk c.args.redone.now c.requires.sound (only_reads-none disk) c.requires.pending c.requires.recovered ready c.in-Some.vol c.settled_anchor-next.result.slot c.in-Some.ensures.value slot_is c.ready_slot.ensures.readies

pub returns-in-Err-settle-clause-any_moment : goal.returns-in-Err-settle-clause-any_moment
returns-in-Err-settle-clause-any_moment g c =
    let disk = g.R.Rack.disk c.args.rack.now in
    let ready = g.R.Rack.disk c.ready_slot.new.rack in
    let slot_is = ap (λ (a : Anchor). a.slot) c.settled_anchor-next.ensures in
    settled_still disk disk c.args.redone.now c.requires.sound (only_reads-none disk) c.requires.pending c.requires.recovered ready c.in-Some.vol c.settled_anchor-next.result.slot c.in-Some.ensures.value slot_is c.ready_slot.ensures.readies c.in-Ok.ensures.ready c.in-Ok.ensures.synced (g.R.Rack.disk c.settle.new.rack) c.settle.ensures.brings c.settle.ensures.readable

pub returns-in-Ok-settle-clause-any_moment : goal.returns-in-Ok-settle-clause-any_moment
returns-in-Ok-settle-clause-any_moment g c =
    let disk = g.R.Rack.disk c.args.rack.now in
    let ready = g.R.Rack.disk c.ready_slot.new.rack in
    let slot_is = ap (λ (a : Anchor). a.slot) c.settled_anchor-next.ensures in
    settled_still disk disk c.args.redone.now c.requires.sound (only_reads-none disk) c.requires.pending c.requires.recovered ready c.in-Some.vol c.settled_anchor-next.result.slot c.in-Some.ensures.value slot_is c.ready_slot.ensures.readies c.in-Ok.ensures.ready c.in-Ok.ensures.synced (g.R.Rack.disk c.settle.new.rack) c.settle.ensures.brings c.settle.ensures.readable

pub returns-in-Ok-settle-clause-home : goal.returns-in-Ok-settle-clause-home
returns-in-Ok-settle-clause-home g c =
    let disk = g.R.Rack.disk c.args.rack.now in
    let ready = g.R.Rack.disk c.ready_slot.new.rack in
    let slot_is = ap (λ (a : Anchor). a.slot) c.settled_anchor-next.ensures in
    settled_home disk disk c.args.redone.now c.requires.sound (only_reads-none disk) c.requires.pending c.requires.recovered ready c.in-Some.vol c.settled_anchor-next.result.slot c.in-Some.ensures.value slot_is c.ready_slot.ensures.readies c.in-Ok.ensures.ready c.in-Ok.ensures.synced (g.R.Rack.disk c.settle.new.rack) c.settle.ensures.brings c.settle.ensures.readable c.in-Ok-settle.ensures.done

pub returns-in-Ok-settle-clause-behind : goal.returns-in-Ok-settle-clause-behind
returns-in-Ok-settle-clause-behind g c =
    let disk = g.R.Rack.disk c.args.rack.now in
    let ready = g.R.Rack.disk c.ready_slot.new.rack in
    let slot_is = ap (λ (a : Anchor). a.slot) c.settled_anchor-next.ensures in
    no_group disk disk c.args.redone.now c.requires.sound (only_reads-none disk) c.requires.pending c.requires.recovered ready c.in-Some.vol c.settled_anchor-next.result.slot c.in-Some.ensures.value slot_is c.ready_slot.ensures.readies c.in-Ok.ensures.ready c.in-Ok.ensures.synced (g.R.Rack.disk c.settle.new.rack) c.settled_anchor-next.result c.settle.ensures.brings c.in-Ok-settle.ensures.done c.settle.ensures.readable c.settled_anchor-next.ensures

pub returns-then-not-has_numbers_left-clause-touches : goal.returns-then-not-has_numbers_left-clause-touches
returns-then-not-has_numbers_left-clause-touches g c = touches-none (g.R.Rack.disk c.args.rack.now) Anywhere

pub returns-in-Err-clause-touches : goal.returns-in-Err-clause-touches
returns-in-Err-clause-touches g c = anywhere (g.R.Rack.disk c.args.rack.now) (g.R.Rack.disk c.ready_slot.new.rack) (IsBody c.in-Some.vol c.settled_anchor-next.result.slot) c.ready_slot.ensures.readies.touches

pub returns-in-Err-settle-clause-touches : goal.returns-in-Err-settle-clause-touches
returns-in-Err-settle-clause-touches g c =
    anywhere_then (g.R.Rack.disk c.args.rack.now) (g.R.Rack.disk c.ready_slot.new.rack) (g.R.Rack.disk c.settle.new.rack) (IsBody c.in-Some.vol c.settled_anchor-next.result.slot) (IsAtHomesOrSlot c.args.redone.now.images (settled_anchor c.args.redone.now))
    c.ready_slot.ensures.readies.touches c.settle.ensures.brings.writes.touches

pub returns-in-Ok-settle-clause-touches : goal.returns-in-Ok-settle-clause-touches
returns-in-Ok-settle-clause-touches g c =
    anywhere_then (g.R.Rack.disk c.args.rack.now) (g.R.Rack.disk c.ready_slot.new.rack) (g.R.Rack.disk c.settle.new.rack) (IsBody c.in-Some.vol c.settled_anchor-next.result.slot) (IsAtHomesOrSlot c.args.redone.now.images (settled_anchor c.args.redone.now))
    c.ready_slot.ensures.readies.touches c.settle.ensures.brings.writes.touches

pub returns-in-Ok-settle-clause-passed : goal.returns-in-Ok-settle-clause-passed
returns-in-Ok-settle-clause-passed g c = (c.settle.ensures.brings.writes.read_faults ∙ c.in-Ok.ensures.passed.0, c.in-Ok-settle.ensures.fault ∙ c.in-Ok.ensures.passed.1)

pub returns-in-Ok-settle-clause-settled : goal.returns-in-Ok-settle-clause-settled
returns-in-Ok-settle-clause-settled g c =
    let disk = g.R.Rack.disk c.args.rack.now in
    let ready = g.R.Rack.disk c.ready_slot.new.rack in
    let slot_is = ap (λ (a : Anchor). a.slot) c.settled_anchor-next.ensures in
    all_synced disk disk c.args.redone.now c.requires.sound (only_reads-none disk) c.requires.pending c.requires.recovered ready c.in-Some.vol c.settled_anchor-next.result.slot c.in-Some.ensures.value slot_is c.ready_slot.ensures.readies c.in-Ok.ensures.ready c.in-Ok.ensures.synced (g.R.Rack.disk c.settle.new.rack) c.settle.ensures.brings c.in-Ok-settle.ensures.done

pub returns-in-Ok-settle-clause-ready : goal.returns-in-Ok-settle-clause-ready
returns-in-Ok-settle-clause-ready g c =
    let disk = g.R.Rack.disk c.args.rack.now in
    let ready = g.R.Rack.disk c.ready_slot.new.rack in
    let slot_is = ap (λ (a : Anchor). a.slot) c.settled_anchor-next.ensures in
    next_slot_ready disk disk c.args.redone.now c.requires.sound (only_reads-none disk) c.requires.pending c.requires.recovered ready c.in-Some.vol c.settled_anchor-next.result.slot c.in-Some.ensures.value slot_is c.ready_slot.ensures.readies c.in-Ok.ensures.ready c.in-Ok.ensures.synced (g.R.Rack.disk c.settle.new.rack) c.settled_anchor-next.result c.in-Ok-settle.ensures.done c.settled_anchor-next.ensures
