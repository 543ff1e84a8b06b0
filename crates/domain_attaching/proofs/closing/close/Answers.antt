use Rattle.std.proofs.Common.{◌≡◌, ◌∙◌, sym, ap, subst}
use Rattle.attached_domain.specs.volume_disk.Disk.{Disk, raised_at}
use Rattle.attached_domain.specs.log_ring.Homes.{HasMembers}
use Rattle.attached_domain.specs.domain_memory.declared.memory.DomainMemory.{DomainMemory}
use Rattle.domain_attaching.specs.Closing.{HasRoomFor}
use Rattle.domain_attaching.proofs.AtClose.{asks_members, closed_then, means_then}
use Rattle.domain_attaching.proofs.InOrder.{order_there, so_far_there}
use Rattle.domain_attaching.proofs.closing.close.Goals as goal

pub write_back-requires : goal.write_back-requires
write_back-requires g c = record {
  members = subst (λ (d : Disk). HasMembers d.sizes c.apart-memory.result.0.frame.anchor) (sym (ap g.R.Rack.disk c.into_parts-rack.ensures.rack)) (asks_members (g.R.Rack.disk c.apart-memory.result.1.rack) c.apart-memory.result.0.frame.anchor c.apart-memory.ensures.rest);
  room = subst (λ (m : DomainMemory). HasRoomFor m.frame.anchor c.args.room) (sym c.apart-memory.ensures.memory) c.requires.room;
}

pub returns-in-Ok-clause-closed : goal.returns-in-Ok-clause-closed
returns-in-Ok-clause-closed g c =
    let disk = g.R.Rack.disk in
    closed_then (disk c.args.domain.history.rack) (disk c.into_parts-rack.result.0) (disk c.write_back.new.rack) c.args.domain.memory c.apart-memory.result.0 (ap disk (c.into_parts-rack.ensures.rack ∙ ap (λ h. h.rack) c.apart-memory.ensures.history)) c.apart-memory.ensures.memory
    c.args.domain.rest c.requires.settled c.write_back.ensures.touches c.in-Ok.ensures.home c.in-Ok.ensures.synced

pub returns-in-Ok-clause-means : goal.returns-in-Ok-clause-means
returns-in-Ok-clause-means g c =
    let disk = g.R.Rack.disk in
    means_then (disk c.args.domain.history.rack) (disk c.into_parts-rack.result.0) (disk c.write_back.new.rack) c.args.domain.memory c.apart-memory.result.0 (ap disk (c.into_parts-rack.ensures.rack ∙ ap (λ h. h.rack) c.apart-memory.ensures.history)) c.apart-memory.ensures.memory
    c.args.domain.rest c.requires.settled c.write_back.ensures.touches c.in-Ok.ensures.home c.in-Ok.ensures.synced

pub returns-in-Ok-clause-order : goal.returns-in-Ok-clause-order
returns-in-Ok-clause-order g c =
    let disk = g.R.Rack.disk in
    order_there (disk c.args.domain.history.rack) (disk c.into_parts-rack.result.0) (disk c.write_back.new.rack) c.args.domain.memory c.apart-memory.result.0 (ap disk (c.into_parts-rack.ensures.rack ∙ ap (λ h. h.rack) c.apart-memory.ensures.history)) c.apart-memory.ensures.memory c.in-Ok.ensures.order

pub returns-clause-order_at_fault : goal.returns-clause-order_at_fault
returns-clause-order_at_fault g c =
    let disk = g.R.Rack.disk in
    so_far_there (disk c.args.domain.history.rack) (disk c.into_parts-rack.result.0) (disk c.write_back.new.rack) c.args.domain.memory c.apart-memory.result.0 (ap disk (c.into_parts-rack.ensures.rack ∙ ap (λ h. h.rack) c.apart-memory.ensures.history)) c.apart-memory.ensures.memory c.in-Err.ensures.order_at_fault

pub returns-in-Ok-clause-passed : goal.returns-in-Ok-clause-passed
returns-in-Ok-clause-passed g c =
    let disk = g.R.Rack.disk in
    subst (λ (d : Disk). (disk c.write_back.new.rack).write_faults ≡ d.write_faults) (ap disk (c.into_parts-rack.ensures.rack ∙ ap (λ h. h.rack) c.apart-memory.ensures.history)) c.in-Ok.ensures.fault

pub returns-clause-cause : goal.returns-clause-cause
returns-clause-cause g c =
    let disk = g.R.Rack.disk in
    subst (λ (d : Disk). (disk c.write_back.new.rack).write_faults ≡ raised_at d.write_faults c.in-Err.vol) (ap disk (c.into_parts-rack.ensures.rack ∙ ap (λ h. h.rack) c.apart-memory.ensures.history)) c.in-Err.ensures.fault
