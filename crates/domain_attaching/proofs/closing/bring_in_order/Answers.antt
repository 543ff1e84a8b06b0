use Rattle.std.proofs.Common.{◌∙◌, false, inr}
use Rattle.std.proofs.lemmas.Result.{on_ok_weaker}
use Rattle.domain_attaching.specs.Closing.{IsChosen, IsInOrder, IsInOrderSoFar, IsOnThese}
use Rattle.domain_attaching.proofs.HomeKept.{fault_then, members_still}
use Rattle.domain_attaching.proofs.InOrder.{both_home, both_ok, both_touch, chosen_loggable, if_err, if_ok, in_order, so_far}
use Rattle.domain_attaching.proofs.closing.bring_in_order.Goals as goal

pub bring_and_sync-requires-2-clause-members : goal.bring_and_sync-requires-2-clause-members
bring_and_sync-requires-2-clause-members g c =
    let anchor = c.args.memory.now.frame.anchor in
    members_still (g.R.Rack.disk c.args.rack.now) (g.R.Rack.disk c.bring_and_sync.new.rack) anchor (IsOnThese (IsChosen anchor c.args.tables.now false)) c.bring_and_sync.ensures.touches c.requires.members

pub returns-clause-touches : goal.returns-clause-touches
returns-clause-touches g c =
    both_touch c.args.memory.now c.args.tables.now c.requires.tables (g.R.Rack.disk c.args.rack.now) (g.R.Rack.disk c.bring_and_sync.new.rack) (g.R.Rack.disk c.bring_and_sync-2.new.rack)
    c.bring_and_sync.ensures.touches c.in_ok-bring_and_sync.ensures.home c.in_ok-bring_and_sync.ensures.synced c.bring_and_sync-2.ensures.touches

pub returns-clause-order : goal.returns-clause-order
returns-clause-order g c =
    let old = g.R.Rack.disk c.args.rack.now in
    let mid = g.R.Rack.disk c.bring_and_sync.new.rack in
    let new = g.R.Rack.disk c.bring_and_sync-2.new.rack in
    let memory = c.args.memory.now in
    if_ok c.bring_and_sync-2.result (IsInOrder old new memory)
    (in_order memory c.args.tables.now c.requires.tables old mid new c.bring_and_sync.ensures.touches c.in_ok-bring_and_sync.ensures.home c.in_ok-bring_and_sync.ensures.synced c.bring_and_sync-2.ensures.touches)

pub returns-clause-order_at_fault : goal.returns-clause-order_at_fault
returns-clause-order_at_fault g c =
    let old = g.R.Rack.disk c.args.rack.now in
    let mid = g.R.Rack.disk c.bring_and_sync.new.rack in
    let new = g.R.Rack.disk c.bring_and_sync-2.new.rack in
    let memory = c.args.memory.now in
    if_err c.bring_and_sync-2.result (IsInOrderSoFar old new memory)
    (inr (in_order memory c.args.tables.now c.requires.tables old mid new c.bring_and_sync.ensures.touches c.in_ok-bring_and_sync.ensures.home c.in_ok-bring_and_sync.ensures.synced c.bring_and_sync-2.ensures.touches))

pub returns-clause-home : goal.returns-clause-home
returns-clause-home g c =
    let old = g.R.Rack.disk c.args.rack.now in
    let mid = g.R.Rack.disk c.bring_and_sync.new.rack in
    let new = g.R.Rack.disk c.bring_and_sync-2.new.rack in
    both_ok c.bring_and_sync-2.result (λ stay others told.
    both_home c.args.memory.now c.args.tables.now c.requires.tables old mid new c.bring_and_sync.ensures.touches c.in_ok-bring_and_sync.ensures.home c.in_ok-bring_and_sync.ensures.synced c.bring_and_sync-2.ensures.touches told stay others)
    c.bring_and_sync-2.ensures.stays c.bring_and_sync-2.ensures.home

pub returns-clause-synced : goal.returns-clause-synced
returns-clause-synced g c = on_ok_weaker c.bring_and_sync-2.result (λ synced told. synced (c.bring_and_sync.ensures.touches.told ∙ told)) c.bring_and_sync-2.ensures.synced

pub returns-clause-fault : goal.returns-clause-fault
returns-clause-fault g c =
    fault_then (g.R.Rack.disk c.args.rack.now) (g.R.Rack.disk c.bring_and_sync.new.rack) (g.R.Rack.disk c.bring_and_sync-2.new.rack) c.bring_and_sync-2.result c.in_ok-bring_and_sync.ensures.fault c.bring_and_sync-2.ensures.fault

pub returns-in_err-bring_and_sync-clause-touches : goal.returns-in_err-bring_and_sync-clause-touches
returns-in_err-bring_and_sync-clause-touches g c = chosen_loggable (g.R.Rack.disk c.args.rack.now) (g.R.Rack.disk c.bring_and_sync.new.rack) c.args.memory.now.frame.anchor c.args.tables.now false c.bring_and_sync.ensures.touches

pub returns-in_err-bring_and_sync-clause-order_at_fault : goal.returns-in_err-bring_and_sync-clause-order_at_fault
returns-in_err-bring_and_sync-clause-order_at_fault g c =
    let old = g.R.Rack.disk c.args.rack.now in
    let new = g.R.Rack.disk c.bring_and_sync.new.rack in
    let memory = c.args.memory.now in
    if_err c.from_residual.result (IsInOrderSoFar old new memory) (so_far memory c.args.tables.now c.requires.tables old new c.bring_and_sync.ensures.touches)
