use Rattle.std.proofs.Common.{◌∙◌}
use Rattle.std.proofs.lemmas.Result.{on_ok_weaker}
use Rattle.attached_domain.specs.volume_disk.Disk.{Tells}
use Rattle.attached_domain.proofs.OfVolumeDisk.Laws.{touches-then}
use Rattle.attached_domain.specs.staged_pages.Store.{pages_of}
use Rattle.domain_attaching.specs.Closing.{AreTheseHome, IsChosen, IsOnThese, StayHome}
use Rattle.domain_attaching.proofs.HomeKept.{fault_then, none_wider, stay_then, stay_untouched}
use Rattle.domain_attaching.proofs.InOrder.{if_ok}
use Rattle.domain_attaching.proofs.closing.bring_and_sync.Goals as goal

pub returns-clause-touches : goal.returns-clause-touches
returns-clause-touches g c =
    let old = g.R.Rack.disk c.args.rack.now in
    let mid = g.R.Rack.disk c.bring_pages_home.new.rack in
    let new = g.R.Rack.disk c.sync_volumes.new.rack in
    let places = IsOnThese (IsChosen c.args.memory.now.frame.anchor c.args.tables.now c.args.of_tables) in
    touches-then old mid new places c.bring_pages_home.ensures.touches (none_wider mid new places c.sync_volumes.ensures.writes.touches)

pub returns-clause-stays : goal.returns-clause-stays
returns-clause-stays g c =
    let old = g.R.Rack.disk c.args.rack.now in
    let mid = g.R.Rack.disk c.bring_pages_home.new.rack in
    let new = g.R.Rack.disk c.sync_volumes.new.rack in
    let anchor = c.args.memory.now.frame.anchor in
    let pages = pages_of c.args.memory.now.pages in
    if_ok c.sync_volumes.result (StayHome pages anchor old new)
    (stay_then pages anchor old mid new (IsOnThese (IsChosen anchor c.args.tables.now c.args.of_tables)) c.bring_pages_home.ensures.touches c.in_ok-bring_pages_home.ensures.stays
    (stay_untouched pages anchor mid new c.sync_volumes.ensures.writes.touches))

pub returns-clause-home : goal.returns-clause-home
returns-clause-home g c =
    let old = g.R.Rack.disk c.args.rack.now in
    let mid = g.R.Rack.disk c.bring_pages_home.new.rack in
    let new = g.R.Rack.disk c.sync_volumes.new.rack in
    let anchor = c.args.memory.now.frame.anchor in
    let pages = pages_of c.args.memory.now.pages in
    if_ok c.sync_volumes.result (Tells old → AreTheseHome (IsChosen anchor c.args.tables.now c.args.of_tables) pages anchor new.now.contents)
    (λ told home is. stay_untouched pages anchor mid new c.sync_volumes.ensures.writes.touches (c.bring_pages_home.ensures.touches.told ∙ told) home (c.in_ok-bring_pages_home.ensures.home told home is))

pub returns-clause-synced : goal.returns-clause-synced
returns-clause-synced g c = on_ok_weaker c.sync_volumes.result (λ settled told. settled (c.bring_pages_home.ensures.touches.told ∙ told)) c.sync_volumes.ensures.settled

pub returns-clause-fault : goal.returns-clause-fault
returns-clause-fault g c =
    fault_then (g.R.Rack.disk c.args.rack.now) (g.R.Rack.disk c.bring_pages_home.new.rack) (g.R.Rack.disk c.sync_volumes.new.rack) c.sync_volumes.result c.in_ok-bring_pages_home.ensures.fault c.sync_volumes.ensures.fault
