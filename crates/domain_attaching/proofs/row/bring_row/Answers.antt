use Rattle.std.proofs.Common.{◌∙◌}
use Rattle.std.proofs.lemmas.Result.{on_ok_weaker}
use Rattle.attached_domain.proofs.OfVolumeDisk.Laws.{touches-then}
use Rattle.domain_attaching.specs.Closing.{IsOnRow}
use Rattle.domain_attaching.proofs.HomeKept.{fault_then, none_wider}
use Rattle.domain_attaching.proofs.row.bring_row.Goals as goal

pub returns-in-Ok-clause-touches : goal.returns-in-Ok-clause-touches
returns-in-Ok-clause-touches g c =
    let old = g.R.Rack.disk c.args.rack.now in
    let mid = g.R.Rack.disk c.read_blocks.new.rack in
    let new = g.R.Rack.disk c.write_changed.new.rack in
    let row = IsOnRow c.args.vol c.args.first c.args.count in
    touches-then old mid new row (none_wider old mid row c.read_blocks.ensures.reads.touches) c.write_changed.ensures.touches

pub returns-in-Ok-clause-fault : goal.returns-in-Ok-clause-fault
returns-in-Ok-clause-fault g c =
    fault_then (g.R.Rack.disk c.args.rack.now) (g.R.Rack.disk c.read_blocks.new.rack) (g.R.Rack.disk c.write_changed.new.rack) c.write_changed.result c.read_blocks.ensures.reads.write_faults c.write_changed.ensures.fault

pub returns-in-Err-clause-touches : goal.returns-in-Err-clause-touches
returns-in-Err-clause-touches g c =
    let old = g.R.Rack.disk c.args.rack.now in
    let mid = g.R.Rack.disk c.read_blocks.new.rack in
    let new = g.R.Rack.disk c.write_all.new.rack in
    let row = IsOnRow c.args.vol c.args.first c.args.count in
    touches-then old mid new row (none_wider old mid row c.read_blocks.ensures.reads.touches) c.write_all.ensures.touches

pub returns-in-Err-clause-there : goal.returns-in-Err-clause-there
returns-in-Err-clause-there g c =
    on_ok_weaker c.write_all.result (λ there told. there (c.read_blocks.ensures.reads.touches.told ∙ told)) c.write_all.ensures.there

pub returns-in-Err-clause-fault : goal.returns-in-Err-clause-fault
returns-in-Err-clause-fault g c =
    fault_then (g.R.Rack.disk c.args.rack.now) (g.R.Rack.disk c.read_blocks.new.rack) (g.R.Rack.disk c.write_all.new.rack) c.write_all.result c.read_blocks.ensures.reads.write_faults c.write_all.ensures.fault
