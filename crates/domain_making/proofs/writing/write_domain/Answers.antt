use Rattle.std.proofs.Common.{◌∙◌}
use Rattle.domain_making.proofs.First.{over_then}
use Rattle.domain_making.proofs.Finished.{all_on_first, none_first, on_first, since_both}
use Rattle.domain_making.proofs.writing.write_domain.Goals as goal

pub returns-in-Err-clause-touches : goal.returns-in-Err-clause-touches
returns-in-Err-clause-touches g c = on_first (g.R.Rack.disk c.args.rack.now) (g.R.Rack.disk c.prepare.new.rack) 0 16384 c.prepare.ensures.touches

pub returns-in-Err-clause-any_moment : goal.returns-in-Err-clause-any_moment
returns-in-Err-clause-any_moment g c = λ told ready.
    none_first c.args.version c.args.pages (g.R.Rack.disk c.args.rack.now) (g.R.Rack.disk c.prepare.new.rack) (c.prepare.ensures.any_moment told (c.requires.others told) ready)

pub returns-in-Ok-finish-clause-touches : goal.returns-in-Ok-finish-clause-touches
returns-in-Ok-finish-clause-touches g c =
    all_on_first c.args.version c.args.pages (g.R.Rack.disk c.args.rack.now) (g.R.Rack.disk c.prepare.new.rack) (g.R.Rack.disk c.finish.new.rack) c.prepare.ensures.touches c.finish.ensures.writes.touches

pub returns-in-Err-finish-clause-touches : goal.returns-in-Err-finish-clause-touches
returns-in-Err-finish-clause-touches g c =
    all_on_first c.args.version c.args.pages (g.R.Rack.disk c.args.rack.now) (g.R.Rack.disk c.prepare.new.rack) (g.R.Rack.disk c.finish.new.rack) c.prepare.ensures.touches c.finish.ensures.writes.touches

pub returns-in-Ok-finish-clause-made : goal.returns-in-Ok-finish-clause-made
returns-in-Ok-finish-clause-made g c = λ told.
    c.in-Ok-finish.ensures.made (c.prepare.ensures.touches.told ∙ told) (c.in-Ok.ensures.label told)

pub returns-in-Ok-finish-clause-any_moment : goal.returns-in-Ok-finish-clause-any_moment
returns-in-Ok-finish-clause-any_moment g c = λ told ready.
    let d0 = g.R.Rack.disk c.args.rack.now in
    let d1 = g.R.Rack.disk c.prepare.new.rack in
    let d2 = g.R.Rack.disk c.finish.new.rack in
    since_both c.args.version c.args.pages d0 d1 d2 c.prepare.ensures.touches.sizes (none_first c.args.version c.args.pages d0 d1 (c.prepare.ensures.any_moment told (c.requires.others told) ready))
    (c.finish.ensures.any_moment (c.prepare.ensures.touches.told ∙ told) (c.in-Ok.ensures.label told))

pub returns-in-Err-finish-clause-any_moment : goal.returns-in-Err-finish-clause-any_moment
returns-in-Err-finish-clause-any_moment g c = λ told ready.
    let d0 = g.R.Rack.disk c.args.rack.now in
    let d1 = g.R.Rack.disk c.prepare.new.rack in
    let d2 = g.R.Rack.disk c.finish.new.rack in
    since_both c.args.version c.args.pages d0 d1 d2 c.prepare.ensures.touches.sizes (none_first c.args.version c.args.pages d0 d1 (c.prepare.ensures.any_moment told (c.requires.others told) ready))
    (c.finish.ensures.any_moment (c.prepare.ensures.touches.told ∙ told) (c.in-Ok.ensures.label told))

pub returns-in-Ok-finish-clause-over : goal.returns-in-Ok-finish-clause-over
returns-in-Ok-finish-clause-over g c = λ told.
    over_then c.args.version c.args.pages (g.R.Rack.disk c.args.rack.now) (g.R.Rack.disk c.prepare.new.rack) (g.R.Rack.disk c.finish.new.rack) c.prepare.ensures.touches.sizes
    (c.prepare.ensures.over told (c.requires.others told)) (c.finish.ensures.any_moment (c.prepare.ensures.touches.told ∙ told) (c.in-Ok.ensures.label told))

pub returns-in-Err-finish-clause-over : goal.returns-in-Err-finish-clause-over
returns-in-Err-finish-clause-over g c = λ told.
    over_then c.args.version c.args.pages (g.R.Rack.disk c.args.rack.now) (g.R.Rack.disk c.prepare.new.rack) (g.R.Rack.disk c.finish.new.rack) c.prepare.ensures.touches.sizes
    (c.prepare.ensures.over told (c.requires.others told)) (c.finish.ensures.any_moment (c.prepare.ensures.touches.told ∙ told) (c.in-Ok.ensures.label told))
