use Rattle.std.proofs.Common.{subst, sym}
use Rattle.domain_faults.specs.volume_disk.Image.{NoPlace}
use Rattle.domain_faults.proofs.OfVolumeDisk.Laws.{touches-then, touches-wider}
use Rattle.domain_making.specs.Making.{IsMade, IsOnFirst}
use Rattle.run_parts.specs.Made.{MakeEnds}
use Rattle.run_parts.proofs.Guarded.{before_since, before_then, ends_then, guarded, made_then, none_since, none_then, only_looked, one_volume_still}
use Rattle.run_parts.proofs.making.make.Goals as goal

pub returns-in-Err-guard-clause-touches : goal.returns-in-Err-guard-clause-touches
returns-in-Err-guard-clause-touches g c =
    let old = g.R.Rack.disk c.args.rack.now in
    let new = g.R.Rack.disk c.guard.new.rack in
    touches-wider old new NoPlace IsOnFirst (λ v k none. absurd none) (only_looked c.args.overwrites old new c.guard.ensures.none).touches

pub returns-in-Err-guard-clause-any_moment : goal.returns-in-Err-guard-clause-any_moment
returns-in-Err-guard-clause-any_moment g c = λ told.
    let old = g.R.Rack.disk c.args.rack.now in
    let new = g.R.Rack.disk c.guard.new.rack in
    none_since c.args.version old new (only_looked c.args.overwrites old new c.guard.ensures.none) told

pub returns-in-Err-guard-clause-over : goal.returns-in-Err-guard-clause-over
returns-in-Err-guard-clause-over g c = λ told.
    let old = g.R.Rack.disk c.args.rack.now in
    let new = g.R.Rack.disk c.guard.new.rack in
    before_since c.args.version old new (only_looked c.args.overwrites old new c.guard.ensures.none) told

pub write-requires-clause-others : goal.write-requires-clause-others
write-requires-clause-others g c = λ told.
    let old = g.R.Rack.disk c.args.rack.now in
    let mid = g.R.Rack.disk c.guard.new.rack in
    one_volume_still old mid (only_looked c.args.overwrites old mid c.guard.ensures.none) c.requires

pub returns-in-Ok-write-clause-touches : goal.returns-in-Ok-write-clause-touches
returns-in-Ok-write-clause-touches g c =
    let old = g.R.Rack.disk c.args.rack.now in
    let mid = g.R.Rack.disk c.guard.new.rack in
    touches-then old mid (g.R.Rack.disk c.write.new.rack) IsOnFirst
    (touches-wider old mid NoPlace IsOnFirst (λ v k none. absurd none) (only_looked c.args.overwrites old mid c.guard.ensures.none).touches) c.write.ensures.touches

pub returns-in-Ok-write-clause-ends : goal.returns-in-Ok-write-clause-ends
returns-in-Ok-write-clause-ends g c =
    let old = g.R.Rack.disk c.args.rack.now in
    let mid = g.R.Rack.disk c.guard.new.rack in
    let new = g.R.Rack.disk c.write.new.rack in
    made_then c.args.version old mid new (only_looked c.args.overwrites old mid c.guard.ensures.none)
    (λ told. subst (IsMade new) c.in-Ok-write.ensures.anchor (c.in-Ok-write.ensures.made told))

pub returns-in-Ok-write-clause-guards : goal.returns-in-Ok-write-clause-guards
returns-in-Ok-write-clause-guards g c =
    guarded c.args.overwrites (g.R.Rack.disk c.args.rack.now) (g.R.Rack.disk c.write.new.rack) c.in_default.ensures.zeros

pub returns-in-Ok-write-clause-any_moment : goal.returns-in-Ok-write-clause-any_moment
returns-in-Ok-write-clause-any_moment g c = λ told ready.
    let old = g.R.Rack.disk c.args.rack.now in
    let mid = g.R.Rack.disk c.guard.new.rack in
    none_then c.args.version old mid (only_looked c.args.overwrites old mid c.guard.ensures.none) told (g.R.Rack.disk c.write.new.rack) ready c.write.ensures.any_moment

pub returns-in-Ok-write-clause-over : goal.returns-in-Ok-write-clause-over
returns-in-Ok-write-clause-over g c = λ told.
    let old = g.R.Rack.disk c.args.rack.now in
    let mid = g.R.Rack.disk c.guard.new.rack in
    before_then c.args.version old mid (only_looked c.args.overwrites old mid c.guard.ensures.none) told (g.R.Rack.disk c.write.new.rack) c.write.ensures.over

pub returns-clause-touches : goal.returns-clause-touches
returns-clause-touches g c =
    let old = g.R.Rack.disk c.args.rack.now in
    let mid = g.R.Rack.disk c.guard.new.rack in
    touches-then old mid (g.R.Rack.disk c.write.new.rack) IsOnFirst
    (touches-wider old mid NoPlace IsOnFirst (λ v k none. absurd none) (only_looked c.args.overwrites old mid c.guard.ensures.none).touches) c.write.ensures.touches

pub returns-clause-guards : goal.returns-clause-guards
returns-clause-guards g c =
    guarded c.args.overwrites (g.R.Rack.disk c.args.rack.now) (g.R.Rack.disk c.write.new.rack) c.in_default.ensures.zeros

pub returns-clause-any_moment : goal.returns-clause-any_moment
returns-clause-any_moment g c = λ told ready.
    let old = g.R.Rack.disk c.args.rack.now in
    let mid = g.R.Rack.disk c.guard.new.rack in
    none_then c.args.version old mid (only_looked c.args.overwrites old mid c.guard.ensures.none) told (g.R.Rack.disk c.write.new.rack) ready c.write.ensures.any_moment

pub returns-clause-over : goal.returns-clause-over
returns-clause-over g c = λ told.
    let old = g.R.Rack.disk c.args.rack.now in
    let mid = g.R.Rack.disk c.guard.new.rack in
    before_then c.args.version old mid (only_looked c.args.overwrites old mid c.guard.ensures.none) told (g.R.Rack.disk c.write.new.rack) c.write.ensures.over

pub returns-clause-ends : goal.returns-clause-ends
returns-clause-ends g c =
    let old = g.R.Rack.disk c.args.rack.now in
    let mid = g.R.Rack.disk c.guard.new.rack in
    let new = g.R.Rack.disk c.write.new.rack in
    subst (MakeEnds c.args.version c.args.overwrites old new) (sym c.status_of-in-Err-write.ensures)
    (ends_then c.args.version c.args.overwrites old mid new c.guard.ensures.none c.in-Ok.ensures.large c.in_default.ensures.passed c.in-Err-write.fault c.in-Err-write.ensures.cause)
