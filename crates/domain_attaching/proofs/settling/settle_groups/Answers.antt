use Rattle.std.proofs.Common.{refl}
use Rattle.attached_domain.proofs.OfVolumeDisk.Laws.{only_reads-none}
use Rattle.attached_domain.proofs.OfLogRecovery.Settled.{read_still}
use Rattle.attached_domain.specs.log_recovery.Settling.{HasCause}
use Rattle.domain_attaching.specs.Settling.{HasSettleCause}
use Rattle.domain_attaching.proofs.Mapped.{err_too}
use Rattle.domain_attaching.proofs.Rested.{cause_now, none_behind, none_home}
use Rattle.domain_attaching.proofs.settling.settle_groups.Goals as goal

pub returns-then-redone-clause-behind : goal.returns-then-redone-clause-behind
returns-then-redone-clause-behind g c = none_behind (g.R.Rack.disk c.args.rack.now) c.args.redone.now c.requires.pending c.requires.recovered c.if-redone.true

pub returns-then-redone-clause-home : goal.returns-then-redone-clause-home
returns-then-redone-clause-home g c = none_home (g.R.Rack.disk c.args.rack.now) c.args.redone.now c.requires.pending c.requires.recovered c.if-redone.true

pub returns-then-redone-clause-any_moment : goal.returns-then-redone-clause-any_moment
returns-then-redone-clause-any_moment g c = let disk = g.R.Rack.disk c.args.rack.now in read_still disk disk c.requires.pending (only_reads-none disk)

pub returns-clause-cause : goal.returns-clause-cause
returns-clause-cause g c =
    let old = g.R.Rack.disk c.args.rack.now in
    let new = g.R.Rack.disk c.settle_log.new.rack in
    err_too c.settle_log.result (HasCause old new c.args.redone.now) (HasSettleCause old new) (λ why is. cause_now old new c.args.redone.now why c.if-redone.false c.requires.recovered is) c.settle_log.ensures.cause

pub returns-then-redone-clause-passed : goal.returns-then-redone-clause-passed
returns-then-redone-clause-passed g c = (refl, refl)
