use Rattle.std.proofs.Common.{List, ℕ, subst, sym}
use Rattle.domain_faults.specs.log_recovery.Outcome.{IsSound}
use Rattle.staged_pages.specs.Store.{before_of}
use Rattle.domain_faults.proofs.OfVolumeDisk.Laws.{only_reads-then}
use Rattle.domain_bringing.proofs.Causes.{cause_before, recovery_cause, recovery_place, wrong_before, wrong_known}
use Rattle.domain_bringing.proofs.Recovered.{brought_before}
use Rattle.domain_bringing.proofs.bringing.bring_domain.Goals as goal

pub bring_recovered-requires : goal.bring_recovered-requires
bring_recovered-requires g c = subst (λ (sizes : List ℕ). IsSound sizes c.in-Ok.redone) (sym c.recover.ensures.reads.touches.sizes) c.in-Ok.ensures.sound

pub returns-in-Err-clause-wrong : goal.returns-in-Err-clause-wrong
returns-in-Err-clause-wrong g c = recovery_place (g.R.Rack.disk c.args.rack.now) c.in-Err.fault c.from.result c.from.ensures c.in-Err.ensures.wrong

pub returns-in-Err-clause-cause : goal.returns-in-Err-clause-cause
returns-in-Err-clause-cause g c = recovery_cause (g.R.Rack.disk c.args.rack.now) (g.R.Rack.disk c.recover.new.rack) c.in-Err.fault c.from.result c.from.ensures c.in-Err.ensures.cause

pub returns-in-Ok-bring_recovered-clause-reads : goal.returns-in-Ok-bring_recovered-clause-reads
returns-in-Ok-bring_recovered-clause-reads g c = only_reads-then (g.R.Rack.disk c.args.rack.now) (g.R.Rack.disk c.recover.new.rack) (g.R.Rack.disk c.bring_recovered.new.rack) c.recover.ensures.reads c.bring_recovered.ensures.reads

pub returns-in-Err-bring_recovered-clause-reads : goal.returns-in-Err-bring_recovered-clause-reads
returns-in-Err-bring_recovered-clause-reads g c = only_reads-then (g.R.Rack.disk c.args.rack.now) (g.R.Rack.disk c.recover.new.rack) (g.R.Rack.disk c.bring_recovered.new.rack) c.recover.ensures.reads c.bring_recovered.ensures.reads

pub returns-in-Err-bring_recovered-clause-cause : goal.returns-in-Err-bring_recovered-clause-cause
returns-in-Err-bring_recovered-clause-cause g c =
    cause_before (g.R.Rack.disk c.args.rack.now) (g.R.Rack.disk c.recover.new.rack) (g.R.Rack.disk c.bring_recovered.new.rack) c.in-Ok.ensures.passed c.in-Err-bring_recovered.fault c.in-Err-bring_recovered.ensures.cause

pub returns-in-Err-bring_recovered-clause-wrong : goal.returns-in-Err-bring_recovered-clause-wrong
returns-in-Err-bring_recovered-clause-wrong g c =
    let old = g.R.Rack.disk c.args.rack.now in
    let mid = g.R.Rack.disk c.recover.new.rack in
    wrong_known old c.in-Ok.redone c.in-Ok.ensures.recovered c.in-Err-bring_recovered.fault (wrong_before old mid c.in-Ok.redone c.recover.ensures.reads c.in-Err-bring_recovered.fault c.in-Err-bring_recovered.ensures.wrong)

pub returns-in-Ok-bring_recovered-clause-same : goal.returns-in-Ok-bring_recovered-clause-same
returns-in-Ok-bring_recovered-clause-same g c =
    let old = g.R.Rack.disk c.args.rack.now in
    let mid = g.R.Rack.disk c.recover.new.rack in
    brought_before old mid (before_of c.in-Ok-bring_recovered.pages) c.in-Ok.redone c.recover.ensures.reads c.in-Ok.ensures.recovered c.in-Ok-bring_recovered.ensures.same
