use Rattle.std.proofs.Common.{◌≡◌, ap, subst, sym}
use Rattle.domain_attaching.specs.volume_disk.Disk.{Disk}
use Rattle.domain_attaching.specs.volume_disk.Run.{Touches}
use Rattle.domain_attaching.specs.log_recovery.Settling.{Anywhere}
use Rattle.domain_attaching.proofs.OfLogRecovery.Settled.{anywhere, anywhere_then}
use Rattle.domain_attaching.specs.domain_making.Making.{IsOnFirst}
use Rattle.run_parts.specs.declared.status.Status.TheVariants as status
use Rattle.advfs_run.proofs.DomainRunning.{closes_since, runs_new}
use Rattle.advfs_run.proofs.runs.run_new.Goals as goal

pub returns-in-Ok-run_attached-clause-legal : goal.returns-in-Ok-run_attached-clause-legal
returns-in-Ok-run_attached-clause-legal g c =
    let disk = g.R.Rack.disk in
    let made = c.in-Ok.made in
    let ran = c.in-Ok-run_attached.ran in
    runs_new c.args.version (disk c.args.rack) (disk made.rack) (disk ran.rack) made.memory ran.history.items (ran.end ≡ status.Ok) c.in-Ok.ensures.touches c.in-Ok.ensures.new c.in-Ok.ensures.frame
    c.in-Ok-run_attached.ensures.legal

pub returns-in-Ok-run_attached-clause-touches : goal.returns-in-Ok-run_attached-clause-touches
returns-in-Ok-run_attached-clause-touches g c =
    let disk = g.R.Rack.disk in
    anywhere_then (disk c.args.rack) (disk c.in-Ok.made.rack) (disk c.in-Ok-run_attached.ran.rack) IsOnFirst Anywhere c.in-Ok.ensures.touches c.in-Ok-run_attached.ensures.touches

pub returns-in-Ok-run_attached-clause-ends : goal.returns-in-Ok-run_attached-clause-ends
returns-in-Ok-run_attached-clause-ends g c =
    let disk = g.R.Rack.disk in
    let old = disk c.args.rack in
    let made = disk c.in-Ok.made.rack in
    closes_since old made (disk c.in-Ok-run_attached.ran.rack) c.in-Ok-run_attached.ran.end (anywhere old made IsOnFirst c.in-Ok.ensures.touches) c.in-Ok.ensures.passed.1 c.in-Ok-run_attached.ensures.ends

pub returns-in-Err-clause-touches_at_fault : goal.returns-in-Err-clause-touches_at_fault
returns-in-Err-clause-touches_at_fault g c = anywhere (g.R.Rack.disk c.args.rack) _ IsOnFirst c.in-Err.ensures.touches_at_fault

pub returns-in-Err-run_attached-clause-touches_at_fault : goal.returns-in-Err-run_attached-clause-touches_at_fault
returns-in-Err-run_attached-clause-touches_at_fault g c =
    let disk = g.R.Rack.disk in
    subst (λ (d : Disk). Touches (disk c.args.rack) d Anywhere) (sym (ap disk c.in-Err-run_attached.ensures.back)) (anywhere (disk c.args.rack) (disk c.in-Ok.made.rack) IsOnFirst c.in-Ok.ensures.touches)
