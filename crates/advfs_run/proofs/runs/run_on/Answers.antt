use Rattle.std.proofs.Common.{◌≡◌, ap, refl, subst, sym}
use Rattle.domain_attaching.specs.volume_disk.Disk.{Disk}
use Rattle.domain_attaching.specs.volume_disk.Run.{Touches}
use Rattle.domain_attaching.specs.log_recovery.Settling.{Anywhere}
use Rattle.domain_attaching.proofs.OfLogRecovery.Settled.{anywhere_then}
use Rattle.domain_attaching.specs.Settling.{StaysReadSince}
use Rattle.run_parts.specs.declared.status.Status.TheVariants as status
use Rattle.advfs_run.proofs.Faults.{begins_with}
use Rattle.advfs_run.proofs.DomainRunning.{closes_since, runs_from}
use Rattle.advfs_run.proofs.runs.run_on.Goals as goal

pub returns-in-Ok-run_attached-clause-legal : goal.returns-in-Ok-run_attached-clause-legal
returns-in-Ok-run_attached-clause-legal g c =
    let disk = g.R.Rack.disk in
    let attached = c.in-Ok.attached in
    let ran = c.in-Ok-run_attached.ran in
    runs_from (disk c.args.rack) (disk attached.rack) (disk ran.rack) attached.memory (disk attached.rack).sizes ran.history.items (ran.end ≡ status.Ok) c.in-Ok.ensures.touches refl attached.stands c.in-Ok.ensures.from
    c.in-Ok.ensures.means c.in-Ok-run_attached.ensures.legal

pub returns-in-Ok-run_attached-clause-touches : goal.returns-in-Ok-run_attached-clause-touches
returns-in-Ok-run_attached-clause-touches g c =
    let disk = g.R.Rack.disk in
    anywhere_then (disk c.args.rack) (disk c.in-Ok.attached.rack) (disk c.in-Ok-run_attached.ran.rack) Anywhere Anywhere c.in-Ok.ensures.touches c.in-Ok-run_attached.ensures.touches

pub returns-in-Err-clause-none : goal.returns-in-Err-clause-none
returns-in-Err-clause-none g c =
    let is = c.in-Err.ensures in
    begins_with (g.R.Rack.disk c.args.rack) _ is.any_moment_of_fault _ c.status_of_attaching.result c.status_of_attaching.ensures is.cause is.refused is.wrong is.unfit

pub returns-in-Err-run_attached-clause-none : goal.returns-in-Err-run_attached-clause-none
returns-in-Err-run_attached-clause-none g c =
    let disk = g.R.Rack.disk in
    subst (λ (d : Disk). StaysReadSince (disk c.args.rack) d) (sym (ap disk c.in-Err-run_attached.ensures.back)) c.in-Ok.ensures.any_moment

pub returns-in-Ok-run_attached-clause-ends : goal.returns-in-Ok-run_attached-clause-ends
returns-in-Ok-run_attached-clause-ends g c =
    let disk = g.R.Rack.disk in
    closes_since (disk c.args.rack) (disk c.in-Ok.attached.rack) (disk c.in-Ok-run_attached.ran.rack) c.in-Ok-run_attached.ran.end c.in-Ok.ensures.touches c.in-Ok.ensures.passed.1 c.in-Ok-run_attached.ensures.ends

pub returns-in-Err-run_attached-clause-touches_at_fault : goal.returns-in-Err-run_attached-clause-touches_at_fault
returns-in-Err-run_attached-clause-touches_at_fault g c =
    let disk = g.R.Rack.disk in
    subst (λ (d : Disk). Touches (disk c.args.rack) d Anywhere) (sym (ap disk c.in-Err-run_attached.ensures.back)) c.in-Ok.ensures.touches
