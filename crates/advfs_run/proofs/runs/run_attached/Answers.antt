use Rattle.std.proofs.Common.{◌≡◌, sym, ap, subst}
use Rattle.domain_attaching.specs.volume_disk.Disk.{Disk, Tells}
use Rattle.run_parts.specs.declared.status.Status.TheVariants as status
use Rattle.advfs_run.proofs.DomainRunning.{leads_since}
use Rattle.advfs_run.proofs.runs.run_attached.Goals as goal

pub returns-in-Ok-clause-legal : goal.returns-in-Ok-clause-legal
returns-in-Ok-clause-legal g c =
    let o = g.O.Opening in
    let disk = g.R.Rack.disk in
    let ran = c.run_begun.result in
    leads_since o.pages o.frame o.sizes ran.history.items (disk c.args.attached.rack) (disk c.in-Ok.domain.history.rack) (disk ran.rack) (ran.end ≡ status.Ok)
    (subst (λ (d : Disk). Tells d) (sym (ap disk c.in-Ok.ensures.rack))) c.run_begun.ensures.legal
