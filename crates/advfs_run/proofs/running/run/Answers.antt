use Rattle.std.proofs.Common.{◌∙◌, Ok, ap, sym}
use Rattle.domain_attaching.specs.log_recovery.Settling.{Anywhere}
use Rattle.domain_attaching.proofs.OfLogRecovery.Settled.{anywhere}
use Rattle.domain_attaching.specs.volume_disk.Image.{NoPlace}
use Rattle.domain_attaching.proofs.OfVolumeDisk.Laws.{touches-none}
use Rattle.domain_attaching.specs.domain_making.Making.{IsOnFirst}
use Rattle.advfs_run.proofs.Endings.{CountsFor-none, StopsFor-err, StopsFor-make, StopsFor-verify}
use Rattle.advfs_run.proofs.running.run.Goals as goal
use Rattle.advfs_run.proofs.running.run.Goals.{in-Err, in-Ok-Make, in-Ok-Verify}

pub returns-clause-any_moment : goal.returns-clause-any_moment
returns-clause-any_moment g c = elim c.match-form_asked.branch [
  | in-Err w ↦ StopsFor-err _ w.in-Err.word _ _ (sym w.in-Err.is ∙ c.form_asked.ensures)
  | in-Ok-Make w ↦ rw (w.rack-is) (StopsFor-make _ w.in-Ok-Make.version w.in-Ok-Make.overwrites _ _ (sym (w.in-Ok-Make.is ∙ ap Ok w.in-Ok-Make.field-0-is) ∙ c.form_asked.ensures) (w.make.ensures.over, w.make.ensures.any_moment))
  | in-Ok-Verify w ↦ StopsFor-verify _ _ _ (sym (w.in-Ok-Verify.is ∙ ap Ok w.in-Ok-Verify.field-0-is) ∙ c.form_asked.ensures)
]

pub returns-clause-touches : goal.returns-clause-touches
returns-clause-touches g c =
    let disk = g.R.Rack.disk c.args.rack in
    elim c.match-form_asked.branch [
      | in-Err w ↦ rw (w.rack-is) (touches-none disk Anywhere)
      | in-Ok-Make w ↦ rw (w.rack-is) (anywhere disk _ IsOnFirst w.make.ensures.touches)
      | in-Ok-Verify w ↦ rw (w.rack-is) (anywhere disk _ NoPlace w.verify-status.ensures.reads.touches)
    ]

pub returns-in-Ok-clause-counted : goal.returns-in-Ok-clause-counted
returns-in-Ok-clause-counted g c = CountsFor-none _ _ _ c.run_script.ensures.counts
