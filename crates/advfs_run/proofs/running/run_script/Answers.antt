use Rattle.std.proofs.Common.{List, inl, ap, subst, sym}
use Rattle.domain_attaching.specs.fileset_values.declared.entry.Entry.{Entry}
use Rattle.domain_attaching.specs.log_recovery.Settling.{Anywhere}
use Rattle.domain_attaching.proofs.OfVolumeDisk.Laws.{touches-none}
use Rattle.advfs_run.specs.Quiet.{TellNoFault}
use Rattle.advfs_run.proofs.Endings.{ended_lost, ended_read, ended_run, follows, refused_run, unbegun_ends, unbegun_read, unbegun_run, unread_begun}
use Rattle.advfs_run.proofs.running.run_script.Goals as goal

pub returns-in-Ok-answer-clause-read : goal.returns-in-Ok-answer-clause-read
returns-in-Ok-answer-clause-read g c =
    let r = c.in-Ok.ensures.taken in
    let is = follows _ _ _ _ r.2 c.in-Ok-answer.ensures.turns in
    (r.0, r.1, rw (c.print_ran.ensures.history) (ended_read _ _ _ c.print_ran.ensures.status _ _ _ (g.R.Rack.disk c.args.rack) (g.R.Rack.disk c.in-Ok-answer.ran.rack) is c.in-Ok-answer.ensures.ends))

pub returns-in-Ok-answer-clause-runs : goal.returns-in-Ok-answer-clause-runs
returns-in-Ok-answer-clause-runs g c =
    rw (c.print_ran.ensures.rack, c.print_ran.ensures.history) (ended_run _ _ _ c.print_ran.ensures.status c.args.form _ _ c.in-Ok-answer.ensures.ends c.in-Ok-answer.ensures.leads)

pub returns-in-Err-answer-clause-read : goal.returns-in-Err-answer-clause-read
returns-in-Err-answer-clause-read g c =
    let r = c.in-Ok.ensures.taken in
    (r.0, r.1, rw (c.unanswered-in-Err-answer.ensures.status) (unbegun_read _ _ _ c.unanswered-in-Err-answer.ensures.history _ r.2 c.args.form _ _ _ c.in-Err-answer.ensures.none))

pub returns-in-Err-clause-runs : goal.returns-in-Err-clause-runs
returns-in-Err-clause-runs g c =
    let none = c.unanswered.ensures.history in
    rw (c.unanswered.ensures.status) (unbegun_run c.args.form _ _ _ _ c.requires.run none (unread_begun _ _ _ none _ c.in-Err.ensures.taken.2) (inl (ap g.R.Rack.disk c.unanswered.ensures.rack)))

pub returns-in-Err-answer-clause-runs : goal.returns-in-Err-answer-clause-runs
returns-in-Err-answer-clause-runs g c =
    rw (c.unanswered-in-Err-answer.ensures.status, c.unanswered-in-Err-answer.ensures.rack)
    (refused_run c.args.form _ _ _ _ c.unanswered-in-Err-answer.ensures.history c.in-Err-answer.ensures.none)

pub returns-in-Err-answer-clause-ends : goal.returns-in-Err-answer-clause-ends
returns-in-Err-answer-clause-ends g c =
    rw (c.unanswered-in-Err-answer.ensures.status, c.unanswered-in-Err-answer.ensures.rack) (unbegun_ends c.args.form _ _ _ c.in-Err-answer.ensures.none)

pub returns-in-Ok-answer-clause-quiet : goal.returns-in-Ok-answer-clause-quiet
returns-in-Ok-answer-clause-quiet g c = subst (λ (l : List Entry). TellNoFault l) (sym c.print_ran.ensures.history) c.in-Ok-answer.ensures.quiet

pub returns-in-Ok-answer-clause-lost : goal.returns-in-Ok-answer-clause-lost
returns-in-Ok-answer-clause-lost g c =
    rw (c.print_ran.ensures.rack) (λ vol is some. ended_lost _ _ _ c.print_ran.ensures.status (g.R.Rack.disk c.args.rack) (g.R.Rack.disk c.in-Ok-answer.ran.rack) c.in-Ok-answer.ensures.ends vol is)

pub returns-in-Err-answer-clause-lost : goal.returns-in-Err-answer-clause-lost
returns-in-Err-answer-clause-lost g c = λ vol is some. absurd (some c.unanswered-in-Err-answer.ensures.history)

pub returns-in-Err-clause-lost : goal.returns-in-Err-clause-lost
returns-in-Err-clause-lost g c = λ vol is some. absurd (some c.unanswered.ensures.history)

pub returns-in-Err-clause-touches : goal.returns-in-Err-clause-touches
returns-in-Err-clause-touches g c = rw (c.unanswered.ensures.rack) (touches-none (g.R.Rack.disk c.args.rack) Anywhere)

pub returns-in-Ok-answer-clause-touches : goal.returns-in-Ok-answer-clause-touches
returns-in-Ok-answer-clause-touches g c = rw (c.print_ran.ensures.rack) c.in-Ok-answer.ensures.touches

pub returns-in-Err-answer-clause-touches : goal.returns-in-Err-answer-clause-touches
returns-in-Err-answer-clause-touches g c = rw (c.unanswered-in-Err-answer.ensures.rack) c.in-Err-answer.ensures.touches_at_fault
