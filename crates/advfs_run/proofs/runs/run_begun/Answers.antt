use Rattle.std.proofs.Common.{◌≡◌, List, sym, ap, subst}
use Rattle.std.proofs.lemmas.List.Elements.{All-nil}
use Rattle.domain_attaching.specs.volume_disk.Disk.{Disk, Tells}
use Rattle.domain_attaching.specs.fileset_values.declared.entry.Entry.{Entry}
use Rattle.run_parts.specs.declared.status.Status.TheVariants as status
use Rattle.advfs_run.specs.Quiet.{TellNoFault, TellsNoFault}
use Rattle.advfs_run.specs.Runs.{LeadsFrom}
use Rattle.advfs_run.proofs.DomainRunning.{leads_since}
use Rattle.advfs_run.proofs.runs.run_begun.Goals as goal

pub returns-clause-legal : goal.returns-clause-legal
returns-clause-legal g c =
    let o = g.O.Opening in
    let disk = g.R.Rack.disk in
    let old = disk c.args.domain.history.rack in
    let mid = disk c.answer_sections-domain.result.history.rack in
    let ran = c.end_run.result in
    leads_since o.pages o.frame o.sizes ran.history.items old mid (disk ran.rack) (ran.end ≡ status.Ok) (subst (λ (d : Disk). Tells d) (sym (ap disk c.answer_sections-domain.ensures.rack)))
    (subst (λ (l : List Entry). ∥ LeadsFrom o.pages o.frame o.sizes l (disk ran.rack) (Tells mid × (ran.end ≡ status.Ok)) ∥₁) (sym c.end_run.ensures.history) c.end_run.ensures.legal)

pub returns-clause-quiet : goal.returns-clause-quiet
returns-clause-quiet g c =
    subst (λ (l : List Entry). TellNoFault l) (sym c.end_run.ensures.history)
    (c.answer_sections-domain.ensures.quiet (subst (λ (l : List Entry). TellNoFault l) (sym c.requires.first) (All-nil (λ (e : Entry). TellsNoFault e.reply))))
