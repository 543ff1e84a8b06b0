use Rattle.std.proofs.Common.{Some, sym, subst}
use Rattle.std.proofs.lemmas.Bool.{false≢true}
use Rattle.log_ring.specs.volume_disk.Disk.{Tells}
use Rattle.log_ring.specs.disk_label.Anchor.{IsAnchor}
use Rattle.log_recovery.specs.Fault.{IfNotADomain}
use Rattle.log_recovery.specs.Outcome.{IsFirstFault}
use Rattle.log_recovery.specs.declared.fault.RecoverFault.{RecoverFault}
use Rattle.log_recovery.proofs.Outcomes.{out_of_range}
use Rattle.log_recovery.proofs.recovery.check_anchor.Goals as goal

pub returns-else-is_in_range-clause-wrong : goal.returns-else-is_in_range-clause-wrong
returns-else-is_in_range-clause-wrong g c =
    let old = g.R.Rack.disk c.args.rack.now in
    let anchor = c.args.anchor.now in
    subst (λ (fault : RecoverFault). IfNotADomain fault (λ vol at. Tells old → IsAnchor old.sizes old.now.contents (Some anchor) → IsFirstFault old.sizes old.now.contents vol at)) (sym c.bad_anchor.ensures)
    (λ told counts.
    let labels = c.in-Ok.ensures.labels told in
    out_of_range old.sizes old.now.contents anchor c.in-Ok.versions labels.0 labels.1 (λ is. false≢true (c.if-is_in_range.ensures.1 is)) counts)
